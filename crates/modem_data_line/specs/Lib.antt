pub mod DataLines
pub mod Moving
pub mod LineLaws
