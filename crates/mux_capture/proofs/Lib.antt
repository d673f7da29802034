pub mod FirstFrames
pub mod FirstLaws
pub mod Passing
pub mod Showing
