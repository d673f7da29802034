pub mod Lines
pub mod Laws
pub mod Talks
pub mod LineRows
pub mod Simulated
pub mod InTime
