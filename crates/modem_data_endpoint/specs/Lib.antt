pub mod Beside
pub mod Joined
pub mod Pairs
pub mod Numbered
