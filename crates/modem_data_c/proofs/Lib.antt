pub mod AsBox
pub mod Numbered
pub mod Refusals
