pub mod Written
pub mod Prefixes
