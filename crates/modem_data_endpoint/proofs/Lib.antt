mod Spelled
pub mod Besides
mod Joins
mod Pairing
