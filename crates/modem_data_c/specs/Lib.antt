pub mod Held
pub mod DataCalls
