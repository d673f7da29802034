pub mod Rings
pub mod Flows
