pub mod Stops
pub mod Hands
pub mod LineQueues
