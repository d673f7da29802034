pub mod Answering
pub mod Ending
pub mod Entries
pub mod Feeding
pub mod Leaving
pub mod Muxes
pub mod Served
pub mod Stepping
pub mod LeftOctets
pub mod Watched
pub mod Endless
pub mod EndlessClients
mod DataLines
mod DataEnding
