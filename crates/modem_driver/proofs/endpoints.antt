-- A driver that its caller drives.
pub mod GivenOctets
pub mod TakenOctets
pub mod WholeCalls
pub mod Requests
pub mod Time
pub mod Handing
pub mod Law
