-- Candidates for a frame: header and verdict, and what more octets change.
pub mod Headers
pub mod LaterOctets
pub mod ShortOctets
pub mod Verdicts
