-- What came at one end is what the other sent, where the octets are so.
pub mod WithinFrames
pub mod ReadFrames
pub mod CalledWithin
pub mod DriverWithin
pub mod ModemWithin
pub mod FramesInOrder
pub mod LineGoesOn
