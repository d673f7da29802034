-- Which connection sends next, and what is given on.
pub mod SenderMarks
pub mod ReadyConnections
pub mod FramesGivenOn
pub mod NextData
pub mod TurnsOfPasts
pub mod FrameRoom
