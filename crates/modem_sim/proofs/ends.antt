-- The modem's end: frames that come, steps of the script, and what it offers to its station.
pub mod EndAfterFrame
pub mod OfferedPieces
pub mod ScriptSteps
pub mod QueueRoom
pub mod HandedOctets
pub mod SilentFrames
