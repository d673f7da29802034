-- Connections that are held and freed.
pub mod HeldAndFreed
pub mod HoldsDue
pub mod OtherCalls
pub mod HoldsAndFrames
