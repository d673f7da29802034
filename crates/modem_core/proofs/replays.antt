-- Replays: events, the calls that they begin, and their pieces.
pub mod ArrivalOrder
pub mod FirstActs
pub mod Pieces
pub mod ReplaySoFar
pub mod FirstCore
pub mod RoomInReplays
pub mod EmptyQueues
pub mod FullFrames
