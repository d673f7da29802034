-- Frames that come: data of an open connection, and all others.
pub mod StationAfterFrame
pub mod LanesAfterFrame
pub mod OtherFrames
pub mod DataLines
pub mod DataLanes
pub mod OpenCommands
pub mod DataFrames
pub mod QueueRoom
pub mod DataStays
pub mod ReadFrames
