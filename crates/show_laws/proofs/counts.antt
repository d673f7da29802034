-- How many frames of a kind are sent, by those that came.
pub mod ManyFrames
pub mod BalancedTables
pub mod DriverCounts
pub mod StationCounts
