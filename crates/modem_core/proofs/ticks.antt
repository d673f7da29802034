-- Ticks of a core.
pub mod StationTicks
pub mod TickFrames
pub mod CoreTicks
