-- Frames that go out, and what is so when nothing more does.
pub mod WaitingData
pub mod LanesAfterFrame
pub mod CoreAfterFrame
pub mod EndOfSending
pub mod QuietHistories
pub mod FramesAfterCall
