-- Polls, and the way to the end.
pub mod StopProgress
pub mod StopsInHand
pub mod EndedStops
pub mod Polls
pub mod PollLaws
pub mod OfflinePasses
