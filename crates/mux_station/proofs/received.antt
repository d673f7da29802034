-- Frames that come: by the tables, and by control messages.
pub mod MessageValues
pub mod StatesAfterFrames
pub mod TableFrames
pub mod MessageFrames
pub mod AnsweredFrames
