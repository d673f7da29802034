-- The line, its capture, and what each end sent and got.
pub mod CapturedFrames
pub mod JudgedFrames
pub mod EveryFrame
