pub mod FrameCounts
