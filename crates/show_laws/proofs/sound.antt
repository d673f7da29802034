-- Nothing is wrong with a frame that breaks no rule.
pub mod AllFrames
