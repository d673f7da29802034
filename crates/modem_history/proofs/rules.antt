-- What the three rules of a history make keeps its laws, and what keeps the laws the rules make.
pub mod WaitingOctets
pub mod NextFrames
pub mod MadeLaws
pub mod LawfulHistories
