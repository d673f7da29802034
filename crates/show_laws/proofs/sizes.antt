-- No frame of a lawful line has more information than N1 allows.
pub mod LongFrames
pub mod NoneTooLong
