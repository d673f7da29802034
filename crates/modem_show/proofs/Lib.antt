pub mod Places
pub mod Keeping
pub mod Passing
pub mod RowFacts
pub mod Hearing
pub mod Silence
