pub mod deframers
pub mod CheckOctets
pub mod RowFacts
pub mod Flags
pub mod candidates
pub mod readings
pub mod Spellings
