pub mod law_proofs
pub mod rows
pub mod Entries
pub mod EntrySteps
pub mod EntryTries
pub mod sessions
pub mod endpoints
