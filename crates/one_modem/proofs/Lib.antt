pub mod two_ends
pub mod law_proofs
pub mod rows
pub mod octets
