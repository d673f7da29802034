pub mod modem_steps
pub mod replies
pub mod law_proofs
pub mod rows
pub mod connections
pub mod ends
pub mod sims
