pub mod states
pub mod queues
pub mod law_proofs
pub mod user_calls
pub mod turns
pub mod ticks
pub mod received
pub mod rows
