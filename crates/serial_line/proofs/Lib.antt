pub mod PassedOctets
pub mod FilledBuffers
