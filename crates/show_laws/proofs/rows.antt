-- Worked lines, computed.
pub mod LineRowFacts
