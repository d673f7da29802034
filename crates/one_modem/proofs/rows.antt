-- Worked rows, computed.
pub mod OneModemRowFacts
