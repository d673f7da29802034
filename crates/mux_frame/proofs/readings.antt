-- Readings of octets as frames and a rest.
pub mod LaterTexts
pub mod TextReadings
pub mod ComputedReadings
