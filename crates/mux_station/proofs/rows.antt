-- Worked rows, computed.
pub mod StepRowFacts
