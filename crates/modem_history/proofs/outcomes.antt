-- Outcomes: one for each request, and its own answer in it.
pub mod OutcomeCounts
pub mod WholeCounts
pub mod WindowAnswers
pub mod OutcomesAndLines
pub mod OwnAnswers
pub mod SingleOutcomes
