-- Lines that are read and reported, and answers that are whole.
pub mod LateLines
pub mod ReportedLines
pub mod WholeAnswers
