-- What a modem does with one line.
pub mod Contexts
pub mod AnswerLines
pub mod StandardModems
pub mod LineSteps
pub mod DecimalNumbers
pub mod ReachedStates
