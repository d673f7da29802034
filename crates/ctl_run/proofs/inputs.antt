-- Texts and octets that the program reads.
pub mod AnswerLines
pub mod Dumps
pub mod ReadFrames
pub mod ReadOctets
pub mod ScriptLines
pub mod WordFaults
pub mod ReadLines
pub mod Scripts
pub mod Submissions
pub mod RequestNumbers
pub mod StepLines
pub mod OneFault
pub mod FaultRows
