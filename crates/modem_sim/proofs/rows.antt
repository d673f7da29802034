-- Worked rows, computed.
pub mod AnswerRowFacts
pub mod WordRowFacts
pub mod HistoryRowFacts
pub mod CallRowFacts
pub mod RefusedRowFacts
pub mod TurnRowFacts
pub mod WrongTurnFacts
