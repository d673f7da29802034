-- Windows: answers, lines in place, and that no line is lost.
pub mod AnswerWindows
pub mod AllLines
pub mod PlacedLines
pub mod AnswersUnderWay
