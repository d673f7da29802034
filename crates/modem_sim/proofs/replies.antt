-- Answers as the other end reads them.
pub mod RepliesReadBack
pub mod AnswerEnds
pub mod AnswerTexts
pub mod PieceLines
pub mod ReplyOrder
