pub mod values_read
pub mod command_texts
pub mod AnswerLines
