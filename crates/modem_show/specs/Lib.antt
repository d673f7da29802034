pub mod Ways
pub mod Asking
pub mod Ends
pub mod Judging
pub mod Rows
pub mod Talking
pub mod TalkRows
pub mod Rules
