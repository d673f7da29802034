pub mod Input
pub mod Words
pub mod LineFaults
pub mod Texts
pub mod DialectNames
pub mod DialectTexts
pub mod Writing
