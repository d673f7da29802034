-- Commands and their texts, both ways.
pub mod CommandLines
pub mod CommandNames
pub mod TextTable
pub mod ReadCommands
pub mod ReadAndWritten
