-- What the lines say that pass: commands and their answers.
pub mod CountedLines
pub mod ToldLines
pub mod SilentChannels
pub mod SentText
pub mod EndedLines
pub mod TalkingLines
pub mod TextFits
pub mod TextBounds
pub mod InTurn
