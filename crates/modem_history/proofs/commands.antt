-- Commands: which were sent, began, and stand at which place.
pub mod SentPrefixes
pub mod BegunCommands
pub mod TextCounts
pub mod WholeTexts
pub mod CommandOrder
pub mod CommandPlaces
pub mod ReadCommands
pub mod FramesOnLine
pub mod SentCommands
