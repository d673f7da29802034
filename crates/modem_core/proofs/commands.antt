-- Commands on their way out: which octets wait, and which command is next.
pub mod SentTexts
pub mod NextCommand
pub mod EmptyRings
pub mod OfferedOctets
