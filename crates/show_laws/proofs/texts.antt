-- Data of a lawful line is text.
pub mod TextsSent
pub mod NoneAstray
