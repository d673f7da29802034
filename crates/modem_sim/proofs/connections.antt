-- What is kept of a connection, and what is said on it.
pub mod Outboxes
pub mod OctetReplies
pub mod BoxesAfterFrame
pub mod ControlChannel
