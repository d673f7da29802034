-- What sessions fit, call by call.
pub mod steps
pub mod meanings
pub mod polls
