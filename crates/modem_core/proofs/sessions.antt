-- What sessions fit, call by call.
pub mod steps
