mod Hopping
mod FileSteps
mod Waiting
mod Growing
mod Renewing
mod Begins
mod Keeping
pub mod Again
mod Lifts
pub mod Turns
