-- Control commands come in time.
pub mod Behind
pub mod StoppingStates
pub mod FirstCommands
pub mod ModemStops
pub mod CalmLines
pub mod OpenZero
pub mod InTime
