-- What the public laws of the simulated modem rest on.
pub mod ContextOrder
pub mod Histories
pub mod StateRuns
pub mod KeptSettings
pub mod PinRuns
pub mod NetworkRuns
pub mod WordedModems
pub mod CalledModems
pub mod ActiveModems
