-- Turns of a simulated modem at its line.
pub mod MachineParts
pub mod WrittenFrames
pub mod SimPasts
pub mod ShownStates
pub mod TurnParts
pub mod WholeTurns
pub mod TurnHistories
pub mod IdleTurns
pub mod LoadedFrames
pub mod TurnMeanings
pub mod PollHistories
pub mod PollSteps
