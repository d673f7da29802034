-- A driver and a simulated modem.
pub mod AnsweredCommands
pub mod SimulatedLines
