-- Ticks: what is sent again, and what is given up.
pub mod WholeTicks
pub mod ConnectionTurns
pub mod GivenUpOfPasts
