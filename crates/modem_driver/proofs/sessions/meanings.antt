-- What a turn means, whole, by its answer and where it ends in a fault.
pub mod HeardOrder
pub mod WholeTurns
pub mod TurnAnswers
pub mod EveryStep
pub mod TurnMeanings
pub mod TurnFaults
pub mod FullRings
pub mod TurnEnds
