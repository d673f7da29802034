-- What the program shows.
pub mod RunEnds
pub mod SaidLines
pub mod ShownOutcomes
pub mod StoppedRuns
