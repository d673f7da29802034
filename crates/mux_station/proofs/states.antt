-- How connections stand after acts, and that the table and the history agree on it.
pub mod OpenedStates
pub mod OpeningSteps
pub mod OpenByPlaces
pub mod StationPasts
pub mod StatesAfterActs
