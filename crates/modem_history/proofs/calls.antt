-- What an act calls for, and how things stand when it is done.
pub mod CalledActs
pub mod StatesAfterActs
pub mod CallEnds
