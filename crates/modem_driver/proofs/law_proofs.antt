-- What the headline rests on.
pub mod SubmittedOrder
pub mod RequestNumbers
pub mod RequestPlaces
pub mod GrownHistories
pub mod Headlines
pub mod DeskHeadlines
pub mod OneSessions
