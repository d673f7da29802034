-- Places of callers and listeners at a desk, their rings and kinds.
pub mod DriverRings
pub mod KindPlaces
pub mod DeskPlaces
pub mod ReturnedEnds
