-- Lines that are announced and heard, and their places.
pub mod AnnouncedLines
pub mod HeardLines
pub mod LinePlaces
pub mod MarkPlaces
pub mod PlacingOverOpenings
