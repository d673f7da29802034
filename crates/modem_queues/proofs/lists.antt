-- Lemmas on lists.
pub mod FirstLeftOut
pub mod FirstPlaces
pub mod CommandPlaces
pub mod LineCounts
pub mod HeardLines
