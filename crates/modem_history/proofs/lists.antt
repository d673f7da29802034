-- Lemmas on lists.
pub mod Filters
