pub mod TwoCallers
