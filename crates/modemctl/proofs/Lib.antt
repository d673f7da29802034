pub mod FileFaults
pub mod Stops
pub mod TextFiles
pub mod ShownFiles
mod WordRows
pub mod Refused
pub mod DriveTicks
