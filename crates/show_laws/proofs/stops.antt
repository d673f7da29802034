-- Nothing is stopped where neither end stops anything, and each end heeds what stops it.
pub mod NoneStopped
pub mod StopWords
pub mod KeptStops
pub mod DriverKept
pub mod ModemKept
pub mod StopsBehindUa
pub mod StopsBehindSabm
pub mod SeenStops
pub mod SinceOpening
pub mod NoneUnstopped
