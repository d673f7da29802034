-- On a lawful and complete line each ask is answered.
pub mod EnoughCalled
pub mod EnoughSent
pub mod FewWait
pub mod ExcusedAsks
pub mod DriverStops
pub mod NoneWaits
