-- A deframer's octets and its past.
pub mod DeframerOctets
pub mod DeframerPasts
pub mod SearchedOctets
pub mod TurnedOctets
pub mod WrappedOctets
pub mod FlagRuns
