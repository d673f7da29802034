-- Each step of a turn, and what it is made of: the session fits its history as before.
pub mod LongerHistories
pub mod OutcomeCounts
pub mod ListenedLines
pub mod RemainingItems
pub mod Kinds
pub mod CollectedActs
pub mod FirstWaiting
pub mod Amounts
pub mod FirstOffers
pub mod CallerOffers
pub mod ListenerOffers
pub mod HeldUp
