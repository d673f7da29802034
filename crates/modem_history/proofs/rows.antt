-- Worked rows of histories, sessions, turns and entries, computed.
pub mod ConnectionRowFacts
pub mod HistoryTests
pub mod GoodRowFacts
pub mod BadRowFacts
pub mod SessionTests
pub mod SessionRowFacts
pub mod TurnTests
pub mod GoodTurnFacts
pub mod BadTurnFacts
pub mod EntryRowFacts
pub mod FaultRowFacts
pub mod BacklogRowFacts
pub mod BadExchangeFacts
pub mod EveryTurnRowFacts
pub mod RuleRowFacts
