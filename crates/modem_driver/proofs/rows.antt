-- Worked rows, computed.
pub mod HeadlineRowFacts
pub mod EndingRowFacts
pub mod PollRowFacts
pub mod LivePollRowFacts
pub mod GrownRowFacts
pub mod EntryTryRowFacts
