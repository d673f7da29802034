-- Connections: open, shut, lost, and the information that went and came on them.
pub mod SendingAfterLoss
pub mod ShutAfterLoss
pub mod NoSecondOpening
pub mod InformationGrowth
pub mod PastsWithoutCalls
pub mod FrameOrder
