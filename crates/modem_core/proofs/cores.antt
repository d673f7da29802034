-- A core beside its history: begun, unchanged, and after a loss of the line.
pub mod HeldLanes
pub mod StationPasts
pub mod WholeCalls
pub mod LineLoss
pub mod FramesAfterLoss
pub mod UnchangedParts
pub mod NewCore
pub mod DoneCalls
