-- Calls of the station's user: open, close, probe, stop, flow and offer.
pub mod CallFrames
pub mod OpenAndClose
pub mod ProbeStopFlowOffer
