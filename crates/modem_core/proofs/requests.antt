-- Requests that are taken: told at once, in hand, or told later.
pub mod ToldRequests
pub mod LaterOutcomes
pub mod WaitingRequests
pub mod TakenRequests
pub mod AcceptedRequests
pub mod OpenRequests
pub mod OneFrameRequests
pub mod CloseRequests
pub mod StopRequests
pub mod ProbeRequests
pub mod CommandRequests
pub mod SentCommands
pub mod AskedRequests
pub mod ToldOutcomes
