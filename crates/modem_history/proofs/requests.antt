-- Requests in hand, and the commands among them.
pub mod RequestsInHand
pub mod RequestsAfterCalls
pub mod ClosedWindows
pub mod CommandsInStep
pub mod StepOfRequest
pub mod StepOfFrame
pub mod StepsOfHistory
pub mod UntoldRequests
