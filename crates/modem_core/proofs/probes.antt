-- The probe that waits, and the request that asked for it.
pub mod OneProbe
pub mod ProbeAnswers
pub mod ProbeAfterFrame
pub mod ProbesInHand
