-- Each answer on a lawful line answers an ask that waits.
pub mod AnswerShapes
pub mod AnswersCalled
pub mod WaitingAsks
pub mod NoneUnasked
