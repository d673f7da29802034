-- The rule of the request queue, step by step.
pub mod CallerPasses
pub mod RuleSteps
pub mod CallerNumbers
