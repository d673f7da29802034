-- What a switch keeps.
use Rattle.std.specs.Prelude.{ℕ, List}
use Rattle.modem_data.specs.declared.switch.Stage.{Stage}
use Rattle.modem_data.specs.declared.switch.Stage.TheVariants as stage
use Rattle.modem_data.specs.Switching.{Carries, Idle, Lines, Ended, Data, Prompts, Marked, Sends, Owes, Owns, Answered}

abbrev pub stands : Stage → List ℕ → Carries
stands stage.Idle kept = Idle
stands stage.Lines kept = Lines kept
stands (stage.Ended by) kept = Ended by
stands stage.Data kept = Data
stands (stage.Prompts starts) kept = Prompts starts
stands stage.Marked kept = Marked
stands stage.Sends kept = Sends
stands stage.Owes kept = Owes
stands stage.Owns kept = Owns kept
stands stage.Answered kept = Answered
