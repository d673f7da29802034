-- The lane is over where the relay says so.
use Rattle.std.specs.Prelude.{◌≡◌, ◌↔◌, ℕ, true}
use Rattle.std.proofs.Common.{subst}
use Rattle.modem_data.specs.Passing.{IsOver}
use Rattle.modem_data.specs.PipeSets.{OfEachPast}
use Rattle.modem_data_c.proofs.lanes.read.Goals as goal

pub returns-clause-over : goal.returns-clause-over
returns-clause-over c = λ e. subst (λ (d : ℕ). OfEachPast c.read.new.self.pipes (λ role past. c.in-Ok.reading.is_over ≡ true ↔ IsOver role d past)) c.in-Some.ensures.number c.in-Ok.ensures.over
