use Rattle.std.specs.Prelude.{◌≡◌, take, map}
use Rattle.modem_desk.specs.declared.request.Outcome.{Outcome}
use Rattle.modem_bench.proofs.calling.answer_all.Given as goal

abbrev pub invariant-loop-i : goal.invariant-loop-i
invariant-loop-i l = map (λ (o : Outcome). o.number) (take l.i l.outcomes) ≡ take l.i l.numbers
