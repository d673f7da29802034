-- What is still to be counted is counted on.
use Rattle.std.specs.Prelude.{◌≡◌, drop}
use Rattle.show_texts.specs.Tallies.{with_all}
use Rattle.show_texts.proofs.tally.Tally.with_all.Given as goal

abbrev pub invariant-loop-one : goal.invariant-loop-one
invariant-loop-one l = with_all l.stamp l.tally (drop l.one-index l.told) ≡ with_all l.stamp l.initial.tally l.told
