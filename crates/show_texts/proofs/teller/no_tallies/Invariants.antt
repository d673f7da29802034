-- So many are made.
use Rattle.std.specs.Prelude.{◌≡◌, replicate}
use Rattle.show_texts.specs.Tallies.{no_tally}
use Rattle.show_texts.proofs.teller.no_tallies.Given as goal

abbrev pub invariant-loop : goal.invariant-loop
invariant-loop l = l.tallies.items ≡ replicate l.counter no_tally
