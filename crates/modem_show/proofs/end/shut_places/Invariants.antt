-- So many are made.
use Rattle.std.specs.Prelude.{◌≡◌, replicate}
use Rattle.modem_show.specs.Ends.{shut_place}
use Rattle.modem_show.proofs.end.shut_places.Given as goal

abbrev pub invariant-loop : goal.invariant-loop
invariant-loop l = l.places.items ≡ replicate l.counter shut_place
