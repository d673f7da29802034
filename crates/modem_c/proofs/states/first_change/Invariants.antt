-- The connections so far are as they were told.
use Rattle.std.specs.Prelude.{◌≡◌}
use Rattle.modem_c.specs.States.{AreTold}
use Rattle.modem_c.proofs.states.first_change.Given as goal

abbrev pub invariant-loop-number : goal.invariant-loop-number
invariant-loop-number l = record {
  stays : l.told ≡ l.initial.told;
  told : AreTold l.endpoint l.initial.told l.number;
}
