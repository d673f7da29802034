use Rattle.std.specs.Prelude.{◌≡◌, ◌++◌, take}
use Rattle.std.specs.String.{string_bytes}
use Rattle.ctl_run.specs.Shown.{told_from}
use Rattle.ctl_run.proofs.bench.showing.push_caller.Given as goal

abbrev pub invariant-loop-outcome : goal.invariant-loop-outcome
invariant-loop-outcome l = record {
  placed : l.place ≡ l.outcome-index;
  pushed : string_bytes l.text ≡ string_bytes l.initial.text ++ told_from l.caller 1 (take l.outcome-index l.outcomes);
}
