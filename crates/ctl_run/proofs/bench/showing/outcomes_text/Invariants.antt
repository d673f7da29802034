use Rattle.std.specs.Prelude.{◌≡◌, map, take, vec_items}
use Rattle.std.specs.String.{string_bytes}
use Rattle.ctl_run.specs.Shown.{callers_from}
use Rattle.ctl_run.proofs.bench.showing.outcomes_text.Given as goal

abbrev pub invariant-loop-outcomes : goal.invariant-loop-outcomes
invariant-loop-outcomes l = record {
  counted : l.caller ≡ l.outcomes-index;
  pushed : string_bytes l.text ≡ callers_from 0 (map vec_items (take l.outcomes-index l.all));
}
