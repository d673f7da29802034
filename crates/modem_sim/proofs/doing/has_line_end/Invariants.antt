-- None of those so far is one.
use Rattle.std.specs.Prelude.{◌≡◌, false, take}
use Rattle.std.specs.List.{list_any}
use Rattle.at_text.specs.Lines.{is_line_end}
use Rattle.modem_sim.proofs.doing.has_line_end.Given as goal

abbrev pub invariant-loop-octet : goal.invariant-loop-octet
invariant-loop-octet l = list_any is_line_end (take l.octet-index l.text) ≡ false
