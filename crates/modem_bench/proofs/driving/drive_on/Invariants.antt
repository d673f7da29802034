-- What was done so far, within the limits, at the same line.
use Rattle.std.specs.Prelude.{◌≡◌}
use Rattle.modem_bench.proofs.StandStills.{Driven}
use Rattle.modem_bench.proofs.driving.drive_on.Given as goal

abbrev pub invariant-loop : goal.invariant-loop
invariant-loop g l =
    let look = g.L.SerialLine.seen in
    let side = g.L.SerialLine.other_side in
    record {
      driven : Driven look l.fn.limits l.initial.session l.session l.limit;
      beyond : side l.session.line ≡ side l.initial.session.line;
    }
