-- So many tries weren't answered.
use Rattle.std.specs.Prelude.{◌≡◌, ◌+◌, ◌≤◌}
use Rattle.modem_driver.specs.EntryTries.{AsksEach, HasTried, KeepsUp}
use Rattle.modem_driver.proofs.entry_tries.try_thrice.Given as goal

abbrev pub invariant-loop : goal.invariant-loop
invariant-loop g l =
    let look = g.L.SerialLine.seen in
    record {
      tried : HasTried l.n1 l.ranges l.text (look l.initial.line) l.counter (look l.line);
      sound : (g.L.SerialLine.seen l.line).failures ≡ (g.L.SerialLine.seen l.initial.line).failures;
      keeps_up : KeepsUp (g.P.Patience.asked l.initial.patience) (g.P.Patience.asked l.patience) (g.L.SerialLine.seen l.initial.line).calls (g.L.SerialLine.seen l.line).calls;
      asks : AsksEach (l.counter + l.counter) (look l.initial.line) (look l.line) (g.P.Patience.asked l.initial.patience) (g.P.Patience.asked l.patience)
          (g.P.Patience.idle l.initial.patience) (g.P.Patience.idle l.patience);
      waits : g.P.Patience.waits l.patience ≤ g.P.Patience.waits l.initial.patience + (l.counter + (l.counter + l.counter));
    }
