-- Nothing is sent.
use Rattle.std.specs.Prelude.{◌≡◌, ◌+◌, ◌-◌, ◌^◌, ◌≤◌, [], false, min}
use Rattle.modem_driver.specs.EntryTries.{AsksEach, IsSent, KeepsUp}
use Rattle.modem_driver.proofs.entry_tries.read_away.Given as goal

abbrev pub invariant-loop : goal.invariant-loop
invariant-loop g l =
    let look = g.L.SerialLine.seen in
    record {
      sent : IsSent (look l.initial.line) (look l.line) [];
      ready : g.P.Patience.is_over l.patience ≡ false;
      sound : (g.L.SerialLine.seen l.line).failures ≡ (g.L.SerialLine.seen l.initial.line).failures;
      made_is : min ((g.L.SerialLine.seen l.initial.line).calls + l.counter) (2 ^ 64 - 1) ≤ (g.L.SerialLine.seen l.line).calls;
      keeps_up : KeepsUp (g.P.Patience.asked l.initial.patience) (g.P.Patience.asked l.patience) (g.L.SerialLine.seen l.initial.line).calls (g.L.SerialLine.seen l.line).calls;
      asks : AsksEach 0 (look l.initial.line) (look l.line) (g.P.Patience.asked l.initial.patience) (g.P.Patience.asked l.patience)
          (g.P.Patience.idle l.initial.patience) (g.P.Patience.idle l.patience);
      waits : g.P.Patience.waits l.patience ≡ g.P.Patience.waits l.initial.patience;
    }
