-- So many flags went out.
use Rattle.std.specs.Prelude.{◌≡◌, false}
use Rattle.modem_driver.specs.EntryTries.{AsksEach, IsSent, KeepsUp, flags}
use Rattle.modem_driver.proofs.entry_tries.send_fill.Given as goal

abbrev pub invariant-loop : goal.invariant-loop
invariant-loop g l =
    let look = g.L.SerialLine.seen in
    record {
      sent : IsSent (look l.initial.line) (look l.line) (flags l.counter);
      ready : g.P.Patience.is_over l.patience ≡ false;
      sound : (g.L.SerialLine.seen l.line).failures ≡ (g.L.SerialLine.seen l.initial.line).failures;
      keeps_up : KeepsUp (g.P.Patience.asked l.initial.patience) (g.P.Patience.asked l.patience) (g.L.SerialLine.seen l.initial.line).calls (g.L.SerialLine.seen l.line).calls;
      asks : AsksEach 0 (look l.initial.line) (look l.line) (g.P.Patience.asked l.initial.patience) (g.P.Patience.asked l.patience)
          (g.P.Patience.idle l.initial.patience) (g.P.Patience.idle l.patience);
      waits : g.P.Patience.waits l.patience ≡ g.P.Patience.waits l.initial.patience;
    }
