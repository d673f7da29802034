-- Nothing has answered yet, and patience was asked after each call.
use Rattle.std.specs.Prelude.{◌≡◌, false}
use Rattle.modem_driver.specs.EntryTries.{AsksEach, IsAsking}
use Rattle.modem_driver.proofs.entry_tries.ask.Given as goal

abbrev pub invariant-loop : goal.invariant-loop
invariant-loop g l =
    let look = g.L.SerialLine.seen in
    record {
      asking : IsAsking (look l.initial.line) (look l.line) l.text l.counter l.entry (g.P.Patience.asked l.initial.patience) (g.P.Patience.asked l.patience);
      ready : g.P.Patience.is_over l.patience ≡ false;
      asks : AsksEach 0 (look l.initial.line) (look l.line) (g.P.Patience.asked l.initial.patience) (g.P.Patience.asked l.patience)
          (g.P.Patience.idle l.initial.patience) (g.P.Patience.idle l.patience);
      waits : g.P.Patience.waits l.patience ≡ g.P.Patience.waits l.initial.patience;
    }
