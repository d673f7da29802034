-- What comes is read.
use Rattle.std.specs.Prelude.{◌≡◌, Bool, refl, if◌then◌else◌}
use Rattle.std.proofs.Common.{ap, arith, ◌∙◌}
use Rattle.serial_line.specs.Counts.{one_more}
use Rattle.modem_history.specs.Sessions.{LineView}
use Rattle.modem_driver.proofs.EntryTries.{asks_none, asks_read, sent_none, sent_none_more}
use Rattle.modem_driver.proofs.entry_tries.read_away.Goals as goal

pub loop-init : goal.loop-init
loop-init g c = record { sent = sent_none _; ready = c.requires; sound = refl; made_is = omega arith; keeps_up = omega arith; asks = asks_none _ _ _; waits = refl }

pub loop-preserved : goal.loop-preserved
loop-preserved g c =
    let e = c.in-Ok.ensures in
    let before = c.loop.invariant.keeps_up in
    let made = c.loop.invariant.made_is in
    let calls : (g.L.SerialLine.seen c.next_octet.new.line).calls ≡ one_more (g.L.SerialLine.seen c.loop.line).calls = ap (λ (l : LineView). l.calls) e.came in
    let asked = c.goes_on.ensures.counted in
    record {
      sent = sent_none_more _ _ _ c.in-Ok.octet e.came c.loop.invariant.sent;
      ready = c.goes_on.ensures.ready c.if-not-goes_on.false;
      sound = ap (λ (l : LineView). l.failures) e.came ∙ c.loop.invariant.sound;
      made_is = omega (arith, made, calls);
      keeps_up = omega (arith, before, calls, asked);
      asks = asks_read 0 _ _ _ _ _ _ _ _ _ c.in-Ok.octet e.came asked (c.goes_on.ensures.idle ∙ ap (λ (b : Bool). if b then g.P.Patience.idle c.loop.patience else one_more (g.P.Patience.idle c.loop.patience)) c.is_some.ensures) c.loop.invariant.asks;
      waits = c.goes_on.ensures.waits ∙ c.loop.invariant.waits;
    }

pub returns-then-not-goes_on-clause-sent : goal.returns-then-not-goes_on-clause-sent
returns-then-not-goes_on-clause-sent g c = sent_none_more _ _ _ c.in-Ok.octet c.in-Ok.ensures.came c.loop.invariant.sent

pub returns-then-not-goes_on-clause-asks : goal.returns-then-not-goes_on-clause-asks
returns-then-not-goes_on-clause-asks g c other =
    asks_read 0 _ _ _ _ _ _ _ _ _ c.in-Ok.octet c.in-Ok.ensures.came c.goes_on.ensures.counted (c.goes_on.ensures.idle ∙ ap (λ (b : Bool). if b then g.P.Patience.idle c.loop.patience else one_more (g.P.Patience.idle c.loop.patience)) c.is_some.ensures) c.loop.invariant.asks
