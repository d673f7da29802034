-- Nothing goes out where it is nobody's turn.
use Rattle.std.proofs.Common.{◌≡◌, sym, subst, refl}
use Rattle.std.specs.Prelude.{◌≤◌, None, IfSome, IfNone, length, option_map}
use Rattle.mux_station.specs.GivenFrames.{outgoing_of}
use Rattle.modem_core.specs.Cores.{Core}
use Rattle.modem_core.specs.CoreGoing.{turn_in, gone_on, GoesOut, LeavesLess}
use Rattle.modem_core.specs.Running.{CoreIsIdle}
use Rattle.modem_core.proofs.outgoing.CoreAfterFrame.{goes_on_none}
use Rattle.modem_core.proofs.outgoing.EndOfSending.{no_turn_stays}
use Rattle.modem_core.proofs.holds.HoldsAndFrames.{out_holds}
use Rattle.modem_core.proofs.driver.Core.outgoing.Goals as goal

pub returns-in_err-turn : goal.returns-in_err-turn
returns-in_err-turn c =
    let old : Core = c.args.self.now in
    let none : turn_in old ≡ None = sym c.in_err-turn.ensures.turn in
    let stays : gone_on old ≡ old = no_turn_stays old none in
    let result = sym c.from_residual.ensures in (
      (refl, (λ v. tt), sym stays),
      record {
        frame = subst (λ r. GoesOut old (option_map outgoing_of r)) result c.in_err-turn.ensures.none;
        past = goes_on_none old c.in_err-turn.ensures.none stays;
        holds = out_holds old;
        less = subst (λ r. LeavesLess old (option_map outgoing_of r)) result tt;
        short = subst (λ r. IfSome r (λ o. length o.frame.info.now ≤ 1024)) result tt;
        idle = subst (λ r. IfNone r (CoreIsIdle old)) result c.in_err-turn.ensures.idle;
        still = subst (λ r. IfNone r (gone_on old ≡ old)) result stays;
        after = tt;
      },
    )
