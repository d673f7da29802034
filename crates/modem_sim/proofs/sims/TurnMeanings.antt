-- The answers of a turn mean what they say.
use Rattle.std.specs.Prelude.{◌≡◌, ◌≢◌, ℕ, ◌==◌, ◌&&◌, Bool, true, false, List, [], ◌∷◌, length, None, refl, if◌then◌else◌}
use Rattle.std.proofs.Common.{arith, sym, ap, ◌∙◌, append-nil}
use Rattle.std.proofs.lemmas.Bool.Decides.{nat_tests}
use Rattle.std.proofs.lemmas.List.{nil_from_length}
use Rattle.at_cmds.proofs.command_texts.CommandLines.{both_true}
use Rattle.serial_line.specs.Counts.{one_more}
use Rattle.serial_line.specs.LineViews.{LineView}
use Rattle.modem_sim.specs.declared.sim.SimTurn.TheVariants.{Moved, Idle, Ended}
use Rattle.modem_sim.specs.Sims.{SimMachine, SimState, is_ended}
use Rattle.modem_history.specs.EveryTurn.{counted_none, empty_after, stalled_after}
use Rattle.modem_sim.specs.Turns.{Exchange, Exchanges, GoesTurn, IsIdleAtLine, has_done, is_over, stood_still}
use Rattle.modem_sim.specs.Stills.{GoesOnce, StoodStill}
use Rattle.modem_sim.proofs.sims.IdleTurns.{idle}

not_moved : Moved ≡ Idle → ⊥
not_moved same = cc

not_ended : Ended ≡ Idle → ⊥
not_ended same = cc

-- a turn in which something was done may answer Moved
pub turn_moved : {X : Type 0} (see : X → LineView) (old new : SimState X) (moved : Bool) → GoesOnce see old new moved → moved ≡ true → GoesTurn see old new Moved
turn_moved see old new moved once really = record {
  exchange = once.exchange;
  exchanges = once.exchanges;
  leaves = λ _. once.leaves;
  idle = λ says. absurd (not_moved says);
  turn = λ at e past fits.
      let went = once.goes at e past fits in
      record { now = went.now; later = went.later; fits = went.fits; does = λ _. went.does; means = has_done (went.moves ∙ really) };
}

-- by the line's counts
some_stalled : (out : List ℕ) (n : ℕ) → out ≢ [] → counted_none (length out) 0 n ≡ one_more n
some_stalled [] n some = absurd (some refl)
some_stalled (x ∷ out) n some =
    let no_zero : (length (x ∷ out) == 0) ≡ false = grind (arith, nat_tests) in
    ap (λ (b : Bool). if b then n else if 0 == 0 then one_more n else n) no_zero

idle_at_line : {X : Type 0} (see : X → LineView) (old new : SimState X) (t : Exchange) → Exchanges see old new t → StoodStill new.machine t → IsIdleAtLine see old new
idle_at_line see old new t deals still = record {
  fed = still.waits;
  empty = λ fed. deals.empty_are ∙ ap (λ r. empty_after r (see old.line).empty_reads) (still.reads fed);
  stalled = λ some. deals.stalled_are ∙ ap (λ w. stalled_after w (see old.line).stalled_writes) (still.full some) ∙ some_stalled new.machine.out (see old.line).stalled_writes some;
}

-- one in which nothing was may answer Idle
pub turn_idle : {X : Type 0} (see : X → LineView) (old new : SimState X) (moved : Bool) → GoesOnce see old new moved → moved ≡ false → GoesTurn see old new Idle
turn_idle see old new moved once none =
    let still = once.still none in
    record {
      exchange = once.exchange;
      exchanges = once.exchanges;
      leaves = λ _. once.leaves;
      idle = λ _. idle_at_line see old new once.exchange once.exchanges still;
      turn = λ at e past fits.
          let went = once.goes at e past fits in
          record {
            now = went.now;
            later = went.later;
            fits = went.fits;
            does = λ _. went.does;
            means = stood_still (went.moves ∙ none) (idle e went.fits.came went.fits.went new.machine once.exchange went.now still went.fits.machine_fits);
          };
    }

-- one after which the modem has closed down and written all may answer Ended
pub turn_over : {X : Type 0} (see : X → LineView) (old new : SimState X) (moved : Bool) → GoesOnce see old new moved → is_ended new.machine ≡ true → GoesTurn see old new Ended
turn_over see old new moved once over = record {
  exchange = once.exchange;
  exchanges = once.exchanges;
  leaves = λ _. once.leaves;
  idle = λ says. absurd (not_ended says);
  turn = λ at e past fits.
      let went = once.goes at e past fits in
      record { now = went.now; later = went.later; fits = went.fits; does = λ _. went.does; means = is_over over };
}

none_out : (k : SimMachine) → is_ended k ≡ true → k.out ≡ []
none_out k over =
    let first = both_true k.core.closed ((length k.out == 0) && (length k.core.station.queue == 0)) over in
    let third = both_true (length k.out == 0) (length k.core.station.queue == 0) first.1 in
    nil_from_length k.out (grind (arith, nat_tests))

not_both : {P : Type 0} (b : Bool) → b ≡ true → b ≡ false → P
not_both true is other = cc
not_both false is other = cc

-- so may one that does nothing, where it had ended before
pub turn_was_over : {X : Type 0} (see : X → LineView) (s : SimState X) → is_ended s.machine ≡ true → GoesTurn see s s Ended
turn_was_over see s over = record {
  exchange = record { write = None; read = None };
  exchanges = record {
    came = sym (append-nil (see s.line).received);
    room = tt;
    some_room = λ r none. cc;
    went = sym (append-nil (see s.line).sent);
    offers = none_out s.machine over;
    parts = refl;
    calls_are = refl;
    stalled_are = refl;
    empty_are = refl;
  };
  leaves = λ going. not_both (is_ended s.machine) over going;
  idle = λ says. absurd (not_ended says);
  turn = λ at e past fits. record {
    now = past;
    later = record { newer = []; joins = refl };
    fits = fits;
    does = λ going. not_both (is_ended s.machine) over going;
    means = is_over over;
  };
}
