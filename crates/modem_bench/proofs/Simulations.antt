-- A simulated modem that is polled to its end.
use Rattle.std.specs.Prelude.{◌≡◌, ℕ, Bool, true, false, Option, None, Some, Result, Ok, Err, IfOk, OnOk, IsErrOf, refl}
use Rattle.std.proofs.Common.{◌∙◌, subst, sym}
use Rattle.serial_line.specs.LineViews.{LineView}
use Rattle.serial_line.specs.OtherSide.{OtherSide}
use Rattle.modem_sim.specs.Polls.{EndsSound, MovesOn, Polls, PollsFrom, PollsOn, Runs, Turned, Waits, ends, goes_on, moves_none, moves_once, rests, waits_none, waits_once, with_given}
use Rattle.modem_sim.specs.Sims.{SimGoes, SimState, end_given, has_failed}
use Rattle.modem_sim.specs.declared.error.SimError.{SimError}
use Rattle.modem_sim.specs.declared.error.SimError.TheVariants as why
use Rattle.modem_sim.specs.declared.sim.SimTurn.{SimTurn}
use Rattle.modem_sim.specs.declared.sim.SimTurn.TheVariants.{Ended, Idle, Moved}
use Rattle.modem_sim.proofs.sims.SimPasts.{sim_none, sim_then}
use Rattle.modem_bench.specs.declared.signals.Fault.{Fault}
use Rattle.modem_bench.specs.Simulating.{EndsAtLine, IsSimulated}
use Rattle.modem_bench.proofs.CallerThreads.{kept_ok, on_given, on_ok}

module _ {X : Type 0} (see : X → LineView) where
  -- ## Polls in which no call of the line failed

  -- no call of the line failed, and no end was given
  pub record IsQuiet (old new : SimState X) : Type 0 where
    pub end : end_given new ≡ end_given old
    pub failed : has_failed new ≡ has_failed old
    pub failures : (see new.line).failures ≡ (see old.line).failures

  pub quiet_none : (s : SimState X) → IsQuiet s s
  quiet_none s = record { end = refl; failed = refl; failures = refl }

  quiet_then : (a b c : SimState X) → IsQuiet a b → IsQuiet b c → IsQuiet a c
  quiet_then a b c p q = record { end = q.end ∙ p.end; failed = q.failed ∙ p.failed; failures = q.failures ∙ p.failures }

  turn_quiet : (old new : SimState X) (turn : SimTurn) → Turned see old new (Ok turn) → IsQuiet old new
  turn_quiet old new turn t = record { end = t.end; failed = t.fails; failures = t.sound (λ is. cc) }

  moved_quiet : (old new : SimState X) (n : ℕ) → MovesOn see old n new → IsQuiet old new
  moved_quiet old _ _ moves_none = quiet_none old
  moved_quiet old _ _ (moves_once n mid new moves turn) = quiet_then old mid new (moved_quiet old mid n moves) (turn_quiet mid new Moved turn)

  run_quiet : (old new : SimState X) → Runs see old new None → IsQuiet old new
  run_quiet old new (goes_on moves) = moved_quiet old new 64 moves
  run_quiet old new (rests n mid few moves turn) = quiet_then old mid new (moved_quiet old mid n moves) (turn_quiet mid new Idle turn)

  -- a turn that ended had no line that had failed
  not_failed : (r : Bool) → (r ≡ true → IsErrOf {T = SimTurn} (Ok Ended) why.Failed) → r ≡ false
  not_failed false told = refl
  not_failed true told = absurd (none_failed (told refl))
    where
      none_failed : ¬ IsErrOf {T = SimTurn} (Ok Ended) why.Failed
      none_failed is = cc

  run_ends : (old new : SimState X) → Runs see old new (Some (Ok Ended)) → EndsSound see old new
  run_ends old new (ends n mid few moves turn) =
      let q = moved_quiet old mid n moves in
      let sound = not_failed (has_failed mid) turn.failed.1 in
      record {
        ended = turn.ended refl;
        sound = record { before = sym q.failed ∙ sound; now = turn.fails ∙ sound; none_failed = turn.sound (λ is. cc) ∙ q.failures };
      }

  polls_on : (old new : SimState X) (given : Option (Result SimTurn SimError)) → end_given old ≡ None → Polls see old new given → PollsOn see old new given
  unfolding Polls
  polls_on old new given none polls = subst (λ end. PollsFrom see end old new given) none polls

  poll_quiet : (old new : SimState X) → end_given old ≡ None → Polls see old new None → IsQuiet old new
  poll_quiet old new none polls =
      let on = polls_on old new None none polls in
      subst (IsQuiet old) (sym on.stays) (run_quiet old on.mid on.runs)

  poll_ends : (old new : SimState X) → end_given old ≡ None → Polls see old new (Some (Ok Ended)) → EndsSound see old new
  poll_ends old new none polls =
      let on = polls_on old new (Some (Ok Ended)) none polls in
      let so = run_ends old on.mid on.runs in
      let kept : EndsSound see old (with_given (Some (Ok Ended)) on.mid) =
      record { ended = so.ended; sound = record { before = so.sound.before; now = so.sound.now; none_failed = so.sound.none_failed } } in
      subst (EndsSound see old) (sym on.stays) kept

  -- ## Polls one after the other

  -- so far all polls gave nothing
  pub record Waited (old new : SimState X) : Type 0 where
    pub waits : Waits see old new
    pub goes : SimGoes see old new
    pub quiet : end_given old ≡ None → IsQuiet old new

  pub waited_none : (s : SimState X) → Waited s s
  waited_none s = record { waits = waits_none s; goes = sim_none see s; quiet = λ none. quiet_none s }

  waits_then : (a b c : SimState X) → Waits see a b → Polls see b c None → Waits see a c
  waits_then a _ c (waits_none s) polls = waits_once a c c polls (waits_none c)
  waits_then a b c (waits_once old mid new first later) polls = waits_once a mid c first (waits_then mid b c later polls)

  -- one more poll gave nothing
  pub waited_then : (a b c : SimState X) → Waited a b → Polls see b c None → SimGoes see b c → Waited a c
  waited_then a b c w polls goes = record {
    waits = waits_then a b c w.waits polls;
    goes = sim_then see a b c w.goes goes;
    quiet = λ none. let q = w.quiet none in quiet_then a b c q (poll_quiet b c (q.end ∙ none) polls);
  }

  -- behind them one gave Ended
  waited_ends : (a b c : SimState X) → Waited a b → Polls see b c (Some (Ok Ended)) → SimGoes see b c → IsSimulated see a c
  waited_ends a b c w polls goes = record {
    mid = b;
    waits = w.waits;
    waited = w.goes;
    polls = polls;
    polled = goes;
    says = λ none.
        let q = w.quiet none in
        let so = poll_ends b c (q.end ∙ none) polls in
        record {
          ended = so.ended;
          sound = record { before = sym q.failed ∙ so.sound.before; now = so.sound.now; none_failed = so.sound.none_failed ∙ q.failures };
        };
  }

  -- where the bench is told that it has ended, the last poll gave Ended
  pub ends_if_told : (a b c : SimState X) (given : Result SimTurn SimError) (told : Result (Unit {0}) Fault)
      → Waited a b → Polls see b c (Some given) → SimGoes see b c → OnOk told (given ≡ Ok Ended) → OnOk told (IsSimulated see a c)
  ends_if_told a b c given (Ok done) w polls goes is = waited_ends a b c w (subst (λ g. Polls see b c (Some g)) is polls) goes
  ends_if_told a b c given (Err fault) w polls goes is = tt

-- where it ended at the line at which it was, what is given back is the simulated modem as it ended
pub ended_back : {X : Type 0} (see : X → LineView) (side : X → OtherSide) (old new : SimState X) (ended told : Result (Unit {0}) Fault) (back : Result (SimState X) Fault)
    → OnOk ended (IsSimulated see old new) → side new.line ≡ side old.line → IfOk told (λ v. ended ≡ Ok v) → IfOk back (λ _. told ≡ Ok tt) → IfOk back (λ m. m ≡ new)
    → IfOk back (EndsAtLine see side old)
ended_back {X} see side old new ended told back so same given done kept =
    kept_ok (EndsAtLine see side old) told back new (on_ok told (on_given (IsSimulated see old new) ended told told so given refl) (λ s. record { simulated = s; same_line = same })) done kept
