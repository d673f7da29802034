-- A session begins, and a tick.
use Rattle.std.proofs.Common.{ap, sym, ◌∙◌, subst, arith, inl, lit<}
use Rattle.std.specs.Prelude.{◌≡◌, Option, ◌↔◌, ℕ, ◌≤◌, true, false, List, [], ◌∷◌, length, refl, find, option_map, Contains, Result, Ok, Err, IfOk, IsErrOf, zero, suc}
use Rattle.mux_frame.specs.Spelling.{IsBadN1}
use Rattle.at_text.specs.declared.unsolicited.UrcKind.{UrcKind}
use Rattle.at_text.specs.Dialects.{Dialect}
use Rattle.at_text.specs.Rules.{Rules, dialect_of}
use Rattle.modem_desk.specs.Ends.{DriverView}
use Rattle.modem_history.specs.Acts.{Act, Tick, after}
use Rattle.modem_history.specs.Calls.{calls, seen}
use Rattle.modem_history.specs.Sessions.{LineView, SessionFits, FitsLoss, driving}
use Rattle.modem_history.specs.SessionLaws.{BeginsFitting}
use Rattle.modem_history.specs.Turns.{lines_heard}
use Rattle.modem_history.proofs.calls.CalledActs.{calls_said}
use Rattle.modem_history.proofs.law_proofs.SessionLaws.{begins_fitting}
use Rattle.modem_core.specs.Cores.{dialect_in, Core, Fits, Handles, GoesOn}
use Rattle.modem_core.specs.Holding.{HoldsFit, KeepsHeld}
use Rattle.modem_driver.specs.Endings.{HasCome, course_after}
use Rattle.modem_queues.specs.Stops.{asker_of, is_answered, is_stop}
use Rattle.modem_driver.specs.SessionStates.{SessionState, Machine, MachineFits, MachineGoes, MachineTicks, Ticks, machine_by, beginning_by, seen_by, end_of}
use Rattle.modem_driver.specs.declared.session.error.SessionError.{SessionError}
use Rattle.modem_core.specs.WaitingLists.{WaitingLists, Keeps}
use Rattle.modem_driver.specs.WaitingTicks.{AreDelays, CountsTick}
use Rattle.modem_driver.specs.declared.machine.delays.Delay.{Delay}
use Rattle.modem_driver.proofs.sessions.steps.WaitedTicks.{delays_none, delays_tick}
use Rattle.modem_core.proofs.sessions.steps.LongerHistories.{gots_after, losses_after, lost_after}
use Rattle.modem_driver.proofs.sessions.steps.CoreCalls.{FitsMachine, IsBare, KeepsMore, call_fits, may_come}
use Rattle.modem_driver.proofs.sessions.polls.StopProgress.{come_noted, grows_none}
use Rattle.modem_core.proofs.sessions.steps.Kinds.{listened_in, in_listened}
use Rattle.modem_core.proofs.sessions.steps.ListenedLines.{calls_hear, lines_of_call}
use Rattle.modem_driver.proofs.sessions.steps.WaitingDeliveries.{received_part}
use Rattle.modem_driver.proofs.sessions.polls.EndedStops.{none_noted}
use Rattle.modem_history.specs.Lawful.{Lawful}

-- ## The beginning

unsound : {P : Type 0} → true ≡ false → P
unsound e = cc

-- what a session that begins keeps fits the empty history
pub machine_begins : (rules : Rules) (dialect : Dialect) → dialect ≡ dialect_of rules → (n1 : ℕ) (ks : List UrcKind) (k : Machine) (d : DriverView) → k ≡ machine_by rules n1 ks → ((m : UrcKind) → Contains ks m ↔ Contains d.desk.kinds m) → Fits k.core [] → HoldsFit k.core []
    → (l : LineView) → MachineFits (beginning_by dialect n1 l d) l d k []
machine_begins rules dialect is n1 ks k d e same fits holds l = record {
  setting = record {
    role_is = refl;
    n1_is = sym (ap (λ (v : Machine). v.core.station.n1) e);
    dialect_is = is ∙ sym (ap (λ (v : Machine). dialect_in v.core) e);
    listens_are = λ m.
        let known : k.core.kinds ≡ ks = ap (λ (v : Machine). v.core.kinds) e in (
          (λ h. subst (λ (xs : List UrcKind). Contains xs m) (sym known) ((same m).1 (listened_in d.desk.kinds m h))),
          (λ c. in_listened d.desk.kinds m ((same m).0 (subst (λ (xs : List UrcKind). Contains xs m) known c))),
        );
  };
  fits = fits;
  holds = holds;
  kinds_are = refl;
  callers_are = refl;
  sound = λ h. refl;
  by_fault = λ h. unsound (sym h ∙ ap (λ (v : Machine). v.faulty) e);
  come = subst (HasCome (beginning_by dialect n1 l d) (seen_by l (end_of d) k) []) (sym (ap (λ (v : Machine). v.course) e)) refl;
  one_stop = omega arith;
  delays_are = subst (λ (v : Machine). AreDelays v.delays []) (sym e) delays_none;
}

-- where it isn't refused for its N1, a frame takes an octet at least
pub least_n1 : {T E : Type 0} (n : ℕ) (x : T) (e : E) → IsErrOf (Ok x) e ↔ IsBadN1 n → 1 ≤ n
least_n1 zero x e h = absurd (let g : Ok x ≡ Err e = h.1 (inl (lit< tt)) in cc)
least_n1 (suc n) x e h = omega arith

-- and so does what is seen of it
pub begins_over : (rules : Rules) (dialect : Dialect) (n1 : ℕ) (ks : List UrcKind) (k : Machine) (l : LineView) (d : DriverView) → 1 ≤ n1 → k ≡ machine_by rules n1 ks → MachineFits (beginning_by dialect n1 l d) l d k [] → FitsMachine (beginning_by dialect n1 l d) l d k []
unfolding BeginsFitting
begins_over rules dialect n1 ks k l d low e inside =
    let b = beginning_by dialect n1 l d in
    let fresh : SessionFits b (seen_by l (end_of d) (machine_by rules n1 ks)) [] = begins_fitting b low in
    record { session = subst (λ (v : Machine). SessionFits b (seen_by l (end_of d) v) []) (sym e) fresh; inside = inside }

-- ## A tick

tick_bare : (past : List Act) → IsBare Tick past
tick_bare past = record { taken_is = refl; given_is = refl; hand_is = refl; room_is = λ h. h; turn_is = λ s h. (tt, h); told_is = λ more. refl; heard_is = λ more. refl }

-- a tick: the core handled it, what it told waits, and its ticks are counted
pub tick_goes : (old : Machine) (core : Core) (delays : List (Option Delay)) (w : WaitingLists) (acts : List Act)
    → Handles old.core core Tick acts → KeepsHeld old.core core Tick acts → Keeps (record { outcomes = old.unplaced; lines = old.unannounced }) w acts → CountsTick old.delays delays old.core.hand → old.core.lost ≡ false
    → MachineTicks old (record old { core = core; unplaced = w.outcomes; unannounced = w.lines; delays = delays; course = course_after old.course (is_answered (option_map asker_of (find is_stop old.core.hand)) acts) })
unfolding MachineGoes Handles KeepsHeld
tick_goes old core delays w acts handles held keeps counts live =
    let new : Machine = record old { core = core; unplaced = w.outcomes; unannounced = w.lines; delays = delays; course = course_after old.course (is_answered (option_map asker_of (find is_stop old.core.hand)) acts) } in
    record {
      acts = acts;
      goes = λ b l d past f.
          let s = driving b in
          let may = may_come b l d old past Tick f refl in
          let on = handles s past may in
          let more = calls s past Tick in
          let said = calls_said s (seen s past) Tick in
          let none : lines_heard acts ≡ [] = ap lines_heard on.called ∙ lines_of_call s (seen s past) Tick in
          let here : GoesOn s core past Tick (Tick ∷ more) = subst (GoesOn s core past Tick) on.called on in
          let hold : HoldsFit core (after past (Tick ∷ more)) = subst (λ (xs : List Act). HoldsFit core (after past xs)) on.called (held s past may f.inside.holds) in
          let keep : KeepsMore old new (Tick ∷ more) = subst (KeepsMore old new) on.called (record {
            outcomes = keeps.outcomes;
            lines = keeps.lines;
          }) in
          let lost : FitsLoss b (seen_by l (end_of d) new) (after past (Tick ∷ more)) = record {
            one = subst (λ (xs : List Act). length xs ≤ 1) (sym (losses_after more (Tick ∷ past) said)) f.session.loss.one;
            by_fault = λ gone. f.session.loss.by_fault (sym (lost_after more (Tick ∷ past) said) ∙ gone);
          } in
          let come : HasCome b (seen_by l (end_of d) new) (after past (Tick ∷ more)) new.course =
          subst (λ (xs : List Act). HasCome b (seen_by l (end_of d) new) (after past xs) new.course) on.called
          (come_noted b (seen_by l (end_of d) old) (seen_by l (end_of d) new) past acts old.core.hand old.course f.inside.fits.hand_is (none_noted b l d old past acts more Tick f on.called refl (subst (λ (xs : List Act). Lawful s (after past xs)) (sym on.called) here.run.lawful) said refl) (grows_none (seen_by l (end_of d) old) (seen_by l (end_of d) new) refl refl) f.inside.come) in
          subst (λ (xs : List Act). FitsMachine b l d new (after past xs)) (sym on.called)
          (call_fits b l d old new past more Tick f (tick_bare past) here hold (delays_tick old.delays delays old.core.hand past f.inside.fits.hand_is counts f.inside.delays_are) said (calls_hear s (seen s past) Tick) keep refl refl come lost
          (received_part b (seen_by l (end_of d) old) (seen_by l (end_of d) new) past (after past (Tick ∷ more)) f.session.received refl refl refl (gots_after more (Tick ∷ past) said)));
      tick = λ b l d past f.
          let s = driving b in
          let on = handles s past (may_come b l d old past Tick f refl) in
          record {
            live = f.inside.fits.lost_is ∙ live;
            more = calls s past Tick;
            acts_are = on.called;
            follow = calls_said s (seen s past) Tick;
            line_stays = refl;
            desk_stays = refl;
            unfed_stay = refl;
          };
    }

-- a session over any line and desk
pub session_ticks : {X : Type 0} (look : X → LineView) (x : X) (d : DriverView) (s : SessionState X) (old new : Machine) → record { line = x; driver = d; machine = old } ≡ s → MachineTicks old new → Ticks look s (record { line = x; driver = d; machine = new })
unfolding MachineGoes Ticks
session_ticks {X} look x d s old new e h = subst (λ (v : SessionState X). Ticks look v (record { line = x; driver = d; machine = new })) e
    (record { acts = h.acts; goes = λ b. h.goes b (look x) d; tick = λ b. h.tick b (look x) d })

-- so it is where a session could be made
pub all_begin : (rules : Rules) (n1 : ℕ) (r : Result Machine SessionError) (d : DriverView) (ks : List UrcKind) → ks ≡ d.desk.kinds
    → IfOk r (λ k. k ≡ machine_by rules n1 ks) → IfOk r (λ k. Fits k.core []) → IfOk r (λ k. HoldsFit k.core [])
    → IfOk r (λ k. (l : LineView) → MachineFits (beginning_by (dialect_of rules) n1 l d) l d k [])
all_begin rules n1 (Ok k) d ks e is fits holds =
    machine_begins rules (dialect_of rules) refl n1 ks k d is
    (λ m. (λ c. subst (λ (xs : List UrcKind). Contains xs m) e c, λ c. subst (λ (xs : List UrcKind). Contains xs m) (sym e) c)) fits holds
all_begin rules n1 (Err why) d ks e is fits holds = tt
