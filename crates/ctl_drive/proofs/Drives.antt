-- A session goes on by ticks and polls.
use Rattle.std.specs.Prelude.{◌≡◌, ◌<◌, ℕ, zero, suc, Bool, true, false, List, [], ◌∷◌, ◌++◌, Option, OnErr, OnOk, Result, Ok, Err, refl}
use Rattle.std.proofs.Common.{ap, arith, sym, subst, true≢false, ◌∙◌}
use Rattle.std.specs.declared.time.Instant.{Instant}
use Rattle.modem_history.specs.Sessions.{LineView}
use Rattle.modem_desk.specs.Ends.{DriverView}
use Rattle.modem_driver.specs.OneSession.{CallKind, Called, SessionCall, call_of}
use Rattle.modem_driver.specs.Polls.{Polls}
use Rattle.modem_driver.specs.SessionStates.{SessionState, TakesMore, Ticks}
use Rattle.modem_driver.specs.declared.session.error.SessionFault.{SessionFault}
use Rattle.modem_driver.specs.declared.session.polling.Progress.{Progress}
use Rattle.modem_driver.proofs.sessions.steps.TakenRequests.{takes_none, takes_same, takes_then}
use Rattle.ctl_drive.specs.Driving.{DrivesOn, IsDue, IsNotDue, TicksOnce, Timed, period_of}

-- the calls of a later time are timed on from those of an earlier one
timed_then : (period : ℕ) (a b c : Option Instant) (xs ys : List SessionCall) → Timed period a xs b → Timed period b ys c → Timed period a (ys ++ xs) c
timed_then period a b _ xs _ h Timed.timed_none = h
timed_then period a b _ xs _ h (Timed.timed_tick calls call was is before kind due) =
    Timed.timed_tick (calls ++ xs) call was is (timed_then period a b was xs calls h before) kind due
timed_then period a b _ xs _ h (Timed.timed_poll calls call is before kind) =
    Timed.timed_poll (calls ++ xs) call is (timed_then period a b is xs calls h before) kind
timed_then period a b _ xs ys h (Timed.timed_look _ was is before none) =
    Timed.timed_look (ys ++ xs) was is (timed_then period a b was xs ys h before) none
timed_then period a b _ xs ys h (Timed.timed_refused _ was is before due) =
    Timed.timed_refused (ys ++ xs) was is (timed_then period a b was xs ys h before) due

-- calls, and then more calls, lead from the first session to the last
called_on : {X : Type 0} (look : X → LineView) (first mid last : SessionState X) (xs ys : List SessionCall) → Called look first mid xs → Called look mid last ys → Called look first last (ys ++ xs)
called_on look first mid _ xs _ x Called.none_called = x
called_on look first mid _ xs _ x (Called.turn_called old new calls says before t) = Called.turn_called old new (calls ++ xs) says (called_on look first mid old xs calls x before) t
called_on look first mid _ xs _ x (Called.fault_called old new calls why before t) = Called.fault_called old new (calls ++ xs) why (called_on look first mid old xs calls x before) t
called_on look first mid _ xs _ x (Called.poll_called old new calls given before p) = Called.poll_called old new (calls ++ xs) given (called_on look first mid old xs calls x before) p
called_on look first mid _ xs _ x (Called.tick_called old new calls before t) = Called.tick_called old new (calls ++ xs) (called_on look first mid old xs calls x before) t
called_on look first mid _ xs _ x (Called.line_lent old line calls before same) = Called.line_lent old line (calls ++ xs) (called_on look first mid old xs calls x before) same

-- the period of a time that is given
pub period_is : (given got : ℕ) → (0 < given → got ≡ given) → (given ≡ 0 → got ≡ 1000000) → got ≡ period_of given
period_is zero got some none = none refl
period_is (suc n) got some none = some (omega arith)

module _ {X : Type 0} (look : X → LineView) (period : ℕ) where
  -- by no poll and no tick a session comes to stand as it stood
  pub drives_none : (s : SessionState X) (at : Option Instant) → DrivesOn look period s at s at
  drives_none s at = record { takes = takes_none s.driver; calls = record { calls = []; called = Called.none_called }; timed = Timed.timed_none }

  -- a session that goes on twice goes on by the calls of both
  pub drives_then : (old mid new : SessionState X) (a b c : Option Instant) → DrivesOn look period old a mid b → DrivesOn look period mid b new c
      → DrivesOn look period old a new c
  drives_then old mid new a b c g h = record {
    takes = takes_then old.driver mid.driver new.driver g.takes h.takes;
    calls = record { calls = h.calls.calls ++ g.calls.calls; called = called_on look old mid new g.calls.calls h.calls.calls g.calls.called h.calls.called };
    timed = timed_then period a b c g.calls.calls h.calls.calls g.timed h.timed;
  }

  -- by a poll, which may take requests of its desk, it goes on
  pub drives_by : (old new : SessionState X) (at : Option Instant) (given : Progress) → TakesMore old.driver new.driver → Polls look old new given
      → DrivesOn look period old at new at
  drives_by old new at given takes polls = record {
    takes = takes;
    calls = record { calls = call_of look CallKind.Polled new ∷ []; called = Called.poll_called old new [] given Called.none_called polls };
    timed = Timed.timed_poll [] (call_of look CallKind.Polled new) at Timed.timed_none refl;
  }

  -- so it does by a tick that was due
  by_tick : (old new : SessionState X) (was is : Option Instant) → IsDue period was is → Ticks look old new → (new.line ≡ old.line) × (new.driver ≡ old.driver)
      → DrivesOn look period old was new is
  by_tick old new was is due goes same = record {
    takes = takes_same old.driver new.driver (ap (λ (d : DriverView). d.desk) same.1) (ap (λ (d : DriverView). d.taken) same.1);
    calls = record { calls = call_of look CallKind.Ticked new ∷ []; called = Called.tick_called old new [] Called.none_called goes };
    timed = Timed.timed_tick [] (call_of look CallKind.Ticked new) was is Timed.timed_none refl due;
  }

  -- by none
  by_look : (old new : SessionState X) (was is : Option Instant) → IsNotDue was is → new ≡ old → DrivesOn look period old was new is
  by_look old new was is none same =
      subst (λ (s : SessionState X). DrivesOn look period old was s is) (sym same)
      (record { takes = takes_none old.driver; calls = record { calls = []; called = Called.none_called }; timed = Timed.timed_look [] was is Timed.timed_none none })

  -- or by one that was refused
  by_refusal : (old new : SessionState X) (was is : Option Instant) → IsDue period was is → new ≡ old → DrivesOn look period old was new is
  by_refusal old new was is due same =
      subst (λ (s : SessionState X). DrivesOn look period old was s is) (sym same)
      (record { takes = takes_none old.driver; calls = record { calls = []; called = Called.none_called }; timed = Timed.timed_refused [] was is Timed.timed_none due })

  by_once : (old new : SessionState X) (was is : Option Instant) → IsDue period was is → TicksOnce look old new → DrivesOn look period old was new is
  by_once old new was is due (TicksOnce.once_ticked goes same) = by_tick old new was is due goes same
  by_once old new was is due (TicksOnce.once_refused same) = by_refusal old new was is due same

  -- by a tick where one is due, and none else, it goes on
  pub drives_if : (due : Bool) (old new : SessionState X) (was is : Option Instant) → (due ≡ true → IsDue period was is) → (due ≡ false → IsNotDue was is)
      → (due ≡ true → TicksOnce look old new) → (due ≡ false → new ≡ old) → DrivesOn look period old was new is
  drives_if true old new was is due not ticks none = by_once old new was is (due refl) (ticks refl)
  drives_if false old new was is due not ticks none = by_look old new was is (not refl) (none refl)

-- a tick, which takes no request, or one that was refused and changed nothing
pub ticked : {X : Type 0} (look : X → LineView) (old new : SessionState X) (result : Result (Unit {0}) SessionFault) → OnOk result (Ticks look old new) → OnErr result (new ≡ old)
    → (new.line ≡ old.line) × (new.driver ≡ old.driver) → TicksOnce look old new
ticked look old new (Ok done) goes none same = TicksOnce.once_ticked goes same
ticked look old new (Err why) goes none same = TicksOnce.once_refused none

-- the same period by another name
pub drives_with : {X : Type 0} (look : X → LineView) (p q : ℕ) (old new : SessionState X) (a b : Option Instant) → q ≡ p → DrivesOn look q old a new b → DrivesOn look p old a new b
drives_with look p q old new a b same h = subst (λ (n : ℕ). DrivesOn look n old a new b) same h
