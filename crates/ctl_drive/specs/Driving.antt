-- The session of a drive: how it goes on, and when it has a tick.
use Rattle.std.specs.Prelude.{◌≡◌, ◌⊎◌, ◌≤◌, ◌-◌, ℕ, zero, suc, List, [], ◌∷◌, Option, None, Some}
use Rattle.std.specs.Time.{instant_nanos}
use Rattle.std.specs.declared.time.Instant.{Instant}
use Rattle.modem_history.specs.Sessions.{LineView}
use Rattle.modem_driver.specs.OneSession.{CallKind, HasCalls, SessionCall}
use Rattle.modem_driver.specs.SessionStates.{SessionState, TakesMore, Ticks}

-- a tick, so many nanoseconds or more after the last one, or after ticks were first wanted
pub record IsDue (period : ℕ) (old new : Option Instant) : Type 0 where
  pub last : Instant
  pub now : Instant
  pub was : old ≡ Some last
  pub is : new ≡ Some now
  pub passed : period ≤ instant_nanos now - instant_nanos last

-- no tick: what the next is counted from stays, or begins, or is forgotten
abbrev pub IsNotDue : (old new : Option Instant) → Type 0
IsNotDue old new = (new ≡ old) ⊎ ((old ≡ None) ⊎ (new ≡ None))

-- the period of ticks where this many nanoseconds are given: a millisecond where it is none
abbrev pub period_of : ℕ → ℕ
period_of zero = 1000000
period_of (suc n) = suc n

-- What the next tick is counted from goes from `first` on beside these calls, newest first. Each tick is made where one is due, and no
-- other call is made then. A tick that is due may be refused, and is no call then.
pub data Timed (period : ℕ) (first : Option Instant) : List SessionCall → Option Instant → Type 0 where
  timed_none : Timed period first [] first
  timed_tick :
      (calls : List SessionCall) (c : SessionCall) (was is : Option Instant) → Timed period first calls was → c.kind ≡ CallKind.Ticked
      → IsDue period was is → Timed period first (c ∷ calls) is
  timed_poll :
      (calls : List SessionCall) (c : SessionCall) (is : Option Instant) → Timed period first calls is → c.kind ≡ CallKind.Polled
      → Timed period first (c ∷ calls) is
  timed_look :
      (calls : List SessionCall) (was is : Option Instant) → Timed period first calls was → IsNotDue was is
      → Timed period first calls is
  timed_refused :
      (calls : List SessionCall) (was is : Option Instant) → Timed period first calls was → IsDue period was is
      → Timed period first calls is

-- a tick of the session, which keeps its line and its desk, or one that was refused and changed nothing
pub data TicksOnce {X : Type 0} (look : X → LineView) (old new : SessionState X) : Type 0 where
  once_ticked : Ticks look old new → (new.line ≡ old.line) × (new.driver ≡ old.driver) → TicksOnce look old new
  once_refused : new ≡ old → TicksOnce look old new

-- By polls and ticks, one after the other, it took requests of its desk, and came to stand so. Each tick was due by what ticks are counted
-- from, which went from `was` to `is` meanwhile.
pub record DrivesOn {X : Type 0} (look : X → LineView) (period : ℕ) (old : SessionState X) (was : Option Instant) (new : SessionState X)
    (is : Option Instant) : Type 0 where
  pub takes : TakesMore old.driver new.driver
  pub calls : HasCalls look old new
  pub timed : Timed period was calls.calls is
