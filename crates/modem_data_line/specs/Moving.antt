-- Octets between a line and its relay, the one or the other way.
use Rattle.std.specs.Prelude.{◌≡◌, ◌≢◌, ◌⊎◌, ℕ, ◌≤◌, ◌<◌, Bool, true, false, List, ◌++◌, length, None}
use Rattle.mux_station.specs.declared.role.Role.{Role}
use Rattle.serial_line.specs.Counts.{one_more}
use Rattle.serial_line.specs.LineViews.{LineView}
use Rattle.modem_data.specs.Hops.{Relay, Hop, Hops, HoldsNothing, LineIn, Handed, Wrote}
use Rattle.modem_data_line.specs.DataLines.{DataLineState, Before, LineFits, with_taken}

-- the line took these of the relay
pub record WritesOn (before after : List ℕ) (old new : Relay) : Type 0 where
  pub octets : List ℕ
  pub went : after ≡ before ++ octets
  pub wrote : Hops old new (Wrote octets)

-- the relay took the first of those that wait for it
pub record Feeds (old new : Relay) (before after : List ℕ) : Type 0 where
  pub octets : List ℕ
  pub taken : before ≡ octets ++ after
  pub comes : LineIn old new octets

-- the relay handed these to the driver
abbrev pub Hands : Relay → Relay → List ℕ → Type 0
Hands old new octets = Hops old new (Handed octets)

-- Nothing may go to the line: where the driver has offered more than was taken, nothing of the driver's waits at the relay; else
-- nothing at all.
abbrev pub NothingGoes : (is_behind : Bool) → Relay → Type 0
NothingGoes true r = (length r.to_line ≡ 0) × (r.inner.next ≡ None)
NothingGoes false r = HoldsNothing r

-- the line was asked for octets: it gave some, or had none
abbrev pub IsAsked : {X : Type 0} (look : X → LineView) → (old new : X) → Type 0
IsAsked look old new = ((look new).received ≢ (look old).received) ⊎ ((look new).empty_reads ≡ one_more ((look old).empty_reads))

-- these octets of the driver's were taken, if there are any, whatever passed before
unfoldable pub TakesOn : {X : Type 0} (look : X → LineView) (octets : List ℕ) (old new : DataLineState X) → Type 0
TakesOn look octets old new = (role : Role) (n1 : ℕ) (ds : List ℕ) (b : Before) (past : List Hop) → LineFits look role n1 ds b old past
    → LineFits look role n1 ds b new (with_taken octets past)

-- a line is lost only by a call of the line itself that failed
pub record IsLostBy {X : Type 0} (look : X → LineView) (old new : DataLineState X) : Type 0 where
  pub more : (look old.line).failures ≤ (look new.line).failures
  pub by_fault : new.is_lost ≡ true → (old.is_lost ≡ true) ⊎ ((look old.line).failures < (look new.line).failures)

-- the line was offered octets: it took some, or took none and that was counted
abbrev pub IsOffered : {X : Type 0} (look : X → LineView) → (old new : X) → Type 0
IsOffered look old new = ((look new).sent ≢ (look old).sent) ⊎ ((look new).stalled_writes ≡ one_more ((look old).stalled_writes))
