-- A line with a relay before the end that a driver reads and writes. A past is written newest first.
use Rattle.std.specs.Prelude.{◌≡◌, ℕ, Bool, true, false, List, [], ◌∷◌, ◌++◌}
use Rattle.std.specs.List.{list_all}
use Rattle.mux_station.specs.declared.role.Role.{Role}
use Rattle.serial_line.specs.LineViews.{LineView}
use Rattle.modem_data.specs.Passing.{Came, Went, Flowed, Left, Lost}
use Rattle.modem_data.specs.Hops.{Relay, RelayFits, Hop, Fed, Handed, Took, Wrote, Passed, fed, handed_over, taken, wrote}

-- a line with its relay, as contracts see it
pub record DataLineState (X : Type 0) : Type 0 where
  pub line : X  -- the line itself
  pub relay : Relay
  pub unfed : List ℕ  -- octets of the line that the relay hasn't taken
  pub received : List ℕ  -- what the driver read
  pub sent : List ℕ  -- what was taken of the driver
  pub is_behind : Bool  -- of what the driver offered last, not all was taken
  pub is_lost : Bool  -- a call of the line itself failed
  pub calls : ℕ
  pub failures : ℕ
  pub empty_reads : ℕ
  pub stalled_writes : ℕ

-- what the driver sees of it as of any line
abbrev pub data_view : {X : Type 0} → DataLineState X → LineView
data_view v = record {
  received = v.received;
  sent = v.sent;
  calls = v.calls;
  failures = v.failures;
  empty_reads = v.empty_reads;
  stalled_writes = v.stalled_writes;
}

-- nothing has passed on it
abbrev pub new_data_line : {X : Type 0} → X → Relay → DataLineState X
new_data_line line relay = record {
  line = line;
  relay = relay;
  unfed = [];
  received = [];
  sent = [];
  is_behind = false;
  is_lost = false;
  calls = 0;
  failures = 0;
  empty_reads = 0;
  stalled_writes = 0;
}

-- what the line itself had given and taken before
pub record Before : Type 0 where
  pub received : List ℕ
  pub sent : List ℕ

-- It fits a past of its relay: the relay took the first of the octets that the line gave since then, and the others wait for it; the
-- line took what the relay wrote; the driver read what the relay handed over, and sent what it took.
pub record LineFits {X : Type 0} (look : X → LineView) (role : Role) (n1 : ℕ) (ds : List ℕ) (b : Before) (v : DataLineState X) (past : List Hop) : Type 0 where
  pub relay_fits : RelayFits role n1 ds v.relay past
  pub came : (look v.line).received ≡ b.received ++ (fed past ++ v.unfed)
  pub went : (look v.line).sent ≡ b.sent ++ wrote past
  pub read_are : v.received ≡ handed_over past
  pub sent_are : v.sent ≡ taken past

-- by some hops, all of this kind, the one leads to the other, whatever passed before
pub record LeadsBy {X : Type 0} (look : X → LineView) (kind : Hop → Bool) (old new : DataLineState X) : Type 0 where
  pub hops : List Hop
  pub only : list_all kind hops ≡ true
  pub leads : (role : Role) (n1 : ℕ) (ds : List ℕ) (b : Before) (past : List Hop) → LineFits look role n1 ds b old past
      → LineFits look role n1 ds b new (hops ++ past)

-- octets go to the line, and a frame of the driver's to there
abbrev pub is_of_driver : Hop → Bool
is_of_driver (Wrote octets) = true
is_of_driver (Passed (Went f)) = true
is_of_driver (Passed Lost) = true
is_of_driver _ = false

-- the same, or a frame of data or of its flow
abbrev pub is_outward : Hop → Bool
is_outward (Passed (Flowed f)) = true
is_outward (Passed (Left f)) = true
is_outward a = is_of_driver a

-- what may go out: data only where all that the driver offered was taken
abbrev pub may_go : (is_behind : Bool) → Hop → Bool
may_go true a = is_of_driver a
may_go false a = is_outward a

-- octets come from the line, frames pass, and octets go on to the driver; or what goes out
abbrev pub may_pass : (is_behind : Bool) → Hop → Bool
may_pass is_behind (Fed octets) = true
may_pass is_behind (Handed octets) = true
may_pass is_behind (Passed (Came f)) = true
may_pass is_behind a = may_go is_behind a

-- a past behind which octets of the driver's were taken, if any were
abbrev pub with_taken : List ℕ → List Hop → List Hop
with_taken [] past = past
with_taken (o ∷ octets) past = Took (o ∷ octets) ∷ past

-- Octets of the driver's were taken: before it only the driver's frames went out; behind it data too, where all was taken.
pub record TakesBy {X : Type 0} (look : X → LineView) (octets : List ℕ) (old new : DataLineState X) : Type 0 where
  pub before : List Hop
  pub after : List Hop
  pub only_before : list_all is_of_driver before ≡ true
  pub only_after : list_all (may_go new.is_behind) after ≡ true
  pub leads : (role : Role) (n1 : ℕ) (ds : List ℕ) (b : Before) (past : List Hop) → LineFits look role n1 ds b old past
      → LineFits look role n1 ds b new (after ++ with_taken octets (before ++ past))
