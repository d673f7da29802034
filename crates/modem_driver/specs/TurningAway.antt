-- A desk without a line: what waits is still placed, and each request that comes is told LineLost.
use Rattle.std.specs.Prelude.{◌≡◌, ◌≢◌, ℕ, ◌-◌, ◌<◌, ◌≤◌, ◌||◌, nat_lt, Bool, true, false, List, [], ◌++◌, length, map, take, slice_index_or, if◌then◌else◌}
use Rattle.std.specs.List.{list_all}
use mathlib.Core.Option.{some}
use lib.ListN.{get_elem?}
use Rattle.at_text.specs.declared.unsolicited.UrcKind.{UrcKind}
use Rattle.modem_desk.specs.declared.request.Answer.TheVariants.{LineLost}
use Rattle.modem_desk.specs.declared.request.Request.{Request}
use Rattle.modem_desk.specs.declared.request.Outcome.{Outcome}
use Rattle.modem_desk.specs.declared.request.Urc.{Urc}
use Rattle.modem_desk.specs.Ends.{DriverView}
use Rattle.modem_history.specs.Limits.{most_in_hand}
use Rattle.modem_history.specs.EveryTurn.{GivesSome, count_at}
use Rattle.modem_history.specs.Kinds.{of_kind}
use Rattle.modem_history.specs.Sessions.{at_place, caller_outcomes}
use Rattle.modem_history.specs.Turns.{amount, counted}
use Rattle.modem_driver.specs.declared.session.turn.Turn.{Turn}
use Rattle.modem_core.specs.WaitingLists.{IsLeast, IsFirstOf}
use Rattle.modem_core.specs.WaitingLists.{WaitingLists}

-- the outcomes and the lines that wait for a place, each in its order
pub record Offline : Type 0 where
  pub unplaced : List Outcome
  pub unannounced : List Urc

-- what a request is told where there is no line
abbrev pub line_lost : Request → Outcome
line_lost q = record { caller = q.caller; number = q.number; answer = LineLost }

-- a desk without a line begins with what a session left: everyone in hand is told LineLost, behind the
-- outcomes that waited
abbrev pub offline_from : (in_hand : List Request) → (unplaced : List Outcome) → (unannounced : List Urc) → Offline
offline_from in_hand unplaced unannounced =
    record { unplaced = unplaced ++ map line_lost in_hand; unannounced = unannounced }

-- These requests were taken from the desk, each of one of its callers. What each caller was told is the first of
-- the outcomes that waited for it and then of a LineLost for each of its requests, and the rest waits. What each
-- listener was announced is the first of the lines that waited for it, and the rest waits. Nothing else was told
-- or announced.
pub record TurnsAway (old new : Offline) (before after : DriverView) (taken : List Request) : Type 0 where
  pub taken_are : after.taken ≡ before.taken ++ taken
  pub callers : list_all (λ (q : Request). nat_lt q.caller (length before.desk.rings)) taken ≡ true
  pub outcomes : (c : ℕ) → GivesSome (at_place c before.told) (at_place c after.told)
      (caller_outcomes c (old.unplaced ++ map line_lost taken)) (caller_outcomes c new.unplaced)
  pub lines : (i : ℕ) (k : UrcKind) → get_elem? before.desk.kinds i ≡ some k
      → GivesSome (at_place i before.announced) (at_place i after.announced) (of_kind k old.unannounced)
      (of_kind k new.unannounced)
  pub elsewhere : (i : ℕ) → ((k : UrcKind) → ¬ (get_elem? before.desk.kinds i ≡ some k))
      → at_place i after.announced ≡ at_place i before.announced
  pub desk : after.desk ≡ before.desk

-- passes one after the other turn away all that each of them did
unfoldable pub TurnsOn : Type 0
TurnsOn =
    (old mid new : Offline) (before between after : DriverView) (first second : List Request)
    → TurnsAway old mid before between first → TurnsAway mid new between after second
    → TurnsAway old new before after (first ++ second)

-- ## One pass

-- the desk is asked for a request where fewer than 128 outcomes wait
abbrev pub asks : (waiting : ℕ) → ℕ
asks waiting = if nat_lt waiting most_in_hand then 1 else 0

-- a request is asked for, and the LineLost of the one that came waits behind the others
pub record RefusesOne (old new : WaitingLists) (before after : DriverView) (took : Bool) : Type 0 where
  pub taken : List Request
  pub took_is : took ≡ nat_lt 0 (length taken)
  pub few : length taken ≤ asks (length old.outcomes)
  pub outcomes : new.outcomes ≡ old.outcomes ++ map line_lost taken
  pub lines : new.lines ≡ old.lines
  pub callers : list_all (λ (q : Request). nat_lt q.caller (length before.desk.rings)) taken ≡ true
  pub stays : after ≡ record before {
    taken = before.taken ++ taken;
    found_none = counted before.found_none (asks (length old.outcomes) - length taken);
  }

-- a request was taken, or an outcome or a line was placed
abbrev pub moves : DriverView → DriverView → List Request → Bool
moves before after taken =
    nat_lt 0 (length taken)
    || (nat_lt (amount before.told) (amount after.told)
    || nat_lt (amount before.announced) (amount after.announced))

-- what a pass answers, by whether it moved anything and by what still waits
abbrev pub PassSays : Offline → (moved : Bool) → Turn → Type 0
PassSays o moved Turn.Moved = moved ≡ true
PassSays o moved Turn.WriterFull = ⊥
PassSays o moved (Turn.Waiting c) = (moved ≡ false) × IsLeast c o.unplaced
PassSays o moved (Turn.Blocked k) = (moved ≡ false) × ((o.unplaced ≡ []) × IsFirstOf k o.unannounced)
PassSays o moved Turn.Idle = (moved ≡ false) × ((o.unplaced ≡ []) × (o.unannounced ≡ []))

-- The desk was asked for a request, unless 128 outcomes waited, and counts that it had none. Then all that waits
-- was offered: of each caller and of each kind the first that still waits was handed back, which its ring
-- counts, and that ring has no place that the desk's end knows to be free.
pub record PassesAway (old new : Offline) (before after : DriverView) (says : Turn) : Type 0 where
  pub taken : List Request
  pub turns : TurnsAway old new before after taken
  pub few : length taken ≤ asks (length old.unplaced)
  pub found_none : after.found_none
      ≡ counted before.found_none (asks (length old.unplaced) - length taken)
  pub rings_full : (c : ℕ) → c < length before.desk.rings → caller_outcomes c new.unplaced ≢ []
      → slice_index_or after.free c 0 ≡ 0
  pub lines_full : (i : ℕ) (k : UrcKind) → get_elem? before.desk.kinds i ≡ some k
      → of_kind k new.unannounced ≢ [] → slice_index_or after.free_lines i 0 ≡ 0
  pub told_back : (c : ℕ) → c < length before.desk.rings
      → count_at c after.told_back
      ≡ counted (count_at c before.told_back) (length (take 1 (caller_outcomes c new.unplaced)))
  pub announced_back : (i : ℕ) (k : UrcKind) → get_elem? before.desk.kinds i ≡ some k
      → count_at i after.announced_back
      ≡ counted (count_at i before.announced_back) (length (take 1 (of_kind k new.unannounced)))
  pub answers : PassSays new (moves before after taken) says
