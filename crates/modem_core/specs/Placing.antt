-- What waits is offered to the rings of a desk, each to those of its key: an outcome by its caller, a line by
-- its kind.
use Rattle.std.specs.Prelude.{◌≡◌, ◌≢◌, ℕ, ◌+◌, ◌≤◌, ◌<◌, ◌||◌, nat_lt, Bool, true, false, List, [], ◌∷◌, ◌++◌, length, take, slice_index_or, Contains}
use Rattle.std.specs.List.{list_all}
use mathlib.Core.Option.{some}
use lib.ListN.{get_elem?}
use Rattle.at_text.specs.declared.unsolicited.UrcKind.{UrcKind}
use Rattle.modem_desk.specs.declared.request.Outcome.{Outcome}
use Rattle.modem_desk.specs.declared.request.Urc.{Urc}
use Rattle.modem_desk.specs.Ends.{DriverView, DeskId}
use Rattle.at_text.specs.Kinds.{kind_place}
use Rattle.modem_queues.specs.LineQueues.{of_key, place_of}
use Rattle.modem_history.specs.Sessions.{at_place}
use Rattle.modem_history.specs.EveryTurn.{count_at}
use Rattle.modem_history.specs.Turns.{amount, counted}

-- of each ring, what it was given, how many places it is known to have free, and how often something for it was
-- handed back
pub record Rings (X : Type 0) : Type 0 where
  pub given : List (List X)
  pub free : List ℕ
  pub back : List ℕ

-- what a ring was given since, and then what still waits of its key, is what waited of its key
pub record Gave {X : Type 0} (key : X → ℕ) (before now : List (List X)) (waited waits : List X)
    (n i : ℕ) : Type 0 where
  pub since : List X
  pub given_are : at_place i now ≡ at_place i before ++ since
  pub rest_are : since ++ of_key key n waits ≡ of_key key n waited

-- those that wait are some of those that waited, in their order; behind one that waits, all of its key wait
pub data Stay {X : Type 0} (key : X → ℕ) : (waited waits : List X) → Type 0 where
  stays_none : Stay key [] []
  goes_first : (x : X) (xs ys : List X) → Stay key xs ys → Stay key (x ∷ xs) ys
  stays_first : (x : X) (xs ys : List X) → of_key key (key x) xs ≡ of_key key (key x) ys → Stay key xs ys
      → Stay key (x ∷ xs) (x ∷ ys)

-- Those of each key that the desk knows were offered until one was handed back. Where some still wait, the key's rings
-- are full, and count the one that was handed back.
pub record Placed {X : Type 0} (key : X → ℕ) (at : ℕ → ℕ → Type 0) (known : ℕ → Type 0)
    (before now : Rings X) (waited waits : List X) (moved : Bool) : Type 0 where
  pub each : (n i : ℕ) → at n i → Gave key before.given now.given waited waits n i
  pub in_order : Stay key waited waits
  pub elsewhere : (i : ℕ) → ((n : ℕ) → ¬ at n i) → at_place i now.given ≡ at_place i before.given
  pub full : (n i : ℕ) → at n i → known n → of_key key n waits ≢ [] → slice_index_or now.free i 0 ≡ 0
  pub counts : (n i : ℕ) → at n i → known n
      → count_at i now.back ≡ counted (count_at i before.back) (length (take 1 (of_key key n waits)))
  pub all : (p : X → Bool) → list_all p waited ≡ true → list_all p waits ≡ true
  pub fewer : length waits ≤ length waited
  pub grows : amount before.given ≤ amount now.given
  pub moved_is : moved ≡ nat_lt (amount before.given) (amount now.given)

-- one where something is held up
abbrev pub one_if : Bool → ℕ
one_if true = 1
one_if false = 0

-- The same on the way: some still wait to be offered, behind those that stay. All that stay are of keys that are held
-- up.
pub record Placing {X : Type 0} (key : X → ℕ) (at : ℕ → ℕ → Type 0) (known : ℕ → Type 0)
    (before now : Rings X) (held : List Bool) (waited waits stay : List X) (moved : Bool) : Type 0 where
  pub each : (n i : ℕ) → at n i → Gave key before.given now.given waited (stay ++ waits) n i
  pub in_order : Stay key waited (stay ++ waits)
  pub elsewhere : (i : ℕ) → ((n : ℕ) → ¬ at n i) → at_place i now.given ≡ at_place i before.given
  pub free_way : (n : ℕ) → known n → slice_index_or held n false ≡ false → of_key key n stay ≡ []
  pub held_up : (n : ℕ) → slice_index_or held n false ≡ true → of_key key n stay ≢ []
  pub full : (n i : ℕ) → at n i → known n → slice_index_or held n false ≡ true
      → slice_index_or now.free i 0 ≡ 0
  pub counts : (n i : ℕ) → at n i → known n
      → count_at i now.back ≡ counted (count_at i before.back) (one_if (slice_index_or held n false))
  pub all : (p : X → Bool) → list_all p waited ≡ true → list_all p (stay ++ waits) ≡ true
  pub fewer : length (stay ++ waits) ≤ length waited
  pub grows : amount before.given ≤ amount now.given
  pub moved_is : moved ≡ nat_lt (amount before.given) (amount now.given)

-- one fewer waits to be offered
pub record OneFewer {X : Type 0} (key : X → ℕ) (at : ℕ → ℕ → Type 0) (known : ℕ → Type 0)
    (before now : Rings X) (held : List Bool) (waited new : List X) (left : ℕ) (moved : Bool) : Type 0 where
  pub waits : List X
  pub stay : List X
  pub are : new ≡ waits ++ stay
  pub left_are : length waits ≡ left
  pub placing : Placing key at known before now held waited waits stay moved

-- the first that waits was offered, or stays
unfoldable pub OffersFirst : {X : Type 0} → (key : X → ℕ) → (at : ℕ → ℕ → Type 0) → (known : ℕ → Type 0)
    → (now later : Rings X) → (held more_held : List Bool) → (old new : List X) → (moved : Bool) → Type 0
OffersFirst {X} key at known now later held more_held old new moved =
    (before : Rings X) (waited : List X) (left : ℕ) (earlier : Bool)
    → OneFewer key at known before now held waited old (left + 1) earlier
    → OneFewer key at known before later more_held waited new left (moved || earlier)

-- ## Outcomes and lines

-- the caller whose outcome it is
abbrev pub caller_of : Outcome → ℕ
caller_of o = o.caller

-- no line waits of a kind that is listened to and isn't held up
abbrev pub LeavesAll : (kinds : List UrcKind) → (held : List Bool) → List Urc → Type 0
LeavesAll kinds held lines =
    (k : UrcKind) → Contains kinds k → slice_index_or held (kind_place k) false ≡ false
    → of_key place_of (kind_place k) lines ≡ []

-- the ring of caller n
abbrev pub IsRingOf : ℕ → ℕ → Type 0
IsRingOf n i = i ≡ n

-- the desk has a caller n
abbrev pub IsCaller : DeskId → ℕ → Type 0
IsCaller d n = n < length d.rings

-- the ring of a listener of the kind at place n
pub record IsListenerOf (kinds : List UrcKind) (n i : ℕ) : Type 0 where
  pub kind : UrcKind
  pub is_place : kind_place kind ≡ n
  pub is_at : get_elem? kinds i ≡ some kind

-- somebody listens to the kind at place n
pub record IsHeard (kinds : List UrcKind) (n : ℕ) : Type 0 where
  pub kind : UrcKind
  pub is_place : kind_place kind ≡ n
  pub listened : Contains kinds kind

-- the callers' rings, as the desk's end knows them
abbrev pub caller_rings : DriverView → Rings Outcome
caller_rings d = record { given = d.told; free = d.free; back = d.told_back }

-- the listeners' rings, as the desk's end knows them
abbrev pub listener_rings : DriverView → Rings Urc
listener_rings d = record { given = d.announced; free = d.free_lines; back = d.announced_back }

-- the desk's end changed by telling callers alone
pub record TellsAlone (old new : DriverView) : Type 0 where
  pub desk : new.desk ≡ old.desk
  pub taken : new.taken ≡ old.taken
  pub found_none : new.found_none ≡ old.found_none
  pub listeners : listener_rings new ≡ listener_rings old

-- the desk's end changed by announcing lines alone
pub record AnnouncesAlone (old new : DriverView) : Type 0 where
  pub desk : new.desk ≡ old.desk
  pub taken : new.taken ≡ old.taken
  pub found_none : new.found_none ≡ old.found_none
  pub callers : caller_rings new ≡ caller_rings old
