-- The rows of backlogs, computed.
use Rattle.std.proofs.Common.{arith, inl, inr, lit<, lit≤}
use Rattle.std.specs.Prelude.{◌≡◌, ◌⊎◌, ℕ, ◌≤◌, ◌<◌, ◌==◌, ◌&&◌, ◌||◌, not, nat_lt, nat_le, Bool, true, false, List, [], ◌∷◌, refl}
use Rattle.std.proofs.lemmas.Bool.{and_parts, ltb-true, leb-true}
use Rattle.mux_station.specs.declared.role.Role.TheVariants.{Initiator}
use Rattle.mux_station.specs.Opening.{is_open}
use Rattle.modem_history.specs.Acts.{Act, after, wire}
use Rattle.modem_history.specs.Holding.{is_held}
use Rattle.modem_history.specs.Sessions.{SessionView, backlog}
use Rattle.modem_history.specs.SessionRows.{Each}
use Rattle.modem_history.specs.Turns.{HoldsByBacklog}
use Rattle.modem_history.specs.BacklogRows.{BacklogRow, CountsByConnection, IsHeldOrFull, IsHeldRight, IsHeldWrong, IsNeither, MayHoldAndFree, held_or_full, neither_held_nor_full, rightly_held, wrongly_held}
use Rattle.modem_history.proofs.rows.HistoryTests.{all_below}
use Rattle.modem_history.proofs.rows.TurnTests.{holds_below}

-- lines that wait count where they came, all kinds alike
pub counts_by_connection : CountsByConnection
counts_by_connection = record { none = refl; on_one = refl; on_two = refl; on_three = refl; of_none = refl; many = refl }

-- a turn may hold a connection where 256 of its lines wait, not where 255 do; it may free it where 127 do, not where 128 do
pub may_hold_and_free : MayHoldAndFree
may_hold_and_free = record { holds = refl; holds_early = refl; holds_another = refl; frees = refl; frees_early = refl; frees_another = refl }

-- ## By a test of each connection

abbrev many_test : SessionView → List Act → ℕ → Bool
many_test v past d = (d == 0) || (not (is_open Initiator d (wire past)) || (is_held Initiator d past || nat_lt (backlog d v) 256))

abbrev few_test : SessionView → List Act → ℕ → Bool
few_test v past d = not (is_held Initiator d past) || nat_le 128 (backlog d v)

abbrev held_test : SessionView → List Act → ℕ → Bool
held_test v past d = many_test v past d && few_test v past d

is_many : (z o h l : Bool) → (z || (not o || (h || l))) ≡ true → z ≡ false → o ≡ true → (l ≡ true → ⊥) → h ≡ true
is_many z o true l e x y less = refl
is_many true o false l e x y less = cc
is_many false false false l e x y less = cc
is_many false true false l e x y less = absurd (less e)

is_few : (h l : Bool) → (not h || l) ≡ true → (l ≡ true → ⊥) → h ≡ false
is_few false l e less = refl
is_few true l e less = absurd (less e)

held_by : (v : SessionView) (past : List Act) → all_below (held_test v past) 62 ≡ true → HoldsByBacklog v past
held_by v past h = record {
  many = λ d small other opened full.
      is_many (d == 0) (is_open Initiator d (wire past)) (is_held Initiator d past) (nat_lt (backlog d v) 256)
      (and_parts (many_test v past d) (few_test v past d) (holds_below (held_test v past) 62 d h small)).0 other opened
      (λ e. let less : backlog d v < 256 = ltb-true (backlog d v) 256 e in let x : ⊥ = omega arith in x);
  few = λ d small below.
      is_few (is_held Initiator d past) (nat_le 128 (backlog d v))
      (and_parts (many_test v past d) (few_test v past d) (holds_below (held_test v past) 62 d h small)).1
      (λ e. let more : 128 ≤ backlog d v = leb-true 128 (backlog d v) e in let x : ⊥ = omega arith in x);
}

abbrev row_test : BacklogRow → Bool
row_test row = all_below (held_test row.view (after [] row.acts)) 62

abbrev rows_test : List BacklogRow → Bool
rows_test [] = true
rows_test (row ∷ rows) = row_test row && rows_test rows

each_by : (rows : List BacklogRow) → rows_test rows ≡ true → Each IsHeldRight rows
each_by [] h = tt
each_by (row ∷ rows) h =
    let parts = and_parts (row_test row) (rows_test rows) h in
    (held_by row.view (after [] row.acts) parts.0, each_by rows parts.1)

-- in each right row the connections are held by their backlogs
pub all_rightly_held : Each IsHeldRight rightly_held
all_rightly_held = each_by rightly_held refl

-- ## Refused

never : false ≡ true → ⊥
never e = cc

never_back : true ≡ false → ⊥
never_back e = cc

-- and in no wrong one
pub all_wrongly_held : Each IsHeldWrong wrongly_held
all_wrongly_held = (
  (λ h. never (h.many 1 (lit< tt) refl refl (lit≤ tt))),
  (
    (λ h. never (h.many 1 (lit< tt) refl refl (lit≤ tt))),
    (
      (λ h. never (h.many 1 (lit< tt) refl refl (lit≤ tt))),
      (
        (λ h. never (h.many 2 (lit< tt) refl refl (lit≤ tt))),
        (
          (λ h. never (h.many 1 (lit< tt) refl refl (lit≤ tt))),
          (
            (λ h. never_back (h.few 1 (lit< tt) (lit< tt))),
            (
              (λ h. never_back (h.few 1 (lit< tt) (lit< tt))),
              (
                (λ h. never_back (h.few 1 (lit< tt) (lit< tt))),
                ((λ h. never_back (h.few 1 (lit< tt) (lit< tt))), tt),
              ),
            ),
          ),
        ),
      ),
    ),
  ),
)

-- ## A full control queue

-- in each of these rows they are held so, or no MSC has a place
pub all_held_or_full : Each IsHeldOrFull held_or_full
all_held_or_full = (inr (λ d. lit< tt), (inr (λ d. lit< tt), (inl all_rightly_held.0, (inr (λ d. lit< tt), tt))))

-- an MSC has a place
has_place : {P : Type 0} (n : ℕ) → P ⊎ ((d : ℕ) → 4127 < n) → n ≤ 4127 → P
has_place n (inl h) few = h
has_place n (inr h) few = let x : 4127 < n = h 1 in let y : ⊥ = omega (arith, x, few) in absurd y

-- and in each of the others they aren't, though an MSC has a place
pub all_neither : Each IsNeither neither_held_nor_full
all_neither = (
  (λ h. never ((has_place 4127 h (lit≤ tt)).many 1 (lit< tt) refl refl (lit≤ tt))),
  (
    (λ h. never_back ((has_place 4127 h (lit≤ tt)).few 1 (lit< tt) (lit< tt))),
    (
      (λ h. never ((has_place 10 h (lit≤ tt)).many 1 (lit< tt) refl refl (lit≤ tt))),
      ((λ h. never_back ((has_place 10 h (lit≤ tt)).few 1 (lit< tt) (lit< tt))), tt),
    ),
  ),
)
