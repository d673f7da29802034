-- The bits of the connections that may send.
use Rattle.std.specs.Prelude.{zero, suc, ◌≡◌, ◌≢◌, ℕ, ◌+◌, ◌-◌, ◌^◌, ◌<◌, ◌≤◌, ◌==◌, Bool, true, false, List, length, replicate, slice_index_or, refl, if◌then◌else◌, Some, None}
use Rattle.std.specs.List.{find, range_with_len}
use Rattle.std.specs.Int.{bit_at, bit_not, trailing_zeros}
use Rattle.std.proofs.Common.{◌∙◌, ap, sym, arith, w64, bit_and, bit_or, ◌*◌, ◌%◌, inl, inr}
use Rattle.std.proofs.lemmas.Bool.{cases_eq, cases_lt}
use Rattle.std.proofs.lemmas.Bool.Decides.{nat_tests}
use Rattle.std.proofs.lemmas.List.{get_or-replicate, get_or_past, length-replicate}
use Rattle.std.proofs.lemmas.Nat.{and_le_l, and_le_r}
use Rattle.std.proofs.lemmas.Nat.Bits.{bit_at-zero, bit_at_and, bit_at_mask_inside, bit_at_mask_below, bit_at-trailing_zeros, bit_at-lt, bit_at_above, ones_shl, bit_at_set_same, bit_at_set_other, bit_at_clear_same, bit_at_clear_other}
use Rattle.mux_station.specs.Stations.{Channel, shut_channel}
use Rattle.mux_station.specs.Marks.{may_send, bit_of, AreMarked, first_sender}

-- ## The first in a range

-- in a range where none passes the test, none is found
pub find_none : (p : ℕ → Bool) (d count : ℕ) → ((e : ℕ) → d ≤ e → e < d + count → p e ≡ false) → find p (range_with_len d count) ≡ None
find_none p d zero h = refl
find_none p d (suc count) h =
    ap (λ (b : Bool). if b then Some d else find p (range_with_len (d + 1) count)) (h d (omega arith) (omega arith))
    ∙ find_none p (d + 1) count (λ e k x. h e (omega (arith, k)) (omega (arith, x)))

-- in a range one that passes is found, where none below it does
pub find_first : (p : ℕ → Bool) (d count k : ℕ) → d ≤ k → k < d + count → p k ≡ true → ((e : ℕ) → d ≤ e → e < k → p e ≡ false) → find p (range_with_len d count) ≡ Some k
find_first p d zero k l x y h = absurd (omega (arith, l, x))
find_first p d (suc count) k l x y h =
    elim (cases_eq d k) [
      | inl same ↦ ap (λ (b : Bool). if b then Some d else find p (range_with_len (d + 1) count)) (ap p same ∙ y) ∙ ap Some same
      | inr apart ↦
          ap (λ (b : Bool). if b then Some d else find p (range_with_len (d + 1) count)) (h d (omega arith) (omega arith))
          ∙ find_first p (d + 1) count k (omega arith) (omega (arith, x)) y (λ e u w. h e (omega (arith, u)) w)
    ]

-- ## Bits

set_is : (b : Bool) → bit_of b ≡ 1 → b ≡ true
set_is true h = refl
set_is false h = absurd (let e : 0 ≡ 1 = h in cc)

clear_is : (b : Bool) → bit_of b ≡ 0 → b ≡ false
clear_is true h = absurd (let e : 1 ≡ 0 = h in cc)
clear_is false h = refl

-- one bit is as it should be, and the others are as they were
pub record OneSet (old new d bit : ℕ) : Type 0 where
  pub same : bit_at new d ≡ bit
  pub others : (e : ℕ) → (e == d) ≡ false → bit_at new e ≡ bit_at old e

apart : (e d : ℕ) → (e == d) ≡ false → e ≢ d
apart e d h is = grind (arith, nat_tests)

-- the bit of d is set, and no other changes
pub set_alone : (old d k : ℕ) → d < 62 → k ≡ d → OneSet old (bit_or old (1 * 2 ^ k % 2 ^ 64)) d 1
set_alone old d k l e = rw e (record {
  same = bit_at_set_same w64 old d (omega (arith, l));
  others = λ x a. bit_at_set_other w64 old d (omega (arith, l)) x (apart x d a);
})

-- the bit of d is cleared, and no other changes
pub cleared_alone : (old d k : ℕ) → old < 2 ^ 64 → d < 62 → k ≡ d → OneSet old (bit_and old (bit_not w64 (1 * 2 ^ k % 2 ^ 64))) d 0
cleared_alone old d k fits l e = rw e (record {
  same = bit_at_clear_same w64 old d (omega (arith, l));
  others = λ x a.
      elim (cases_lt x 64) [
        | inl low ↦ bit_at_clear_other w64 old d (omega (arith, l)) x low (apart x d a)
        | inr high ↦ bit_at_above _ 64 x (omega (arith, fits, and_le_l old (bit_not w64 (1 * 2 ^ d % 2 ^ 64)))) high ∙ sym (bit_at_above old 64 x fits high)
      ];
})

all_shut : (n d : ℕ) → slice_index_or (replicate n shut_channel) d shut_channel ≡ shut_channel
all_shut n d =
    elim (cases_lt d n) [
      | inl within ↦ get_or-replicate n d shut_channel shut_channel within
      | inr past ↦ get_or_past (replicate n shut_channel) d shut_channel (omega (arith, past, length-replicate n shut_channel))
    ]

none_sends : (cs : List Channel) → cs ≡ replicate 62 shut_channel → (d : ℕ) → bit_at 0 d ≡ bit_of (may_send (slice_index_or cs d shut_channel))
none_sends cs e d = bit_at-zero d ∙ sym (ap (λ (c : Channel). bit_of (may_send c)) (ap (λ (xs : List Channel). slice_index_or xs d shut_channel) e ∙ all_shut 62 d))

-- none may send where all are shut
pub marks_none : (cs : List Channel) → cs ≡ replicate 62 shut_channel → AreMarked cs 0
marks_none cs e = record { all = ap length e ∙ length-replicate 62 shut_channel; marked = none_sends cs e }

-- ## The first that may send

-- all bits moved up to a connection mask the marks from it on
pub masked : (marks from : ℕ) → from ≤ 62 → bit_and marks ((2 ^ 64 - 1) * 2 ^ from % 2 ^ 64) ≡ bit_and marks (2 ^ 64 - 2 ^ from)
masked marks from l = ap (bit_and marks) (ones_shl 64 from (omega (arith, l)))

-- marks that are left are more than 0
pub some_left : (n : ℕ) → n ≢ 0 → 0 < n
some_left n h = omega arith

-- and fit into 64 bits
pub left_small : (marks from : ℕ) → bit_and marks ((2 ^ 64 - 1) * 2 ^ from % 2 ^ 64) < 2 ^ 64
left_small marks from = omega (arith, and_le_r marks ((2 ^ 64 - 1) * 2 ^ from % 2 ^ 64))

module _ (cs : List Channel) (marks from above : ℕ) (m : AreMarked cs marks) (within : from ≤ 62) (is : above ≡ bit_and marks (2 ^ 64 - 2 ^ from)) where
  above_is : (e : ℕ) → from ≤ e → e < 64 → bit_at above e ≡ bit_at marks e
  above_is e k x = rw (is, bit_at_and marks (2 ^ 64 - 2 ^ from) e, bit_at_mask_inside from 64 e k x) (omega (arith, bit_at-lt marks e))

  below_is : (e : ℕ) → e < from → bit_at above e ≡ 0
  below_is e x = rw (is, bit_at_and marks (2 ^ 64 - 2 ^ from) e, bit_at_mask_below from 64 e x) (omega arith)

  sends : (e : ℕ) → from ≤ e → e < 64 → bit_at above e ≡ 1 → may_send (slice_index_or cs e shut_channel) ≡ true
  sends e k x b = set_is _ (sym (m.marked e) ∙ (sym (above_is e k x) ∙ b))

  sends_not : (e : ℕ) → from ≤ e → e < 64 → bit_at above e ≡ 0 → may_send (slice_index_or cs e shut_channel) ≡ false
  sends_not e k x b = clear_is _ (sym (m.marked e) ∙ (sym (above_is e k x) ∙ b))

  -- where no mark is left, no connection from there on may send
  pub no_sender : above ≡ 0 → first_sender cs from ≡ None
  no_sender none = find_none (λ e. may_send (slice_index_or cs e shut_channel)) from (62 - from) (λ e k x. sends_not e k (omega (arith, k, x)) (ap (λ (n : ℕ). bit_at n e) none ∙ bit_at-zero e))

  module _ (some : 0 < above) (small : above < 2 ^ 64) where
    lowest : (trailing_zeros w64 above < 64) × (bit_at above (trailing_zeros w64 above) ≡ 1) × ((i : ℕ) → i < trailing_zeros w64 above → bit_at above i ≡ 0)
    lowest = bit_at-trailing_zeros w64 above some small

    from_on : from ≤ trailing_zeros w64 above
    from_on =
        elim (cases_lt (trailing_zeros w64 above) from) [
          | inl low ↦ absurd (omega (arith, below_is (trailing_zeros w64 above) low, lowest.1))
          | inr on ↦ on
        ]

    it_sends : may_send (slice_index_or cs (trailing_zeros w64 above) shut_channel) ≡ true
    it_sends = sends (trailing_zeros w64 above) from_on lowest.0 lowest.1

    -- the lowest mark that is left is that of a connection below 62
    pub sender_within : trailing_zeros w64 above < 62
    sender_within =
        elim (cases_lt (trailing_zeros w64 above) 62) [
          | inl low ↦ low
          | inr past ↦ absurd (true_no_false (sym it_sends ∙ ap may_send (get_or_past cs (trailing_zeros w64 above) shut_channel (omega (arith, past, m.all)))))
        ]
      where
        true_no_false : true ≡ false → ⊥
        true_no_false h = cc

    -- its connection is the first from there on that may send
    pub the_sender : first_sender cs from ≡ Some (trailing_zeros w64 above)
    the_sender =
        find_first (λ e. may_send (slice_index_or cs e shut_channel)) from (62 - from) (trailing_zeros w64 above) from_on (omega (arith, sender_within)) it_sends
        (λ e k x. sends_not e k (omega (arith, x, lowest.0)) (lowest.2 e x))
