-- The kinds of a dialect's own of a set, place by place.
use Rattle.std.specs.Prelude.{◌≡◌, ◌≢◌, ℕ, ◌+◌, ◌/◌, ◌^◌, ◌%◌, ◌<◌, ◌≤◌, Bool, nat_eq, List, [], ◌∷◌, ◌++◌, filter, map}
use Rattle.std.specs.Int.{bit_at}
use Rattle.std.specs.List.{range_with_len}
use Rattle.std.proofs.Common.{ap, arith, sym, subst, ◌∙◌}
use Rattle.std.proofs.lemmas.List.{append_assoc, append-nil}
use Rattle.std.proofs.lemmas.List.FromFn.{filter_of_map_range_with_len_more}
use Rattle.std.proofs.lemmas.Nat.Bits.{bit_at-lt}
use mathlib.Core.Bool.{cond}
use Rattle.at_text.specs.declared.unsolicited.UrcKind.{UrcKind}
use Rattle.modem_c.specs.Numbers.{is_own_in, own_kinds_in}

-- those of the places below one
abbrev below : ℕ → ℕ → List UrcKind
below own place = filter (is_own_in own) (map UrcKind.Own (range_with_len 0 place))

step : (own place : ℕ) (b : Bool) → is_own_in own (UrcKind.Own place) ≡ b → below own (place + 1) ≡ below own place ++ cond b (UrcKind.Own place ∷ []) []
step own place b is =
    filter_of_map_range_with_len_more (is_own_in own) UrcKind.Own 0 place place (omega arith)
    ∙ ap (λ (c : Bool). below own place ++ cond c (UrcKind.Own place ∷ []) []) is

-- the kind at this place is put behind the others
pub one_in : (own place : ℕ) (init before after : List UrcKind) → before ≡ init ++ below own place → own / 2 ^ place % 2 ≡ 1
    → after ≡ before ++ UrcKind.Own place ∷ [] → after ≡ init ++ below own (place + 1)
one_in own place init before after so_far is more =
    let yes = ap (λ (n : ℕ). nat_eq n 1) is in
    more
    ∙ (ap (λ (xs : List UrcKind). xs ++ UrcKind.Own place ∷ []) so_far
    ∙ (append_assoc init (below own place) (UrcKind.Own place ∷ []) ∙ ap (λ (xs : List UrcKind). init ++ xs) (sym (step own place Bool.true yes))))

-- it isn't
pub none_in : (own place : ℕ) (init before after : List UrcKind) → before ≡ init ++ below own place → own / 2 ^ place % 2 ≢ 1
    → after ≡ before → after ≡ init ++ below own (place + 1)
none_in own place init before after so_far is same =
    let few = bit_at-lt own place in
    let zero : bit_at own place ≡ 0 = no_bit (bit_at own place) few is in
    let no = ap (λ (n : ℕ). nat_eq n 1) zero in
    same ∙ (so_far ∙ ap (λ (xs : List UrcKind). init ++ xs) (sym (step own place Bool.false no ∙ append-nil (below own place))))
  where
    no_bit : (n : ℕ) → n < 2 → n ≢ 1 → n ≡ 0
    no_bit n few is = omega (arith, few, is)

-- those of all places
pub all_in : (own place : ℕ) (init now : List UrcKind) → now ≡ init ++ below own place → 64 ≤ place → place ≤ 64 → now ≡ init ++ own_kinds_in own
all_in own place init now so_far most least =
    let end : place ≡ 64 = omega (arith, most, least) in
    subst (λ (n : ℕ). now ≡ init ++ below own n) end so_far
