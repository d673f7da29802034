-- Octets of a candidate whose check octet hasn't come.
use Rattle.std.specs.Prelude.{◌≡◌, ◌≢◌, ℕ, ◌+◌, ◌*◌, ◌/◌, ◌%◌, ◌≤◌, ◌==◌, nat_lt, Bool, true, false, List, [], ◌∷◌, ◌++◌, length, Option, None, Some, if◌then◌else◌, slice_get}
use Rattle.std.proofs.Common.{refl, sym, ap, arith}
use Rattle.std.proofs.lemmas.Bool.{eqb-true}
use Rattle.std.proofs.lemmas.Option.{slice_get_past}
use Rattle.mux_frame.specs.Spelling.{flag, most_info}
use Rattle.mux_frame.specs.declared.frame.Kind.{Kind}
use Rattle.mux_frame.specs.Judging.{Header, Verdict, unfinished, refused, fits, kind_in, header_of, by_second_length, by_kind, by_control, by_header, by_end, by_rest, verdict_on}
use Rattle.mux_frame.specs.Deframing.{decision_on}
use Rattle.mux_frame.specs.Judged.{len_to_check}
use Rattle.mux_frame.proofs.candidates.Headers.{not_refused, same_header}

-- A header is as long as its length octets say.

-- the place of the check octet behind the flag
abbrev place_of : Header → ℕ
place_of h = h.size + h.info_len

abbrev told : ℕ → ℕ → ℕ
told l m = if l % 2 == 1 then 3 + l / 2 else 4 + (l / 2 + 128 * m)

module _ (most x y l m : ℕ) (k : Kind) where
  second-at : (h : Header) (b : Bool) → (if b then refused else fits (header_of x y k (l / 2 + 128 * m) (l ∷ m ∷ []))) ≡ fits h → place_of h ≡ 4 + (l / 2 + 128 * m)
  second-at h true d = absurd (not_refused h d)
  second-at h false d = ap place_of (sym (same_header _ h d))

  first-at : (h : Header) (b c : Bool) → (if b then refused else (if c then fits (header_of x y k (l / 2) (l ∷ [])) else by_second_length most x y k l (Some m))) ≡ fits h → place_of h ≡ (if c then 3 + l / 2 else 4 + (l / 2 + 128 * m))
  first-at h true c d = absurd (not_refused h d)
  first-at h false true d = ap place_of (sym (same_header _ h d))
  first-at h false false d = second-at h (nat_lt most (l / 2 + 128 * m)) d

kind_place : (n1 x y l m : ℕ) (o : Option Kind) (h : Header) → by_kind n1 x y o (Some l) (Some m) ≡ fits h → place_of h ≡ told l m
kind_place n1 x y l m None h d = absurd (not_refused h d)
kind_place n1 x y l m (Some k) h d = first-at (most_info n1 k) x y l m k h (nat_lt (most_info n1 k) (l / 2)) (l % 2 == 1) d

address_place : (n1 x y l m : ℕ) (h : Header) (b c : Bool) → (if b then (if c then by_control n1 x (Some y) (Some l) (Some m) else refused) else refused) ≡ fits h → place_of h ≡ told l m
address_place n1 x y l m h false c d = absurd (not_refused h d)
address_place n1 x y l m h true false d = absurd (not_refused h d)
address_place n1 x y l m h true true d = kind_place n1 x y l m (kind_in y) h d

header_place : (n1 x y l m : ℕ) (h : Header) → by_header n1 (Some x) (Some y) (Some l) (Some m) ≡ fits h → place_of h ≡ told l m
unfolding by_header
header_place n1 x y l m h d = address_place n1 x y l m h (x % 2 == 1) (nat_lt (x / 4) 62) d

-- Where its check octet hasn't come, nothing is told.

end_open : (h : Header) (check close : Option ℕ) → check ≡ None → unfinished ≡ by_end h check close
unfolding by_end
end_open h None close e = refl
end_open h (Some x) close e = cc

rest_open : (s t : List ℕ) (v : Verdict) → by_rest s v ≢ refused → ((h : Header) → v ≡ fits h → length t ≤ place_of h) → unfinished ≡ by_rest t v
rest_open s t unfinished k short = refl
rest_open s t refused k short = absurd (k refl)
rest_open s t (fits h) k short = end_open h _ _ (slice_get_past t (place_of h) (short h refl))

told_so : (l m n : ℕ) (c : Bool) → n + 1 ≤ (if c then 4 + l / 2 else 5 + l / 2 + 128 * m) → n ≤ (if c then 3 + l / 2 else 4 + (l / 2 + 128 * m))
told_so l m n true s = omega (arith, s)
told_so l m n false s = omega (arith, s)

module _ (n1 x y l m : ℕ) (s t : List ℕ) where
  abbrev behind : List ℕ → List ℕ
  behind u = x ∷ y ∷ l ∷ m ∷ u

  verdict_open : verdict_on n1 (behind s) ≢ refused → length (behind t) ≤ told l m → unfinished ≡ verdict_on n1 (behind t)
  unfolding verdict_on
  verdict_open k short =
      rest_open (behind s) (behind t) (by_header n1 (Some x) (Some y) (Some l) (Some m)) k
      (λ h e. let p = header_place n1 x y l m h e in omega (arith, p, short))

  open-at : (b : Bool) → (if b then verdict_on n1 (behind s) else refused) ≢ refused → length (behind t) ≤ told l m → unfinished ≡ (if b then verdict_on n1 (behind t) else refused)
  open-at true k short = verdict_open k short
  open-at false k short = absurd (k refl)

none_open : (n1 : ℕ) (u : List ℕ) → length u ≤ 0 → unfinished ≡ decision_on n1 u
none_open n1 [] e = refl
none_open n1 (x ∷ u) e = absurd (omega (arith, e))

-- octets that aren't refused, with more behind them, may become a frame while the check octet hasn't come
pub short_open : (n1 : ℕ) (u more : List ℕ) → decision_on n1 u ≢ refused → length (u ++ more) ≤ len_to_check u → unfinished ≡ decision_on n1 (u ++ more)
short_open n1 [] more k short = none_open n1 more short
short_open n1 (f ∷ []) more k short = absurd (omega (arith, short))
short_open n1 (f ∷ x ∷ []) more k short = absurd (omega (arith, short))
short_open n1 (f ∷ x ∷ y ∷ []) more k short = absurd (omega (arith, short))
short_open n1 (f ∷ x ∷ y ∷ l ∷ []) more k short = absurd (omega (arith, short))
short_open n1 (f ∷ x ∷ y ∷ l ∷ m ∷ t) more k short =
    open-at n1 x y l m t (t ++ more) (f == flag) k
    (told_so l m (length (x ∷ y ∷ l ∷ m ∷ (t ++ more))) (l % 2 == 1) (omega (arith, short)))

-- What the length octets tell.

-- where both have come
pub len_told : (u : List ℕ) (l m : ℕ) → Some l ≡ slice_get u 3 → Some m ≡ slice_get u 4 → (if l % 2 == 1 then 4 + l / 2 else 5 + l / 2 + 128 * m) ≡ len_to_check u
len_told [] l m e g = cc
len_told (f ∷ []) l m e g = cc
len_told (f ∷ x ∷ []) l m e g = cc
len_told (f ∷ x ∷ y ∷ []) l m e g = cc
len_told (f ∷ x ∷ y ∷ k ∷ []) l m e g = cc
len_told (f ∷ x ∷ y ∷ k ∷ n ∷ t) l m e g = cc

even-at : (b : Bool) (l m n : ℕ) → (l % 2 == 1) ≡ b → l % 2 ≢ 1 → (if b then 4 + l / 2 else 5 + l / 2 + 128 * m) ≡ n → 5 + l / 2 + 128 * m ≡ n
even-at true l m n e k h = absurd (k (eqb-true (l % 2) 1 e))
even-at false l m n e k h = h

-- and both count
pub len_even : (u : List ℕ) (l m : ℕ) → Some l ≡ slice_get u 3 → Some m ≡ slice_get u 4 → l % 2 ≢ 1 → 5 + l / 2 + 128 * m ≡ len_to_check u
len_even u l m e g k = even-at (l % 2 == 1) l m (len_to_check u) refl k (len_told u l m e g)

-- where the second hasn't come
pub len_untold : (u : List ℕ) → None ≡ slice_get u 4 → 0 ≡ len_to_check u
len_untold [] e = refl
len_untold (f ∷ []) e = refl
len_untold (f ∷ x ∷ []) e = refl
len_untold (f ∷ x ∷ y ∷ []) e = refl
len_untold (f ∷ x ∷ y ∷ k ∷ []) e = refl
len_untold (f ∷ x ∷ y ∷ k ∷ n ∷ t) e = cc

-- where the first hasn't
pub len_none : (u : List ℕ) → None ≡ slice_get u 3 → 0 ≡ len_to_check u
len_none [] e = refl
len_none (f ∷ []) e = refl
len_none (f ∷ x ∷ []) e = refl
len_none (f ∷ x ∷ y ∷ []) e = refl
len_none (f ∷ x ∷ y ∷ k ∷ t) e = cc
