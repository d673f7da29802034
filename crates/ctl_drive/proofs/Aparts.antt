-- At most one line of each connection is under way.
use Rattle.std.specs.Prelude.{◌≡◌, ◌≢◌, ◌≤◌, ℕ, ◌+◌, ◌==◌, ◌||◌, Bool, true, false, List, [], ◌∷◌, ◌++◌, drop, filter, length, refl, take, if◌then◌else◌}
use Rattle.std.proofs.Common.{ap, sym, subst, arith, rules, true≢false, ◌∙◌}
use Rattle.std.proofs.lemmas.List.{drop-drop, length-append, take-append-drop}
use Rattle.std.proofs.lemmas.List.Elements.{filter-append}
use Rattle.ctl_drive.specs.Showing.{AreApart, is_busy}
use Rattle.ctl_drive.specs.declared.users.UnderWay.{UnderWay}

abbrev on : ℕ → UnderWay → Bool
on d u = u.dlci.number == d

abbrev count : ℕ → List UnderWay → ℕ
count d us = length (filter (on d) us)

count_append : (d : ℕ) (us vs : List UnderWay) → count d (us ++ vs) ≡ count d us + count d vs
count_append d us vs = ap (length {A = UnderWay}) (filter-append (on d) us vs) ∙ length-append (filter (on d) us) (filter (on d) vs)

none_if : (b : Bool) (u : UnderWay) (found : List UnderWay) (rest : Bool) → (b || rest) ≡ false → (rest ≡ false → length found ≡ 0) → length (if b then u ∷ found else found) ≡ 0
none_if true u found rest e h = absurd (true≢false e)
none_if false u found rest e h = h e

-- of a connection that isn't busy there is none
none_on : (d : ℕ) (us : List UnderWay) → is_busy d us ≡ false → count d us ≡ 0
none_on d [] e = refl
none_on d (u ∷ us) e = none_if (on d u) u (filter (on d) us) (is_busy d us) e (none_on d us)

one_if : (b : Bool) (u : UnderWay) → length (if b then u ∷ [] else []) ≤ 1
one_if true u = omega arith
one_if false u = omega arith

-- where no line is under way, no connection has two
pub apart_none : AreApart []
unfolding AreApart
apart_none d = omega arith

-- numbers that compare equal are equal
pub equal : (m n : ℕ) → (m == n) ≡ true → m ≡ n
equal m n h = search rules

-- and those that don't aren't
pub unequal : (m n : ℕ) → (m == n) ≡ false → n ≢ m
unequal m n h e = true≢false (sym (ap (λ (k : ℕ). m == k) e ∙ same m) ∙ h)
  where
    same : (k : ℕ) → (k == k) ≡ true
    same k = search rules

same_if : (d : ℕ) (us : List UnderWay) (u : UnderWay) (b : Bool) → on d u ≡ b → is_busy u.dlci.number us ≡ false → count d us ≤ 1 → count d us + length (if b then u ∷ [] else []) ≤ 1
same_if d us u true is free few =
    let same : u.dlci.number ≡ d = equal u.dlci.number d is in
    let none : count d us ≡ 0 = none_on d us (subst (λ (e : ℕ). is_busy e us ≡ false) same free) in
    omega (arith, none)
same_if d us u false is free few = omega (arith, few)

-- a line of a connection that isn't busy
pub apart_more : (us : List UnderWay) (u : UnderWay) → is_busy u.dlci.number us ≡ false → AreApart us → AreApart (us ++ u ∷ [])
unfolding AreApart
apart_more us u free h d = subst (λ (n : ℕ). n ≤ 1) (sym (count_append d us (u ∷ []))) (same_if d us u (on d u) refl free (h d))

-- one of them isn't under way any more
fewer_if : (d : ℕ) (xs : List UnderWay) → count d (drop 1 xs) ≤ count d xs
fewer_if d [] = omega arith
fewer_if d (u ∷ us) = by_test (on d u) (filter (on d) us)
  where
    by_test : (b : Bool) (found : List UnderWay) → length found ≤ length (if b then u ∷ found else found)
    by_test true found = omega arith
    by_test false found = omega arith

-- and none has two where one line isn't under way any more
pub apart_fewer : (us : List UnderWay) (at : ℕ) → AreApart us → AreApart (take at us ++ drop (at + 1) us)
unfolding AreApart
apart_fewer us at h d =
    let whole : count d us ≡ count d (take at us) + count d (drop at us) = ap (count d) (sym (take-append-drop at us)) ∙ count_append d (take at us) (drop at us) in
    let parts : count d (take at us ++ drop (at + 1) us) ≡ count d (take at us) + count d (drop (at + 1) us) = count_append d (take at us) (drop (at + 1) us) in
    let behind : drop (at + 1) us ≡ drop 1 (drop at us) = sym (drop-drop 1 at us) in
    let less : count d (drop (at + 1) us) ≤ count d (drop at us) = subst (λ (xs : List UnderWay). count d xs ≤ count d (drop at us)) (sym behind) (fewer_if d (drop at us)) in
    let few = h d in
    omega (arith, whole, parts, less, few)
