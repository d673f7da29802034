-- Which rule a line is of, as tests of lists.
use Rattle.std.specs.Prelude.{◌≡◌, ℕ, suc, ◌+◌, ◌<◌, nat_lt, Bool, true, false, ◌||◌, List, [], ◌∷◌, length, Option, Some, None, option_map, is_some, refl, if◌then◌else◌}
use Rattle.std.specs.List.{list_any, find, position, position_or_len}
use Rattle.std.specs.Option.{option_or}
use Rattle.std.proofs.Common.{arith, sym, ◌∙◌, ap}
use Rattle.std.proofs.lemmas.Bool.{ltb-true, lt-ltb}
use Rattle.std.proofs.lemmas.Bool.Decides.{same_from_decides, Decides-ltb}
use Rattle.at_text.specs.declared.finals.Final.TheVariants.{Named}
use Rattle.at_text.specs.declared.unsolicited.UrcKind.TheVariants.{Own}
use Rattle.at_text.specs.Finals.{final_of, is_final}
use Rattle.at_text.specs.Unsolicited.{unsolicited_of}
use Rattle.at_text.specs.Rules.{Rules, takes, final_by, kind_by}
use Rattle.at_text.specs.StandardRules.{standard_finals, standard_urcs}
use Rattle.at_text.proofs.FinalLines.{final_is}
use Rattle.at_text.proofs.dialects.Standard.{final_rules, kind_rules}

some_or : {T : Type 0} (a b : Option T) → is_some (option_or a b) ≡ (is_some a || is_some b)
some_or None b = refl
some_or (Some x) b = refl

found_at : {X R : Type 0} (test : X → Bool) (f : X → R) (x : X) (xs : List X) (b : Bool) → test x ≡ b → is_some (option_map f (find test xs)) ≡ list_any test xs
    → is_some (option_map f (find test (x ∷ xs))) ≡ (b || list_any test xs)
found_at test f x xs true e h = rw e refl
found_at test f x xs false e h = rw e h

-- something is found just where any passes
pub some_found : {X R : Type 0} (test : X → Bool) (f : X → R) (xs : List X) → is_some (option_map f (find test xs)) ≡ list_any test xs
some_found test f [] = refl
some_found test f (x ∷ xs) = found_at test f x xs (test x) refl (some_found test f xs)

-- a place before the end is that of an element that passes
below_more : (k n : ℕ) → nat_lt (1 + k) (suc n) ≡ nat_lt k n
below_more k n =
    same_from_decides (nat_lt (1 + k) (suc n)) (nat_lt k n)
    ((λ h. let l : 1 + k < suc n = ltb-true (1 + k) (suc n) h in omega arith), (λ l. lt-ltb (1 + k) (suc n) (omega arith)))
    (Decides-ltb k n)

placed_at : {X : Type 0} (test : X → Bool) (x : X) (xs : List X) (b : Bool) → test x ≡ b → nat_lt (position_or_len test xs) (length xs) ≡ list_any test xs
    → nat_lt (position_or_len test (x ∷ xs)) (length (x ∷ xs)) ≡ (b || list_any test xs)
placed_at test x xs true e h = rw e (lt-ltb 0 (suc (length xs)) (omega arith))
placed_at test x xs false e h = rw e (below_more (position_or_len test xs) (length xs) ∙ h)

placed : {X : Type 0} (test : X → Bool) (xs : List X) → nat_lt (position_or_len test xs) (length xs) ≡ list_any test xs
placed test [] = refl
placed test (x ∷ xs) = placed_at test x xs (test x) refl (placed test xs)

some_if : {T R : Type 0} (f : T → R) (b : Bool) (x : T) → is_some (option_map f (if b then Some x else None)) ≡ b
some_if f true x = refl
some_if f false x = refl

-- and has a place just there
pub some_placed : {X R : Type 0} (test : X → Bool) (f : ℕ → R) (xs : List X) → is_some (option_map f (position test xs)) ≡ list_any test xs
some_placed test f xs = some_if f (nat_lt (position_or_len test xs) (length xs)) (position_or_len test xs) ∙ placed test xs

-- ## Which lines end an answer, and which are unsolicited

-- a line is a final code of the standard just where one of its rules takes it
pub standard_final : (line : List ℕ) → is_final line ≡ list_any (λ r. takes r.0 line) standard_finals
standard_final line = sym (final_is line) ∙ ap is_some (final_rules line) ∙ some_found (λ r. takes r.0 line) (λ r. r.1 line) standard_finals

-- and unsolicited by the standard just where one of those takes it
pub standard_urc : (line : List ℕ) → is_some (unsolicited_of line) ≡ list_any (λ r. takes r.0 line) standard_urcs
standard_urc line = ap is_some (kind_rules line) ∙ some_found (λ r. takes r.0 line) (λ r. r.1) standard_urcs

-- a line ends an answer by the standard, or by a rule of one's own
pub some_final : (rules : Rules) (line : List ℕ) → is_some (final_by rules line) ≡ (is_final line || list_any (λ p. takes p line) rules.finals)
some_final rules line =
    some_or (final_of line) (option_map Named (position (λ p. takes p line) rules.finals))
    ∙ ap (λ b. is_some (final_of line) || b) (some_placed (λ p. takes p line) Named rules.finals)
    ∙ ap (λ b. b || list_any (λ p. takes p line) rules.finals) (final_is line)

-- and is unsolicited by the standard, or by a rule of one's own
pub some_urc : (rules : Rules) (line : List ℕ) → is_some (kind_by rules line) ≡ (is_some (unsolicited_of line) || list_any (λ u. takes u.pattern line) rules.urcs)
some_urc rules line =
    some_or (unsolicited_of line) (option_map (λ u. Own u.kind) (find (λ u. takes u.pattern line) rules.urcs))
    ∙ ap (λ b. is_some (unsolicited_of line) || b) (some_found (λ u. takes u.pattern line) (λ u. Own u.kind) rules.urcs)
