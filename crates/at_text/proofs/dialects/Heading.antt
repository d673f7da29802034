-- The place of each rule is in the span of each line that it takes.
use Rattle.std.specs.Prelude.{◌≡◌, ℕ, zero, suc, ◌+◌, ◌-◌, ◌<◌, ◌≤◌, true, List, [], ◌∷◌, ◌++◌, length, map, take, drop, Some, option_map, slice_set, slice_index, nat_eq, replicate, refl}
use Rattle.std.specs.List.{slice_get, position, find}
use Rattle.std.proofs.Common.{arith, sym, ◌∙◌, ap, subst, get_or, get_or-set_same, get_or-set_other, inl, inr}
use Rattle.std.proofs.lemmas.Bool.{leb-true, eqb-true, cases_eq}
use Rattle.std.proofs.lemmas.Bool.Decides.{Decides-eqb}
use Rattle.std.proofs.lemmas.List.{append-nil, get_or_append_left, nil_from_length, length-take-le, length-map, take_more, map-append, take_all}
use Rattle.std.proofs.lemmas.Option.{slice_get-map}
use Rattle.at_text.specs.declared.heads.Span.{Span}
use Rattle.at_text.specs.declared.rules.Form.{Form}
use Rattle.at_text.specs.declared.rules.Form.TheVariants.{Line, Prefix, Quoted, Report, OpenReport}
use Rattle.at_text.specs.declared.rules.Pattern.{Pattern}
use Rattle.at_text.specs.declared.rules.Urc.{Urc}
use Rattle.at_text.specs.Rules.{pattern, takes, no_rules}
use Rattle.at_text.specs.Heads.{head, is_headed, no_places, span_at, IsIn, AreSpanned, IsKept}
use Rattle.at_text.proofs.dialects.Meeting.{taken}
use Rattle.at_text.proofs.dialects.Parts.{Only, found_in, placed_in}
use Rattle.at_text.proofs.dialects.Sound.{sound_standard}

head_text : (text rest : List ℕ) → 4 ≤ length text → head (text ++ rest) ≡ head text
head_text text rest l = rw (get_or_append_left text rest 0 2 (omega arith), get_or_append_left text rest 0 3 (omega arith)) refl

head_long : (p : Pattern) (line : List ℕ) → takes p line ≡ true → 4 ≤ length p.text → head line ≡ head p.text
head_long p line h l = let t = taken p line h in ap head t.whole ∙ head_text p.text t.rest l

-- a line of a rule has the last octet of the rule's text in its place
pub last_same : (p : Pattern) (line : List ℕ) → 0 < length p.text → takes p line ≡ true
    → nat_eq (slice_index line (length p.text - 1)) (slice_index p.text (length p.text - 1)) ≡ true
last_same p line long h =
    let t = taken p line h in
    (Decides-eqb (slice_index line (length p.text - 1)) (slice_index p.text (length p.text - 1))).1
    (ap (λ l. slice_index l (length p.text - 1)) t.whole ∙ get_or_append_left p.text t.rest 0 (length p.text - 1) (omega (arith, long)))

head_line : (text line : List ℕ) → takes (pattern Line text) line ≡ true → head line ≡ head text
head_line text line h =
    let t = taken (pattern Line text) line h in
    ap head (t.whole ∙ ap (λ r. text ++ r) (nil_from_length t.rest (eqb-true (length t.rest) 0 t.going)) ∙ append-nil text)

head_same : (form : Form) (text line : List ℕ) → is_headed form text ≡ true → takes (pattern form text) line ≡ true → head line ≡ head text
head_same Line text line e h = head_line text line h
head_same Prefix text line e h = head_long (pattern Prefix text) line h (leb-true 4 (length text) e)
head_same Quoted text line e h = head_long (pattern Quoted text) line h (leb-true 4 (length text) e)
head_same Report text line e h = head_long (pattern Report text) line h (leb-true 4 (length text) e)
head_same OpenReport text line e h = head_long (pattern OpenReport text) line h (leb-true 4 (length text) e)

-- ## Spans that get one more place

-- each new span has at least the places of the old one
abbrev pub Kept : List Span → List Span → Type 0
Kept old new = (k i : ℕ) → IsIn i (span_at old k) → IsIn i (span_at new k)

nothing_in : (k i : ℕ) → IsIn i (span_at [] k) → ⊥
nothing_in k i h = let l : i < 0 = h.below in omega arith

within : (spans : List Span) (k i : ℕ) → IsIn i (span_at spans k) → k < length spans
within [] k i h = absurd (nothing_in k i h)
within (s ∷ spans) zero i h = omega arith
within (s ∷ spans) (suc k) i h = let l : k < length spans = within spans k i h in omega arith

-- one span is changed to one of at least its places
pub kept_set : (spans : List Span) (at : ℕ) (new : Span) → ((i : ℕ) → IsIn i (span_at spans at) → IsIn i new) → Kept spans (slice_set spans at new)
kept_set spans at new more k i h =
    elim (cases_eq k at) [
      | inl e ↦ subst (λ j. IsIn i (span_at (slice_set spans at new) j)) (sym e)
          (subst (λ s. IsIn i s) (sym (get_or-set_same spans at new no_places (subst (λ j. j < length spans) e (within spans k i h))))
          (more i (subst (λ j. IsIn i (span_at spans j)) e h)))
      | inr ne ↦ subst (λ s. IsIn i s) (sym (get_or-set_other spans at k new no_places ne)) h
    ]

-- the head of a rule's text is that of all its lines
pub more_set : (spans : List Span) (form : Form) (text line : List ℕ) (place : ℕ) (new : Span) → length spans ≡ 64 → is_headed form text ≡ true → IsIn place new
    → takes (pattern form text) line ≡ true → IsIn place (span_at (slice_set spans (head text) new) (head line))
more_set spans form text line place new n e more h =
    subst (λ j. IsIn place (span_at (slice_set spans (head text) new) j)) (sym (head_same form text line e h))
    (subst (λ s. IsIn place s) (sym (get_or-set_same spans (head text) new no_places (omega arith))) more)

-- one more span has the place
pub more_next : (spans : List Span) (at : ℕ) (new : Span) (place : ℕ) → at < length spans → ((k : ℕ) → k < at → IsIn place (span_at spans k)) → IsIn place new
    → (k : ℕ) → k < at + 1 → IsIn place (span_at (slice_set spans at new) k)
more_next spans at new place inside before more k l =
    elim (cases_eq k at) [
      | inl e ↦ subst (λ j. IsIn place (span_at (slice_set spans at new) j)) (sym e)
          (subst (λ s. IsIn place s) (sym (get_or-set_same spans at new no_places inside)) more)
      | inr ne ↦ subst (λ s. IsIn place s) (sym (get_or-set_other spans at k new no_places ne)) (before k (grind (arith, ne)))
    ]

-- ## One more rule

split_at : {X : Type 0} (xs : List X) (i : ℕ) (x : X) → i < length xs → x ≡ get_or xs i x → take (i + 1) xs ≡ take i xs ++ x ∷ []
split_at xs i x inside is = take_more xs i x inside ∙ ap (λ y. take i xs ++ y ∷ []) (sym is)

last_or : {X : Type 0} (xs : List X) (y x : X) (i : ℕ) (P : ℕ → X → Type 0) → ((j : ℕ) (z : X) → slice_get xs j ≡ Some z → P j z) → P (length xs) y
    → slice_get (xs ++ y ∷ []) i ≡ Some x → P i x
last_or [] y x zero P f q h = let same : y ≡ x = cc in subst (P 0) same q
last_or [] y x (suc i) P f q h = cc
last_or (z ∷ xs) y x zero P f q h = f 0 x h
last_or (z ∷ xs) y x (suc i) P f q h = last_or xs y x i (λ j w. P (suc j) w) (λ j w e. f (suc j) w e) q h

-- spans that hold the places of some rules hold those of one more, if each of its lines finds it there
pub spanned_more : (rules : List Pattern) (p : Pattern) (n : ℕ) (old new : List Span) → n ≡ length rules → AreSpanned rules old → Kept old new
    → ((line : List ℕ) → takes p line ≡ true → IsIn n (span_at new (head line))) → AreSpanned (rules ++ p ∷ []) new
spanned_more rules p n old new last spanned kept more place rule line at =
    last_or rules p rule place (λ j r. takes r line ≡ true → IsIn j (span_at new (head line)))
    (λ j r e t. kept (head line) j (spanned j r line e t)) (λ t. subst (λ j. IsIn j (span_at new (head line))) last (more line t)) at

-- the same of rules that are taken one after the other
pub spanned_next : (rules : List Pattern) (i : ℕ) (p : Pattern) (old new : List Span) → i < length rules → p ≡ get_or rules i p → AreSpanned (take i rules) old → Kept old new
    → ((line : List ℕ) → takes p line ≡ true → IsIn i (span_at new (head line))) → AreSpanned (take (i + 1) rules) new
spanned_next rules i p old new inside is spanned kept more =
    subst (λ ps. AreSpanned ps new) (sym (split_at rules i p inside is))
    (spanned_more (take i rules) p i old new (sym (length-take-le i rules (omega (arith, inside)))) spanned kept more)

-- when all are taken, the spans hold the places of all
pub spanned_all : (rules : List Pattern) (i : ℕ) (spans : List Span) → length rules ≤ i → AreSpanned (take i rules) spans → AreSpanned rules spans
spanned_all rules i spans l spanned = subst (λ ps. AreSpanned ps spans) (take_all i rules l) spanned

-- the patterns of unsolicited rules
abbrev pub patterns : List Urc → List Pattern
patterns urcs = map (λ u. u.pattern) urcs

more_patterns : (urcs : List Urc) (u : Urc) → patterns (urcs ++ u ∷ []) ≡ patterns urcs ++ u.pattern ∷ []
more_patterns urcs u = map-append (λ (v : Urc). v.pattern) urcs (u ∷ [])

-- one more unsolicited rule is held by the spans, if each of its lines finds it there
pub spanned_more_urc : (urcs : List Urc) (u : Urc) (n : ℕ) (old new : List Span) → n ≡ length urcs → AreSpanned (patterns urcs) old → Kept old new
    → ((line : List ℕ) → takes u.pattern line ≡ true → IsIn n (span_at new (head line))) → AreSpanned (patterns (urcs ++ u ∷ [])) new
spanned_more_urc urcs u n old new last spanned kept more =
    subst (λ ps. AreSpanned ps new) (sym (more_patterns urcs u))
    (spanned_more (patterns urcs) u.pattern n old new (last ∙ sym (length-map urcs (λ (v : Urc). v.pattern))) spanned kept more)

-- the same of unsolicited rules taken one after the other
pub spanned_next_urc : (urcs : List Urc) (i : ℕ) (u : Urc) (old new : List Span) → i < length urcs → u ≡ get_or urcs i u → AreSpanned (patterns (take i urcs)) old → Kept old new
    → ((line : List ℕ) → takes u.pattern line ≡ true → IsIn i (span_at new (head line))) → AreSpanned (patterns (take (i + 1) urcs)) new
spanned_next_urc urcs i u old new inside is spanned kept more =
    subst (λ us. AreSpanned (patterns us) new) (sym (split_at urcs i u inside is))
    (spanned_more_urc (take i urcs) u i old new (sym (length-take-le i urcs (omega (arith, inside)))) spanned kept more)

-- and when all of them are taken
pub spanned_all_urcs : (urcs : List Urc) (i : ℕ) (spans : List Span) → length urcs ≤ i → AreSpanned (patterns (take i urcs)) spans → AreSpanned (patterns urcs) spans
spanned_all_urcs urcs i spans l spanned = subst (λ us. AreSpanned (patterns us) spans) (take_all i urcs l) spanned

-- any spans hold the places of no rules
pub spanned_none : (spans : List Span) → AreSpanned [] spans
spanned_none spans place rule line at h = cc

-- 64 empty spans do for a dialect without rules of its own
pub kept_standard : IsKept no_rules (replicate 64 no_places) (replicate 64 no_places)
kept_standard = record { sound = sound_standard; finals = spanned_none (replicate 64 no_places); urcs = spanned_none (replicate 64 no_places) }

-- ## Rules by a line's span

-- the final rules that take a line stand in the span of its head alone
pub only_finals : (rules : List Pattern) (spans : List Span) (line : List ℕ) → AreSpanned rules spans
    → Only (λ p. takes p line) rules (span_at spans (head line)).start (span_at spans (head line)).end
only_finals rules spans line h i p at t = let inside = h i p line at t in (inside.from, inside.below)

-- so do the unsolicited ones
pub only_urcs : (urcs : List Urc) (spans : List Span) (line : List ℕ) → AreSpanned (map (λ u. u.pattern) urcs) spans
    → Only (λ u. takes u.pattern line) urcs (span_at spans (head line)).start (span_at spans (head line)).end
only_urcs urcs spans line h i u at t =
    let inside = h i u.pattern line (slice_get-map (λ (v : Urc). v.pattern) urcs i ∙ ap (option_map (λ (v : Urc). v.pattern)) at) t in (inside.from, inside.below)

-- where the first of the final rules stands that takes a line
pub place_in : (rules : List Pattern) (spans : List Span) (line : List ℕ) (k : ℕ) (part : List Pattern) → AreSpanned rules spans → k ≡ head line
    → part ≡ drop (span_at spans k).start (take (span_at spans k).end rules)
    → position (λ p. takes p line) rules ≡ option_map (λ n. (span_at spans k).start + n) (position (λ p. takes p line) part)
place_in rules spans line k part spanned at is =
    rw (is, at) (placed_in (λ p. takes p line) rules (span_at spans (head line)).start (span_at spans (head line)).end (only_finals rules spans line spanned))

-- the first of the unsolicited rules that takes a line
pub rule_in : (urcs : List Urc) (spans : List Span) (line : List ℕ) (k : ℕ) (part : List Urc) → AreSpanned (patterns urcs) spans → k ≡ head line
    → part ≡ drop (span_at spans k).start (take (span_at spans k).end urcs) → find (λ u. takes u.pattern line) urcs ≡ find (λ u. takes u.pattern line) part
rule_in urcs spans line k part spanned at is =
    rw (is, at) (found_in (λ u. takes u.pattern line) urcs (span_at spans (head line)).start (span_at spans (head line)).end (only_urcs urcs spans line spanned))
