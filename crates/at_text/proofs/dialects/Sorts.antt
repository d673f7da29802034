-- Rules of two sorts with a line in common.
use Rattle.std.specs.Prelude.{◌≡◌, ℕ, Bool, true, false, ◌||◌, List, [], ◌∷◌, refl, codes}
use Rattle.std.specs.List.{list_any, list_all}
use Rattle.std.proofs.Common.{sym, ◌∙◌, ap, inl, inr}
use Rattle.std.proofs.lemmas.Bool.{and_parts, or_cases, or_left, or_right, or_parts, both_ways}
use Rattle.at_text.specs.declared.rules.Form.TheVariants.{Prefix}
use Rattle.at_text.specs.declared.rules.Pattern.{Pattern}
use Rattle.at_text.specs.Commands.{has_at}
use Rattle.at_text.specs.Rules.{pattern, takes}
use Rattle.at_text.specs.Refusals.{is_short, TakesCommand}
use Rattle.at_text.specs.Deciding.{can_meet, can_take_command}
use Rattle.at_text.proofs.dialects.Meeting.{meet_met, meet_shown}
use Rattle.at_text.proofs.dialects.Standard.{takes_prefix}

-- a line of one rule and of one of some
pub record MetAny {X : Type 0} (view : X → Pattern) (p : Pattern) (xs : List X) : Type 0 where
  pub line : List ℕ
  pub one : takes p line ≡ true
  pub any : list_any (λ x. takes (view x) line) xs ≡ true

-- a rule that can meet one of some has a line in common with one of them
pub met_any : {X : Type 0} (view : X → Pattern) (p : Pattern) (xs : List X) → list_any (λ x. can_meet p (view x)) xs ≡ true → MetAny view p xs
met_any view p [] h = cc
met_any view p (x ∷ xs) h =
    elim (or_cases (can_meet p (view x)) (list_any (λ y. can_meet p (view y)) xs) h) [
      | inl a ↦ let m = meet_met p (view x) a in record { line = m.line; one = m.one; any = or_left (takes (view x) m.line) (list_any (λ y. takes (view y) m.line) xs) m.other }
      | inr b ↦ let m = met_any view p xs b in record { line = m.line; one = m.one; any = or_right (takes (view x) m.line) (list_any (λ y. takes (view y) m.line) xs) m.any }
    ]

-- the texts of all are short
abbrev pub are_short : {X : Type 0} → (X → Pattern) → List X → Bool
are_short view xs = list_all (λ x. is_short (view x).text) xs

-- a short rule with a line in common with one of some short ones can meet one of them
pub any_met : {X : Type 0} (view : X → Pattern) (p : Pattern) → is_short p.text ≡ true → (xs : List X) → are_short view xs ≡ true → (line : List ℕ) → takes p line ≡ true
    → list_any (λ x. takes (view x) line) xs ≡ true → list_any (λ x. can_meet p (view x)) xs ≡ true
any_met view p short [] shorts line one any = any
any_met view p short (x ∷ xs) shorts line one any =
    let parts = and_parts (is_short (view x).text) (are_short view xs) shorts in
    elim (or_cases (takes (view x) line) (list_any (λ y. takes (view y) line) xs) any) [
      | inl a ↦ or_left (can_meet p (view x)) (list_any (λ y. can_meet p (view y)) xs) (meet_shown p (view x) short parts.0 line one a)
      | inr b ↦ or_right (can_meet p (view x)) (list_any (λ y. can_meet p (view y)) xs) (any_met view p short xs parts.1 line one b)
    ]

-- rules of two lists of which no two meet have no line in common
pub apart : {X Y : Type 0} (view : X → Pattern) (look : Y → Pattern) (xs : List X) (ys : List Y) → are_short view xs ≡ true → are_short look ys ≡ true
    → list_any (λ x. list_any (λ y. can_meet (view x) (look y)) ys) xs ≡ false → (line : List ℕ)
    → list_any (λ x. takes (view x) line) xs ≡ true → list_any (λ y. takes (look y) line) ys ≡ true → ⊥
apart view look [] ys short shorts none line one any = cc
apart view look (x ∷ xs) ys short shorts none line one any =
    let parts = and_parts (is_short (view x).text) (are_short view xs) short in
    let nones = or_parts (list_any (λ y. can_meet (view x) (look y)) ys) (list_any (λ z. list_any (λ y. can_meet (view z) (look y)) ys) xs) none in
    elim (or_cases (takes (view x) line) (list_any (λ z. takes (view z) line) xs) one) [
      | inl a ↦ both_ways (list_any (λ y. can_meet (view x) (look y)) ys) nones.0 (any_met look (view x) parts.0 ys shorts line a any)
      | inr b ↦ apart view look xs ys parts.1 shorts nones.1 line b any
    ]

-- ## Command lines

-- the two rules that take what begins as a command line does
abbrev pub commands : List Pattern
commands = pattern Prefix (codes "AT") ∷ pattern Prefix (codes "at") ∷ []

or_false : (b : Bool) → (b || false) ≡ b
or_false true = refl
or_false false = refl

-- a text begins with AT or at just where one of them takes it
pub has_at_taken : (line : List ℕ) → has_at line ≡ list_any (λ p. takes p line) commands
has_at_taken line = rw (takes_prefix (codes "AT") line, takes_prefix (codes "at") line, or_false) refl

-- a rule that can meet one of them takes a command
pub command_met : (p : Pattern) → can_take_command p ≡ true → TakesCommand p
command_met p h =
    let m = met_any (λ q. q) p commands (ap (λ b. can_meet p (pattern Prefix (codes "AT")) || b) (or_false (can_meet p (pattern Prefix (codes "at")))) ∙ h) in
    record { line = m.line; begins = has_at_taken m.line ∙ m.any; taken = m.one }

-- a short rule that takes a command can meet one of them
pub command_shown : (p : Pattern) → is_short p.text ≡ true → TakesCommand p → can_take_command p ≡ true
command_shown p short t =
    ap (λ b. can_meet p (pattern Prefix (codes "AT")) || b) (sym (or_false (can_meet p (pattern Prefix (codes "at")))))
    ∙ any_met (λ q. q) p short commands refl t.line t.taken (sym (has_at_taken t.line) ∙ t.begins)
