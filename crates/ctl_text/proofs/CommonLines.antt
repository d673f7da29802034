-- What a rule has a line in common with.
use Rattle.std.specs.Prelude.{◌≡◌, ℕ, zero, suc, ◌≤◌, ◌<◌, ◌+◌, Bool, true, false, List, [], ◌∷◌, ◌++◌, length, find, take, Option, Some, None, MatchOption, refl, if◌then◌else◌}
use Rattle.std.proofs.Common.{sym, ap, arith, ◌∙◌, subst}
use Rattle.std.proofs.lemmas.List.{append_assoc, append-nil, length-append, take_all}
use Rattle.std.proofs.Math.Seq.{take-append_seam}
use Rattle.at_text.specs.declared.clashes.StandardLine.{StandardLine}
use Rattle.at_text.specs.declared.clashes.StandardLine.TheVariants as standard
use Rattle.at_text.specs.Deciding.{can_meet}
use Rattle.at_text.specs.Refusals.{HaveLineInCommon, pattern_of, text_of}
use Rattle.at_text.specs.Rules.{Rule, FinalRule, UrcRule}
use Rattle.at_text.specs.StandardRules.{standard_pattern}
use Rattle.at_text.proofs.dialects.Meeting.{meet_met, none_in_common}
use Rattle.ctl_text.specs.DialectTexts.{AreApart, AreApartFrom, AreOfTwoSorts, ClashesFirst, ClashesWith, IsApart, IsOfStandard, SaysNoRule, SaysRule}
use Rattle.ctl_text.specs.Input.{input_lines}
use Rattle.ctl_text.proofs.RuleLines.{one_rule}

-- ## A line

-- a line that says no rule
pub apart_none : (rule : Rule) (line : List ℕ) → SaysNoRule line → IsApart rule line
apart_none rule line none other says sorts short = absurd (none other says)

-- a line says one rule, so it is enough to know of that
pub apart_by : (rule o : Rule) (line : List ℕ) → SaysRule line o
    → (AreOfTwoSorts rule o → length (text_of o) ≤ 64 → HaveLineInCommon (pattern_of rule) (pattern_of o) → ⊥) → IsApart rule line
apart_by rule o line says none other s sorts short common =
    subst (λ (r : Rule). AreOfTwoSorts rule r → length (text_of r) ≤ 64 → HaveLineInCommon (pattern_of rule) (pattern_of r) → ⊥) (one_rule line o other says s) none sorts short common

-- ## Lines of the standards

same_text : (rule : Rule) → (pattern_of rule).text ≡ text_of rule
same_text (FinalRule form text) = refl
same_text (UrcRule form text name) = refl

standard_short : (s : StandardLine) → length (standard_pattern s).text ≤ 64
standard_short standard.Ok = omega arith
standard_short standard.Error = omega arith
standard_short standard.CmeError = omega arith
standard_short standard.Ring = omega arith
standard_short standard.Cring = omega arith
standard_short standard.Creg = omega arith
standard_short standard.Cgreg = omega arith
standard_short standard.Cgev = omega arith
standard_short standard.Ciev = omega arith

apart_at : (rule : Rule) (s : StandardLine) → can_meet (pattern_of rule) (standard_pattern s) ≡ false → length (text_of rule) ≤ 64
    → HaveLineInCommon (pattern_of rule) (standard_pattern s) → ⊥
apart_at rule s none short common = none_in_common (pattern_of rule) (standard_pattern s) (rw (same_text rule) short) (standard_short s) none common

-- the first of these lines that is of the rule; or, if its text is short, none is
abbrev pub FindsIn : Rule → List StandardLine → Option StandardLine → Type 0
FindsIn rule lines o = MatchOption o (length (text_of rule) ≤ 64 → AreApartFrom rule lines) (λ s. IsOfStandard rule lines s)

behind : (rule : Rule) (s : StandardLine) (rest : List StandardLine) (o : Option StandardLine) → can_meet (pattern_of rule) (standard_pattern s) ≡ false → FindsIn rule rest o → FindsIn rule (s ∷ rest) o
behind rule s rest None none finds = λ short. (apart_at rule s none short, finds short)
behind rule s rest (Some found) none finds = record {
  before = s ∷ finds.before;
  after = finds.after;
  split = ap (λ (l : List StandardLine). s ∷ l) finds.split;
  common = finds.common;
  apart = λ short. (apart_at rule s none short, finds.apart short);
}

-- it is the first that the rule can meet
pub finds_in : (rule : Rule) (lines : List StandardLine) → FindsIn rule lines (find (λ s. can_meet (pattern_of rule) (standard_pattern s)) lines)
finds_in rule [] = λ short. tt
finds_in rule (s ∷ rest) = by_first (can_meet (pattern_of rule) (standard_pattern s)) refl (finds_in rule rest)
  where
    by_first : (b : Bool) → can_meet (pattern_of rule) (standard_pattern s) ≡ b → FindsIn rule rest (find (λ z. can_meet (pattern_of rule) (standard_pattern z)) rest)
        → FindsIn rule (s ∷ rest) (if b then Some s else find (λ z. can_meet (pattern_of rule) (standard_pattern z)) rest)
    by_first true meets finds = record { before = []; after = rest; split = refl; common = meet_met (pattern_of rule) (standard_pattern s) meets; apart = λ short. tt }
    by_first false none finds = behind rule s rest _ none finds

-- ## Lines before the rule

-- so many lines are read, and none of them has a rule with a line in common
pub record AreRead (rule : Rule) (text left : List ℕ) (place : ℕ) : Type 0 where
  pub before : List (List ℕ)
  pub split : input_lines text ≡ before ++ input_lines left
  pub counted : place ≡ length before
  pub apart : length (text_of rule) ≤ 64 → AreApart rule before

-- no line is read yet
pub read_none : (rule : Rule) (text : List ℕ) → AreRead rule text text 0
read_none rule text = record { before = []; split = refl; counted = refl; apart = λ short. tt }

apart_more : (rule : Rule) (lines : List (List ℕ)) (line : List ℕ) → AreApart rule lines → IsApart rule line → AreApart rule (lines ++ line ∷ [])
apart_more rule [] line all one = (one, tt)
apart_more rule (first ∷ lines) line all one = (all.0, apart_more rule lines line all.1 one)

-- one more line is read, which has no such rule
pub read_on : (rule : Rule) (text left line rest : List ℕ) (place : ℕ) (h : AreRead rule text left place) → input_lines left ≡ line ∷ input_lines rest
    → (length (text_of rule) ≤ 64 → IsApart rule line) → AreRead rule text rest (place + 1)
read_on rule text left line rest place h cut one = record {
  before = h.before ++ line ∷ [];
  split = h.split ∙ (ap (λ (l : List (List ℕ)). h.before ++ l) cut ∙ sym (append_assoc h.before (line ∷ []) (input_lines rest)));
  counted = ap (λ (n : ℕ). n + 1) h.counted ∙ sym (length-append h.before (line ∷ []));
  apart = λ short. apart_more rule h.before line (h.apart short) (one short);
}

-- so many of the lines
first_lines : (a b : List (List ℕ)) (n : ℕ) → n ≡ length a → take n (a ++ b) ≡ a
first_lines a b n e = rw e (take-append_seam a b)

record IsCutBehind (n : ℕ) (a b : List (List ℕ)) (line : List ℕ) : Type 0 where
  rest : List (List ℕ)
  is : take n (a ++ line ∷ b) ≡ a ++ line ∷ rest

cut_behind : (n : ℕ) (a b : List (List ℕ)) (line : List ℕ) → length a < n → IsCutBehind n a b line
cut_behind zero a b line less = absurd (omega (arith, less))
cut_behind (suc n) [] b line less = record { rest = take n b; is = refl }
cut_behind (suc n) (x ∷ a) b line less =
    let cut = cut_behind n a b line (omega (arith, less)) in
    record { rest = cut.rest; is = ap (λ (l : List (List ℕ)). x ∷ l) cut.is }

-- a line that has one
pub read_clash : (rule : Rule) (text left line rest : List ℕ) (place count : ℕ) (h : AreRead rule text left place) → input_lines left ≡ line ∷ input_lines rest → place < count
    → ClashesWith rule line → ClashesFirst rule (take count (input_lines text)) (place + 1)
read_clash rule text left line rest place count h cut less clashes =
    let behind = cut_behind count h.before (input_lines rest) line (rw (sym h.counted) less) in
    record {
      before = h.before;
      line = line;
      after = behind.rest;
      split = ap (λ (l : List (List ℕ)). take count l) (h.split ∙ ap (λ (l : List (List ℕ)). h.before ++ l) cut) ∙ behind.is;
      counted = ap (λ (n : ℕ). n + 1) h.counted;
      clashes = clashes;
      apart = h.apart;
    }

-- all of them are read
pub read_all : (rule : Rule) (text left : List ℕ) (place count : ℕ) (h : AreRead rule text left place) → place ≡ count
    → length (text_of rule) ≤ 64 → AreApart rule (take count (input_lines text))
read_all rule text left place count h same short =
    rw (h.split, first_lines h.before (input_lines left) count (sym same ∙ h.counted)) (h.apart short)

-- there are no more
pub read_end : (rule : Rule) (text left : List ℕ) (place count : ℕ) (h : AreRead rule text left place) → left ≡ [] → place ≤ count
    → length (text_of rule) ≤ 64 → AreApart rule (take count (input_lines text))
read_end rule text left place count h none less short =
    let all : input_lines text ≡ h.before = h.split ∙ (ap (λ (l : List ℕ). h.before ++ input_lines l) none ∙ append-nil h.before) in
    rw (all, take_all count h.before (rw (sym h.counted) less)) (h.apart short)
