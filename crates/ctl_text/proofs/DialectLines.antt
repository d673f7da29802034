-- The lines of a dialect's text, read one after the other.
use Rattle.std.specs.Prelude.{◌≡◌, ℕ, ◌+◌, ◌-◌, ◌<◌, ◌≤◌, true, false, List, [], ◌∷◌, ◌++◌, length, take, refl}
use Rattle.std.proofs.Common.{sym, ap, arith, ◌∙◌, subst}
use Rattle.std.proofs.lemmas.List.{append_assoc, append-nil, length-append}
use Rattle.std.proofs.Math.Seq.{take-append_seam}
use Rattle.at_text.specs.declared.dialect_error.DialectError.{DialectError}
use Rattle.at_text.specs.Refusals.{HasNoReasonBelow, IsRefused}
use Rattle.at_text.specs.Rules.{Rules, Rule, no_rules, with_rule}
use Rattle.ctl_text.specs.DialectTexts.{AreLinesOf, HasNoRule, HasRefusedRule, FindsClash, HasClash, IsDialectRefusal, IsFirstBadRule, Makes, RefusesAt, SaysNone, SaysRule, adds, ends, is_passed_over, passes}
use Rattle.ctl_text.specs.declared.dialects.DialectRefusal.{DialectRefusal}
use Rattle.ctl_text.specs.declared.dialects.RulePart.{RulePart}
use Rattle.ctl_text.specs.Input.{input_lines}

-- so many lines are read, and make these rules
pub record IsMade (text left : List ℕ) (place : ℕ) (rules : Rules) : Type 0 where
  pub before : List (List ℕ)
  pub split : input_lines text ≡ before ++ input_lines left
  pub counted : place ≡ length before
  pub made : AreLinesOf before rules
  pub small : place + length left ≤ length text

-- no line is read yet
pub made_none : (text : List ℕ) (rules : Rules) → rules ≡ no_rules → IsMade text text 0 rules
made_none text rules e = rw e (record { before = []; split = refl; counted = refl; made = ends no_rules; small = omega arith })

makes_pass : (old new : Rules) (lines : List (List ℕ)) (line : List ℕ) → Makes old lines new → is_passed_over line ≡ true → Makes old (lines ++ line ∷ []) new
makes_pass _ _ _ line (ends rules) p = passes rules rules line [] p (ends rules)
makes_pass _ _ _ line (passes old new first lines q m) p = passes old new first (lines ++ line ∷ []) q (makes_pass old new lines line m p)
makes_pass _ _ _ line (adds old new first lines rule s n m) p = adds old new first (lines ++ line ∷ []) rule s n (makes_pass (with_rule old rule) new lines line m p)

makes_add : (old new : Rules) (lines : List (List ℕ)) (line : List ℕ) (rule : Rule) → Makes old lines new → SaysRule line rule → HasNoReasonBelow 8 new rule → Makes old (lines ++ line ∷ []) (with_rule new rule)
makes_add _ _ _ line rule (ends rules) s n = adds rules (with_rule rules rule) line [] rule s n (ends (with_rule rules rule))
makes_add _ _ _ line rule (passes old new first lines q m) s n = passes old (with_rule new rule) first (lines ++ line ∷ []) q (makes_add old new lines line rule m s n)
makes_add _ _ _ line rule (adds old new first lines other t o m) s n =
    adds old (with_rule new rule) first (lines ++ line ∷ []) other t o (makes_add (with_rule old other) new lines line rule m s n)

goes_on : (text left line rest : List ℕ) (place : ℕ) (rules later : Rules) (h : IsMade text left place rules) → input_lines left ≡ line ∷ input_lines rest → length rest < length left
    → AreLinesOf (h.before ++ line ∷ []) later → IsMade text rest (place + 1) later
goes_on text left line rest place rules later h cut less made = record {
  before = h.before ++ line ∷ [];
  split = h.split ∙ (ap (λ (l : List (List ℕ)). h.before ++ l) cut ∙ sym (append_assoc h.before (line ∷ []) (input_lines rest)));
  counted = ap (λ (n : ℕ). n + 1) h.counted ∙ sym (length-append h.before (line ∷ []));
  made = made;
  small = let s = h.small in omega (arith, s, less);
}

-- a line that is passed over
pub made_pass : (text left line rest : List ℕ) (place : ℕ) (rules : Rules) → IsMade text left place rules → input_lines left ≡ line ∷ input_lines rest → length rest < length left → is_passed_over line ≡ true → IsMade text rest (place + 1) rules
made_pass text left line rest place rules h cut less p =
    goes_on text left line rest place rules rules h cut less (makes_pass no_rules rules h.before line h.made p)

-- a line with a rule
pub made_add : (text left line rest : List ℕ) (place : ℕ) (rules later : Rules) (rule : Rule) → IsMade text left place rules → input_lines left ≡ line ∷ input_lines rest → length rest < length left
    → SaysRule line rule → HasNoReasonBelow 8 rules rule → later ≡ with_rule rules rule → IsMade text rest (place + 1) later
made_add text left line rest place rules later rule h cut less s n e =
    rw e (goes_on text left line rest place rules (with_rule rules rule) h cut less (makes_add no_rules rules h.before line rule h.made s n))

-- nothing is left: the lines of the whole text make these rules
pub made_all : (text left : List ℕ) (place : ℕ) (rules : Rules) → IsMade text left place rules → left ≡ [] → AreLinesOf (input_lines text) rules
made_all text left place rules h e =
    let all : input_lines text ≡ h.before = h.split ∙ (ap (λ (l : List ℕ). h.before ++ input_lines l) e ∙ append-nil h.before) in
    rw all h.made

bad_line : (IsBad : List (List ℕ) → Rules → List ℕ → Type 0) (text left line rest : List ℕ) (place : ℕ) (rules : Rules) (h : IsMade text left place rules) → input_lines left ≡ line ∷ input_lines rest → IsBad h.before rules line
    → IsFirstBadRule IsBad (input_lines text) (place + 1)
bad_line IsBad text left line rest place rules h cut bad = record {
  before = h.before;
  line = line;
  after = input_lines rest;
  split = h.split ∙ ap (λ (l : List (List ℕ)). h.before ++ l) cut;
  counted = ap (λ (n : ℕ). n + 1) h.counted;
  rules = rules;
  made = h.made;
  bad = bad;
}

-- a line that says no rule
pub none_there : (text left line rest : List ℕ) (place : ℕ) (rules : Rules) (wrong : RulePart) → IsMade text left place rules → input_lines left ≡ line ∷ input_lines rest → is_passed_over line ≡ false → SaysNone wrong line
    → IsFirstBadRule (HasNoRule wrong) (input_lines text) (place + 1)
none_there text left line rest place rules wrong h cut p s = bad_line (HasNoRule wrong) text left line rest place rules h cut (record { is_read = p; none = s })

before_is : (text left : List ℕ) (place : ℕ) (rules : Rules) (h : IsMade text left place rules) → take place (input_lines text) ≡ h.before
before_is text left place rules h = rw (h.split, h.counted) (take-append_seam h.before (input_lines left))

-- a line whose rule is refused
pub refused_there : (text left line rest : List ℕ) (place : ℕ) (rules : Rules) (rule : Rule) (why : DialectError) (r : DialectRefusal) → IsMade text left place rules → input_lines left ≡ line ∷ input_lines rest → SaysRule line rule → IsRefused rules rule why
    → RefusesAt rule (take place (input_lines text)) place why r → IsDialectRefusal (input_lines text) r
refused_there text left line rest place rules rule why r h cut s refused told =
    by_reason why refused told (λ x. bad_line (HasRefusedRule why) text left line rest place rules h cut (record { rule = rule; says = s; refused = refused }))
  where
    by_reason : (e : DialectError) → IsRefused rules rule e → RefusesAt rule (take place (input_lines text)) place e r → (Unit {0} → IsFirstBadRule (HasRefusedRule e) (input_lines text) (place + 1)) → IsDialectRefusal (input_lines text) r
    by_reason DialectError.TooManyRules i t b = rw t (b tt, λ same. cc, λ same. cc)
    by_reason DialectError.NoText i t b = rw t (b tt, λ same. cc, λ same. cc)
    by_reason DialectError.TextTooLong i t b = rw t (b tt, λ same. cc, λ same. cc)
    by_reason DialectError.LineEnd i t b = rw t (b tt, λ same. cc, λ same. cc)
    by_reason DialectError.BadName i t b = rw t (b tt, λ same. cc, λ same. cc)
    by_reason DialectError.Command i t b = rw t (b tt, λ same. cc, λ same. cc)
    by_reason DialectError.Ambiguous i t b =
        rw t.named (bad_line (HasClash t.found) text left line rest place rules h cut (record { rule = rule; says = s; refused = i; finds = subst (λ (l : List (List ℕ)). FindsClash rule l t.found) (before_is text left place rules h) t.finds }))
    by_reason DialectError.NoMemory i t b = rw t tt

-- one more, and one less again, is the same number
pub one_less : (n : ℕ) → (n + 1) - 1 ≡ n
one_less n = omega arith
