-- Why a rule is refused, as it is decided.
use Rattle.std.specs.Prelude.{◌≡◌, ℕ, ◌≤◌, ◌<◌, ◌==◌, nat_le, nat_lt, Bool, true, false, ◌||◌, not, List, [], ◌∷◌, ◌++◌, length, Option, Some, None, is_some, refl, if◌then◌else◌, MatchOption}
use Rattle.std.specs.Bool.{Decides}
use Rattle.std.specs.List.{list_any}
use Rattle.std.specs.Option.{option_or}
use Rattle.std.proofs.Common.{arith, sym, ◌∙◌, ap, ◌⊎◌, inl, inr}
use Rattle.std.proofs.lemmas.Bool.{or_cases, or_left, or_right, both_ways, leb-true, le-leb, ltb-true, ltb-false, lt-ltb, eqb-true, not-true, not_from_false}
use Rattle.std.proofs.lemmas.List.{nil_from_length}
use Rattle.at_text.specs.declared.dialect_error.DialectError.{DialectError}
use Rattle.at_text.specs.declared.dialect_error.DialectError.TheVariants.{TooManyRules, NoText, TextTooLong, LineEnd, BadName, Command, Ambiguous, NoMemory}
use Rattle.at_text.specs.declared.rules.Pattern.{Pattern}
use Rattle.at_text.specs.declared.rules.Urc.{Urc}
use Rattle.at_text.specs.Finals.{is_final}
use Rattle.at_text.specs.Unsolicited.{unsolicited_of}
use Rattle.at_text.specs.Lines.{is_line_end}
use Rattle.at_text.specs.Rules.{Rules, Rule, FinalRule, UrcRule, pattern, takes, with_rule, final_by, kind_by, dialect_of, urc, kind_named}
use Rattle.at_text.specs.Refusals.{Refuses, IsRefused, IsSound, IsAmbiguous, HasNoReasonBelow, is_short, is_well_named, count, text_of, pattern_of}
use Rattle.at_text.specs.Deciding.{can_meet, can_take_command, can_be_ambiguous, refusal_of}
use Rattle.at_text.specs.StandardRules.{standard_finals, standard_urcs}
use Rattle.at_text.proofs.dialects.Choosing.{standard_final, standard_urc, some_urc}
use Rattle.at_text.proofs.dialects.Sorts.{met_any, any_met, command_met, command_shown}
use Rattle.at_text.proofs.dialects.Sound.{any_push, sound_with}

-- ## Lines of the new rule and of one of the other sort

more_ends : (rules : Rules) (p : Pattern) (line : List ℕ) → takes p line ≡ true → (dialect_of (record rules { finals = rules.finals ++ p ∷ [] })).is_final line ≡ true
more_ends rules p line h =
    ap (λ b. is_final line || b) (any_push (λ q. takes q line) rules.finals p)
    ∙ or_right (is_final line) (list_any (λ q. takes q line) rules.finals || (takes p line || false))
    (or_right (list_any (λ q. takes q line) rules.finals) (takes p line || false) (or_left (takes p line) false h))

more_unasked : (rules : Rules) (u : Urc) (line : List ℕ) → takes u.pattern line ≡ true → is_some (kind_by (record rules { urcs = rules.urcs ++ u ∷ [] }) line) ≡ true
more_unasked rules u line h =
    some_urc (record rules { urcs = rules.urcs ++ u ∷ [] }) line
    ∙ ap (λ b. is_some (unsolicited_of line) || b) (any_push (λ v. takes v.pattern line) rules.urcs u)
    ∙ or_right (is_some (unsolicited_of line)) (list_any (λ v. takes v.pattern line) rules.urcs || (takes u.pattern line || false))
    (or_right (list_any (λ v. takes v.pattern line) rules.urcs) (takes u.pattern line || false) (or_left (takes u.pattern line) false h))

-- what is taken once there is one rule more was taken before, or the new one takes it
or_last : (s a b : Bool) → (s || (a || (b || false))) ≡ true → ((s || a) ≡ true) ⊎ (b ≡ true)
or_last true a b h = inl refl
or_last false true b h = inl refl
or_last false false true h = inr refl
or_last false false false h = inl h

ends_last : (rules : Rules) (p : Pattern) (line : List ℕ) → (dialect_of (record rules { finals = rules.finals ++ p ∷ [] })).is_final line ≡ true
    → ((dialect_of rules).is_final line ≡ true) ⊎ (takes p line ≡ true)
ends_last rules p line h =
    or_last (is_final line) (list_any (λ q. takes q line) rules.finals) (takes p line)
    (ap (λ b. is_final line || b) (sym (any_push (λ q. takes q line) rules.finals p)) ∙ h)

unasked_last : (rules : Rules) (u : Urc) (line : List ℕ) → is_some (kind_by (record rules { urcs = rules.urcs ++ u ∷ [] }) line) ≡ true
    → (is_some (kind_by rules line) ≡ true) ⊎ (takes u.pattern line ≡ true)
unasked_last rules u line h =
    let more = record rules { urcs = rules.urcs ++ u ∷ [] } in
    elim (or_last (is_some (unsolicited_of line)) (list_any (λ v. takes v.pattern line) rules.urcs) (takes u.pattern line)
    (ap (λ b. is_some (unsolicited_of line) || b) (sym (any_push (λ v. takes v.pattern line) rules.urcs u)) ∙ sym (some_urc more line) ∙ h)) [
      | inl a ↦ inl (some_urc rules line ∙ a)
      | inr b ↦ inr b
    ]

-- ## Whether a rule makes some line be both

ambiguous_shown : (rules : Rules) (rule : Rule) → IsSound rules → is_short (text_of rule) ≡ true → IsAmbiguous (dialect_of (with_rule rules rule)) → can_be_ambiguous rules rule ≡ true
ambiguous_shown rules (FinalRule form text) sound short both =
    let p = pattern form text in
    let line = both.line in
    elim (ends_last rules p line both.ends) [
      | inl old ↦ absurd (sound.clear (record { line = line; ends = old; unasked = both.unasked }))
      | inr new ↦ elim (or_cases (is_some (unsolicited_of line)) (list_any (λ u. takes u.pattern line) rules.urcs) (sym (some_urc rules line) ∙ both.unasked)) [
        | inl a ↦ or_left (list_any (λ r. can_meet p r.0) standard_urcs) (list_any (λ u. can_meet p u.pattern) rules.urcs)
            (any_met (λ r. r.0) p short standard_urcs refl line new (sym (standard_urc line) ∙ a))
        | inr b ↦ or_right (list_any (λ r. can_meet p r.0) standard_urcs) (list_any (λ u. can_meet p u.pattern) rules.urcs)
            (any_met (λ u. u.pattern) p short rules.urcs sound.short_urcs line new b)
      ]
    ]
ambiguous_shown rules (UrcRule form text name) sound short both =
    let p = pattern form text in
    let line = both.line in
    elim (unasked_last rules (urc (kind_named rules name) name p) line both.unasked) [
      | inl old ↦ absurd (sound.clear (record { line = line; ends = both.ends; unasked = old }))
      | inr new ↦ elim (or_cases (is_final line) (list_any (λ q. takes q line) rules.finals) both.ends) [
        | inl a ↦ or_left (list_any (λ r. can_meet p r.0) standard_finals) (list_any (λ q. can_meet p q) rules.finals)
            (any_met (λ r. r.0) p short standard_finals refl line new (sym (standard_final line) ∙ a))
        | inr b ↦ or_right (list_any (λ r. can_meet p r.0) standard_finals) (list_any (λ q. can_meet p q) rules.finals)
            (any_met (λ q. q) p short rules.finals sound.short_finals line new b)
      ]
    ]

ambiguous_met : (rules : Rules) (rule : Rule) → can_be_ambiguous rules rule ≡ true → IsAmbiguous (dialect_of (with_rule rules rule))
ambiguous_met rules (FinalRule form text) h =
    let p = pattern form text in
    elim (or_cases (list_any (λ r. can_meet p r.0) standard_urcs) (list_any (λ u. can_meet p u.pattern) rules.urcs) h) [
      | inl a ↦ let m = met_any (λ r. r.0) p standard_urcs a in record {
        line = m.line;
        ends = more_ends rules p m.line m.one;
        unasked = some_urc rules m.line ∙ or_left (is_some (unsolicited_of m.line)) (list_any (λ u. takes u.pattern m.line) rules.urcs) (standard_urc m.line ∙ m.any);
      }
      | inr b ↦ let m = met_any (λ u. u.pattern) p rules.urcs b in record {
        line = m.line;
        ends = more_ends rules p m.line m.one;
        unasked = some_urc rules m.line ∙ or_right (is_some (unsolicited_of m.line)) (list_any (λ u. takes u.pattern m.line) rules.urcs) m.any;
      }
    ]
ambiguous_met rules (UrcRule form text name) h =
    let p = pattern form text in
    let u = urc (kind_named rules name) name p in
    elim (or_cases (list_any (λ r. can_meet p r.0) standard_finals) (list_any (λ q. can_meet p q) rules.finals) h) [
      | inl a ↦ let m = met_any (λ r. r.0) p standard_finals a in record {
        line = m.line;
        ends = or_left (is_final m.line) (list_any (λ q. takes q m.line) rules.finals) (standard_final m.line ∙ m.any);
        unasked = more_unasked rules u m.line m.one;
      }
      | inr b ↦ let m = met_any (λ q. q) p rules.finals b in record {
        line = m.line;
        ends = or_right (is_final m.line) (list_any (λ q. takes q m.line) rules.finals) m.any;
        unasked = more_unasked rules u m.line m.one;
      }
    ]

-- ## The first reason

-- the tests of the seven reasons, the last two of a short text
record Tests (rules : Rules) (rule : Rule) (many none long ended misnamed command both : Bool) : Type 0 where
  on_many : Decides many (Refuses rules rule TooManyRules)
  on_none : Decides none (Refuses rules rule NoText)
  on_long : Decides long (Refuses rules rule TextTooLong)
  on_ended : Decides ended (Refuses rules rule LineEnd)
  on_misnamed : Decides misnamed (Refuses rules rule BadName)
  on_command : long ≡ false → Decides command (Refuses rules rule Command)
  on_both : long ≡ false → Decides both (Refuses rules rule Ambiguous)

abbrev chosen : Bool → Bool → Bool → Bool → Bool → Bool → Bool → Option DialectError
chosen many none long ended misnamed command both =
    option_or
    (if many then Some TooManyRules else if none then Some NoText else if long then Some TextTooLong else if ended then Some LineEnd else None)
    (if misnamed then Some BadName else if command then Some Command else if both then Some Ambiguous else None)

-- a reason whose test is false doesn't hold
unless : {P : Type 0} {b : Bool} (e : b ≡ false) → Decides b P → ¬ P
unless {P} {b} e d h = both_ways b e (d.1 h)

no_reason : (n : ℕ) (rules : Rules) (rule : Rule)
    → (1 < n → ¬ Refuses rules rule TooManyRules) → (2 < n → ¬ Refuses rules rule NoText) → (3 < n → ¬ Refuses rules rule TextTooLong)
    → (4 < n → ¬ Refuses rules rule LineEnd) → (5 < n → ¬ Refuses rules rule BadName) → (6 < n → ¬ Refuses rules rule Command)
    → (7 < n → ¬ Refuses rules rule Ambiguous) → n ≤ 8 → HasNoReasonBelow n rules rule
no_reason n rules rule a b c d e f g small TooManyRules l = a l
no_reason n rules rule a b c d e f g small NoText l = b l
no_reason n rules rule a b c d e f g small TextTooLong l = c l
no_reason n rules rule a b c d e f g small LineEnd l = d l
no_reason n rules rule a b c d e f g small BadName l = e l
no_reason n rules rule a b c d e f g small Command l = f l
no_reason n rules rule a b c d e f g small Ambiguous l = g l
no_reason n rules rule a b c d e f g small NoMemory l = absurd (omega arith)

abbrev Chosen : Rules → Rule → Option DialectError → Type 0
Chosen rules rule why = MatchOption why (HasNoReasonBelow 8 rules rule) (λ w. IsRefused rules rule w)

choose : (rules : Rules) (rule : Rule) (many none long ended misnamed command both : Bool) → Tests rules rule many none long ended misnamed command both
    → Chosen rules rule (chosen many none long ended misnamed command both)
choose rules rule true none long ended misnamed command both t = record {
  holds = t.on_many.0 refl;
  first = no_reason 1 rules rule (λ l. absurd (omega arith)) (λ l. absurd (omega arith)) (λ l. absurd (omega arith)) (λ l. absurd (omega arith)) (λ l. absurd (omega arith)) (λ l. absurd (omega arith)) (λ l. absurd (omega arith)) (omega arith);
}
choose rules rule false true long ended misnamed command both t = record {
  holds = t.on_none.0 refl;
  first = no_reason 2 rules rule (λ l. unless refl t.on_many) (λ l. absurd (omega arith)) (λ l. absurd (omega arith)) (λ l. absurd (omega arith)) (λ l. absurd (omega arith)) (λ l. absurd (omega arith)) (λ l. absurd (omega arith)) (omega arith);
}
choose rules rule false false true ended misnamed command both t = record {
  holds = t.on_long.0 refl;
  first = no_reason 3 rules rule (λ l. unless refl t.on_many) (λ l. unless refl t.on_none) (λ l. absurd (omega arith)) (λ l. absurd (omega arith)) (λ l. absurd (omega arith)) (λ l. absurd (omega arith)) (λ l. absurd (omega arith)) (omega arith);
}
choose rules rule false false false true misnamed command both t = record {
  holds = t.on_ended.0 refl;
  first = no_reason 4 rules rule (λ l. unless refl t.on_many) (λ l. unless refl t.on_none) (λ l. unless refl t.on_long) (λ l. absurd (omega arith)) (λ l. absurd (omega arith)) (λ l. absurd (omega arith)) (λ l. absurd (omega arith)) (omega arith);
}
choose rules rule false false false false true command both t = record {
  holds = t.on_misnamed.0 refl;
  first = no_reason 5 rules rule (λ l. unless refl t.on_many) (λ l. unless refl t.on_none) (λ l. unless refl t.on_long) (λ l. unless refl t.on_ended) (λ l. absurd (omega arith)) (λ l. absurd (omega arith)) (λ l. absurd (omega arith)) (omega arith);
}
choose rules rule false false false false false true both t = record {
  holds = (t.on_command refl).0 refl;
  first = no_reason 6 rules rule (λ l. unless refl t.on_many) (λ l. unless refl t.on_none) (λ l. unless refl t.on_long) (λ l. unless refl t.on_ended) (λ l. unless refl t.on_misnamed) (λ l. absurd (omega arith)) (λ l. absurd (omega arith)) (omega arith);
}
choose rules rule false false false false false false true t = record {
  holds = (t.on_both refl).0 refl;
  first = no_reason 7 rules rule (λ l. unless refl t.on_many) (λ l. unless refl t.on_none) (λ l. unless refl t.on_long) (λ l. unless refl t.on_ended) (λ l. unless refl t.on_misnamed) (λ l. unless refl (t.on_command refl)) (λ l. absurd (omega arith)) (omega arith);
}
choose rules rule false false false false false false false t =
    no_reason 8 rules rule (λ l. unless refl t.on_many) (λ l. unless refl t.on_none) (λ l. unless refl t.on_long) (λ l. unless refl t.on_ended) (λ l. unless refl t.on_misnamed) (λ l. unless refl (t.on_command refl)) (λ l. unless refl (t.on_both refl)) (omega arith)

-- ## The tests are those of the code

is_short_at : (text : List ℕ) → nat_lt 64 (length text) ≡ false → is_short text ≡ true
is_short_at text e = le-leb (length text) 64 (ltb-false 64 (length text) e)

same_text : (rule : Rule) → is_short (text_of rule) ≡ true → is_short (pattern_of rule).text ≡ true
same_text (FinalRule form text) h = h
same_text (UrcRule form text name) h = h

tests : (rules : Rules) (rule : Rule) → IsSound rules
    → Tests rules rule (nat_le 64 (count rules)) (length (text_of rule) == 0) (nat_lt 64 (length (text_of rule))) (list_any is_line_end (text_of rule))
    (not (is_well_named rule)) (can_take_command (pattern_of rule)) (can_be_ambiguous rules rule)
tests rules rule sound = record {
  on_many = ((λ h. leb-true 64 (count rules) h), (λ l. le-leb 64 (count rules) l));
  on_none = ((λ h. nil_from_length (text_of rule) (eqb-true (length (text_of rule)) 0 h)), (λ e. ap (λ t. length t == 0) e));
  on_long = ((λ h. ltb-true 64 (length (text_of rule)) h), (λ l. lt-ltb 64 (length (text_of rule)) l));
  on_ended = ((λ h. h), (λ h. h));
  on_misnamed = ((λ h. not-true (is_well_named rule) h), (λ h. not_from_false (is_well_named rule) h));
  on_command = λ e. ((λ h. command_met (pattern_of rule) h), (λ t. command_shown (pattern_of rule) (same_text rule (is_short_at (text_of rule) e)) t));
  on_both = λ e. ((λ h. ambiguous_met rules rule h), (λ both. ambiguous_shown rules rule sound (is_short_at (text_of rule) e) both));
}

decided : (rules : Rules) (rule : Rule) → IsSound rules → Chosen rules rule (refusal_of rules rule)
decided rules rule sound =
    choose rules rule (nat_le 64 (count rules)) (length (text_of rule) == 0) (nat_lt 64 (length (text_of rule))) (list_any is_line_end (text_of rule))
    (not (is_well_named rule)) (can_take_command (pattern_of rule)) (can_be_ambiguous rules rule) (tests rules rule sound)

-- ## For callers

-- the refusal that is decided is the first reason that holds
pub refused : (rules : Rules) (rule : Rule) (why : DialectError) → IsSound rules → refusal_of rules rule ≡ Some why → IsRefused rules rule why
refused rules rule why sound e = let d : Chosen rules rule (Some why) = rw e at (decided rules rule sound) in d

-- where none is decided, no reason holds but want of memory
pub not_refused : (rules : Rules) (rule : Rule) → IsSound rules → refusal_of rules rule ≡ None → HasNoReasonBelow 8 rules rule
not_refused rules rule sound e = let d : Chosen rules rule None = rw e at (decided rules rule sound) in d

-- so a refusal for want of memory is right there
pub no_memory : (rules : Rules) (rule : Rule) → IsSound rules → refusal_of rules rule ≡ None → IsRefused rules rule NoMemory
no_memory rules rule sound e = record { holds = tt; first = not_refused rules rule sound e }

-- and the rules with the new one are sound
pub sound_more : (rules : Rules) (rule : Rule) → IsSound rules → refusal_of rules rule ≡ None → IsSound (with_rule rules rule)
sound_more rules rule sound e = sound_with rules rule sound (not_refused rules rule sound e)
