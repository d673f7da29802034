-- Which rules make a dialect in which no line is both.
use Rattle.std.specs.Prelude.{◌≡◌, ℕ, ◌≤◌, ◌<◌, Bool, true, false, ◌||◌, List, [], ◌∷◌, ◌++◌, length, Option, Some, None, is_some, refl}
use Rattle.std.specs.List.{list_any, list_all, AllByRecursion}
use Rattle.std.proofs.Common.{arith, sym, ◌∙◌, ap, ◌⊎◌, inl, inr}
use Rattle.std.proofs.lemmas.Bool.{or_cases, false_from_ne_true, true_from_ne_false, le-leb}
use Rattle.std.proofs.lemmas.List.{length_push}
use Rattle.std.proofs.lemmas.List.Folds.{list_any-append, list_all-append}
use Rattle.at_text.specs.declared.dialect_error.DialectError.TheVariants.{TooManyRules, TextTooLong, BadName, Command, Ambiguous}
use Rattle.at_text.specs.declared.rules.Pattern.{Pattern}
use Rattle.at_text.specs.declared.rules.Urc.{Urc}
use Rattle.at_text.specs.Commands.{has_at}
use Rattle.at_text.specs.Finals.{is_final}
use Rattle.at_text.specs.Unsolicited.{unsolicited_of}
use Rattle.at_text.specs.Rules.{Rules, Rule, FinalRule, UrcRule, pattern, takes, with_rule, final_by, kind_by, dialect_of, no_rules, urc, kind_named, name_at}
use Rattle.at_text.specs.Refusals.{IsSound, HasNoReasonBelow, is_short, is_name, count}
use Rattle.at_text.specs.Deciding.{can_meet}
use Rattle.at_text.specs.StandardRules.{standard_finals, standard_urcs}
use Rattle.at_text.proofs.dialects.Choosing.{standard_final, standard_urc, some_final, some_urc}
use Rattle.at_text.proofs.dialects.Naming.{all_more, kept_name, last_name}
use Rattle.at_text.proofs.dialects.Sorts.{apart, are_short, commands, has_at_taken}

-- what isn't some is none
pub none_from : {T : Type 0} (o : Option T) → is_some o ≡ false → o ≡ None
none_from None h = refl
none_from (Some x) h = cc

-- and none isn't some
pub none_not : {T : Type 0} (o : Option T) → o ≡ None → is_some o ≡ false
none_not o h = ap is_some h

-- ## Rules whose tests compute

-- each of a list is short and apart from each other
pub record Checks (rules : Rules) : Type 0 where
  pub few : count rules ≤ 64
  pub short_finals : are_short (λ p. p) rules.finals ≡ true
  pub short_urcs : are_short (λ u. u.pattern) rules.urcs ≡ true
  pub names : list_all (λ u. is_name u.name) rules.urcs ≡ true
  pub named : AllByRecursion (λ u. name_at rules u.kind ≡ Some u.name) rules.urcs
  pub standard_own : list_any (λ r. list_any (λ u. can_meet r.0 u.pattern) rules.urcs) standard_finals ≡ false
  pub own_standard : list_any (λ p. list_any (λ r. can_meet p r.0) standard_urcs) rules.finals ≡ false
  pub own_own : list_any (λ p. list_any (λ u. can_meet p u.pattern) rules.urcs) rules.finals ≡ false
  pub command_finals : list_any (λ c. list_any (λ p. can_meet c p) rules.finals) commands ≡ false
  pub command_urcs : list_any (λ c. list_any (λ u. can_meet c u.pattern) rules.urcs) commands ≡ false

ends_by : (rules : Rules) (line : List ℕ) → (dialect_of rules).is_final line ≡ true
    → (list_any (λ r. takes r.0 line) standard_finals ≡ true) ⊎ (list_any (λ p. takes p line) rules.finals ≡ true)
ends_by rules line h =
    or_cases (list_any (λ r. takes r.0 line) standard_finals) (list_any (λ p. takes p line) rules.finals)
    (ap (λ b. b || list_any (λ p. takes p line) rules.finals) (sym (standard_final line)) ∙ h)

unasked_by : (rules : Rules) (line : List ℕ) → is_some (kind_by rules line) ≡ true
    → (list_any (λ r. takes r.0 line) standard_urcs ≡ true) ⊎ (list_any (λ u. takes u.pattern line) rules.urcs ≡ true)
unasked_by rules line h =
    or_cases (list_any (λ r. takes r.0 line) standard_urcs) (list_any (λ u. takes u.pattern line) rules.urcs)
    (ap (λ b. b || list_any (λ u. takes u.pattern line) rules.urcs) (sym (standard_urc line)) ∙ sym (some_urc rules line) ∙ h)

not_both : (rules : Rules) → Checks rules → (line : List ℕ) → (dialect_of rules).is_final line ≡ true → is_some (kind_by rules line) ≡ true → ⊥
unfolding can_meet
not_both rules k line ends unasked =
    elim (ends_by rules line ends) [
      | inl a ↦ elim (unasked_by rules line unasked) [
        | inl b ↦ apart (λ r. r.0) (λ r. r.0) standard_finals standard_urcs refl refl refl line a b
        | inr b ↦ apart (λ r. r.0) (λ u. u.pattern) standard_finals rules.urcs refl k.short_urcs k.standard_own line a b
      ]
      | inr a ↦ elim (unasked_by rules line unasked) [
        | inl b ↦ apart (λ p. p) (λ r. r.0) rules.finals standard_urcs k.short_finals refl k.own_standard line a b
        | inr b ↦ apart (λ p. p) (λ u. u.pattern) rules.finals rules.urcs k.short_finals k.short_urcs k.own_own line a b
      ]
    ]

no_final_at : (rules : Rules) → Checks rules → (line : List ℕ) → has_at line ≡ true → (dialect_of rules).is_final line ≡ true → ⊥
unfolding can_meet
no_final_at rules k line at ends =
    let begun : list_any (λ p. takes p line) commands ≡ true = sym (has_at_taken line) ∙ at in
    elim (ends_by rules line ends) [
      | inl a ↦ apart (λ p. p) (λ r. r.0) commands standard_finals refl refl refl line begun a
      | inr a ↦ apart (λ p. p) (λ p. p) commands rules.finals refl k.short_finals k.command_finals line begun a
    ]

no_urc_at : (rules : Rules) → Checks rules → (line : List ℕ) → has_at line ≡ true → is_some (kind_by rules line) ≡ true → ⊥
unfolding can_meet
no_urc_at rules k line at unasked =
    let begun : list_any (λ p. takes p line) commands ≡ true = sym (has_at_taken line) ∙ at in
    elim (unasked_by rules line unasked) [
      | inl a ↦ apart (λ p. p) (λ r. r.0) commands standard_urcs refl refl refl line begun a
      | inr a ↦ apart (λ p. p) (λ u. u.pattern) commands rules.urcs refl k.short_urcs k.command_urcs line begun a
    ]

-- rules whose tests pass are sound
pub sound_by : (rules : Rules) → Checks rules → IsSound rules
sound_by rules k = record {
  few = k.few;
  short_finals = k.short_finals;
  short_urcs = k.short_urcs;
  names = k.names;
  named = k.named;
  clear = λ a. not_both rules k a.line a.ends a.unasked;
  no_final = λ line at. none_from (final_by rules line) (some_final rules line ∙ false_from_ne_true ((dialect_of rules).is_final line) (no_final_at rules k line at));
  no_urc = λ line at. none_from (kind_by rules line) (false_from_ne_true (is_some (kind_by rules line)) (no_urc_at rules k line at));
}

-- a dialect without rules of its own is sound
pub sound_standard : IsSound no_rules
unfolding can_meet
sound_standard = sound_by no_rules (record {
  few = omega arith;
  short_finals = refl;
  short_urcs = refl;
  names = refl;
  named = tt;
  standard_own = refl;
  own_standard = refl;
  own_own = refl;
  command_finals = refl;
  command_urcs = refl;
})

-- ## One more rule

-- one of the elements passes, with one more behind, if one did or that one does
pub any_push : {X : Type 0} (test : X → Bool) (xs : List X) (x : X) → list_any test (xs ++ x ∷ []) ≡ (list_any test xs || (test x || false))
any_push test xs x = list_any-append test xs (x ∷ [])

all_push : {X : Type 0} (test : X → Bool) (xs : List X) (x : X) → list_all test xs ≡ true → test x ≡ true → list_all test (xs ++ x ∷ []) ≡ true
all_push test xs x h e = list_all-append test xs (x ∷ []) ∙ rw (h, e) refl

or_false_more : (s a b : Bool) → (s || a) ≡ false → b ≡ false → (s || (a || (b || false))) ≡ false
or_false_more true a b h e = h
or_false_more false a b h e = rw (h, e) refl

-- a line that no rule took before, nor the new one, is taken by none
no_more_final : (rules : Rules) (p : Pattern) (line : List ℕ) → final_by rules line ≡ None → takes p line ≡ false
    → final_by (record rules { finals = rules.finals ++ p ∷ [] }) line ≡ None
no_more_final rules p line before e =
    let more = record rules { finals = rules.finals ++ p ∷ [] } in
    let old : (is_final line || list_any (λ q. takes q line) rules.finals) ≡ false = sym (some_final rules line) ∙ none_not (final_by rules line) before in
    none_from (final_by more line)
    (some_final more line ∙ ap (λ b. is_final line || b) (any_push (λ q. takes q line) rules.finals p)
    ∙ or_false_more (is_final line) (list_any (λ q. takes q line) rules.finals) (takes p line) old e)

no_more_urc : (rules : Rules) (u : Urc) (line : List ℕ) → kind_by rules line ≡ None → takes u.pattern line ≡ false
    → kind_by (record rules { urcs = rules.urcs ++ u ∷ [] }) line ≡ None
no_more_urc rules u line before e =
    let more = record rules { urcs = rules.urcs ++ u ∷ [] } in
    let old : (is_some (unsolicited_of line) || list_any (λ v. takes v.pattern line) rules.urcs) ≡ false = sym (some_urc rules line) ∙ none_not (kind_by rules line) before in
    none_from (kind_by more line)
    (some_urc more line ∙ ap (λ b. is_some (unsolicited_of line) || b) (any_push (λ v. takes v.pattern line) rules.urcs u)
    ∙ or_false_more (is_some (unsolicited_of line)) (list_any (λ v. takes v.pattern line) rules.urcs) (takes u.pattern line) old e)

is_short_from : (text : List ℕ) → ¬ (64 < length text) → is_short text ≡ true
is_short_from text h = le-leb (length text) 64 (grind arith)

-- sound rules and one that nothing speaks against are sound
pub sound_with : (rules : Rules) (rule : Rule) → IsSound rules → HasNoReasonBelow 8 rules rule → IsSound (with_rule rules rule)
sound_with rules (FinalRule form text) sound none = record {
  few = let l : ¬ (64 ≤ count rules) = none TooManyRules (omega arith) in rw length_push (grind arith);
  short_finals = all_push (λ p. is_short p.text) rules.finals (pattern form text) sound.short_finals (is_short_from text (none TextTooLong (omega arith)));
  short_urcs = sound.short_urcs;
  names = sound.names;
  named = sound.named;
  clear = none Ambiguous (omega arith);
  no_final = λ line at. no_more_final rules (pattern form text) line (sound.no_final line at)
      (false_from_ne_true (takes (pattern form text) line) (λ t. none Command (omega arith) (record { line = line; begins = at; taken = t })));
  no_urc = sound.no_urc;
}
sound_with rules (UrcRule form text name) sound none = record {
  few = let l : ¬ (64 ≤ count rules) = none TooManyRules (omega arith) in rw length_push (grind arith);
  short_finals = sound.short_finals;
  short_urcs = all_push (λ u. is_short u.pattern.text) rules.urcs (urc (kind_named rules name) name (pattern form text)) sound.short_urcs (is_short_from text (none TextTooLong (omega arith)));
  names = all_push (λ u. is_name u.name) rules.urcs (urc (kind_named rules name) name (pattern form text)) sound.names (true_from_ne_false (is_name name) (none BadName (omega arith)));
  named = all_more (λ u. name_at rules u.kind ≡ Some u.name) (λ u. name_at (with_rule rules (UrcRule form text name)) u.kind ≡ Some u.name)
      (λ u h. kept_name rules.urcs (urc (kind_named rules name) name (pattern form text)) u.kind u.name h)
      rules.urcs (urc (kind_named rules name) name (pattern form text)) sound.named
      (last_name rules.urcs (urc (kind_named rules name) name (pattern form text)));
  clear = none Ambiguous (omega arith);
  no_final = sound.no_final;
  no_urc = λ line at. no_more_urc rules (urc (kind_named rules name) name (pattern form text)) line (sound.no_urc line at)
      (false_from_ne_true (takes (pattern form text) line) (λ t. none Command (omega arith) (record { line = line; begins = at; taken = t })));
}
