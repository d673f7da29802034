-- With no rules of one's own the codes are the standard's.
use Rattle.std.specs.Prelude.{◌≡◌, ℕ, Bool, true, false, ◌||◌, List, Option, Some, None, refl}
use Rattle.std.specs.Option.{option_or}
use Rattle.std.proofs.Common.{ap, ◌∙◌, subst}
use Rattle.std.proofs.Math.Bool.{Bool-set, or-false}
use mathlib.Core.Path.{fun_ext}
use Rattle.at_text.specs.declared.unsolicited.UrcKind.{UrcKind}
use Rattle.at_text.specs.Finals.{is_final}
use Rattle.at_text.specs.Unsolicited.{unsolicited_of}
use Rattle.at_text.specs.Dialects.{Dialect, standard, is_called}
use Rattle.at_text.specs.Rules.{no_rules, dialect_of, kind_by}

or_none : {T : Type 0} (o : Option T) → option_or o None ≡ o
or_none None = refl
or_none (Some x) = refl

abbrev Called : (List ℕ → Option UrcKind) → Type 0
Called kinds = (line : List ℕ) → is_called (kinds line) ≡ true

abbrev made : (List ℕ → Bool) → (kinds : List ℕ → Option UrcKind) → Called kinds → Dialect
made finals kinds called = record { is_final = finals; kind_of = kinds; never_other = called }

called_once : (kinds : List ℕ → Option UrcKind) (c d : Called kinds) → c ≡ d
called_once kinds c d = fun_ext (λ line. Bool-set (is_called (kinds line)) true (c line) (d line))

same_kinds : (finals : List ℕ → Bool) (kinds other : List ℕ → Option UrcKind) (c : Called kinds) → kinds ≡ other → (d : Called other) → made finals kinds c ≡ made finals other d
same_kinds finals kinds other c e =
    subst (λ (k : List ℕ → Option UrcKind). (d : Called k) → made finals kinds c ≡ made finals k d) e
    (λ d. ap (made finals kinds) (called_once kinds c d))

-- a dialect without rules of its own is the standard's
pub no_rules_standard : dialect_of no_rules ≡ standard
no_rules_standard =
    let finals : (λ (line : List ℕ). is_final line || false) ≡ is_final = fun_ext (λ line. or-false (is_final line)) in
    let kinds : kind_by no_rules ≡ unsolicited_of = fun_ext (λ line. or_none (unsolicited_of line)) in
    ap (λ (f : List ℕ → Bool). made f (kind_by no_rules) (dialect_of no_rules).never_other) finals
    ∙ same_kinds is_final (kind_by no_rules) unsolicited_of (dialect_of no_rules).never_other kinds standard.never_other
