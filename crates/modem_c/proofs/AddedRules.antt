-- Rules that a dialect takes or refuses, by the number that is answered.
use Rattle.std.specs.Prelude.{◌≡◌, ◌≢◌, ℕ, Result, Ok, Err, OnOk, OnErr, IfErr, refl}
use Rattle.std.proofs.Common.{arith}
use Rattle.at_text.specs.declared.dialect_error.DialectError.{DialectError}
use Rattle.at_text.specs.declared.rules.Form.{Form}
use Rattle.at_text.specs.Refusals.{HasNoReasonBelow, IsRefused}
use Rattle.at_text.specs.Rules.{Rule, Rules, with_rule}
use Rattle.modem_c.specs.DialectCalls.{Adds, RefusesRule}
use Rattle.modem_c.specs.Numbers.{dialect_refusal, form_number}

-- no refusal is a 0
pub some_number : (why : DialectError) (n : ℕ) → n ≡ dialect_refusal why → n ≢ 0
some_number DialectError.TooManyRules n is none = omega (arith, is, none)
some_number DialectError.NoText n is none = omega (arith, is, none)
some_number DialectError.TextTooLong n is none = omega (arith, is, none)
some_number DialectError.LineEnd n is none = omega (arith, is, none)
some_number DialectError.BadName n is none = omega (arith, is, none)
some_number DialectError.Command n is none = omega (arith, is, none)
some_number DialectError.Ambiguous n is none = omega (arith, is, none)
some_number DialectError.NoMemory n is none = omega (arith, is, none)

-- where 0 is answered, the rule was added, and nothing spoke against it
pub adds : {A : Type 0} (rule : Form → Rule) (of : Form) (old new : Rules) (done : Result A DialectError) (n : ℕ)
    → OnOk done (new ≡ with_rule old (rule of)) → OnOk done (HasNoReasonBelow 8 old (rule of))
    → IfErr done (λ why. n ≡ dialect_refusal why) → n ≡ 0 → Adds rule (form_number of) old new
adds rule of old new (Ok x) n added free refused zero = record { of = of; is_it = refl; free = free; added = added }
adds rule of old new (Err why) n added free refused zero = absurd (some_number why n refused zero)

-- where another number is, it was refused for the reason of that number
pub refuses : {A : Type 0} (rule : Form → Rule) (of : Form) (old : Rules) (done : Result A DialectError) (n : ℕ)
    → IfErr done (IsRefused old (rule of)) → OnOk done (n ≡ 0) → IfErr done (λ why. n ≡ dialect_refusal why) → n ≢ 0
    → RefusesRule rule (form_number of) n old
refuses rule of old (Ok x) n refused zero number some = absurd (some zero)
refuses rule of old (Err why) n refused zero number some = record { of = of; is_it = refl; why = why; refused = refused; number_is = number }

-- and the rules stay as they were
pub stays : {A : Type 0} (old new : Rules) (done : Result A DialectError) (n : ℕ) → OnErr done (new ≡ old) → OnOk done (n ≡ 0) → n ≢ 0 → new ≡ old
stays old new (Ok x) n same zero some = absurd (some zero)
stays old new (Err why) n same zero some = same
