-- How a run ends, where the octets of its reader are known.
use Rattle.std.specs.Prelude.{◌≡◌, ◌≢◌, ℕ, ◌≤◌, List, Option, None, Some, Result, Ok, Err, IfOk, IfSome, IsErrOf, MatchResult, refl}
use Rattle.std.proofs.Common.{arith, subst, ◌∙◌}
use Rattle.std.specs.Io.KnownBytes.{Appends}
use Rattle.ctl_run.specs.Printed.{IsPrinted}
use Rattle.ctl_text.specs.Input.{input_lines}
use Rattle.ctl_run.specs.Input.{HasBad, IsFirstBad}
use Rattle.ctl_run.specs.Statuses.{status_of}
use Rattle.ctl_text.specs.declared.expected.Expected.{Expected}
use Rattle.ctl_run.specs.declared.stop.DialectFault.{DialectFault}
use Rattle.ctl_run.specs.declared.stop.Stop.{Stop}

-- what holds of the octets that were read
pub at_known : (P : List ℕ → Type 0) (known : Option (List ℕ)) (octets read : List ℕ) → IfSome known (λ all. octets ≡ all) → read ≡ octets → P read → IfSome known P
at_known P None octets read h e p = tt
at_known P (Some all) octets read h e p = subst P (e ∙ h) p

-- what follows of it, whatever they are
pub known_too : (P Q : List ℕ → Type 0) (known : Option (List ℕ)) → IfSome known P → ((all : List ℕ) → P all → Q all) → IfSome known Q
known_too P Q None h more = tt
known_too P Q (Some all) h more = more all h

has_bad : (IsBad : List ℕ → Type 0) (Has : List ℕ → Expected → Type 0) (known : Option (List ℕ)) (place : ℕ) (why : Expected) → IfSome known (λ text. IsFirstBad IsBad Has (input_lines text) place why) → IfSome known (λ text. HasBad IsBad Has (input_lines text))
has_bad IsBad Has None place why h = tt
has_bad IsBad Has (Some text) place why h = record { place = place; why = why; first = h }

-- status 2 is that of a bad line alone
pub refused_for : {T : Type 0} (built : Result T Stop) (status : ℕ) (known : Option (List ℕ)) (IsBad : List ℕ → Type 0) (Has : List ℕ → Expected → Type 0)
    → MatchResult built (λ _. status ≤ 1) (λ stop. status ≡ status_of stop)
    → ((place : ℕ) (why : Expected) → IsErrOf built (Stop.BadLine place why) → IfSome known (λ text. IsFirstBad IsBad Has (input_lines text) place why))
    → (built ≢ Err Stop.BadN1) × (built ≢ Err Stop.BadCallers) × (built ≢ Err Stop.BadCut) × ((fault : DialectFault) → built ≢ Err (Stop.Dialect fault))
    → status ≡ 2
    → IfSome known (λ text. HasBad IsBad Has (input_lines text))
refused_for (Ok x) status known IsBad Has h line settings e = absurd (omega (arith, h, e))
refused_for (Err Stop.NoMemory) status known IsBad Has h line settings e = absurd (omega (arith, h, e))
refused_for (Err Stop.Input) status known IsBad Has h line settings e = absurd (omega (arith, h, e))
refused_for (Err Stop.Output) status known IsBad Has h line settings e = absurd (omega (arith, h, e))
refused_for (Err Stop.Line) status known IsBad Has h line settings e = absurd (omega (arith, h, e))
refused_for (Err (Stop.GaveUp cause)) status known IsBad Has h line settings e = absurd (omega (arith, h, e))
refused_for (Err Stop.BadN1) status known IsBad Has h line settings e = absurd (settings.0 refl)
refused_for (Err Stop.BadCallers) status known IsBad Has h line settings e = absurd (settings.1 refl)
refused_for (Err Stop.BadCut) status known IsBad Has h line settings e = absurd (settings.2 refl)
refused_for (Err (Stop.Dialect fault)) status known IsBad Has h line settings e = absurd (settings.3 fault refl)
refused_for (Err (Stop.BadLine place why)) status known IsBad Has h line settings e = has_bad IsBad Has known place why (line place why refl)

-- status 0 is that of an output that is written whole
pub printed_for : {T : Type 0} (bytes : T → List ℕ) (built : Result T Stop) (status : ℕ) (Makes : List ℕ → List ℕ → Type 0) (known before after : Option (List ℕ))
    → MatchResult built (λ _. status ≤ 1) (λ stop. status ≡ status_of stop)
    → IfOk built (λ text. status ≡ 0 → Appends before after (bytes text))
    → IfOk built (λ text. IfSome known (λ all. Makes all (bytes text)))
    → status ≡ 0
    → IsPrinted Makes known before after
printed_for bytes (Ok text) status Makes known before after h w m e = record { shown = bytes text; made = m; appended = w e }
printed_for bytes (Err Stop.NoMemory) status Makes known before after h w m e = absurd (omega (arith, h, e))
printed_for bytes (Err Stop.Input) status Makes known before after h w m e = absurd (omega (arith, h, e))
printed_for bytes (Err Stop.Output) status Makes known before after h w m e = absurd (omega (arith, h, e))
printed_for bytes (Err Stop.Line) status Makes known before after h w m e = absurd (omega (arith, h, e))
printed_for bytes (Err (Stop.GaveUp cause)) status Makes known before after h w m e = absurd (omega (arith, h, e))
printed_for bytes (Err Stop.BadCallers) status Makes known before after h w m e = absurd (omega (arith, h, e))
printed_for bytes (Err Stop.BadCut) status Makes known before after h w m e = absurd (omega (arith, h, e))
printed_for bytes (Err Stop.BadN1) status Makes known before after h w m e = absurd (omega (arith, h, e))
printed_for bytes (Err (Stop.Dialect fault)) status Makes known before after h w m e = absurd (omega (arith, h, e))
printed_for bytes (Err (Stop.BadLine place why)) status Makes known before after h w m e = absurd (omega (arith, h, e))
