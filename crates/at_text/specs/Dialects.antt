-- Which lines end an answer, and which are unsolicited: the codes of a modem.
use Rattle.std.specs.Prelude.{◌≡◌, ℕ, nat_eq, Bool, true, false, List, Option, Some, None, is_none, refl, if◌then◌else◌, codes}
use Rattle.std.specs.List.{starts_with}
use Rattle.std.specs.Str.{bytes_eq}
use Rattle.at_text.specs.declared.unsolicited.UrcKind.{UrcKind}
use Rattle.at_text.specs.declared.unsolicited.UrcKind.TheVariants.{Ring, Cring, Creg, Cgreg, Cgev, Ciev, Other}
use Rattle.at_text.specs.Finals.{is_final}
use Rattle.at_text.specs.Unsolicited.{is_report, unsolicited_of}

-- no kind, or one other than Other
abbrev pub is_called : Option UrcKind → Bool
is_called (Some Other) = false
is_called _ = true

-- which lines are final codes, and of which kind a line is unsolicited: never of Other
pub record Dialect : Type 0 where
  pub is_final : List ℕ → Bool
  pub kind_of : List ℕ → Option UrcKind
  pub never_other : (line : List ℕ) → is_called (kind_of line) ≡ true

-- a line is of no kind
abbrev pub is_solicited : Dialect → List ℕ → Bool
is_solicited dialect line = is_none (dialect.kind_of line)

-- no kind of Unsolicited is Other
pub unsolicited_called :
    (a b c d e f : Bool)
    → is_called
    (if a then Some Ring
    else if b then Some Cring
    else if c then Some Creg
    else if d then Some Cgreg
    else if e then Some Cgev
    else if f then Some Ciev
    else None)
    ≡ true
unsolicited_called true b c d e f = refl
unsolicited_called false true c d e f = refl
unsolicited_called false false true d e f = refl
unsolicited_called false false false true e f = refl
unsolicited_called false false false false true f = refl
unsolicited_called false false false false false true = refl
unsolicited_called false false false false false false = refl

-- the codes of the standards
abbrev pub standard : Dialect
standard = record {
  is_final = is_final;
  kind_of = unsolicited_of;
  never_other = λ line.
      unsolicited_called
      (bytes_eq line (codes "RING"))
      (starts_with nat_eq line (codes "+CRING:"))
      (is_report (codes "+CREG:") line)
      (is_report (codes "+CGREG:") line)
      (starts_with nat_eq line (codes "+CGEV:"))
      (starts_with nat_eq line (codes "+CIEV:"));
}
