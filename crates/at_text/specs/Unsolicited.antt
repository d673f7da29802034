-- Unsolicited lines (27.007, 6.11, 7.2, 8.10, 10.1.19, 10.1.20; V.250, 6.3).
use Rattle.std.specs.Prelude.{ℕ, nat_eq, ◌==◌, Bool, true, ◌&&◌, ◌||◌, List, length, drop, Option, Some, None, if◌then◌else◌, codes}
use Rattle.std.specs.List.{starts_with}
use Rattle.std.specs.Option.{option_map_or}
use Rattle.std.specs.Str.{bytes_eq}
use Rattle.at_text.specs.declared.unsolicited.UrcKind.{UrcKind}
use Rattle.at_text.specs.declared.unsolicited.UrcKind.TheVariants.{Ring, Cring, Creg, Cgreg, Cgev, Ciev}
use Rattle.at_text.specs.Octets.{is_digit, is_quote, skip_blanks, begins, after_comma}

-- there is no comma, or after the first one and any blanks a quote stands
abbrev pub is_without_second : List ℕ → Bool
is_without_second line = option_map_or (λ rest. begins is_quote (skip_blanks rest)) (after_comma line) true

-- the line is this name, any blanks and a digit, then anything without a second number: it reports, and
-- answers no query
abbrev pub is_report : List ℕ → List ℕ → Bool
is_report name line =
    starts_with nat_eq line name
    && (begins is_digit (skip_blanks (drop (length name) line)) && is_without_second line)

-- R
abbrev pub is_first : ℕ → Bool
is_first octet = octet == 82

-- R, G or I
abbrev pub is_third : ℕ → Bool
is_third octet = (octet == 82) || ((octet == 71) || (octet == 73))

-- the kind of a line that no command asked for, by octet
abbrev pub unsolicited_of : List ℕ → Option UrcKind
unsolicited_of line =
    if bytes_eq line (codes "RING") then Some Ring
    else if starts_with nat_eq line (codes "+CRING:") then Some Cring
    else if is_report (codes "+CREG:") line then Some Creg
    else if is_report (codes "+CGREG:") line then Some Cgreg
    else if starts_with nat_eq line (codes "+CGEV:") then Some Cgev
    else if starts_with nat_eq line (codes "+CIEV:") then Some Ciev
    else None
