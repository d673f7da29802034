-- Final codes (V.250, 5.7.1; 27.007, 9.2).
use Rattle.std.specs.Prelude.{◌||◌, ℕ, nat_eq, Bool, List, drop, Option, Some, None, if◌then◌else◌, codes}
use Rattle.std.specs.List.{starts_with}
use Rattle.std.specs.Str.{bytes_eq}
use Rattle.at_text.specs.declared.finals.Final.{Final}
use Rattle.at_text.specs.declared.finals.Final.TheVariants.{Good, Error, Cme}
use Rattle.at_text.specs.Octets.{number_in}

-- what a line says as a final code, by octet
abbrev pub final_of : List ℕ → Option Final
final_of line =
    if bytes_eq line (codes "OK") then Some Good
    else if bytes_eq line (codes "ERROR") then Some Error
    else if starts_with nat_eq line (codes "+CME ERROR:") then Some (Cme (number_in (drop 11 line)))
    else None

-- a line is a final code, the last of an answer
abbrev pub is_final : List ℕ → Bool
is_final line = bytes_eq line (codes "OK") || (bytes_eq line (codes "ERROR") || starts_with nat_eq line (codes "+CME ERROR:"))
