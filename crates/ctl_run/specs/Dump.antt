-- Octets written as pairs of hexadecimal digits.
use Rattle.std.specs.Prelude.{◌≡◌, ℕ, ◌+◌, ◌*◌, ◌==◌, List, [], ◌∷◌, ◌++◌, Option, Some, None, if◌then◌else◌}
use Rattle.hex.specs.Hex.{hex_digit_value}

-- both, one behind the other, where there are both
abbrev pub joined : Option (List ℕ) → Option (List ℕ) → Option (List ℕ)
joined (Some first) (Some second) = Some (first ++ second)
joined (Some first) None = None
joined None second = None

-- the octet of two digits
abbrev pub octet_of : Option ℕ → Option ℕ → Option (List ℕ)
octet_of (Some high) (Some low) = Some ((high * 16 + low) ∷ [])
octet_of (Some high) None = None
octet_of None low = None

-- the octets of a line: pairs of digits in either case, with any blanks before, between and behind the pairs
abbrev pub line_octets : List ℕ → Option (List ℕ)
line_octets [] = Some []
line_octets (c ∷ []) = if c == 32 then Some [] else None
line_octets (c ∷ d ∷ line) =
    if c == 32 then line_octets (d ∷ line)
    else joined (octet_of (hex_digit_value c) (hex_digit_value d)) (line_octets line)

-- the octets of all lines, one behind the other
abbrev pub dump_octets : List (List ℕ) → Option (List ℕ)
dump_octets [] = Some []
dump_octets (line ∷ lines) = joined (line_octets line) (dump_octets lines)

-- a line stands for no octets
abbrev pub IsNoDump : List ℕ → Type 0
IsNoDump line = line_octets line ≡ None
