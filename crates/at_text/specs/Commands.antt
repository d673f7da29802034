-- The texts that are command lines (V.250, 5.2.1).
use Rattle.std.specs.Prelude.{◌≡◌, ℕ, ◌-◌, nat_eq, nat_le, nat_lt, Bool, ◌&&◌, ◌||◌, List, [], ◌∷◌, ◌++◌, length, take, Option, Some, None, if◌then◌else◌, codes}
use Rattle.std.specs.List.{starts_with, list_all}
use Rattle.at_text.specs.declared.error.TextError.{TextError}
use Rattle.at_text.specs.declared.error.TextError.TheVariants.{NoAt, BadOctet, TooLong}

-- the prefix AT, in one of its two spellings
abbrev pub has_at : List ℕ → Bool
has_at text = starts_with nat_eq text (codes "AT") || starts_with nat_eq text (codes "at")

-- the octets 20 to 7E hex
abbrev pub is_printable : ℕ → Bool
is_printable c = nat_le 32 c && nat_le c 126

-- why a text is no command line: the first of three that holds
abbrev pub refusal_of : List ℕ → Option TextError
refusal_of text =
    if has_at text then
    (if list_all is_printable text then
    (if nat_lt 256 (length text) then Some TooLong else None)
    else Some BadOctet)
    else Some NoAt

-- octets without the last, which is CR
abbrev pub without_cr : List ℕ → List ℕ
without_cr octets = take (length octets - 1) octets

-- the octets are the text of a command line and CR
pub record IsEnded (octets : List ℕ) : Type 0 where
  pub taken : refusal_of (without_cr octets) ≡ None
  pub ended : octets ≡ without_cr octets ++ 13 ∷ []
