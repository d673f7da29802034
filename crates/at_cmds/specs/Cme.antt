-- CME numbers and texts (27.007, 9.2).
use Rattle.std.specs.Prelude.{ℕ, Bool, false, List, [], ◌∷◌, Option, Some, None, ◌==◌, if◌then◌else◌, codes, find}
use Rattle.std.specs.Option.{option_map_or}
use Rattle.std.specs.Str.{bytes_eq}

-- the text of a number, where it has one
abbrev pub cme_text : ℕ → Option (List ℕ)
cme_text n =
    if n == 0 then Some (codes "phone failure")
    else if n == 3 then Some (codes "operation not allowed")
    else if n == 4 then Some (codes "operation not supported")
    else if n == 10 then Some (codes "SIM not inserted")
    else if n == 11 then Some (codes "SIM PIN required")
    else if n == 12 then Some (codes "SIM PUK required")
    else if n == 13 then Some (codes "SIM failure")
    else if n == 14 then Some (codes "SIM busy")
    else if n == 15 then Some (codes "SIM wrong")
    else if n == 16 then Some (codes "incorrect password")
    else if n == 30 then Some (codes "no network service")
    else if n == 31 then Some (codes "network timeout")
    else if n == 32 then Some (codes "network not allowed (emergency calls only)")
    else if n == 100 then Some (codes "unknown")
    else None

-- the numbers that have a text
abbrev pub cme_numbers : List ℕ
cme_numbers = 0 ∷ 3 ∷ 4 ∷ 10 ∷ 11 ∷ 12 ∷ 13 ∷ 14 ∷ 15 ∷ 16 ∷ 30 ∷ 31 ∷ 32 ∷ 100 ∷ []

-- this is the text of the number
abbrev pub is_text_of : List ℕ → ℕ → Bool
is_text_of text n = option_map_or (λ words. bytes_eq words text) (cme_text n) false

-- the number whose text this is
unfoldable pub cme_number : List ℕ → Option ℕ
cme_number text = find (is_text_of text) cme_numbers
