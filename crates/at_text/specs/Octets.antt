-- Blanks, digits and separators in lines (27.007, 4.1).
use Rattle.std.specs.Prelude.{ℕ, ◌+◌, ◌-◌, ◌*◌, ◌==◌, ◌&&◌, nat_le, Bool, false, List, [], ◌∷◌, length, fold, Option, Some, None, if◌then◌else◌}
use Rattle.std.specs.List.{list_all}

-- 20 hex
abbrev pub is_blank : ℕ → Bool
is_blank c = c == 32

-- what divides parameters
abbrev pub is_comma : ℕ → Bool
is_comma c = c == 44

-- 22 hex, round a text
abbrev pub is_quote : ℕ → Bool
is_quote c = c == 34

-- 0 to 9
abbrev pub is_digit : ℕ → Bool
is_digit c = nat_le 48 c && nat_le c 57

-- a text from its first octet on that is no blank
abbrev pub skip_blanks : List ℕ → List ℕ
skip_blanks [] = []
skip_blanks (c ∷ text) = if is_blank c then skip_blanks text else c ∷ text

-- a text has a first octet, and it passes
abbrev pub begins : (ℕ → Bool) → List ℕ → Bool
begins test [] = false
begins test (c ∷ text) = test c

-- what follows the first comma, where there is one
abbrev pub after_comma : List ℕ → Option (List ℕ)
after_comma [] = None
after_comma (c ∷ text) = if is_comma c then Some text else after_comma text

-- the number that digits spell
abbrev pub decimal : List ℕ → ℕ
decimal digits = fold (λ n c. n * 10 + (c - 48)) 0 digits

-- the number in a text that is any blanks, then 1 to 9 digits and nothing else
abbrev pub number_in : List ℕ → Option ℕ
number_in text =
    let digits = skip_blanks text in
    if list_all is_digit digits && (nat_le 1 (length digits) && nat_le (length digits) 9)
    then Some (decimal digits) else None
