-- Forms of values in commands (27.007, 7.2, 7.3, 8.3, 9.1, 10.1.1; V.250, 5.4.2).
use Rattle.std.specs.Prelude.{ℕ, ◌+◌, ◌-◌, ◌*◌, ◌/◌, ◌%◌, ◌==◌, ◌&&◌, ◌||◌, not, nat_lt, nat_le, Bool, List, [], ◌∷◌, ◌++◌, length, map, Option, Some, None, if◌then◌else◌}
use Rattle.std.specs.List.{list_all}
use Rattle.std.specs.Char.{is_ascii_alphanumeric, to_ascii_lowercase}
use Rattle.std.specs.Str.{bytes_eq}
use Rattle.at_text.specs.Octets.{is_digit}
use Rattle.at_cmds.specs.Params.{◌>>=◌}

-- letters in lower case
abbrev pub lowered : List ℕ → List ℕ
lowered text = map to_ascii_lowercase text

-- two texts are the same, but for the case of letters
abbrev pub is_same : List ℕ → List ℕ → Bool
is_same one other = bytes_eq (lowered one) (lowered other)

-- the decimal numeral of a number below 100, without leading zeros
abbrev pub numeral : ℕ → List ℕ
numeral n = if nat_lt n 10 then (48 + n) ∷ [] else (48 + n / 10) ∷ (48 + n % 10) ∷ []

-- the number that such a numeral stands for
unfoldable pub numeral_in : List ℕ → Option ℕ
numeral_in (low ∷ []) = if is_digit low then Some (low - 48) else None
numeral_in (high ∷ low ∷ []) =
    if not (high == 48) && (is_digit high && is_digit low) then Some ((high - 48) * 10 + (low - 48)) else None
numeral_in _ = None

-- a text between two quotes
abbrev pub in_quotes : List ℕ → List ℕ
in_quotes text = 34 ∷ text ++ 34 ∷ []

-- `least` to `most` octets that all pass the test
abbrev pub is_run : (ℕ → Bool) → ℕ → ℕ → List ℕ → Bool
is_run test least most text = list_all test text && (nat_le least (length text) && nat_le (length text) most)

-- a PIN: 4 to 8 digits
abbrev pub is_pin : List ℕ → Bool
is_pin text = is_run is_digit 4 8 text

-- an operator's number: 5 or 6 digits
abbrev pub is_oper : List ℕ → Bool
is_oper text = is_run is_digit 5 6 text

-- a letter, a digit, a dot or a hyphen
abbrev pub is_in_apn : ℕ → Bool
is_in_apn c = is_ascii_alphanumeric c || (c == 46 || c == 45)

-- an access point's name: 1 to 63 of these
abbrev pub is_apn : List ℕ → Bool
is_apn text = is_run is_in_apn 1 63 text

-- a context's number: 1 to 15
abbrev pub is_cid : ℕ → Bool
is_cid n = nat_le 1 n && nat_le n 15

-- the number of a context without leading zeros
abbrev pub cid_in : List ℕ → Option ℕ
cid_in text = do
  n ← numeral_in text
  if is_cid n then Some n else None

-- a mode of reports: 0 to 2
abbrev pub is_mode : ℕ → Bool
is_mode n = nat_le n 2
