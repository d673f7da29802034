-- Parameters of a line and their forms (27.007, 4.1; V.250, 5.4.2 and 5.7.3).
use Rattle.std.specs.Prelude.{◌≡◌, ℕ, ◌<◌, ◌+◌, ◌-◌, ◌*◌, ◌&&◌, not, nat_le, Bool, false, List, [], ◌∷◌, length, take, drop, fold, Option, Some, None, option_and_then, if◌then◌else◌, codes}
use Rattle.std.specs.List.{list_all, list_any}
use Rattle.std.specs.Str.{bytes_eq}
use Rattle.std.specs.Char.{is_ascii_hexdigit, digit_value}
use Rattle.at_text.specs.Octets.{is_comma, is_quote, is_digit, skip_blanks, decimal}

infixl 10 ◌>>=◌
abbrev pub ◌>>=◌ : {A B : Type 0} → Option A → (A → Option B) → Option B
o >>= f = option_and_then f o

-- some texts, with this octet in front of the first
abbrev pub put_front : ℕ → List (List ℕ) → List (List ℕ)
put_front c [] = (c ∷ []) ∷ []
put_front c (first ∷ more) = (c ∷ first) ∷ more

-- a text divided at each of its commas that stands outside quotes; it may begin inside of quotes
abbrev pub divided : Bool → List ℕ → List (List ℕ)
divided is_quoted [] = [] ∷ []
divided is_quoted (c ∷ text) =
    if is_comma c && not is_quoted then [] ∷ divided false text
    else put_front c (divided (if is_quote c then not is_quoted else is_quoted) text)

-- the parameters of a text: what stands between its commas, but for those in quotes
unfoldable pub parameters : List ℕ → List (List ℕ)
parameters text = divided false text

-- the parameters behind a comma, where there is one
abbrev pub parameters_behind : Option (List ℕ) → List (List ℕ)
parameters_behind None = []
parameters_behind (Some text) = parameters text

-- the first parameter ends at this place, where its comma stands
pub record EndsAt (text : List ℕ) (end : ℕ) : Type 0 where
  pub inside : end < length text
  pub divides : parameters text ≡ take end text ∷ parameters (drop (end + 1) text)

-- num: after any blanks 1 to 3 digits, at most 255
unfoldable pub number_of : List ℕ → Option ℕ
number_of param =
    let digits = skip_blanks param in
    if list_all is_digit digits
    && (nat_le 1 (length digits) && (nat_le (length digits) 3 && nat_le (decimal digits) 255))
    then Some (decimal digits) else None

-- a quoted text: a quote, the text and a quote, the text without quotes
unfoldable pub unquoted : List ℕ → Option (List ℕ)
unquoted quoted =
    let behind = drop 1 quoted in
    let inner = take (length behind - 1) behind in
    if bytes_eq (take 1 quoted) (codes "\"")
    && (bytes_eq (drop (length behind - 1) behind) (codes "\"") && not (list_any is_quote inner))
    then Some inner else None

-- a quoted text after any blanks
abbrev pub quoted_of : List ℕ → Option (List ℕ)
quoted_of param = unquoted (skip_blanks param)

-- the number that hexadecimal digits spell, in either case
abbrev pub hexadecimal : List ℕ → ℕ
hexadecimal digits = fold (λ n c. n * 16 + digit_value c) 0 digits

-- 1 to 8 hexadecimal digits
unfoldable pub hex_of : List ℕ → Option ℕ
hex_of digits =
    if list_all is_ascii_hexdigit digits && (nat_le 1 (length digits) && nat_le (length digits) 8)
    then Some (hexadecimal digits) else None

-- what may be left out: nothing at all between the commas, or the form
abbrev pub optional : {A : Type 0} → (List ℕ → Option A) → List ℕ → Option (Option A)
optional form [] = Some None
optional form (c ∷ param) = do
  value ← form (c ∷ param)
  Some (Some value)

-- lac and ci: a quoted text of 1 to 8 hexadecimal digits
unfoldable pub cell_code_of : List ℕ → Option ℕ
cell_code_of param = do
  digits ← quoted_of param
  hex_of digits
