-- The commands of one line, as V.250 has them (5.2.1, 5.3.1, 5.4.1, 5.4.2, 6.3.1).
use Rattle.std.specs.Prelude.{ℕ, ◌==◌, ◌&&◌, ◌||◌, not, nat_lt, Bool, true, false, List, [], ◌∷◌, ◌++◌, length, fold, Option, Some, None, if◌then◌else◌, codes}
use Rattle.at_text.specs.Octets.{is_blank, is_digit, is_quote}
use Rattle.at_cmds.specs.declared.command_lines.Place.{Place}
use Rattle.at_cmds.specs.declared.command_lines.Place.TheVariants.{Before, Letter, Between, Basic, Ampersand, Extended, Quoted, Dialling}

-- 3B hex, between commands
abbrev pub is_semicolon : ℕ → Bool
is_semicolon c = c == 59

-- the letters of AT, in either case
abbrev pub is_letter_a : ℕ → Bool
is_letter_a c = c == 65 || c == 97

-- the letter T, in either case
abbrev pub is_letter_t : ℕ → Bool
is_letter_t c = c == 84 || c == 116

-- octets begin with AT, its letters in either case (5.2.1)
abbrev pub begins_with_at : List ℕ → Bool
begins_with_at [] = false
begins_with_at (a ∷ []) = false
begins_with_at (a ∷ t ∷ rest) = is_letter_a a && is_letter_t t

-- the letter D, in either case
abbrev pub is_letter_d : ℕ → Bool
is_letter_d c = c == 68 || c == 100

-- behind AT, where no command that goes on to a semicolon has begun: a plus sign begins one (5.4.1), an ampersand one of
-- two signs, D one with all behind it, since no call of this modem ends by a semicolon (6.3.1), and another sign one of one sign (5.3.1)
abbrev pub place_behind : Place → ℕ → Place
place_behind p c =
    if is_blank c then p
    else if is_semicolon c then Between
    else if c == 43 then Extended
    else if c == 38 then Ampersand
    else if is_letter_d c then Dialling
    else Basic

-- where a line is after one more octet; before AT anything may stand
abbrev pub place_after : Place → ℕ → Place
place_after Before c = if is_letter_a c then Letter else Before
place_after Letter c = if is_letter_t c then Between else if is_letter_a c then Letter else Before
place_after Between c = place_behind Between c
place_after Basic c = place_behind Basic c
place_after Ampersand c = if is_blank c then Ampersand else Basic
place_after Extended c = if is_quote c then Quoted else if is_semicolon c then Between else Extended
place_after Quoted c = if is_quote c then Extended else Quoted
place_after Dialling c = Dialling

-- an octet that is no blank and no semicolon
abbrev pub is_sign : ℕ → Bool
is_sign c = not (is_blank c) && not (is_semicolon c)

-- a command begins with this octet: a digit belongs to the command of one sign before it
abbrev pub begins_at : Place → ℕ → Bool
begins_at Between c = is_sign c
begins_at Basic c = is_sign c && not (is_digit c)
begins_at _ c = false

-- an octet belongs to the command that has begun: blanks do between quotes alone (5.2.1, 5.4.2.2)
abbrev pub goes_on_at : Place → ℕ → Bool
goes_on_at Basic c = is_digit c
goes_on_at Ampersand c = not (is_blank c)
goes_on_at Extended c = is_sign c
goes_on_at Quoted c = true
goes_on_at Dialling c = not (is_blank c)
goes_on_at _ c = false

-- a line so far: where it is, the commands that are whole, and the one that has begun, each with AT before it
pub record Read : Type 0 where
  pub place : Place
  pub whole : List (List ℕ)
  pub begun : List ℕ

-- a line of which nothing is read yet
abbrev pub nothing_read : Read
nothing_read = record { place = Before; whole = []; begun = [] }

-- the command that has begun, if one has
abbrev pub one_begun : List ℕ → List (List ℕ)
one_begun begun = if nat_lt 0 (length begun) then begun ∷ [] else []

-- a line so far, after one more octet
abbrev pub read_octet : Read → ℕ → Read
read_octet r c =
    if begins_at r.place c then record {
      place = place_after r.place c;
      whole = r.whole ++ one_begun r.begun;
      begun = codes "AT" ++ c ∷ [];
    }
    else if goes_on_at r.place c then record r { place = place_after r.place c; begun = r.begun ++ c ∷ [] }
    else record r { place = place_after r.place c }

-- a line without AT isn't for the modem
abbrev pub is_before_at : Place → Bool
is_before_at Before = true
is_before_at Letter = true
is_before_at _ = false

-- the commands of a line that ends here; none where it has no AT
abbrev pub commands_read : Read → Option (List (List ℕ))
commands_read r = if is_before_at r.place then None else Some (r.whole ++ one_begun r.begun)

-- the commands of a line, each with AT before it, without the blanks; none where the line has no AT
unfoldable pub commands_in : List ℕ → Option (List (List ℕ))
commands_in line = commands_read (fold read_octet nothing_read line)
