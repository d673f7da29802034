-- The command that enters the multiplexer (27.007, 5.7).
use Rattle.std.specs.Prelude.{ℕ, ◌+◌, ◌-◌, ◌*◌, ◌==◌, ◌&&◌, nat_lt, nat_le, Bool, true, false, List, [], ◌∷◌, take, drop, fold, Option, Some, None, if◌then◌else◌, codes}
use Rattle.std.specs.Str.{bytes_eq}
use Rattle.at_text.specs.Octets.{is_comma, is_digit}
use Rattle.at_cmds.specs.CommandLines.{commands_in}
use Rattle.at_cmds.specs.Forms.{lowered}
use Rattle.modem_sim.specs.LineSteps.{is_too_long}
use Rattle.mux_frame.specs.declared.n1.N1.{N1}

-- N1 as a number
abbrev pub octets_of : N1 → ℕ
octets_of n1 = n1.octets

-- a parameter is left out or between these
abbrev pub is_between : ℕ → ℕ → Option ℕ → Bool
is_between low high None = true
is_between low high (Some n) = nat_le low n && nat_le n high

-- the mode is the basic option, and isn't left out
abbrev pub is_basic : Option ℕ → Bool
is_basic None = false
is_basic (Some n) = n == 0

-- mode, subset (UIH frames), port speed, N1, T1, N2, T2, T3 and k, which is for another mode
abbrev pub is_good : ℕ → Option ℕ → Bool
is_good place n =
    if place == 0 then is_basic n
    else if place == 1 then is_between 0 0 n
    else if place == 2 then is_between 1 8 n
    else if place == 3 then is_between 31 32767 n
    else if place == 4 then is_between 1 255 n
    else if place == 5 then is_between 0 100 n
    else if place == 6 then is_between 2 255 n
    else if place == 7 then is_between 1 255 n
    else if place == 8 then is_between 1 7 n
    else false

-- parameters so far: which one this is, its digits so far, N1, and whether all are good
pub record Read : Type 0 where
  pub place : ℕ
  pub digits : Option ℕ
  pub n1 : ℕ
  pub good : Bool

-- N1 is the fourth, where that is named and in its range
abbrev pub n1_of : Option ℕ → ℕ → ℕ
n1_of None n1 = n1
n1_of (Some n) n1 = if is_between 31 32767 (Some n) then n else n1

abbrev pub parameter_ended : Read → Read
parameter_ended r = record {
  place = if nat_lt r.place 9 then r.place + 1 else r.place;
  digits = None;
  n1 = if r.place == 3 then n1_of r.digits r.n1 else r.n1;
  good = r.good && is_good r.place r.digits;
}

abbrev pub number_so_far : Option ℕ → ℕ
number_so_far None = 0
number_so_far (Some n) = n

-- one more digit; no parameter has more than five
abbrev pub digit_read : Read → ℕ → Read
digit_read r digit =
    if nat_lt (number_so_far r.digits) 10000 then record r { digits = Some (number_so_far r.digits * 10 + digit) }
    else record r { good = false }

abbrev pub parameter_octet : Read → ℕ → Read
parameter_octet r c =
    if is_comma c then parameter_ended r
    else if is_digit c then digit_read r (c - 48)
    else record r { good = false }

-- where N1 is left out it is this
abbrev pub none_read : ℕ → Read
none_read n1 = record { place = 0; digits = None; n1 = n1; good = true }

abbrev pub entered_with : Read → Option ℕ
entered_with r = if r.good then Some r.n1 else None

-- the N1 of the basic option that parameters enter
unfoldable pub entering : ℕ → List ℕ → Option ℕ
entering n1 text = entered_with (parameter_ended (fold parameter_octet (none_read n1) text))

-- the N1 of the multiplexer that one command enters, its letters in either case
abbrev pub entered_by : ℕ → List ℕ → Option ℕ
entered_by n1 command = if bytes_eq (lowered (take 8 command)) (codes "at+cmux=") then entering n1 (drop 8 command) else None

-- a line enters it whose only command does
abbrev pub entered_by_one : ℕ → Option (List (List ℕ)) → Option ℕ
entered_by_one n1 (Some (command ∷ [])) = entered_by n1 command
entered_by_one n1 _ = None

-- a line that is too long enters nothing
abbrev pub mux_entry : ℕ → List ℕ → Option ℕ
mux_entry n1 line = if is_too_long line then None else entered_by_one n1 (commands_in line)
