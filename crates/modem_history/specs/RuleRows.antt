-- Histories that the three rules don't make: a call is broken into, data is sent short or out of turn, or a request is
-- taken past the bound.
use Rattle.std.specs.Prelude.{ℕ, List, [], ◌∷◌, ◌++◌, map, codes}
use Rattle.std.specs.List.{range_with_len}
use Rattle.mux_frame.specs.declared.frame.Kind.TheVariants.{Sabm, Ua, Disc, Uih}
use Rattle.modem_desk.specs.declared.request.Ask.TheVariants.{OpenChannel, Command}
use Rattle.modem_desk.specs.declared.request.Answer.TheVariants.{Opened, AlreadyOpen, Closed, ControlChannel, LineLost, Busy}
use Rattle.modem_history.specs.Acts.{Act, Lost, Given, after}
use Rattle.modem_history.specs.Calls.{replaying}
use Rattle.modem_history.specs.Rows.{zero, one, two, takes, tells, sends, comes, msc_command, fcoff_command, fcoff_response, fcon_command, fcon_response, cr, opening_zero, opening_one}
use Rattle.modem_history.specs.Rules.{Made}

-- the rules make it, at an initiator with N1 31 and a standard modem; and they don't
abbrev pub IsMade : List Act → Type 0
IsMade acts = Made (replaying 31) (after [] acts)

abbrev pub IsUnmade : List Act → Type 0
IsUnmade acts = ¬ Made (replaying 31) (after [] acts)

-- an outcome is told behind the next request
abbrev pub told_behind_the_next : List Act
told_behind_the_next =
    opening_zero ++ takes 2 (OpenChannel zero) ∷ takes 3 (Command zero (codes "AT")) ∷
    tells 2 AlreadyOpen ∷ tells 3 ControlChannel ∷ []

-- a frame goes out before what its call tells
abbrev pub given_inside_a_call : List Act
given_inside_a_call =
    opening_one ++ takes 3 (Command one (codes "AT+CSQ")) ∷ sends Uih 1 (codes "AT+CSQ" ++ cr) ∷
    comes Disc 1 [] ∷ sends Ua 1 [] ∷ Given ∷ tells 3 Closed ∷ []

-- the line is lost before the SABM of a request is sent
abbrev pub lost_inside_a_call : List Act
lost_inside_a_call =
    opening_zero ++ takes 2 (OpenChannel one) ∷ Lost ∷ tells 2 LineLost ∷ []

-- a data frame with fewer octets than wait and fit
abbrev pub half_a_command : List Act
half_a_command =
    opening_one ++ takes 3 (Command one (codes "AT+CSQ")) ∷ sends Uih 1 (codes "AT+") ∷
    sends Uih 1 (codes "CSQ" ++ cr) ∷ []

-- two connections, and the higher one sends first
abbrev pub out_of_turn : List Act
out_of_turn =
    opening_one ++ takes 3 (OpenChannel two) ∷ sends Sabm 2 [] ∷ Given ∷ comes Ua 2 [] ∷
    sends Uih 0 (msc_command 2 0x8d) ∷ tells 3 Opened ∷ Given ∷ comes Uih 0 fcoff_command ∷
    sends Uih 0 fcoff_response ∷ Given ∷ takes 4 (Command one (codes "AT")) ∷ takes 5 (Command two (codes "AT")) ∷
    comes Uih 0 fcon_command ∷ sends Uih 0 fcon_response ∷ Given ∷ sends Uih 2 (codes "AT" ++ cr) ∷
    sends Uih 1 (codes "AT" ++ cr) ∷ []

-- so many commands, numbered from one on
abbrev pub commands_from : (first count : ℕ) → List Act
commands_from first count = map (λ n. takes n (Command one (codes "AT"))) (range_with_len first count)

-- a request is taken where 128 are in hand
abbrev pub taken_past_128 : List Act
taken_past_128 =
    opening_one ++ comes Uih 0 fcoff_command ∷ sends Uih 0 fcoff_response ∷ Given ∷ [] ++ commands_from 3 128 ++
    takes 131 (Command one (codes "AT")) ∷ tells 131 Busy ∷ []

-- the rules make none of these
abbrev pub unmade_rows : List (List Act)
unmade_rows =
    told_behind_the_next ∷ given_inside_a_call ∷ lost_inside_a_call ∷ half_a_command ∷ out_of_turn ∷
    taken_past_128 ∷ []
