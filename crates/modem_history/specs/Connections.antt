-- What comes and goes on a connection, over the acts at an end of the line: its information, and its lines
-- and commands, each at its place (27.010, 5.4; V.250, 5.2.1, 5.7). It needs no requests: a modem has the
-- same.
use Rattle.std.specs.Prelude.{◌≡◌, ℕ, ◌+◌, ◌-◌, ◌==◌, ◌&&◌, not, nat_le, nat_lt, Bool, List, [], ◌∷◌, ◌++◌, length, take, drop, map, filter_map, Some, None, if◌then◌else◌}
use Rattle.std.specs.List.{flat_map, zip}
use Rattle.mux_frame.specs.Frames.{Frame}
use Rattle.mux_frame.specs.declared.frame.Kind.TheVariants.{Uih}
use Rattle.mux_station.specs.declared.role.Role.{Role}
use Rattle.mux_station.specs.Written.{is_on}
use Rattle.mux_station.specs.Acts.{Act, Got, Sent}
use Rattle.mux_station.specs.Opening.{since, is_open, opens_now}
use Rattle.mux_station.specs.Traces.{without_calls}
use Rattle.at_text.specs.Lines.{lines, kept_run}
use Rattle.at_text.specs.Windows.{Mark, Line, Begun, Window, lines_of, windows}

-- ## Information

-- the frame carries information on d; on 0 there is none
abbrev pub carries : ℕ → Frame → Bool
carries d f = not (d == 0) && is_on Uih d f

-- the information that it carries
abbrev pub info_of : ℕ → Frame → List ℕ
info_of d f = if carries d f then f.info else []

-- the information of the UIH frames on d that came among the acts (newest first), joined
abbrev pub info_got : ℕ → List Act → List ℕ
info_got d [] = []
info_got d (Got f ∷ acts) = info_got d acts ++ info_of d f
info_got d (_ ∷ acts) = info_got d acts

-- the information of the UIH frames on d that were sent among the acts (newest first), joined
abbrev pub info_sent : ℕ → List Act → List ℕ
info_sent d [] = []
info_sent d (Sent f ∷ acts) = info_sent d acts ++ info_of d f
info_sent d (_ ∷ acts) = info_sent d acts

-- information that came on d since it opened, and that was sent
abbrev pub information_got : Role → ℕ → List Act → List ℕ
information_got r d past = info_got d (since r d past)

abbrev pub information_sent : Role → ℕ → List Act → List ℕ
information_sent r d past = info_sent d (since r d past)

-- the acts of each opening of d but the last, in turn; before the first there are none
abbrev pub earlier_openings : Role → ℕ → List Act → List (List Act)
earlier_openings r d [] = []
earlier_openings r d (a ∷ past) =
    earlier_openings r d past ++ (if opens_now r d past a then since r d past ∷ [] else [])

-- the acts of each of its openings, in turn
abbrev pub openings : Role → ℕ → List Act → List (List Act)
openings r d past = earlier_openings r d past ++ since r d past ∷ []

-- information that came in each of its openings, in turn, and that was sent
abbrev pub all_information_got : Role → ℕ → List Act → List (List ℕ)
all_information_got r d past = map (info_got d) (openings r d past)

abbrev pub all_information_sent : Role → ℕ → List Act → List (List ℕ)
all_information_sent r d past = map (info_sent d) (openings r d past)

-- ## Lines

-- what is kept of the line that is unfinished at the end of what came on d since it opened
abbrev pub unfinished_on : Role → ℕ → List Act → List ℕ
unfinished_on r d past = kept_run (information_got r d past)

-- the lines that end in a frame that comes on d: lines can be read on from what is kept of the unfinished one
abbrev pub lines_ended : Role → ℕ → List Act → Frame → List (List ℕ)
lines_ended r d past f = lines (unfinished_on r d past ++ f.info)

-- the lines that end in a frame that comes, each with its connection
abbrev pub lines_with : Role → List Act → Frame → List (ℕ × List ℕ)
lines_with r past f =
    if carries f.dlci f && is_open r f.dlci past
    then map (λ l. (f.dlci, l)) (lines_ended r f.dlci past f)
    else []

-- the lines of all connections, over all their openings, each with its connection: in the order in which they
-- end
abbrev pub lines_got : Role → List Act → List (ℕ × List ℕ)
lines_got r [] = []
lines_got r (Got f ∷ past) = lines_got r past ++ lines_with r past f
lines_got r (_ ∷ past) = lines_got r past

-- the lines of one connection
abbrev pub lines_on : ℕ → List (ℕ × List ℕ) → List (List ℕ)
lines_on d ls = filter_map (λ (p : ℕ × List ℕ). if p.0 == d then Some p.1 else None) ls

-- ## Commands

-- commands as they go out: each its text and CR
abbrev pub with_cr : List (List ℕ) → List (List ℕ)
with_cr commands = map (λ text. text ++ 13 ∷ []) commands

-- how many of the texts are whole in their first n octets, joined
abbrev pub whole_in : ℕ → List (List ℕ) → ℕ
whole_in n [] = 0
whole_in n (t ∷ ts) = if nat_le (length t) n then whole_in (n - length t) ts + 1 else 0

-- into how many of the texts the first n octets reach
abbrev pub reached_in : ℕ → List (List ℕ) → ℕ
reached_in n [] = 0
reached_in n (t ∷ ts) = if nat_lt 0 n then reached_in (n - length t) ts + 1 else 0

-- the commands that are wholly sent after n octets
abbrev pub wholly_sent : ℕ → List (List ℕ) → List (List ℕ)
wholly_sent n commands = take (whole_in n (with_cr commands)) commands

-- the commands that a frame sent on d makes whole
abbrev pub commands_ended : Role → ℕ → (commands : List (List ℕ)) → List Act → Frame → List (List ℕ)
commands_ended r d commands past f =
    let out = length (information_sent r d past) in
    drop (whole_in out (with_cr commands)) (wholly_sent (out + length f.info) commands)

-- ## Places

-- What is placed on d since it opened, in order, where these commands go out on it: a line at the frame in
-- which its end comes, a command at the frame that completes it.
abbrev pub placed : Role → ℕ → (commands : List (List ℕ)) → List Act → List Mark
placed r d commands [] = []
placed r d commands (Got f ∷ past) =
    if opens_now r d past (Got f) then []
    else if carries d f && is_open r d past then placed r d commands past ++ map Line (lines_ended r d past f)
    else placed r d commands past
placed r d commands (Sent f ∷ past) =
    if carries d f && is_open r d past
    then placed r d commands past ++ map Begun (commands_ended r d commands past f)
    else placed r d commands past
placed r d commands (_ ∷ past) = placed r d commands past

-- the past at the end of each opening of d but the last, in turn; a connection opens at a frame that comes
abbrev pub earlier_pasts : Role → ℕ → List Act → List (List Act)
earlier_pasts r d [] = []
earlier_pasts r d (Got f ∷ past) =
    earlier_pasts r d past ++ (if opens_now r d past (Got f) then past ∷ [] else [])
earlier_pasts r d (_ ∷ past) = earlier_pasts r d past

-- what is placed at each of these pasts, where the commands beside it go out
abbrev pub placed_at : Role → ℕ → List (List (List ℕ)) → (pasts : List (List Act)) → List (List Mark)
placed_at r d commands pasts = map (λ (p : List (List ℕ) × List Act). placed r d p.0 p.1) (zip commands pasts)

-- what is placed on d in each of its openings, in turn, where these commands go out on it in each of them;
-- before the first there is nothing
abbrev pub all_placed : Role → ℕ → (commands : List (List (List ℕ))) → List Act → List (List Mark)
all_placed r d commands past = placed_at r d commands (earlier_pasts r d past ++ past ∷ [])

-- ## Laws

-- the commands that began, in order
abbrev pub begun_in : List Mark → List (List ℕ)
begun_in ms = map (λ (w : Window). w.command) (windows ms)

-- among the lines of all connections, those of each are the lines of its information, over all its openings in turn
unfoldable pub HasAllLines : Role → List Act → Type 0
HasAllLines r past = (d : ℕ) → lines_on d (lines_got r past) ≡ flat_map lines (all_information_got r d past)

-- what is placed on d are the lines of its information since it opened, and the commands that are wholly sent
-- since then
pub record IsPlaced (r : Role) (d : ℕ) (commands : List (List ℕ)) (past : List Act) : Type 0 where
  pub lines_are : lines_of (placed r d commands past) ≡ lines (information_got r d past)
  pub commands_are : begun_in (placed r d commands past)
      ≡ wholly_sent (length (information_sent r d past)) commands

-- the law of `IsPlaced`, of every connection and commands
unfoldable pub PlacesAll : Role → List Act → Type 0
PlacesAll r past = (d : ℕ) (commands : List (List ℕ)) → IsPlaced r d commands past

-- what is placed on d in each opening are its lines, and those of the commands beside it that are wholly
-- sent
pub record ArePlacedInEach (r : Role) (d : ℕ) (commands : List (List (List ℕ)))
    (past : List Act) : Type 0 where
  pub lines_are : map lines_of (all_placed r d commands past) ≡ map lines (all_information_got r d past)
  pub commands_are : map begun_in (all_placed r d commands past)
      ≡ map (λ (p : List (List ℕ) × List ℕ). wholly_sent (length p.1) p.0)
      (zip commands (all_information_sent r d past))

-- the law of `ArePlacedInEach`, of every connection and as many lists of commands as it has openings
unfoldable pub PlacesEach : Role → List Act → Type 0
PlacesEach r past =
    (d : ℕ) (commands : List (List (List ℕ))) → length commands ≡ length (openings r d past)
    → ArePlacedInEach r d commands past

-- all this is the same with and without the calls of a station's user among the acts
pub record IsSaidAlike (r : Role) (past : List Act) : Type 0 where
  pub got_same : (d : ℕ) → information_got r d (without_calls past) ≡ information_got r d past
  pub sent_same : (d : ℕ) → information_sent r d (without_calls past) ≡ information_sent r d past
  pub lines_same : lines_got r (without_calls past) ≡ lines_got r past
  pub placed_same : (d : ℕ) (commands : List (List ℕ))
      → placed r d commands (without_calls past) ≡ placed r d commands past

-- the law of `IsSaidAlike`
unfoldable pub NeedsNoCalls : Role → List Act → Type 0
NeedsNoCalls r past = IsSaidAlike r past
