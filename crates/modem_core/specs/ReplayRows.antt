-- Replays that no driver may give: acts of which no event says anything, a command in frames that are too
-- short, and want of room.
use Rattle.std.specs.Prelude.{ℕ, List, [], ◌∷◌, ◌++◌, codes, drop, replicate, take}
use Rattle.mux_frame.specs.declared.frame.Kind.TheVariants.{Sabm, Ua, Uih}
use Rattle.modem_desk.specs.declared.request.Ask.TheVariants.{Command, OpenChannel}
use Rattle.modem_desk.specs.declared.request.Answer.TheVariants.{Opened, LineLost, Busy}
use Rattle.modem_history.specs.Acts.{Act, Lost, Given, after}
use Rattle.modem_history.specs.Rows.{zero, one, asks, takes, tells, sends, comes, cr, msc_command, opening_zero}
use Rattle.modem_core.specs.declared.event.Event.{Event}
use Rattle.modem_core.specs.declared.event.Event.TheVariants as event
use Rattle.modem_core.specs.Replays.{Piece, Replays}
use Rattle.modem_core.specs.Room.{FindsRoom}

-- two requests, and no loss of the line among the events
abbrev pub two_requests : List Event
two_requests = event.Ask (asks 1 (OpenChannel zero)) ∷ event.Ask (asks 2 (OpenChannel one)) ∷ []

-- the line is lost although no event says so, and each request is told LineLost
abbrev pub lost_by_itself : List Act
lost_by_itself =
    takes 1 (OpenChannel zero) ∷ Lost ∷ tells 1 LineLost ∷ takes 2 (OpenChannel one) ∷ tells 2 LineLost ∷ []

-- one request and no octet at all
abbrev pub one_request : List Event
one_request = event.Ask (asks 1 (OpenChannel zero)) ∷ []

-- a UA is got although no octet came, and Opened is told
abbrev pub frame_invented : List Act
frame_invented = takes 1 (OpenChannel zero) ∷ sends Sabm 0 [] ∷ comes Ua 0 [] ∷ tells 1 Opened ∷ []

-- a request among the events is never taken
abbrev pub request_dropped : List Act
request_dropped = takes 1 (OpenChannel zero) ∷ sends Sabm 0 [] ∷ []

abbrev pub NoReplay : List Event → List Act → Type 0
NoReplay events acts = ¬ Replays 31 events acts

-- ## A command in more than one frame

-- a text of 40 octets, and with its CR
abbrev pub long_text : List ℕ
long_text = codes "AT" ++ replicate 38 68

abbrev pub long_command : List ℕ
long_command = long_text ++ cr

-- it leaves in a frame of so many octets and a frame of the others
abbrev pub leaves_in_two : ℕ → List Act
leaves_in_two n =
    takes 1 (OpenChannel zero) ∷ sends Sabm 0 [] ∷ comes Ua 0 [] ∷ tells 1 Opened ∷
    takes 2 (OpenChannel one) ∷ sends Sabm 1 [] ∷ comes Ua 1 [] ∷ sends Uih 0 (msc_command 1 0x8d) ∷
    tells 2 Opened ∷
    takes 3 (Command one long_text) ∷ sends Uih 1 (take n long_command) ∷
    sends Uih 1 (drop n long_command) ∷ []

-- N1 octets and the other ten; and two that N1 leaves too short
abbrev pub full_frames : List Act
full_frames = leaves_in_two 31

abbrev pub half_frames : List Act
half_frames = leaves_in_two 20

-- whatever the events
abbrev pub NoReplayOfAny : List Act → Type 0
NoReplayOfAny acts = (events : List Event) → NoReplay events acts

-- ## Want of room

-- a piece that begins and goes on so, where no data goes out
abbrev pub piece_of : Act → List Act → Piece
piece_of first more = record { first = first; more = more; data_frames = [] }

-- the first request of all is told Busy
abbrev pub busy_at_first : Piece
busy_at_first = piece_of (takes 1 (OpenChannel zero)) (tells 1 Busy ∷ [])

-- a second request is told Busy, while 0 is being opened
abbrev pub while_opening : List Act
while_opening = after [] (takes 1 (OpenChannel zero) ∷ sends Sabm 0 [] ∷ Given ∷ [])

abbrev pub busy_again : Piece
busy_again = piece_of (takes 2 (OpenChannel zero)) (tells 2 Busy ∷ [])

-- a Test command comes, whose response of ten octets has no place behind 4120, where there is room for 4096
-- and 31
abbrev pub full_queue : List Act
full_queue = after [] (opening_zero ++ replicate 412 (sends Uih 0 (msc_command 1 0x8d)))

abbrev pub test_comes : Piece
test_comes = piece_of (comes Uih 0 (0x23 ∷ 5 ∷ 0x41 ∷ 0x42 ∷ [])) []

abbrev pub WantsRoom : List Act → Piece → Type 0
WantsRoom past p = ¬ FindsRoom 31 past p
