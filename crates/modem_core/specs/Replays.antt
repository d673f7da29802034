-- What a replay of events is.
use Rattle.std.specs.Prelude.{◌≡◌, ℕ, ◌==◌, ◌||◌, not, Bool, true, false, List, [], ◌∷◌, ◌++◌, length, map, filter, filter_map, Option, Some, None, if◌then◌else◌}
use Rattle.std.specs.List.{list_all, flat_map}
use Rattle.mux_frame.specs.Frames.{Frame}
use Rattle.mux_frame.specs.Reading.{Reads}
use Rattle.mux_station.specs.Written.{is_data_frame}
use Rattle.mux_station.specs.GivenFrames.{with_freshness}
use Rattle.modem_desk.specs.declared.request.Request.{Request}
use Rattle.modem_core.specs.declared.event.Event.{Event}
use Rattle.modem_core.specs.declared.event.Event.TheVariants as event
use Rattle.modem_history.specs.Acts.{Act, Took, Got, Sent, Tick, Lost, Given, after}
use Rattle.modem_history.specs.Calls.{Setting, replaying}
use Rattle.modem_history.specs.Lawful.{Keeps}
use Rattle.modem_history.specs.Wholes.{is_said, is_first}
use Rattle.modem_history.specs.GoingOut.{next_out}

-- ## Events

abbrev pub request_in : Event → Option Request
request_in (event.Ask q) = Some q
request_in _ = None

-- the requests among the events, in order
abbrev pub requests : List Event → List Request
requests events = filter_map request_in events

abbrev pub event_octets : Event → List ℕ
event_octets (event.Octets x) = x
event_octets _ = []

-- the octets of the events, joined
abbrev pub octets : List Event → List ℕ
octets events = flat_map event_octets events

-- ## Pieces

-- one request, frame, tick or loss; the frames, outcomes and lines that follow it; and the data that goes
-- out then. Data stands apart, since the marks of the control frames stand between it and the other acts.
pub record Piece : Type 0 where
  pub first : Act
  pub more : List Act
  pub data_frames : List Frame

abbrev pub acts_in : Piece → List Act
acts_in p = p.first ∷ (p.more ++ map Sent p.data_frames)

abbrev pub first_of : Piece → Act
first_of p = p.first

-- a mark for each control frame among the acts
abbrev pub marks_for : List Act → List Act
marks_for [] = []
marks_for (Sent f ∷ acts) = if is_data_frame f then marks_for acts else Given ∷ marks_for acts
marks_for (_ ∷ acts) = marks_for acts

-- the past after the call, each control frame of which is then given on
abbrev pub after_call : List Act → Piece → List Act
after_call past p = after (after past (p.first ∷ p.more)) (marks_for p.more)

-- the past after a piece: its call, and the data that goes out then
abbrev pub with_piece : List Act → Piece → List Act
with_piece past p = after (after_call past p) (map Sent p.data_frames)

-- the past after some pieces
abbrev pub past_of : List Act → List Piece → List Act
past_of past [] = past
past_of past (p ∷ ps) = past_of (with_piece past p) ps

-- each data frame is the next that may go out, of the connection whose turn it is and with as many octets as
-- wait there, at most N1; and at last there is none
abbrev pub GoOutInTurn : Setting → List Act → List Frame → Type 0
GoOutInTurn s past [] = next_out s past ≡ None
GoOutInTurn s past (f ∷ fs) =
    (next_out s past ≡ Some (with_freshness true f)) × GoOutInTurn s (Sent f ∷ past) fs

-- what follows the first act are frames that are no data, outcomes and lines; then all data that may go out,
-- in turn; and after it the history so far is lawful, complete and quiet
pub record IsPiece (s : Setting) (past : List Act) (p : Piece) : Type 0 where
  pub follow : list_all is_said p.more ≡ true
  pub goes_out : GoOutInTurn s (after_call past p) p.data_frames
  pub keeps : Keeps s (with_piece past p)

abbrev pub ArePieces : Setting → List Act → List Piece → Type 0
ArePieces s past [] = Unit {0}
ArePieces s past (p ∷ ps) = IsPiece s past p × ArePieces s (with_piece past p) ps

-- ## What the events begin

-- what the events begin pieces with, after these octets: each request, tick and loss where it comes, and
-- each frame at the first event after which Reads gives it in the octets so far; else a replay could invent
-- a frame, or lose the line by itself
pub data BegunBy (n1 : ℕ) : List ℕ → List Event → List Act → Type 0 where
  ends : (heard : List ℕ) → BegunBy n1 heard [] []
  asks : (heard : List ℕ) (q : Request) (events : List Event) (firsts : List Act)
      → BegunBy n1 heard events firsts → BegunBy n1 heard (event.Ask q ∷ events) (Took q ∷ firsts)
  hears : (heard x : List ℕ) (fs gs : List Frame) (rest last : List ℕ) (events : List Event)
      (firsts : List Act)
      → Reads n1 heard fs rest → Reads n1 (heard ++ x) (fs ++ gs) last → BegunBy n1 (heard ++ x) events firsts
      → BegunBy n1 heard (event.Octets x ∷ events) (map Got gs ++ firsts)
  ticks : (heard : List ℕ) (events : List Event) (firsts : List Act) → BegunBy n1 heard events firsts
      → BegunBy n1 heard (event.Tick ∷ events) (Tick ∷ firsts)
  loses : (heard : List ℕ) (events : List Event) (firsts : List Act) → BegunBy n1 heard events firsts
      → BegunBy n1 heard (event.Lost ∷ events) (Lost ∷ firsts)

-- ## The promise

-- the acts are one piece for each request, frame, tick and loss, in the order of the events
pub record Replays (n1 : ℕ) (events : List Event) (acts : List Act) : Type 0 where
  pub pieces : List Piece
  pub joins : flat_map acts_in pieces ≡ acts
  pub begins : BegunBy n1 [] events (map first_of pieces)
  pub are_pieces : ArePieces (replaying n1) [] pieces

-- the requests taken, frames got, ticks and losses are those that the events bring, in their order, and no
-- others
unfoldable pub Brought : ℕ → List Event → List Act → Type 0
Brought n1 events acts = BegunBy n1 [] events (filter is_first acts)

-- the octets end with the CR of a command; a command has no other (V.250, 5.2.1)
abbrev pub ends_command : List ℕ → Bool
ends_command [] = false
ends_command (x ∷ []) = x == 13
ends_command (x ∷ y ∷ rest) = ends_command (y ∷ rest)

-- a data frame has N1 octets of information, or is the last of its command
abbrev pub is_full : ℕ → Act → Bool
is_full n1 (Sent f) = not (is_data_frame f) || ((length f.info == n1) || ends_command f.info)
is_full n1 _ = true

-- all data frames of a command but the last have N1 octets of information
abbrev pub AreFull : ℕ → List Act → Type 0
AreFull n1 acts = list_all (is_full n1) acts ≡ true
