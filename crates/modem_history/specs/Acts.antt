-- What happens. A past is written with its newest act first, since most questions to it are about its end.
-- A station knows no requests, and so has acts of its own: `wire` is what it knows of these.
use Rattle.std.specs.Prelude.{ℕ, ◌==◌, ◌&&◌, ◌++◌, not, Bool, List, [], ◌∷◌, filter, filter_map, Option, Some, None}
use Rattle.mux_frame.specs.Frames.{Frame, kept_frame}
use Rattle.mux_station.specs.Acts as station
use Rattle.at_text.specs.declared.unsolicited.UrcKind.{UrcKind}
use Rattle.modem_desk.specs.declared.request.Request.{Request}
use Rattle.modem_desk.specs.declared.request.Answer.{Answer}
use Rattle.modem_desk.specs.declared.request.Outcome.{Outcome}
use Rattle.modem_history.specs.declared.act.Act as code

-- what happens to a driver
pub data Act : Type 0 where
  Took : Request → Act
  Got : Frame → Act
  Sent : Frame → Act
  Told : Outcome → Act
  Heard : (kind : UrcKind) → (dlci : ℕ) → (line : List ℕ) → Act
  Tick : Act
  Lost : Act
  Held : (dlci : ℕ) → Act
  Freed : (dlci : ℕ) → Act
  -- one frame of the control queue is given on: no act, but a mark in a past where room is spoken of
  Given : Act

-- an act of the program
abbrev pub act_of : code.Act → Act
act_of (code.TheVariants.Took r) = Took r
act_of (code.TheVariants.Got f) = Got (kept_frame f)
act_of (code.TheVariants.Sent f) = Sent (kept_frame f)
act_of (code.TheVariants.Told o) = Told o
act_of (code.TheVariants.Heard u) = Heard u.kind u.dlci.number u.line
act_of code.TheVariants.Tick = Tick
act_of code.TheVariants.Lost = Lost
act_of (code.TheVariants.Held d) = Held d.number
act_of (code.TheVariants.Freed d) = Freed d.number

-- the past, and then these acts, of which the first comes first
abbrev pub after : List Act → List Act → List Act
after past [] = past
after past (a ∷ acts) = after (a ∷ past) acts

-- what the station has of an act
abbrev pub wire_act : Act → Option station.Act
wire_act (Got f) = Some (station.Got f)
wire_act (Sent f) = Some (station.Sent f)
wire_act Tick = Some station.Tick
wire_act Lost = Some station.Lost
wire_act Given = Some station.Given
wire_act _ = None

-- what the station has of a past
abbrev pub wire : List Act → List station.Act
wire acts = filter_map wire_act acts

-- the outcome answers the request: it has the same caller and number
abbrev pub is_for : Request → Outcome → Bool
is_for r o = (r.caller == o.caller) && (r.number == o.number)

abbrev pub told : Request → Answer → Act
told r answer = Told (record { caller = r.caller; number = r.number; answer = answer })

abbrev pub without : Outcome → List Request → List Request
without o rs = filter (λ r. not (is_for r o)) rs

-- the requests in hand, in the order in which they were taken
abbrev pub in_hand : List Act → List Request
in_hand [] = []
in_hand (Took r ∷ past) = in_hand past ++ r ∷ []
in_hand (Told o ∷ past) = without o (in_hand past)
in_hand (_ ∷ past) = in_hand past
