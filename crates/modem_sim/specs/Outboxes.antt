-- What a simulated modem has to write on a connection since it opened, and what of it is held back.
use Rattle.std.specs.Prelude.{ℕ, ◌==◌, ◌&&◌, ◌||◌, not, Bool, true, false, List, [], ◌∷◌, ◌++◌, Option, Some, None, is_none, if◌then◌else◌}
use Rattle.mux_frame.specs.Frames.{Frame}
use Rattle.mux_station.specs.declared.role.Role.TheVariants.{Responder}
use Rattle.mux_station.specs.Acts as station
use Rattle.mux_station.specs.Opening.{opens_now, belongs}
use Rattle.modem_sim.specs.declared.script.StepAct.TheVariants.{Announce, Hold}
use Rattle.modem_sim.specs.Acts.{Act, Wire, Did, End, wire}
use Rattle.modem_sim.specs.declared.state.ModemState.{ModemState}
use Rattle.modem_sim.specs.Heard.{modem_after, texts_with}
use Rattle.modem_sim.specs.LineSteps.{any_through, step}
use Rattle.modem_sim.specs.Pieces.{Piece, Announced, replies}

abbrev pub is_empty : List (List ℕ) → Bool
is_empty [] = true
is_empty (l ∷ ls) = false

-- a command ends on e in this act
abbrev pub brings_command : ℕ → List Act → station.Act → Bool
brings_command e past (station.Got f) = (f.dlci == e) && not (is_empty (texts_with past f))
brings_command e past _ = false

-- d goes on being open, and wasn't opened anew
abbrev pub stays : ℕ → List Act → station.Act → Bool
stays d past a = belongs Responder d (wire past) a && not (opens_now Responder d (wire past) a)

-- a hold lasts until a command has come on the connection that it names
abbrev pub lasts : List Act → station.Act → Option ℕ → Option ℕ
lasts past a None = None
lasts past a (Some e) = if brings_command e past a then None else Some e

-- the connection whose next command the answers on d wait for
abbrev pub hold_on : ℕ → List Act → Option ℕ
hold_on d [] = None
hold_on d (Did (Hold x e) ∷ past) = if x.number == d then Some e.number else hold_on d past
hold_on d (Did _ ∷ past) = hold_on d past
hold_on d (Wire a ∷ past) = if stays d past a then lasts past a (hold_on d past) else None

-- ## Calls (27.007, 10.1.12)

-- one of these lines puts a call through
abbrev pub any_call : ModemState → List (List ℕ) → Bool
any_call m [] = false
any_call m (line ∷ lines) = any_through (step m line).answer || any_call (step m line).state lines

-- d is in a call then, or goes on to be
abbrev pub calls_after : End → ℕ → List Act → station.Act → Bool → Bool
calls_after e d past (station.Got f) was = was || ((f.dlci == d) && any_call (modem_after e past) (texts_with past f))
calls_after e d past _ was = was

-- d is in a call: since it opened a line on it put one through
abbrev pub in_call : End → ℕ → List Act → Bool
in_call e d [] = false
in_call e d (Did step ∷ past) = in_call e d past
in_call e d (Wire a ∷ past) = if stays d past a then calls_after e d past a (in_call e d past) else false

-- ## What is said

-- what is said, piece by piece in the order in which it goes out, and what is held back
pub record Outbox : Type 0 where
  pub said : List Piece
  pub held : List Piece

abbrev pub empty_box : Outbox
empty_box = record { said = []; held = [] }

-- the replies to the lines on d that end in a frame
abbrev pub replies_by : End → ℕ → List Act → Frame → List Piece
replies_by e d past f =
    if f.dlci == d then replies e.echo (modem_after e past) (texts_with past f) else []

abbrev pub is_holding : Option ℕ → Bool
is_holding h = not (is_none h)

-- more is said: behind what is held back, if a hold lasts, else it all goes out
abbrev pub say : Bool → Outbox → List Piece → Outbox
say true b pieces = record { said = b.said; held = b.held ++ pieces }
say false b pieces = record { said = b.said ++ (b.held ++ pieces); held = [] }

-- what a frame that comes makes of d's outbox while d stays open; no other act says anything
abbrev pub said_after : End → ℕ → List Act → station.Act → Outbox → Outbox
said_after e d past (station.Got f) b =
    say (is_holding (hold_on d (Wire (station.Got f) ∷ past))) b (replies_by e d past f)
said_after e d past _ b = b

-- what is held back is dropped
abbrev pub dropped : Outbox → Outbox
dropped b = record { said = b.said; held = [] }

-- what an act makes of d's outbox: it starts afresh where d opens, and what is held back is dropped where d
-- closes
abbrev pub box_after : End → ℕ → List Act → station.Act → Outbox → Outbox
box_after e d past a b =
    if opens_now Responder d (wire past) a then empty_box
    else if stays d past a then said_after e d past a b
    else dropped b

-- d's outbox
abbrev pub outbox : End → ℕ → List Act → Outbox
outbox e d [] = empty_box
outbox e d (Did (Announce x line) ∷ past) =
    let b = outbox e d past in
    if x.number == d then record { said = b.said ++ Announced line ∷ []; held = b.held } else b
outbox e d (Did _ ∷ past) = outbox e d past
outbox e d (Wire a ∷ past) = box_after e d past a (outbox e d past)

-- the replies to all lines that came on d since it opened
abbrev pub replies_after : End → ℕ → List Act → station.Act → List Piece → List Piece
replies_after e d past (station.Got f) before = before ++ replies_by e d past f
replies_after e d past _ before = before

abbrev pub replies_since : End → ℕ → List Act → List Piece
replies_since e d [] = []
replies_since e d (Did step ∷ past) = replies_since e d past
replies_since e d (Wire a ∷ past) =
    if opens_now Responder d (wire past) a then [] else replies_after e d past a (replies_since e d past)
