-- The acts of a request, by what it is told at once.
use Rattle.std.specs.Prelude.{ℕ, List, [], ◌∷◌, map, Option, Some, None}
use Rattle.mux_frame.specs.Frames.{Frame}
use Rattle.mux_station.specs.declared.role.Role.TheVariants.{Initiator}
use Rattle.modem_desk.specs.declared.request.Request.{Request}
use Rattle.modem_desk.specs.declared.request.Answer.{Answer}
use Rattle.modem_history.specs.Acts.{Act, Took, Sent, Told}
use Rattle.modem_desk.specs.declared.request.Outcome.{Outcome}
use Rattle.modem_history.specs.Calls.{asking}

-- what a request came to: it was told this at once, or else these frames were sent for it
abbrev pub came_to : Option Outcome → List Frame → List Act
came_to None fs = map Sent fs
came_to (Some o) fs = Told o ∷ []

-- the outcome of a request that is told this at once
abbrev pub outcome_of : (caller number : ℕ) → Option Answer → Option Outcome
outcome_of caller number None = None
outcome_of caller number (Some why) = Some (record { caller = caller; number = number; answer = why })

-- a request was taken: told this at once, or else what it asks for was sent
abbrev pub taken_acts : Request → Option Answer → List Act
taken_acts q answer = Took q ∷ came_to (outcome_of q.caller q.number answer) (asking Initiator q.ask)
