-- What happens at a simulated modem's end of the line. A past is written with its newest act first.
use Rattle.std.specs.Prelude.{ℕ, Bool, true, false, List, [], ◌∷◌}
use Rattle.mux_station.specs.Acts as station
use Rattle.mux_station.specs.declared.role.Role.TheVariants.{Responder}
use Rattle.mux_station.specs.Opening as opening
use Rattle.mux_station.specs.Sending.{StationSetting}
use Rattle.modem_sim.specs.declared.script.Script.{Script}
use Rattle.modem_sim.specs.declared.script.Step.{Step}
use Rattle.modem_sim.specs.declared.script.StepAct.{StepAct}
use Rattle.modem_sim.specs.declared.state.ModemState.{ModemState}

-- what happens at a simulated modem
pub data Act : Type 0 where
  -- at its station
  Wire : station.Act → Act
  -- a step of its script is done
  Did : StepAct → Act

-- the setting of a simulated modem's history: N1, whether commands are repeated, the steps of its script, and the modem
-- as it was handed in
pub record End : Type 0 where
  pub n1 : ℕ
  pub echo : Bool
  pub steps : List Step
  pub modem : ModemState

-- an end with this N1, modem and script
abbrev pub end_of : ℕ → ModemState → Script → End
end_of n1 modem script = record { n1 = n1; echo = script.echo; steps = script.steps; modem = modem }

-- the setting of its station's history: it is the responder
abbrev pub setting : End → StationSetting
setting e = record { role = Responder; n1 = e.n1 }

-- the past of its station
abbrev pub wire : List Act → List station.Act
wire [] = []
wire (Wire a ∷ past) = a ∷ wire past
wire (Did step ∷ past) = wire past

-- an act by which steps are done: a step itself, a call of the station other than an offer, or a frame sent
abbrev pub is_step_act : Act → Bool
is_step_act (Did step) = true
is_step_act (Wire (station.Called (station.Offer d octets))) = false
is_step_act (Wire (station.Called call)) = true
is_step_act (Wire (station.Sent f)) = true
is_step_act _ = false

-- octets are handed to the station
abbrev pub is_handing : Act → Bool
is_handing (Wire (station.Called (station.Offer d octets))) = true
is_handing _ = false

-- any act at all
abbrev pub any_act : Act → Bool
any_act a = true

-- d is open at the modem's end
abbrev pub is_open_at_modem : ℕ → List Act → Bool
is_open_at_modem d past = opening.is_open Responder d (wire past)

-- the past, and then these acts, of which the first comes first
abbrev pub after : List Act → List Act → List Act
after past [] = past
after past (a ∷ acts) = after (a ∷ past) acts
