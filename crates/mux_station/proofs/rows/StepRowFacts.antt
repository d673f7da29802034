-- The definitions give the rows of steps.
use Rattle.std.specs.Prelude.{refl}
use Rattle.mux_station.specs.declared.role.Role.TheVariants.{Initiator, Responder}
use Rattle.mux_station.specs.StepRows.{AreSteps}
use Rattle.mux_station.specs.ResponderSteps.{of_a_responder, ticks_of_a_responder}
use Rattle.mux_station.specs.InitiatorSteps.{of_an_initiator}

-- they give the steps of a responder
pub responder_steps : AreSteps Responder of_a_responder
responder_steps = refl

-- those of its ticks
pub responder_ticks : AreSteps Responder ticks_of_a_responder
responder_ticks = refl

-- and those of an initiator
pub initiator_steps : AreSteps Initiator of_an_initiator
initiator_steps = refl
