-- The step of a turn that puts the next frame into the output.
use Rattle.std.specs.Prelude.{Bool}
use Rattle.modem_desk.specs.Ends.{DriverView}
use Rattle.modem_history.specs.Sessions.{LineView}
use Rattle.modem_driver.specs.SessionStates.{Machine}
use Rattle.modem_driver.specs.TurnSteps.{turn_state, SendsOn}

-- the next frame goes into the output, whatever line and desk's end there are; `moved` says whether data was sent
unfoldable pub MachineSends : (old new : Machine) → (moved : Bool) → Type 0
MachineSends old new moved =
    (l : LineView) (d : DriverView) → SendsOn (turn_state l d old) (turn_state l d new) moved
