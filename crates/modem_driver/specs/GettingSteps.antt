-- The step of a turn that handles the frame at hand.
use Rattle.std.specs.Prelude.{◌≡◌, Bool, true, Some}
use Rattle.mux_frame.specs.Frames.{Frame}
use Rattle.modem_desk.specs.Ends.{DriverView}
use Rattle.modem_history.specs.Sessions.{LineView}
use Rattle.modem_core.specs.Receiving.{brings_data}
use Rattle.modem_driver.specs.SessionStates.{Machine}
use Rattle.modem_driver.specs.TurnSteps.{turn_state, Gets}

-- the frame at hand is handled, whatever line and desk's end there are; `moved` says whether it was
unfoldable pub MachineGets : (old new : Machine) → (moved : Bool) → Type 0
MachineGets old new moved =
    (l : LineView) (d : DriverView) → Gets (turn_state l d old) (turn_state l d new) moved

-- data of an open connection is at hand, and the line isn't lost
pub record HasData (k : Machine) : Type 0 where
  pub frame : Frame
  pub at_hand : k.deframer.next ≡ Some frame
  pub brings : brings_data k.core frame ≡ true
