-- A line whose frames are captured.
use Rattle.std.specs.Prelude.{◌≡◌, ℕ, false, List, [], Option}
use Rattle.mux_capture.specs.declared.packet.Direction.TheVariants.{ToModem, FromModem}
use Rattle.mux_capture.specs.Passing.{CaptureState, HasCaptured, Passed, octets_in}

-- a line of any type, and its capture
pub record CapturedState (X : Type 0) : Type 0 where
  pub line : X
  pub capture : CaptureState

abbrev pub captured_line : {X : Type 0} → X → CaptureState → CapturedState X
captured_line line capture = record { line = line; capture = capture }

-- it has begun, and nothing is captured yet
pub record HasBegun (c : CaptureState) : Type 0 where
  pub before : Option (List ℕ)
  pub captured : HasCaptured before [] c

-- It hasn't failed, and has the header of a file and a packet for each frame of what passed: these octets from the modem, and these to
-- it.
pub record CapturesAll (received sent : List ℕ) (c : CaptureState) : Type 0 where
  pub before : Option (List ℕ)
  pub passed : List Passed
  pub captured : HasCaptured before passed c
  pub from_modem : octets_in FromModem passed ≡ received
  pub to_modem : octets_in ToModem passed ≡ sent

-- the capture has all that passed, until it fails
abbrev pub CapturesUnlessFailed : (received sent : List ℕ) → CaptureState → Type 0
CapturesUnlessFailed received sent c = c.failed ≡ false → CapturesAll received sent c
