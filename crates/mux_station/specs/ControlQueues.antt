-- What a control queue holds.
use Rattle.std.specs.Prelude.{◌≡◌, ℕ, List, []}
use Rattle.mux_frame.specs.Frames.{Frame}
use Rattle.mux_station.specs.ControlOctets.{AreSpelled}

-- the frames that wait, and how many octets of them as written there may be
pub record ControlQueue : Type 0 where
  pub frames : List Frame
  pub room : ℕ

-- the octets that are kept are those of so many frames, and no frame is half put in
pub record IsKeptAsOctets (octets : List ℕ) (count : ℕ) (spelling : List ℕ) : Type 0 where
  pub spelled : AreSpelled octets count
  pub none_half : spelling ≡ []
