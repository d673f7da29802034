-- Octets are read as frames, piece by piece (27.010, 5.2.3).
use Rattle.std.specs.Prelude.{◌≡◌, ℕ, List, ◌++◌, None}
use Rattle.mux_frame.specs.Frames.{Frame}
use Rattle.mux_frame.specs.Deframing.{Deframing, Deframes}

-- what was taken, and handed out as the frames before, is now handed out as the frames after
pub record HandsAll (old : Deframing) (before : List Frame) (new : Deframing) (after : List Frame) :
    Type 0 where
  pub n1 : new.n1 ≡ old.n1
  pub past : (taken : List ℕ) → Deframes taken before old → Deframes taken after new

-- all octets but those left are taken, and handed out as these frames
pub record AreTaken (bound : ℕ) (octets left : List ℕ) (frames : List Frame) (d : Deframing) : Type 0 where
  pub taken : List ℕ
  pub split : octets ≡ taken ++ left
  pub past : Deframes taken frames d
  pub none : d.next ≡ None
  pub n1 : d.n1 ≡ bound
