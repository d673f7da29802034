-- One end of a line.
use Rattle.std.specs.Prelude.{ℕ, Bool, false, List, [], None}
use Rattle.mux_frame.specs.Deframing.{Deframing}

-- the octets that were read and that the deframer hasn't taken, the deframer, the octets that the line hasn't
-- taken, and whether a call on the line has failed
pub record LineEnd : Type 0 where
  pub unfed : List ℕ
  pub deframer : Deframing
  pub unwritten : List ℕ
  pub failed : Bool

-- an end where nothing has come or gone yet
abbrev pub new_end : ℕ → LineEnd
new_end n1 = record {
  unfed = [];
  deframer = record { n1 = n1; undecided = []; next = None };
  unwritten = [];
  failed = false;
}
