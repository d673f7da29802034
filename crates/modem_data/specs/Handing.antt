-- A frame at hand passes to the driver, or its data to the pipes.
use Rattle.std.specs.Prelude.{◌≡◌, ℕ, List, ◌++◌, take, drop, flat_map, Option, Some, None}
use Rattle.mux_frame.specs.Frames.{Frame}
use Rattle.mux_frame.specs.Spelling.{spelled}
use Rattle.mux_frame.specs.Deframing.{Deframing, HandsOver}
use Rattle.modem_data.specs.declared.switch.LineCut.{LineCut}
use Rattle.modem_data.specs.Prompts.{mark_if}
use Rattle.modem_data.specs.Hops.{with_lines}
use Rattle.modem_data.specs.Passing.{Came, Went}
use Rattle.modem_data.specs.PipeSets.{AllHand, AllLead, PipeSet}

-- the octets that go on to the driver: all of a frame; or the lines of a lane's information, where there are any: a `>` that was held
-- back, those before a cut and those behind it, each in a frame of their own
abbrev pub handed : Frame → Option LineCut → List ℕ
handed f None = spelled f
handed f (Some cut) =
    flat_map spelled (with_lines f (mark_if cut.is_marked) ++ (with_lines f (take cut.before f.info) ++ with_lines f (drop cut.behind f.info)))

-- the frame at hand came, and the driver is handed what is its
pub record PassesIn (at_hand : Option Frame) (old new : PipeSet) (before after : List ℕ) : Type 0 where
  pub frame : Frame
  pub is_at_hand : at_hand ≡ Some frame
  pub leads : AllLead old new (Came frame)
  pub cut : Option LineCut
  pub hands : AllHand old frame cut
  pub written : after ≡ before ++ handed frame cut

-- the driver's frame at hand went to the line
pub record PassesOut (at_hand : Option Frame) (old new : PipeSet) (before after : List ℕ) : Type 0 where
  pub frame : Frame
  pub is_at_hand : at_hand ≡ Some frame
  pub leads : AllLead old new (Went frame)
  pub written : after ≡ before ++ spelled frame

-- the deframer has handed its frame out
unfoldable pub PassesOver : Deframing → Deframing → Type 0
PassesOver old new = HandsOver old new
