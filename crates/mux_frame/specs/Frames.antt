-- Frames (27.010, 5.2.1).
use Rattle.std.specs.Prelude.{ℕ, List, Bool}
use Rattle.mux_frame.specs.declared.frame.Kind.{Kind}
use Rattle.mux_frame.specs.declared.frame.FrameView.{FrameView}
use Rattle.mux_frame.specs.declared.frame.FrameBuf.{FrameBuf}

-- a frame
pub record Frame : Type 0 where
  pub dlci : ℕ
  pub kind : Kind
  pub cr : Bool
  pub pf : Bool
  pub info : List ℕ

-- the frame whose information is lent
abbrev pub frame_of : FrameView → Frame
frame_of f = record { dlci = f.dlci.number; kind = f.kind; cr = f.cr; pf = f.pf; info = f.info.now }

-- the frame that is kept
abbrev pub kept_frame : FrameBuf → Frame
kept_frame f = record { dlci = f.dlci.number; kind = f.kind; cr = f.cr; pf = f.pf; info = f.info }
