-- The control frames that are kept, as frames.
use Rattle.mux_frame.specs.Frames.{Frame}
use Rattle.mux_station.specs.declared.control_frame.ControlFrame.{ControlFrame}

-- the frame that is kept
abbrev pub control_frame : ControlFrame → Frame
control_frame f = record { dlci = f.dlci.number; kind = f.kind; cr = f.cr; pf = f.pf; info = f.info.items }
