-- The frames that a received frame calls for, as the code makes them.
use Rattle.std.specs.Prelude.{List, [], ◌∷◌, ◌++◌, Option, None, Some}
use Rattle.mux_frame.specs.Frames.{Frame}
use Rattle.mux_station.specs.declared.control_frame.ControlFrame.{ControlFrame}
use Rattle.mux_station.specs.declared.answers.Answers.{Answers}
use Rattle.mux_station.specs.ControlFrames.{control_frame}

-- the frame that is kept, if there is one
abbrev pub frames_in : Option ControlFrame → List Frame
frames_in None = []
frames_in (Some f) = control_frame f ∷ []

-- both frames, in their order
abbrev pub answers_sent : Answers → List Frame
answers_sent a = frames_in a.first ++ frames_in a.second
