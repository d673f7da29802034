-- The lines that come and the commands that go out, each at its place.
use Rattle.std.specs.Prelude.{ℕ, ◌+◌, ◌&&◌, List, [], ◌∷◌, ◌++◌, length, take, drop, map, if◌then◌else◌}
use Rattle.mux_frame.specs.Frames.{Frame}
use Rattle.mux_station.specs.declared.role.Role.{Role}
use Rattle.mux_station.specs.Opening.{is_open}
use Rattle.at_text.specs.Windows.{Mark, Line, Begun}
use Rattle.modem_desk.specs.declared.request.Request.{Request}
use Rattle.modem_history.specs.Acts.{Act, Got, Sent, wire}
pub use Rattle.modem_history.specs.Connections.{whole_in, reached_in}
use Rattle.modem_history.specs.Connections.{unfinished_on, lines_ended}
use Rattle.modem_history.specs.Information.{carries, information_out, accepted, opens_here, line_of, texts}

-- what is kept of the line that is unfinished at the end of what came on d since it opened
abbrev pub run_on : Role → ℕ → List Act → List ℕ
run_on r d past = unfinished_on r d (wire past)

-- the accepted commands that are wholly sent after n octets
abbrev pub whole_after : ℕ → List Request → List Request
whole_after n qs = take (whole_in n (texts qs)) qs

-- the lines that end in a frame that comes: lines can be read on from what is kept of the unfinished one
abbrev pub lines_placed : Role → ℕ → List Act → Frame → List Mark
lines_placed r d past f = map Line (lines_ended r d (wire past) f)

-- the commands that a frame sent makes whole
abbrev pub begun_placed : Role → ℕ → List Act → Frame → List Mark
begun_placed r d past f =
    let out = length (information_out r d past) in
    let qs = accepted r d past in
    map (λ (q : Request). Begun (line_of q))
    (drop (whole_in out (texts qs)) (whole_after (out + length f.info) qs))

-- what is placed on d since it opened, in order: a line at the frame in which its end comes, a command at the
-- frame that completes it
abbrev pub marks : Role → ℕ → List Act → List Mark
marks r d [] = []
marks r d (Got f ∷ past) =
    if opens_here r d past (Got f) then []
    else if carries d f && is_open r d (wire past) then marks r d past ++ lines_placed r d past f
    else marks r d past
marks r d (Sent f ∷ past) =
    if carries d f && is_open r d (wire past) then marks r d past ++ begun_placed r d past f
    else marks r d past
marks r d (a ∷ past) = marks r d past
