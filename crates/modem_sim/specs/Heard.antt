-- The command lines that came to a modem, over all connections and all their openings, and the modem after
-- them (V.250, 5.2.1).
use Rattle.std.specs.Prelude.{ℕ, List, map}
use Rattle.mux_frame.specs.Frames.{Frame}
use Rattle.mux_station.specs.declared.role.Role.TheVariants.{Responder}
use Rattle.modem_history.specs.Connections.{lines_got, lines_with}
use Rattle.modem_sim.specs.declared.state.ModemState.{ModemState}
use Rattle.modem_sim.specs.Laws.{after_lines}
use Rattle.modem_sim.specs.Acts.{Act, End, wire}

-- lines without the connections on which they came
abbrev pub texts_of : List (ℕ × List ℕ) → List (List ℕ)
texts_of ls = map (λ (p : ℕ × List ℕ). p.1) ls

-- all lines, each with its connection, in the order of the frames in which they end
abbrev pub heard : List Act → List (ℕ × List ℕ)
heard past = lines_got Responder (wire past)

-- the lines that end in a frame that comes
abbrev pub texts_with : List Act → Frame → List (List ℕ)
texts_with past f = texts_of (lines_with Responder (wire past) f)

-- the modem after all lines that came: one modem for all connections
abbrev pub modem_after : End → List Act → ModemState
modem_after e past = after_lines e.modem (texts_of (heard past))
