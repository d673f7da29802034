-- What a simulated modem does in the multiplexer, frame by frame (27.010, 5.4).
use Rattle.std.specs.Prelude.{◌≡◌, ℕ, ◌&&◌, not, Bool, true, false, List, [], ◌∷◌, ◌++◌}
use Rattle.std.specs.List.{flat_map}
use Rattle.mux_frame.specs.Frames.{Frame}
use Rattle.mux_frame.specs.Spelling.{spelled}
use Rattle.modem_sim.specs.declared.script.Step.{Step}
use Rattle.modem_sim.specs.declared.state.ModemState.{ModemState}
use Rattle.modem_sim.specs.Acts.{Act, End, is_open_at_modem}
use Rattle.modem_sim.specs.Cores.{IsLater}
use Rattle.modem_sim.specs.Doing.{is_closed_down}
use Rattle.modem_sim.specs.Histories.{SimLawful, SimComplete, AllIsOut, got, sent}
use Rattle.modem_sim.specs.Turns.{NoneCanBeDone}

-- the modem with that N1, which repeats no commands and does these steps of its own accord
abbrev pub mux_end : ℕ → ModemState → List Step → End
mux_end n1 m steps = record { n1 = n1; echo = false; steps = steps; modem = m }

-- 0 was open and isn't any more: a CLD, or a DISC on 0, closed the multiplexer down (27.010, 5.4.6.3.3)
abbrev pub is_closed_by : (past now : List Act) → Bool
is_closed_by past now = is_open_at_modem 0 past && not (is_open_at_modem 0 now)

-- the octets of all frames sent
abbrev pub octets_sent : List Act → List ℕ
octets_sent past = flat_map spelled (sent past)

-- The frame came, and more was written. Each frame that is called for was sent, and no other. On each open connection that is neither
-- stopped nor held, all that is said has gone out. No step can be done.
pub record Handles (e : End) (past : List Act) (f : Frame) (more : List ℕ) (now : List Act) : Type 0 where
  pub later : IsLater past now
  pub lawful : SimLawful e now
  pub complete : SimComplete e now
  pub came : got now ≡ got past ++ f ∷ []
  pub went : octets_sent now ≡ octets_sent past ++ more
  pub all_out : AllIsOut e now
  pub steps : NoneCanBeDone e now

-- A CLD was sent or answered, and all is written; nothing else is done then. The frame came, or it was closed down before.
pub record ClosesDown (e : End) (past : List Act) (f : Frame) (more : List ℕ) (now : List Act) : Type 0 where
  pub later : IsLater past now
  pub lawful : SimLawful e now
  pub complete : SimComplete e now
  pub unread : List Frame
  pub came : got now ++ unread ≡ got past ++ f ∷ []
  pub went : octets_sent now ≡ octets_sent past ++ more
  pub closed : is_closed_down now ≡ true

-- the frame ends the multiplexer
pub data Closes (e : End) (past : List Act) (f : Frame) (more : List ℕ) (now : List Act) : Type 0 where
  closes_0 : Handles e past f more now → is_closed_by past now ≡ true → Closes e past f more now
  closes_down : ClosesDown e past f more now → Closes e past f more now
