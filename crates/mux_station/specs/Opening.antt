-- When a connection is open (27.010, 5.4.1, 5.4.2, 5.4.6.3), and what its opening brought, read over the past.
use Rattle.std.specs.Prelude.{◌≡◌, ℕ, ◌==◌, ◌&&◌, ◌||◌, not, Bool, true, false, List, [], ◌∷◌}
use Rattle.mux_frame.specs.Frames.{Frame}
use Rattle.mux_frame.specs.declared.frame.Kind.TheVariants.{Sabm, Ua, Dm, Disc}
use Rattle.mux_station.specs.declared.role.Role.{Role}
use Rattle.mux_station.specs.declared.role.Role.TheVariants.{Initiator, Responder}
use Rattle.mux_station.specs.Written.{is_on}
use Rattle.mux_station.specs.Acts.{Act, Got, Sent}
use Rattle.mux_station.specs.States.{ends_itself, is_opened, state_of}

-- d is open after the past: its state is Opened
abbrev pub is_open : Role → ℕ → List Act → Bool
is_open r d past = is_opened (state_of r d past)

abbrev pub IsOpen : Role → ℕ → List Act → Type 0
IsOpen r d past = is_open r d past ≡ true

-- a SABM, UA, DM or DISC on d
abbrev pub is_mode_frame_on : ℕ → Frame → Bool
is_mode_frame_on d f = is_on Sabm d f || (is_on Ua d f || (is_on Dm d f || is_on Disc d f))

abbrev pub is_mode_frame : ℕ → Act → Bool
is_mode_frame d (Got f) = is_mode_frame_on d f
is_mode_frame d (Sent f) = is_mode_frame_on d f
is_mode_frame d _ = false

-- the act asks the other end to open d
abbrev pub asks : ℕ → Act → Bool
asks d (Sent f) = is_on Sabm d f
asks d _ = false

-- what ends 0 ends all
abbrev pub ends : Bool → ℕ → Act → Bool
ends zero d a = ends_itself zero d a || (not (d == 0) && ends_itself zero 0 a)

-- an initiator's connection opens at the UA to its SABM, a responder's at each SABM
abbrev pub opens : Role → Bool → Bool → ℕ → Act → Bool
opens Initiator zero asked d (Got f) = is_on Ua d f && asked
opens Responder zero asked d (Got f) = is_on Sabm d f && ((d == 0) || zero)
opens _ zero asked d _ = false

-- d's last mode frame is a SABM that was sent, and nothing ended d since
abbrev pub is_asked : Role → ℕ → List Act → Bool
is_asked r d [] = false
is_asked r d (a ∷ past) = asks d a || (is_asked r d past && not (is_mode_frame d a || ends (is_open r 0 past) d a))

-- the act opens d
abbrev pub opens_now : Role → ℕ → List Act → Act → Bool
opens_now r d past a = opens r (is_open r 0 past) (is_asked r d past) d a

-- the act belongs to d's time of being open
abbrev pub belongs : Role → ℕ → List Act → Act → Bool
belongs r d past a = is_open r d past && not (ends (is_open r 0 past) d a)

abbrev pub since_after : Bool → Bool → Act → List Act → List Act
since_after true belonging a rest = []
since_after false true a rest = a ∷ rest
since_after false false a rest = rest

-- what follows the act that last opened d, up to the act that then ended it; newest first
abbrev pub since : Role → ℕ → List Act → List Act
since r d [] = []
since r d (a ∷ past) = since_after (opens_now r d past a) (belongs r d past a) a (since r d past)
