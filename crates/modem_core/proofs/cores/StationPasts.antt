-- A driver's past and that of its station say the same.
use Rattle.std.specs.Prelude.{◌≡◌, ℕ, List, [], ◌∷◌, map, refl, if◌then◌else◌}
use Rattle.std.proofs.Common.{ap, sym, ◌∙◌}
use Rattle.mux_frame.specs.Frames.{Frame}
use Rattle.mux_frame.specs.declared.frame.Kind.TheVariants.{Uih}
use Rattle.mux_station.specs.declared.role.Role.{Role}
use Rattle.mux_station.specs.Acts as station
use Rattle.mux_station.specs.Written.{is_on}
use Rattle.mux_station.specs.Opening.{is_open}
use Rattle.mux_station.specs.States.{State, States, state_of}
use Rattle.mux_station.specs.Stopping.{is_stopped}
use Rattle.mux_station.specs.Tables.{by_table, by_message, by_frame}
use Rattle.mux_station.specs.Sending.{queue, sent_after}
use Rattle.mux_station.specs.Traces.{without_calls}
use Rattle.mux_station.proofs.law_proofs.PastsWithoutCalls.{same_states, same_open, same_stopped, same_queue}
use Rattle.modem_history.specs.Acts.{Act, Sent, wire, after}

-- the station has seen the past, and calls besides
abbrev pub IsSeen : List station.Act → List Act → Type 0
IsSeen seen past = without_calls seen ≡ wire past

-- each connection has the same state by both
pub state_seen : (r : Role) (d : ℕ) (seen : List station.Act) (past : List Act) → IsSeen seen past → state_of r d seen ≡ state_of r d (wire past)
state_seen r d seen past h = sym (ap (λ (s : States). s.own) (same_states r d seen)) ∙ ap (state_of r d) h

-- each is open by both or by neither
pub open_seen : (r : Role) (d : ℕ) (seen : List station.Act) (past : List Act) → IsSeen seen past → is_open r d seen ≡ is_open r d (wire past)
open_seen r d seen past h = sym (same_open r d seen) ∙ ap (is_open r d) h

-- each is stopped by both or by neither
pub stopped_seen : (r : Role) (d : ℕ) (seen : List station.Act) (past : List Act) → IsSeen seen past → is_stopped r d seen ≡ is_stopped r d (wire past)
stopped_seen r d seen past h = sym (same_stopped r d seen) ∙ ap (is_stopped r d) h

-- the same frames wait in the control queue
pub queue_seen : (seen : List station.Act) (past : List Act) → IsSeen seen past → queue seen ≡ queue (wire past)
queue_seen seen past h = sym (same_queue seen) ∙ ap queue h

-- ## The frames that are called for

-- what a frame calls for depends on the states of 0 and of its own connection alone
pub by_frame_seen : (r : Role) (f : Frame) (x y : ℕ → State) → x 0 ≡ y 0 → x f.dlci ≡ y f.dlci → by_frame r x f ≡ by_frame r y f
by_frame_seen r f x y z o =
    ap (λ (s : State). if is_on Uih 0 f then by_message r s f else by_table r f.dlci s (x f.dlci) f.kind) z
    ∙ ap (λ (s : State). if is_on Uih 0 f then by_message r (y 0) f else by_table r f.dlci (y 0) s f.kind) o

-- ## Frames that are sent

-- frames that are sent in the driver's past are sent in the station's
pub wire_sent : (fs : List Frame) (past : List Act) → wire (after past (map Sent fs)) ≡ sent_after fs (wire past)
wire_sent [] past = refl
wire_sent (f ∷ fs) past = wire_sent fs (Sent f ∷ past)

-- without its calls a past still has the frames that are sent
pub without_sent : (fs : List Frame) (seen : List station.Act) → without_calls (sent_after fs seen) ≡ sent_after fs (without_calls seen)
without_sent [] seen = refl
without_sent (f ∷ fs) seen = without_sent fs (station.Sent f ∷ seen)
