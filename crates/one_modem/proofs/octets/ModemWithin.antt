-- The frames that a simulated modem sends are such as its N1 reads.
use Rattle.std.proofs.Common.{ap, sym, ◌∙◌, subst, arith}
use Rattle.std.proofs.lemmas.Bool.{and_from, and_parts}
use Rattle.std.specs.Prelude.{◌≡◌, ℕ, ◌≤◌, ◌<◌, ◌==◌, Bool, true, false, List, [], ◌∷◌, length, drop, Option, Some, None, refl, is_none, if◌then◌else◌}
use Rattle.std.specs.List.{list_all, list_any}
use Rattle.mux_frame.specs.Frames.{Frame}
use Rattle.mux_frame.specs.declared.frame.Kind.TheVariants.{Sabm, Disc}
use Rattle.mux_station.specs.declared.role.Role.{Role}
use Rattle.mux_station.specs.Acts as station
use Rattle.mux_station.specs.Acts.{Call}
use Rattle.mux_station.specs.Messages.{cld, test}
use Rattle.mux_station.specs.Sending.{Sends, StationLawful, StationSetting, called_frames, frames_asked, frames_seeing, is_loss, owed_frames, refused, station_view}
use Rattle.mux_station.specs.Tables.{held_up, message_frame, msc_frame, ready}
use Rattle.mux_station.specs.Written.{is_data_frame, written}
use Rattle.mux_station.proofs.law_proofs.ControlFrames.{all_both, all_if, all_more}
use Rattle.modem_history.specs.TwoEnds.{frames_got}
use Rattle.modem_sim.specs.declared.script.StepAct.{StepAct}
use Rattle.modem_sim.specs.declared.script.StepAct.TheVariants.{Announce, Flow, Hold, Disconnect, CloseDown}
use Rattle.modem_sim.specs.Acts.{Act, Did, End, Wire, setting, wire}
use Rattle.modem_sim.specs.Doing.{call_of, call_owed}
use Rattle.modem_sim.specs.Histories.{Allows, EachAllowed, got, sent}
use Rattle.one_modem.proofs.octets.WithinFrames.{Within, is_within}
use Rattle.one_modem.proofs.octets.CalledWithin.{data_within, frame_within, last_within, message_within, mode_within, msc_within}

-- ## What is asked of its station

abbrev AsksLow : Call → Type 0
AsksLow (station.Open d) = d < 62
AsksLow (station.Close d) = d < 62
AsksLow (station.Probe octets) = length octets ≤ 16
AsksLow _ = Unit {0}

abbrev MayAskLow : Option Call → Type 0
MayAskLow None = Unit {0}
MayAskLow (Some c) = AsksLow c

step_low : (step : StepAct) → MayAskLow (call_of step)
step_low (Announce d line) = tt
step_low (Flow d go) = tt
step_low (Hold d e) = tt
step_low (Disconnect d) = d.in_range
step_low CloseDown = tt

owed_low : (past : List Act) → MayAskLow (call_owed past)
owed_low [] = tt
owed_low (Did step ∷ past) = step_low step
owed_low (Wire a ∷ past) = tt

asked_low : (past : List Act) (c : Call) → call_owed past ≡ Some c → AsksLow c
asked_low past c e = subst MayAskLow e (owed_low past)

asked : (n1 : ℕ) (r : Role) (c : Call) → 31 ≤ n1 → AsksLow c → Within n1 (frames_asked r c)
asked n1 r (station.Open d) low h = all_more (is_within n1) (written r Sabm d []) [] (mode_within n1 d r Sabm h) refl
asked n1 r (station.Close d) low h = all_more (is_within n1) (written r Disc d []) [] (mode_within n1 d r Disc h) refl
asked n1 r (station.Probe octets) low h = all_more (is_within n1) (message_frame r test octets) [] (message_within n1 r test octets (omega (arith, low, h))) refl
asked n1 r station.Stop low h = all_more (is_within n1) (message_frame r cld []) [] (message_within n1 r cld [] (omega (arith, low))) refl
asked n1 r (station.Flow d go) low h =
    all_if (is_within n1) (d == 0) (message_frame r (if go then 0xa3 else 0x63) [] ∷ []) (msc_frame r d (if go then ready else held_up) ∷ [])
    (all_more (is_within n1) (message_frame r (if go then 0xa3 else 0x63) []) [] (message_within n1 r (if go then 0xa3 else 0x63) [] (omega (arith, low))) refl)
    (all_more (is_within n1) (msc_frame r d (if go then ready else held_up)) [] (msc_within n1 r d (if go then ready else held_up) low) refl)
asked n1 r (station.Offer d octets) low h = refl

-- ## What is owed

called : (s : StationSetting) (past : List station.Act) (a : station.Act) → Within s.n1 (frames_seeing s (station_view s past) a) → Within s.n1 (called_frames s past a)
called s past a h = all_if (is_within s.n1) (list_any is_loss past) [] (frames_seeing s (station_view s past) a) refl h

call_within : (s : StationSetting) (past : List station.Act) (c : Call) → 31 ≤ s.n1 → AsksLow c → Within s.n1 (called_frames s past (station.Called c))
call_within s past c low h =
    called s past (station.Called c) (all_if (is_within s.n1) (is_none (refused s (station_view s past) c)) (frames_asked s.role c) [] (asked s.n1 s.role c low h) refl)

call_low : (e : End) (past : List Act) (c : Call) → Allows e past (Wire (station.Called c)) → AsksLow c
call_low e past (station.Open d) k = asked_low past (station.Open d) k.owed
call_low e past (station.Close d) k = asked_low past (station.Close d) k.owed
call_low e past (station.Probe octets) k = asked_low past (station.Probe octets) k.owed
call_low e past station.Stop k = tt
call_low e past (station.Flow d go) k = tt
call_low e past (station.Offer d octets) k = tt

fewer : (n1 : ℕ) (fs : List Frame) → Within n1 fs → Within n1 (drop 1 fs)
fewer n1 [] h = refl
fewer n1 (f ∷ fs) h = (and_parts (is_within n1 f) (list_all (is_within n1) fs) h).1

owed_within : (e : End) (past : List Act) → 31 ≤ e.n1 → EachAllowed e past → Within e.n1 (got past) → Within e.n1 (owed_frames (setting e) (wire past))
owed_within e [] low k w = refl
owed_within e (Did step ∷ past) low k w = owed_within e past low k.1 w
owed_within e (Wire (station.Sent f) ∷ past) low k w =
    all_if (is_within e.n1) (is_data_frame f) (owed_frames (setting e) (wire past)) (drop 1 (owed_frames (setting e) (wire past))) (owed_within e past low k.1 w) (fewer e.n1 (owed_frames (setting e) (wire past)) (owed_within e past low k.1 w))
owed_within e (Wire station.Lost ∷ past) low k w = refl
owed_within e (Wire station.Tick ∷ past) low k w = absurd k.0
owed_within e (Wire station.Given ∷ past) low k w =
    all_both (is_within e.n1) (owed_frames (setting e) (wire past)) (called_frames (setting e) (wire past) station.Given) (owed_within e past low k.1 w) (called (setting e) (wire past) station.Given refl)
owed_within e (Wire (station.Called c) ∷ past) low k w =
    all_both (is_within e.n1) (owed_frames (setting e) (wire past)) (called_frames (setting e) (wire past) (station.Called c)) (owed_within e past low k.1 w) (call_within (setting e) (wire past) c low (call_low e past c k.0))
owed_within e (Wire (station.Got f) ∷ past) low k w =
    let p = last_within e.n1 (got past) f w in
    let s = setting e in
    all_both (is_within e.n1) (owed_frames s (wire past)) (called_frames s (wire past) (station.Got f)) (owed_within e past low k.1 p.0)
    (called s (wire past) (station.Got f) (frame_within e.n1 s.role (station_view s (wire past)).state f low p.1))

-- ## What is sent

wire_within : (n1 : ℕ) (past : List Act) → Within n1 (got past) → Within n1 (frames_got (wire past))
wire_within n1 [] w = refl
wire_within n1 (Did step ∷ past) w = wire_within n1 past w
wire_within n1 (Wire (station.Got f) ∷ past) w =
    let p = last_within n1 (got past) f w in
    and_from (is_within n1 f) (list_all (is_within n1) (frames_got (wire past))) p.1 (wire_within n1 past p.0)
wire_within n1 (Wire (station.Sent f) ∷ past) w = wire_within n1 past w
wire_within n1 (Wire (station.Called c) ∷ past) w = wire_within n1 past w
wire_within n1 (Wire station.Tick ∷ past) w = wire_within n1 past w
wire_within n1 (Wire station.Lost ∷ past) w = wire_within n1 past w
wire_within n1 (Wire station.Given ∷ past) w = wire_within n1 past w

sent_by : (e : End) (past : List Act) (f : Frame) (b : Bool) → Within e.n1 (got past) → Within e.n1 (owed_frames (setting e) (wire past)) → Sends (setting e) (wire past) f b → is_within e.n1 f ≡ true
unfolding Sends
sent_by e past f true w o g = data_within e.n1 (setting e).role (wire past) f (wire_within e.n1 past w) g.is_open g.as_written g.fits
sent_by e past f false w o g = (and_parts (is_within e.n1 f) (list_all (is_within e.n1) g.later) (sym (ap (list_all (is_within e.n1)) g.is_next) ∙ o)).0

-- a lawful simulated modem that got such frames as its N1 reads sent such alone
pub sent_within : (e : End) (past : List Act) → 31 ≤ e.n1 → StationLawful (setting e) (wire past) → EachAllowed e past → Within e.n1 (got past) → Within e.n1 (sent past)
unfolding StationLawful
sent_within e [] low l k w = refl
sent_within e (Did step ∷ past) low l k w = sent_within e past low l k.1 w
sent_within e (Wire (station.Sent f) ∷ past) low l k w =
    all_both (is_within e.n1) (sent past) (f ∷ []) (sent_within e past low l.1 k.1 w)
    (all_more (is_within e.n1) f [] (sent_by e past f (is_data_frame f) w (owed_within e past low k.1 w) l.0) refl)
sent_within e (Wire (station.Got f) ∷ past) low l k w = sent_within e past low l k.1 (last_within e.n1 (got past) f w).0
sent_within e (Wire (station.Called c) ∷ past) low l k w = sent_within e past low l k.1 w
sent_within e (Wire station.Tick ∷ past) low l k w = sent_within e past low l k.1 w
sent_within e (Wire station.Lost ∷ past) low l k w = sent_within e past low l k.1 w
sent_within e (Wire station.Given ∷ past) low l k w = sent_within e past low l k.1 w
