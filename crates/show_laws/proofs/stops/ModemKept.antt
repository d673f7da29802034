-- The responses that a responder sends, and those that it owes, say of a stop what the messages said that came to it.
use Rattle.std.specs.Prelude.{◌≡◌, ℕ, ◌≤◌, Bool, true, false, List, [], ◌∷◌, ◌++◌, drop, Option, refl, is_none, unwrap_or, if◌then◌else◌}
use Rattle.std.specs.List.{list_any}
use Rattle.std.proofs.Common.{ap, arith, sym, ◌∙◌}
use Rattle.mux_frame.specs.Frames.{Frame}
use Rattle.mux_station.specs.Acts.{Act, Called, Got, Sent, Tick, Lost, Given}
use Rattle.mux_station.specs.Messages.{Message}
use Rattle.mux_station.specs.Sending.{Sends, StationLawful, StationSetting, called_frames, frames_seeing, is_loss, owed_frames, refused, station_view}
use Rattle.mux_station.specs.Stopping.{if_message}
use Rattle.mux_station.specs.Written.{is_data_frame}
use Rattle.modem_history.specs.TwoEnds.{frames_sent}
use Rattle.show_laws.proofs.asks.AnswersCalled.{AnyProbe, data_no_message}
use Rattle.show_laws.proofs.counts.ManyFrames.{many}
use Rattle.show_laws.proofs.counts.BalancedTables.{none_of_tick}
use Rattle.show_laws.proofs.counts.StationCounts.{station_asked}
use Rattle.show_laws.proofs.openings.ResponderCalls.{each_frame}
use Rattle.show_laws.proofs.stops.StopWords.{answer_says, back_balanced, says_back, speaks_back}
use Rattle.show_laws.proofs.stops.KeptStops.{back_both, frame_back, kept_stop, last_back, quiet_back, then_back}

abbrev Answered : StationSetting → ℕ → List Act → Type 0
Answered s d past = list_any is_loss past ≡ false → then_back d (owed_frames s past) (last_back d (frames_sent past)) ≡ kept_stop s.role d past

sent_by : (s : StationSetting) (d : ℕ) (past : List Act) (f : Frame) (b k : Bool) → is_data_frame f ≡ b → Sends s past f b → then_back d (owed_frames s past) (last_back d (frames_sent past)) ≡ k
    → then_back d (if b then owed_frames s past else drop 1 (owed_frames s past)) (unwrap_or (answer_says d f) (last_back d (frames_sent past))) ≡ k
unfolding Sends
sent_by s d past f true k is g h = ap (λ (o : Option Message). then_back d (owed_frames s past) (unwrap_or (if_message (says_back d) o) (last_back d (frames_sent past)))) (data_no_message f is) ∙ h
sent_by s d past f false k is g h =
    ap (λ (fs : List Frame). then_back d (drop 1 fs) (unwrap_or (answer_says d f) (last_back d (frames_sent past)))) g.is_next
    ∙ (sym (ap (λ (fs : List Frame). then_back d fs (last_back d (frames_sent past))) g.is_next) ∙ h)

more : (s : StationSetting) (d : ℕ) (past : List Act) (a : Act) → list_any is_loss past ≡ false → Answered s d past
    → then_back d (owed_frames s past ++ called_frames s past a) (last_back d (frames_sent past)) ≡ then_back d (frames_seeing s (station_view s past) a) (kept_stop s.role d past)
more s d past a live h =
    let b = last_back d (frames_sent past) in
    back_both d (owed_frames s past) (called_frames s past a) b
    ∙ (ap (λ (c : Bool). then_back d (if c then [] else frames_seeing s (station_view s past) a) (then_back d (owed_frames s past) b)) live
    ∙ ap (then_back d (frames_seeing s (station_view s past) a)) (h live))

more_none : (s : StationSetting) (d : ℕ) (past : List Act) (a : Act) → list_any is_loss past ≡ false → Answered s d past → many (speaks_back d) (frames_seeing s (station_view s past) a) ≤ 0
    → then_back d (owed_frames s past ++ called_frames s past a) (last_back d (frames_sent past)) ≡ kept_stop s.role d past
more_none s d past a live h none = more s d past a live h ∙ quiet_back d (frames_seeing s (station_view s past) a) (kept_stop s.role d past) none

answered : (s : StationSetting) (d : ℕ) (past : List Act) → StationLawful s past → Answered s d past
unfolding StationLawful
answered s d [] l live = refl
answered s d (Sent f ∷ past) l live = sent_by s d past f (is_data_frame f) (kept_stop s.role d past) refl l.0 (answered s d past l.1 live)
answered s d (Lost ∷ past) l live = let x : true ≡ false = live in cc
answered s d (Given ∷ past) l live = more_none s d past Given live (answered s d past l) (omega arith)
answered s d (Called c ∷ past) l live =
    more_none s d past (Called c) live (answered s d past l) (station_asked AnyProbe s (speaks_back d) each_frame (back_balanced s.n1 s.role d) (station_view s past) c (is_none (refused s (station_view s past) c)) refl)
answered s d (Got f ∷ past) l live =
    let v = station_view s past in
    let k = kept_stop s.role d past in
    more s d past (Got f) live (answered s d past l)
    ∙ frame_back s.role d v.state f k
answered s d (Tick ∷ past) l live =
    let v = station_view s past in
    more_none s d past Tick live (answered s d past l) (none_of_tick AnyProbe s.n1 s.role (speaks_back d) each_frame (back_balanced s.n1 s.role d) s.n1 v.state v.queued 0 62)

-- where nothing is owed, the responses that were sent say it
pub modem_kept : (s : StationSetting) (d : ℕ) (past : List Act) → StationLawful s past → list_any is_loss past ≡ false → owed_frames s past ≡ [] → last_back d (frames_sent past) ≡ kept_stop s.role d past
modem_kept s d past l live none = sym (ap (λ (fs : List Frame). then_back d fs (last_back d (frames_sent past))) none) ∙ answered s d past l live
