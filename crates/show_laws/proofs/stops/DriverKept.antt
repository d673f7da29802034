-- The responses that a driver sends, and those that it owes, say of a stop what the messages said that came to it.
use Rattle.std.specs.Prelude.{◌≡◌, ℕ, ◌≤◌, not, Bool, true, false, List, [], ◌∷◌, ◌++◌, drop, Option, refl, is_none, unwrap_or, if◌then◌else◌}
use Rattle.std.proofs.Common.{ap, arith, sym, ◌∙◌}
use Rattle.mux_frame.specs.Frames.{Frame}
use Rattle.mux_station.specs.Messages.{Message}
use Rattle.mux_station.specs.Stopping.{if_message}
use Rattle.mux_station.specs.Tables.{held_up, ready}
use Rattle.mux_station.specs.Written.{is_data_frame}
use Rattle.modem_history.specs.Acts.{Act, Took, Got, Sent, Told, Heard, Tick, Lost, Held, Freed, Given, wire}
use Rattle.modem_history.specs.Calls.{Setting, asking, at_once, calls_behind, frames_by, is_lost, seen_behind}
use Rattle.modem_history.specs.Lawful.{IsNext, Lawful, When, owed}
use Rattle.modem_history.specs.TwoEnds.{frames_sent}
use Rattle.show_laws.proofs.asks.AnswersCalled.{AnyProbe, data_no_message}
use Rattle.show_laws.proofs.asks.NoneUnasked.{any_asked}
use Rattle.show_laws.proofs.counts.ManyFrames.{few_if, many}
use Rattle.show_laws.proofs.counts.BalancedTables.{none_of_flow, none_of_tick}
use Rattle.show_laws.proofs.counts.DriverCounts.{asked, frames_in, in_both, in_calls}
use Rattle.show_laws.proofs.openings.ResponderCalls.{each_frame}
use Rattle.show_laws.proofs.stops.StopWords.{answer_says, back_balanced, says_back, speaks_back}
use Rattle.show_laws.proofs.stops.KeptStops.{back_both, frame_back, kept_stop, last_back, quiet_back, then_back}

abbrev sent_back : ℕ → List Act → Bool
sent_back d past = last_back d (frames_sent (wire past))

abbrev Answered : Setting → ℕ → List Act → Type 0
Answered s d past = is_lost past ≡ false → then_back d (frames_in (owed s past)) (sent_back d past) ≡ kept_stop s.role d (wire past)

sent_by : (s : Setting) (d : ℕ) (past : List Act) (f : Frame) (b k : Bool) → is_data_frame f ≡ b → When (not b) (IsNext (owed s past) (Sent f)) → then_back d (frames_in (owed s past)) (sent_back d past) ≡ k
    → then_back d (frames_in (if b then owed s past else drop 1 (owed s past))) (unwrap_or (answer_says d f) (sent_back d past)) ≡ k
sent_by s d past f true k is n h = ap (λ (o : Option Message). then_back d (frames_in (owed s past)) (unwrap_or (if_message (says_back d) o) (sent_back d past))) (data_no_message f is) ∙ h
sent_by s d past f false k is n h =
    ap (λ (xs : List Act). then_back d (frames_in (drop 1 xs)) (unwrap_or (answer_says d f) (sent_back d past))) n.is_next
    ∙ (sym (ap (λ (xs : List Act). then_back d (frames_in xs) (sent_back d past)) n.is_next) ∙ h)

-- an outcome or a line is said
said : (d : ℕ) (a : Act) (owing : List Act) (b k : Bool) (n : IsNext owing a) → frames_in (a ∷ n.later) ≡ frames_in n.later → then_back d (frames_in owing) b ≡ k → then_back d (frames_in (drop 1 owing)) b ≡ k
said d a owing b k n none h =
    ap (λ (xs : List Act). then_back d (frames_in (drop 1 xs)) b) n.is_next
    ∙ (sym (ap (λ (fs : List Frame). then_back d fs b) none) ∙ (sym (ap (λ (xs : List Act). then_back d (frames_in xs) b) n.is_next) ∙ h))

more : (s : Setting) (d : ℕ) (past : List Act) (a : Act) → is_lost past ≡ false → Answered s d past
    → then_back d (frames_in (owed s past ++ calls_behind s past (owed s past) a)) (sent_back d past) ≡ then_back d (frames_by s (seen_behind s past (owed s past)) a) (kept_stop s.role d (wire past))
more s d past a live h =
    let owing = owed s past in
    let c = calls_behind s past owing a in
    let v = seen_behind s past owing in
    ap (λ (fs : List Frame). then_back d fs (sent_back d past)) (in_both owing c)
    ∙ (back_both d (frames_in owing) (frames_in c) (sent_back d past)
    ∙ (ap (λ (fs : List Frame). then_back d fs (then_back d (frames_in owing) (sent_back d past))) (in_calls s v a ∙ ap (λ (b : Bool). if b then [] else frames_by s v a) live)
    ∙ ap (then_back d (frames_by s v a)) (h live)))

more_none : (s : Setting) (d : ℕ) (past : List Act) (a : Act) → is_lost past ≡ false → Answered s d past → many (speaks_back d) (frames_by s (seen_behind s past (owed s past)) a) ≤ 0
    → then_back d (frames_in (owed s past ++ calls_behind s past (owed s past) a)) (sent_back d past) ≡ kept_stop s.role d (wire past)
more_none s d past a live h none = more s d past a live h ∙ quiet_back d (frames_by s (seen_behind s past (owed s past)) a) (kept_stop s.role d (wire past)) none

answered : (s : Setting) (d : ℕ) (past : List Act) → Lawful s past → Answered s d past
unfolding Lawful
answered s d [] l live = refl
answered s d (Sent f ∷ past) l live = sent_by s d past f (is_data_frame f) (kept_stop s.role d (wire past)) refl l.0.controlled (answered s d past l.1 live)
answered s d (Told o ∷ past) l live = said d (Told o) (owed s past) (sent_back d past) (kept_stop s.role d (wire past)) l.0.answered refl (answered s d past l.1 live)
answered s d (Heard u e line ∷ past) l live = said d (Heard u e line) (owed s past) (sent_back d past) (kept_stop s.role d (wire past)) l.0.heard refl (answered s d past l.1 live)
answered s d (Given ∷ past) l live = answered s d past l.1 live
answered s d (Lost ∷ past) l live = let x : true ≡ false = live in cc
answered s d (Took q ∷ past) l live =
    let v = seen_behind s past (owed s past) in
    more_none s d past (Took q) live (answered s d past l.1)
    (few_if (speaks_back d) 0 (is_none (at_once s v q)) (asking s.role q.ask) [] (asked AnyProbe s.n1 s.role (speaks_back d) each_frame (back_balanced s.n1 s.role d) q.ask (any_asked q.ask)) (omega arith))
answered s d (Got f ∷ past) l live =
    let v = seen_behind s past (owed s past) in
    let k = kept_stop s.role d (wire past) in
    more s d past (Got f) live (answered s d past l.1)
    ∙ frame_back s.role d v.state f k
answered s d (Tick ∷ past) l live =
    let v = seen_behind s past (owed s past) in
    more_none s d past Tick live (answered s d past l.1) (none_of_tick AnyProbe s.n1 s.role (speaks_back d) each_frame (back_balanced s.n1 s.role d) s.n1 v.state v.queued 0 62)
answered s d (Held e ∷ past) l live =
    let v = seen_behind s past (owed s past) in
    more_none s d past (Held e) live (answered s d past l.1) (none_of_flow AnyProbe s.n1 s.role (speaks_back d) each_frame (back_balanced s.n1 s.role d) v.state e held_up)
answered s d (Freed e ∷ past) l live =
    let v = seen_behind s past (owed s past) in
    more_none s d past (Freed e) live (answered s d past l.1) (none_of_flow AnyProbe s.n1 s.role (speaks_back d) each_frame (back_balanced s.n1 s.role d) v.state e ready)

-- where nothing is owed, the responses that were sent say it
pub driver_kept : (s : Setting) (d : ℕ) (past : List Act) → Lawful s past → is_lost past ≡ false → owed s past ≡ [] → last_back d (frames_sent (wire past)) ≡ kept_stop s.role d (wire past)
driver_kept s d past l live none = sym (ap (λ (xs : List Act). then_back d (frames_in xs) (sent_back d past)) none) ∙ answered s d past l live
