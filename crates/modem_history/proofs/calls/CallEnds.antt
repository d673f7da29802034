-- How things stand at the end of a call.
use Rattle.std.specs.Prelude.{◌≡◌, ℕ, ◌&&◌, ◌||◌, not, Bool, true, false, List, [], ◌∷◌, ◌++◌, map, refl, if◌then◌else◌}
use Rattle.std.specs.List.{list_all}
use Rattle.std.proofs.Common.{ap, sym, ◌∙◌}
use Rattle.std.proofs.lemmas.Bool.{and_parts}
use Rattle.std.proofs.lemmas.List.Folds.{list_all-append}
use Rattle.mux_frame.specs.Frames.{Frame}
use Rattle.mux_station.specs.declared.role.Role.{Role}
use Rattle.mux_station.specs.Acts as station
use Rattle.mux_station.specs.Opening.{opens_now, ends, is_open}
use Rattle.mux_station.specs.States.{State, States, states, state_of, states_then, is_opened}
use Rattle.mux_station.proofs.states.OpeningSteps.{is_open_after}
use Rattle.mux_station.proofs.states.StatesAfterActs.{state_beside}
use Rattle.modem_history.specs.Acts.{Act, Took, Got, Sent, Told, Heard, Tick, Lost, Held, Freed, Given, after, wire, in_hand}
use Rattle.modem_history.specs.Information.{accepted, carries}
use Rattle.modem_history.specs.Placing.{marks, begun_placed}
use Rattle.modem_history.specs.Calls.{Setting, seen, calls, frames, said_at_once, lines_said, tolds, states_now}
use Rattle.modem_history.proofs.calls.CalledActs.{is_delivery, Deliveries, is_control, Controls, frames_control, spoken}
use Rattle.modem_history.proofs.outcomes.OutcomesAndLines as readings
use Rattle.modem_history.proofs.outcomes.OutcomesAndLines.{taken_off, off_both}
use Rattle.modem_history.proofs.calls.StatesAfterActs.{then_is}
use Rattle.modem_history.proofs.calls.StatesAfterActs.{after_both}
use Rattle.modem_history.proofs.commands.BegunCommands.{opens_by_sent, carried}

-- ## Frames

sent_hand : (fs : List Frame) (past : List Act) → in_hand (after past (map Sent fs)) ≡ in_hand past
sent_hand [] past = refl
sent_hand (f ∷ fs) past = sent_hand fs (Sent f ∷ past)

-- a choice by a test that fails is the second
pub if_false : {X : Type 0} → (b : Bool) (x y : X) → b ≡ false → (if b then x else y) ≡ y
if_false false x y e = refl
if_false true x y e = cc

sent_accepted : (r : Role) (d : ℕ) (fs : List Frame) (past : List Act) → accepted r d (after past (map Sent fs)) ≡ accepted r d past
sent_accepted r d [] past = refl
sent_accepted r d (f ∷ fs) past =
    sent_accepted r d fs (Sent f ∷ past) ∙ if_false (opens_now r d (wire past) (station.Sent f)) [] (accepted r d past) (opens_by_sent r _ _ d f)

carries_none : (d : ℕ) (f : Frame) (b : Bool) → carries d f ≡ b → is_control f ≡ true → b ≡ false
carries_none d f false e h = refl
carries_none d f true e h = absurd (let c = carried d f e in let g : not true ≡ true = ap (λ (x : Bool). not x) (sym c.is_data) ∙ h in let k : false ≡ true = g in cc)

sent_marks : (r : Role) (d : ℕ) (fs : List Frame) (past : List Act) → Controls fs → marks r d (after past (map Sent fs)) ≡ marks r d past
sent_marks r d [] past h = refl
sent_marks r d (f ∷ fs) past h =
    let hs = and_parts (is_control f) (list_all is_control fs) h in
    sent_marks r d fs (Sent f ∷ past) hs.1
    ∙ ap (λ (b : Bool). if b && is_open r d (wire past) then marks r d past ++ begun_placed r d past f else marks r d past) (carries_none d f (carries d f) refl hs.0)

was_open : (o b : Bool) → (o || b) ≡ true → o ≡ false → b ≡ true
was_open false b h e = h
was_open true b h e = cc

open_both : (b c : Bool) → (b && c) ≡ true → b ≡ true
open_both true c h = refl
open_both false c h = cc

-- what is open after frames that were sent was open before them
pub sent_open : (r : Role) (d : ℕ) (fs : List Frame) (past : List Act) → is_open r d (wire (after past (map Sent fs))) ≡ true → is_open r d (wire past) ≡ true
sent_open r d [] past h = h
sent_open r d (f ∷ fs) past h =
    let here : is_open r d (wire (Sent f ∷ past)) ≡ true = sent_open r d fs (Sent f ∷ past) h in
    open_both (is_open r d (wire past)) (not (ends (is_open r 0 (wire past)) d (station.Sent f)))
    (was_open (opens_now r d (wire past) (station.Sent f)) _ (sym (is_open_after r d (wire past) (station.Sent f)) ∙ here) (opens_by_sent r _ _ d f))

-- ## Outcomes and lines

pub record SameOn (r : Role) (d : ℕ) (past then_past : List Act) : Type 0 where
  pub accepted_same : accepted r d then_past ≡ accepted r d past
  pub marks_same : marks r d then_past ≡ marks r d past

deliveries_same : (r : Role) (d : ℕ) (acts past : List Act) → Deliveries acts → SameOn r d past (after past acts)
deliveries_same r d [] past h = record { accepted_same = refl; marks_same = refl }
deliveries_same r d (Told o ∷ acts) past h = let w = deliveries_same r d acts (Told o ∷ past) h in record { accepted_same = w.accepted_same; marks_same = w.marks_same }
deliveries_same r d (Heard k e line ∷ acts) past h = let w = deliveries_same r d acts (Heard k e line ∷ past) h in record { accepted_same = w.accepted_same; marks_same = w.marks_same }
deliveries_same r d (Took q ∷ acts) past h = absurd (let e : false ≡ true = h in cc)
deliveries_same r d (Got f ∷ acts) past h = absurd (let e : false ≡ true = h in cc)
deliveries_same r d (Sent f ∷ acts) past h = absurd (let e : false ≡ true = h in cc)
deliveries_same r d (Tick ∷ acts) past h = absurd (let e : false ≡ true = h in cc)
deliveries_same r d (Lost ∷ acts) past h = absurd (let e : false ≡ true = h in cc)
deliveries_same r d (Held e ∷ acts) past h = absurd (let e : false ≡ true = h in cc)
deliveries_same r d (Freed e ∷ acts) past h = absurd (let e : false ≡ true = h in cc)
deliveries_same r d (Given ∷ acts) past h = absurd (let e : false ≡ true = h in cc)

-- ## States

-- the state that a call sees at its end is that of the history then
pub now_is : (s : Setting) (past acts : List Act) (d : ℕ) → states_now s (seen s past) acts d ≡ state_of s.role d (wire (after past acts))
now_is s past acts d =
    let w = wire past in
    let pair : record { zero = state_of s.role 0 w; own = state_of s.role d w } ≡ states s.role d w =
    ap (λ (z : State). let v : States = record { zero = z; own = state_of s.role d w } in v) (sym (state_beside s.role d w)) in
    ap (λ (v : States). (states_then s.role d v (wire acts)).own) pair ∙ ap (λ (v : States). v.own) (then_is s.role d acts past)

-- ## The end

-- the frames of a call, and its states at the end
abbrev pub frames_in : Setting → List Act → Act → List Frame
frames_in s past a = frames s (seen s past) a

-- and the state of each connection after them
abbrev pub now_in : Setting → List Act → Act → ℕ → State
now_in s past a = states_now s (seen s past) (a ∷ map Sent (frames_in s past a))

-- the history at the end of the call: the act that began it, and all that it calls for
abbrev pub ended : Setting → List Act → Act → List Act
ended s past a = after past (a ∷ calls s past a)

-- what the end of a call has, beside the act that it began with
pub record CallEnd (s : Setting) (past : List Act) (a : Act) (d : ℕ) : Type 0 where
  pub wire_is : wire (ended s past a) ≡ wire (after (a ∷ past) (map Sent (frames_in s past a)))
  pub open_is : is_open s.role d (wire (ended s past a)) ≡ is_opened (now_in s past a d)
  pub accepted_is : accepted s.role d (ended s past a) ≡ accepted s.role d (a ∷ past)
  pub marks_are : marks s.role d (ended s past a) ≡ marks s.role d (a ∷ past)
  pub hand_is : in_hand (ended s past a) ≡ taken_off (tolds (seen s past) (now_in s past a) a) (taken_off (lines_said s (seen s past) a) (taken_off (said_at_once s (seen s past) a) (in_hand (a ∷ past))))

deliveries_left : (xs ys : List Act) → Deliveries (xs ++ ys) → (Deliveries xs) × (Deliveries ys)
deliveries_left xs ys h = and_parts (list_all is_delivery xs) (list_all is_delivery ys) (sym (list_all-append is_delivery xs ys) ∙ h)

-- every call ends so, on each connection
pub end_of : (s : Setting) (past : List Act) (a : Act) (d : ℕ) → CallEnd s past a d
end_of s past a d =
    let v = seen s past in
    let fs = frames_in s past a in
    let now = now_in s past a in
    let once = said_at_once s v a in
    let lines = lines_said s v a in
    let later = tolds v now a in
    let deliveries = once ++ (lines ++ later) in
    let spoke : Deliveries deliveries = spoken s v a now in
    let mid = after (a ∷ past) (map Sent fs) in
    let split : ended s past a ≡ after mid deliveries = after_both (map Sent fs) deliveries (a ∷ past) in
    let same = readings.deliveries deliveries mid spoke in
    let lane = deliveries_same s.role d deliveries mid spoke in
    let first = deliveries_left once (lines ++ later) spoke in
    let second = deliveries_left lines later first.1 in
    let wires : wire (ended s past a) ≡ wire mid = ap wire split ∙ same.wire_same in
    record {
      wire_is = wires;
      open_is = ap (is_open s.role d) wires ∙ ap is_opened (sym (now_is s past (a ∷ map Sent fs) d));
      accepted_is = ap (accepted s.role d) split ∙ (lane.accepted_same ∙ sent_accepted s.role d fs (a ∷ past));
      marks_are = ap (marks s.role d) split ∙ (lane.marks_same ∙ sent_marks s.role d fs (a ∷ past) (frames_control s v a));
      hand_is =
          ap in_hand split
          ∙ (same.hand_same
          ∙ (ap (taken_off deliveries) (sent_hand fs (a ∷ past))
          ∙ (off_both once (lines ++ later) (in_hand (a ∷ past)) first.0 ∙ off_both lines later (taken_off once (in_hand (a ∷ past))) second.0)));
    }
