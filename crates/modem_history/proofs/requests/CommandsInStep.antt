-- Of the commands accepted on a connection, those before have their answers, and the others are in hand.
use Rattle.std.specs.Prelude.{◌≡◌, ℕ, ◌&&◌, ◌||◌, not, Bool, true, false, List, [], ◌∷◌, ◌++◌, filter, refl}
use Rattle.std.proofs.Common.{ap, sym, ◌∙◌, append-nil}
use Rattle.mux_station.specs.Acts as station
use Rattle.mux_station.specs.Opening.{opens_now, ends, is_open, is_asked}
use Rattle.mux_station.proofs.states.OpeningSteps.{is_open_after}
use Rattle.mux_station.specs.States.{is_opened}
use Rattle.at_text.specs.Windows.{answered}
use Rattle.modem_desk.specs.declared.request.Request.{Request}
use Rattle.modem_history.specs.Acts.{Act, Tick, Held, Freed, wire, in_hand}
use Rattle.modem_history.specs.Information.{accepted}
use Rattle.modem_history.specs.Placing.{marks}
use Rattle.modem_history.specs.Calls.{Setting, seen, tolds}
use Rattle.modem_history.specs.Requests.{are_distinct}
use Rattle.modem_history.specs.Wholes.{commands_for, InStep, OnChannel}
use Rattle.modem_history.proofs.outcomes.OutcomesAndLines.{taken_off}
use Rattle.modem_history.proofs.requests.RequestsAfterCalls.{stays, off_tolds, commands_stay, commands_go, distinct_front, apart_none}
use Rattle.modem_history.proofs.connections.NoSecondOpening.{Free, tick_free, held_free, freed_free, sent_unasked, tick_unasked}
use Rattle.modem_history.proofs.calls.CallEnds.{frames_in, now_in, ended, end_of, sent_open, if_false}
use Rattle.modem_history.proofs.commands.BegunCommands.{opens_by_tick}

-- what a call keeps of a connection
pub record Kept (s : Setting) (d : ℕ) (past : List Act) : Type 0 where
  pub on : OnChannel s d past
  pub unasked : is_open s.role d (wire past) ≡ true → is_asked s.role d (wire past) ≡ false

-- ## What is told later

-- where nothing is owed all requests in hand wait
pub told_off : (s : Setting) (past : List Act) (a : Act) (post : List Request) → are_distinct (in_hand past ++ post) ≡ true
    → taken_off (tolds (seen s past) (now_in s past a) a) (in_hand past ++ post) ≡ filter (stays (seen s past) (now_in s past a) a) (in_hand past) ++ post
told_off s past a post h =
    let front = distinct_front (in_hand past) post h in
    off_tolds (seen s past) (now_in s past a) a [] (in_hand past) post front.0 (apart_none (in_hand past)) front.1

-- so what is told later leaves in hand just the requests that it doesn't tell
pub told_off_all : (s : Setting) (past : List Act) (a : Act) → are_distinct (in_hand past) ≡ true
    → taken_off (tolds (seen s past) (now_in s past a) a) (in_hand past) ≡ filter (stays (seen s past) (now_in s past a) a) (in_hand past)
told_off_all s past a h =
    let hand = in_hand past in
    let nil : hand ++ [] ≡ hand = append-nil hand in
    ap (taken_off (tolds (seen s past) (now_in s past a) a)) (sym nil)
    ∙ (told_off s past a [] (ap are_distinct nil ∙ h) ∙ append-nil (filter (stays (seen s past) (now_in s past a) a) hand))

-- ## A call that brings no request and no line

-- commands on d stay in step where those accepted, the marks and the commands in hand are the same
pub in_step : (s : Setting) (d : ℕ) (past later : List Act) → InStep s d past → accepted s.role d later ≡ accepted s.role d past → marks s.role d later ≡ marks s.role d past
    → commands_for d (in_hand later) ≡ commands_for d (in_hand past) → InStep s d later
in_step s d past later i a m h = record {
  before = i.before;
  accepted_are = a ∙ (i.accepted_are ∙ ap (λ (v : List Request). i.before ++ v) (sym h));
  answered_are = ap (answered s.dialect) m ∙ i.answered_are;
}

-- the hand at the end, without the requests that are told
abbrev pub left_in : Setting → List Act → Act → List Request
left_in s past a = filter (stays (seen s past) (now_in s past a) a) (in_hand past)

-- such a call keeps them so, where at its end only requests told are off, and nothing is opened, accepted or placed on d
pub plain : (s : Setting) (d : ℕ) (past : List Act) (a : Act) → Kept s d past → in_hand (ended s past a) ≡ left_in s past a
    → (is_open s.role d (wire (ended s past a)) ≡ true → is_open s.role d (wire past) ≡ true)
    → (is_open s.role d (wire (ended s past a)) ≡ true → accepted s.role d (a ∷ past) ≡ accepted s.role d past)
    → (is_open s.role d (wire (ended s past a)) ≡ true → marks s.role d (a ∷ past) ≡ marks s.role d past) → OnChannel s d (ended s past a)
plain s d past a k hand was same_accepted same_marks =
    let e = end_of s past a d in
    let v = seen s past in
    let now = now_in s past a in
    record {
      while_open = λ o.
          in_step s d past (ended s past a) (k.on.while_open (was o)) (e.accepted_is ∙ same_accepted o) (e.marks_are ∙ same_marks o)
          (ap (commands_for d) hand ∙ commands_stay v now a d (in_hand past) (sym e.open_is ∙ o));
      while_shut = λ o. ap (commands_for d) hand ∙ commands_go v now a d (in_hand past) (sym e.open_is ∙ o);
    }

-- what is open was seen to be Opened
pub seen_open : (s : Setting) (d : ℕ) (past : List Act) → is_open s.role d (wire past) ≡ true → is_opened ((seen s past).state d) ≡ true
seen_open s d past h = h

-- a connection that is open at the end was open after the call's first act
pub open_first : (s : Setting) (d : ℕ) (past : List Act) (a : Act) → is_open s.role d (wire (ended s past a)) ≡ true → is_open s.role d (wire (a ∷ past)) ≡ true
open_first s d past a o = sent_open s.role d (frames_in s past a) (a ∷ past) (ap (is_open s.role d) (sym (end_of s past a d).wire_is) ∙ o)

-- it isn't asked then, where it wasn't after the first act
pub unasked_end : (s : Setting) (d : ℕ) (past : List Act) (a : Act) → Free d (frames_in s past a) → is_asked s.role d (wire (a ∷ past)) ≡ false → is_asked s.role d (wire (ended s past a)) ≡ false
unasked_end s d past a f h = ap (is_asked s.role d) (end_of s past a d).wire_is ∙ sent_unasked s.role d (frames_in s past a) (a ∷ past) f h

-- where both tests pass, the first does
pub open_left : (b c : Bool) → (b && c) ≡ true → b ≡ true
open_left true c h = refl
open_left false c h = cc

-- where one of two tests passes and the first doesn't, the second does
pub or_right : (o b : Bool) → o ≡ false → (o || b) ≡ true → b ≡ true
or_right false b e h = h
or_right true b e h = cc

tick_was : (s : Setting) (d : ℕ) (past : List Act) → is_open s.role d (station.Tick ∷ wire past) ≡ true → is_open s.role d (wire past) ≡ true
tick_was s d past h =
    open_left (is_open s.role d (wire past)) (not (ends (is_open s.role 0 (wire past)) d station.Tick)) (or_right (opens_now s.role d (wire past) station.Tick) (is_open s.role d (wire past) && not (ends (is_open s.role 0 (wire past)) d station.Tick)) (opens_by_tick s.role (is_open s.role 0 (wire past)) (is_asked s.role d (wire past)) d) (sym (is_open_after s.role d (wire past) station.Tick) ∙ h))

-- a tick, with all that it calls for, keeps the commands on d in step
pub kept_tick : (s : Setting) (d : ℕ) (past : List Act) → are_distinct (in_hand past) ≡ true → Kept s d past → Kept s d (ended s past Tick)
kept_tick s d past h k =
    let was : is_open s.role d (wire (ended s past Tick)) ≡ true → is_open s.role d (wire past) ≡ true = λ o. tick_was s d past (open_first s d past Tick o) in
    let same : accepted s.role d (Tick ∷ past) ≡ accepted s.role d past = if_false (opens_now s.role d (wire past) station.Tick) [] (accepted s.role d past) (opens_by_tick s.role _ _ d) in
    record {
      on = plain s d past Tick k ((end_of s past Tick d).hand_is ∙ told_off_all s past Tick h) was (λ o. same) (λ o. refl);
      unasked = λ o. unasked_end s d past Tick (tick_free s (seen s past) d (seen_open s d past (was o))) (tick_unasked s.role d (wire past) (k.unasked (was o)));
    }

-- so does a hold of any connection
pub kept_held : (s : Setting) (d e : ℕ) (past : List Act) → are_distinct (in_hand past) ≡ true → Kept s d past → Kept s d (ended s past (Held e))
kept_held s d e past h k =
    let was : is_open s.role d (wire (ended s past (Held e))) ≡ true → is_open s.role d (wire past) ≡ true = λ o. open_first s d past (Held e) o in
    record {
      on = plain s d past (Held e) k ((end_of s past (Held e) d).hand_is ∙ told_off_all s past (Held e) h) was (λ o. refl) (λ o. refl);
      unasked = λ o. unasked_end s d past (Held e) (held_free s (seen s past) d e) (k.unasked (was o));
    }

-- and so does its end
pub kept_freed : (s : Setting) (d e : ℕ) (past : List Act) → are_distinct (in_hand past) ≡ true → Kept s d past → Kept s d (ended s past (Freed e))
kept_freed s d e past h k =
    let was : is_open s.role d (wire (ended s past (Freed e))) ≡ true → is_open s.role d (wire past) ≡ true = λ o. open_first s d past (Freed e) o in
    record {
      on = plain s d past (Freed e) k ((end_of s past (Freed e) d).hand_is ∙ told_off_all s past (Freed e) h) was (λ o. refl) (λ o. refl);
      unasked = λ o. unasked_end s d past (Freed e) (freed_free s (seen s past) d e) (k.unasked (was o));
    }
