-- A driver sends no message about the stop of a connection before its SABM on it.
use Rattle.std.specs.Prelude.{◌≡◌, ℕ, ◌+◌, ◌≤◌, ◌&&◌, ◌||◌, not, Bool, true, false, List, [], ◌∷◌, ◌++◌, drop, Option, refl, is_none, is_some, if◌then◌else◌}
use Rattle.std.proofs.Common.{ap, arith, ◌∙◌}
use Rattle.std.proofs.lemmas.Bool.{and_left, or_from}
use Rattle.mux_frame.specs.Frames.{Frame}
use Rattle.mux_frame.specs.declared.frame.Kind.TheVariants.{Sabm, Ua, Disc}
use Rattle.mux_station.specs.declared.role.Role.{Role}
use Rattle.mux_station.specs.declared.role.Role.TheVariants.{Initiator}
use Rattle.mux_station.specs.Acts as station
use Rattle.mux_station.specs.Messages.{Message, cld, test}
use Rattle.mux_station.specs.Opening.{ends, is_mode_frame_on}
use Rattle.mux_station.specs.States.{is_opened, state_of}
use Rattle.mux_station.specs.Stopping.{if_message}
use Rattle.mux_station.specs.Tables.{by_frame, held_up, is_opening, message_frame, ready}
use Rattle.mux_station.specs.Written.{is_data_frame, is_on, written}
use Rattle.mux_station.proofs.states.OpeningSteps.{is_open_after, opening_asked}
use Rattle.modem_desk.specs.declared.request.Ask.{Ask}
use Rattle.modem_desk.specs.declared.request.Ask.TheVariants.{OpenChannel, CloseChannel, Command, Probe, Stop}
use Rattle.modem_show.specs.Ends.{says_at}
use Rattle.modem_history.specs.Acts.{Act, Took, Got, Sent, Told, Heard, Tick, Lost, Held, Freed, Given, wire}
use Rattle.modem_history.specs.Calls.{Setting, asking, at_once, calls_behind, frames_by, seen_behind}
use Rattle.modem_history.specs.Lawful.{IsNext, Lawful, When, owed, unsent}
use Rattle.modem_history.specs.TwoEnds.{frames_got, frames_sent}
use Rattle.show_laws.proofs.asks.AnswersCalled.{data_no_message}
use Rattle.show_laws.proofs.counts.ManyFrames.{few_if, many, none_one, unit}
use Rattle.show_laws.proofs.counts.BalancedTables.{tick_none}
use Rattle.show_laws.proofs.counts.DriverCounts.{called, dropped, sends, sends_both, unsent_none}
use Rattle.show_laws.proofs.openings.DriverFollows.{sent_closed}
use Rattle.show_laws.proofs.openings.QuietFrames.{asked_at, open_at, zero_at}
use Rattle.show_laws.proofs.openings.UaBehindSabm.{none_of}
use Rattle.show_laws.proofs.stops.StopWords.{by_flow_quiet, initiator_quiet, message_quiet, speaks}

-- while no SABM on d was sent, d is neither open nor asked for, and no message about its stop was sent or is owed
pub record Unasked (s : Setting) (d : ℕ) (past : List Act) : Type 0 where
  pub shut : open_at d (wire past) ≡ false
  pub unasked : asked_at d (wire past) ≡ false
  pub sent_none : many (speaks d) (frames_sent (wire past)) ≤ 0
  pub owed_none : sends (speaks d) (owed s past) ≤ 0

asks_quiet : (r : Role) (d : ℕ) (a : Ask) → many (speaks d) (asking r a) ≤ 0
asks_quiet r d (OpenChannel c) = none_one (speaks d) (written r Sabm c.number []) refl
asks_quiet r d (CloseChannel c) = none_one (speaks d) (written r Disc c.number []) refl
asks_quiet r d (Command c line) = omega arith
asks_quiet r d (Probe octets) = none_one (speaks d) (message_frame r test octets) (message_quiet r d test octets refl refl refl)
asks_quiet r d Stop = none_one (speaks d) (message_frame r cld []) (message_quiet r d cld [] refl refl refl)

-- an act that opens nothing, and calls for no such message
calls_none : (s : Setting) (d : ℕ) (past : List Act) (a : Act) → many (speaks d) (frames_by s (seen_behind s past (owed s past)) a) ≤ 0 → sends (speaks d) (owed s past) ≤ 0 → sends (speaks d) (owed s past ++ calls_behind s past (owed s past) a) ≤ 0
calls_none s d past a none before =
    let c = calls_behind s past (owed s past) a in
    let parts = sends_both (speaks d) (owed s past) c in
    let few = called (speaks d) 0 s (seen_behind s past (owed s past)) a none in
    omega (arith, parts, few, before)

-- where d isn't open at an initiator its state isn't Opened
pub opened_state : (s : Setting) (d : ℕ) (past : List Act) → s.role ≡ Initiator → open_at d (wire past) ≡ false → is_opened (state_of s.role d (wire past)) ≡ false
opened_state s d past is h = ap (λ (r : Role). is_opened (state_of r d (wire past))) is ∙ h

-- and where it isn't asked for its state isn't Opening
pub opening_state : (s : Setting) (d : ℕ) (past : List Act) → s.role ≡ Initiator → asked_at d (wire past) ≡ false → is_opening (state_of s.role d (wire past)) ≡ false
opening_state s d past is h =
    ap (λ (r : Role). is_opening (state_of r d (wire past))) is ∙ (opening_asked d (wire past) ∙ and_left (asked_at d (wire past)) (not (open_at d (wire past))) h)

frame_none : (s : Setting) (d : ℕ) (past : List Act) (f : Frame) → s.role ≡ Initiator → asked_at d (wire past) ≡ false → many (speaks d) (by_frame s.role (seen_behind s past (owed s past)).state f) ≤ 0
frame_none s d past f is h =
    let v = seen_behind s past (owed s past) in
    let same : many (speaks d) (by_frame s.role v.state f) ≡ many (speaks d) (by_frame Initiator v.state f) = ap (λ (r : Role). many (speaks d) (by_frame r v.state f)) is in
    let few = initiator_quiet d v.state f (opening_state s d past is h) in
    omega (arith, same, few)

sent_unasked : (s : Setting) (d : ℕ) (past : List Act) (f : Frame) (b : Bool) → is_data_frame f ≡ b → When (not b) (IsNext (owed s past) (Sent f)) → is_on Sabm d f ≡ false → Unasked s d past → Unasked s d (Sent f ∷ past)
sent_unasked s d past f true is n none h =
    let c = sent_closed d f (wire past) h.shut h.unasked none in
    let quiet : unit (speaks d f) ≡ 0 = ap (λ (o : Option Message). unit (is_some (if_message (says_at d) o))) (data_no_message f is) in
    let same : sends (speaks d) (owed s (Sent f ∷ past)) ≡ sends (speaks d) (owed s past) = ap (λ (b : Bool). sends (speaks d) (if b then owed s past else drop 1 (owed s past))) is in
    let x = h.sent_none in
    let y = h.owed_none in
    record { shut = c.0; unasked = c.1; sent_none = omega (arith, quiet, x); owed_none = omega (arith, same, y) }
sent_unasked s d past f false is n none h =
    let c = sent_closed d f (wire past) h.shut h.unasked none in
    let same : sends (speaks d) (owed s (Sent f ∷ past)) ≡ sends (speaks d) (drop 1 (owed s past)) = ap (λ (b : Bool). sends (speaks d) (if b then owed s past else drop 1 (owed s past))) is in
    let first : sends (speaks d) (owed s past) ≡ unit (speaks d f) + sends (speaks d) n.later = ap (sends (speaks d)) n.is_next in
    let rest : sends (speaks d) (drop 1 (owed s past)) ≡ sends (speaks d) n.later = ap (λ (xs : List Act). sends (speaks d) (drop 1 xs)) n.is_next in
    let x = h.sent_none in
    let y = h.owed_none in
    record { shut = c.0; unasked = c.1; sent_none = omega (arith, first, x, y); owed_none = omega (arith, same, first, rest, y) }

-- so it is of a lawful initiator that sent no SABM on d
pub unasked_yet : (s : Setting) (d : ℕ) (past : List Act) → s.role ≡ Initiator → Lawful s past → many (is_on Sabm d) (frames_sent (wire past)) ≤ 0 → Unasked s d past
unfolding Lawful
unasked_yet s d [] is l none = record { shut = refl; unasked = refl; sent_none = omega arith; owed_none = omega arith }
unasked_yet s d (Sent f ∷ past) is l none =
    sent_unasked s d past f (is_data_frame f) refl l.0.controlled (none_of (is_on Sabm d) f (many (is_on Sabm d) (frames_sent (wire past))) none) (unasked_yet s d past is l.1 (omega (arith, none)))
unasked_yet s d (Told o ∷ past) is l none =
    let h = unasked_yet s d past is l.1 none in
    let x = dropped (speaks d) (owed s past) in
    let y = h.owed_none in
    record { shut = h.shut; unasked = h.unasked; sent_none = h.sent_none; owed_none = omega (arith, x, y) }
unasked_yet s d (Heard u e line ∷ past) is l none =
    let h = unasked_yet s d past is l.1 none in
    let x = dropped (speaks d) (owed s past) in
    let y = h.owed_none in
    record { shut = h.shut; unasked = h.unasked; sent_none = h.sent_none; owed_none = omega (arith, x, y) }
unasked_yet s d (Given ∷ past) is l none =
    let h = unasked_yet s d past is l.1 none in
    record {
      shut = is_open_after Initiator d (wire past) station.Given ∙ and_left (open_at d (wire past)) (not (ends (zero_at d (wire past)) d station.Given)) h.shut;
      unasked = and_left (asked_at d (wire past)) (not (ends (zero_at d (wire past)) d station.Given)) h.unasked;
      sent_none = h.sent_none;
      owed_none = h.owed_none;
    }
unasked_yet s d (Lost ∷ past) is l none =
    let h = unasked_yet s d past is l.1 none in
    let parts = sends_both (speaks d) (unsent (owed s past)) (calls_behind s past (owed s past) Lost) in
    let x = unsent_none (speaks d) (owed s past) in
    let y = called (speaks d) 0 s (seen_behind s past (owed s past)) Lost (omega arith) in
    record {
      shut = is_open_after Initiator d (wire past) station.Lost ∙ and_left (open_at d (wire past)) (not (ends (zero_at d (wire past)) d station.Lost)) h.shut;
      unasked = and_left (asked_at d (wire past)) (not (ends (zero_at d (wire past)) d station.Lost)) h.unasked;
      sent_none = h.sent_none;
      owed_none = omega (arith, parts, x, y);
    }
unasked_yet s d (Took q ∷ past) is l none =
    let h = unasked_yet s d past is l.1 none in
    let v = seen_behind s past (owed s past) in
    record {
      shut = h.shut;
      unasked = h.unasked;
      sent_none = h.sent_none;
      owed_none = calls_none s d past (Took q) (few_if (speaks d) 0 (is_none (at_once s v q)) (asking s.role q.ask) [] (asks_quiet s.role d q.ask) (omega arith)) h.owed_none;
    }
unasked_yet s d (Got f ∷ past) is l none =
    let h = unasked_yet s d past is l.1 none in
    let p = wire past in
    record {
      shut =
          is_open_after Initiator d p (station.Got f)
          ∙ or_from (is_on Ua d f && asked_at d p) (open_at d p && not (ends (zero_at d p) d (station.Got f)))
          (off_second (is_on Ua d f) (asked_at d p) h.unasked) (and_left (open_at d p) (not (ends (zero_at d p) d (station.Got f))) h.shut);
      unasked = and_left (asked_at d p) (not (is_mode_frame_on d f || ends (zero_at d p) d (station.Got f))) h.unasked;
      sent_none = h.sent_none;
      owed_none = calls_none s d past (Got f) (frame_none s d past f is h.unasked) h.owed_none;
    }
  where
    off_second : (a b : Bool) → b ≡ false → (a && b) ≡ false
    off_second true b e = e
    off_second false b e = refl
unasked_yet s d (Tick ∷ past) is l none =
    let h = unasked_yet s d past is l.1 none in
    let v = seen_behind s past (owed s past) in
    record {
      shut = is_open_after Initiator d (wire past) station.Tick ∙ and_left (open_at d (wire past)) (not (ends (zero_at d (wire past)) d station.Tick)) h.shut;
      unasked = and_left (asked_at d (wire past)) (not (ends (zero_at d (wire past)) d station.Tick)) h.unasked;
      sent_none = h.sent_none;
      owed_none = calls_none s d past Tick (tick_none s.role (speaks d) (λ e. refl) (λ e. refl) s.n1 v.state v.queued 0 62) h.owed_none;
    }
unasked_yet s d (Held e ∷ past) is l none =
    let h = unasked_yet s d past is l.1 none in
    let v = seen_behind s past (owed s past) in
    record {
      shut = h.shut;
      unasked = h.unasked;
      sent_none = h.sent_none;
      owed_none = calls_none s d past (Held e) (by_flow_quiet s.role d v.state e held_up (opened_state s d past is h.shut)) h.owed_none;
    }
unasked_yet s d (Freed e ∷ past) is l none =
    let h = unasked_yet s d past is l.1 none in
    let v = seen_behind s past (owed s past) in
    record {
      shut = h.shut;
      unasked = h.unasked;
      sent_none = h.sent_none;
      owed_none = calls_none s d past (Freed e) (by_flow_quiet s.role d v.state e ready (opened_state s d past is h.shut)) h.owed_none;
    }

-- ## The frames that were sent first

pub record Older (s : Setting) (all : List Act) (fs : List Frame) : Type 0 where
  pub past : List Act
  pub lawful : Lawful s past
  pub sent_are : frames_sent (wire past) ≡ fs
  pub got_few : (t : Frame → Bool) → many t (frames_got (wire past)) ≤ many t (frames_got (wire all))

more_got : (s : Setting) (a : Act) (past : List Act) (fs : List Frame) → ((t : Frame → Bool) → many t (frames_got (wire past)) ≤ many t (frames_got (wire (a ∷ past)))) → Older s past fs → Older s (a ∷ past) fs
more_got s a past fs more o = record { past = o.past; lawful = o.lawful; sent_are = o.sent_are; got_few = λ t. let x = o.got_few t in let y = more t in omega (arith, x, y) }

-- the frames that it sent first are all of an earlier past
pub older : (s : Setting) (past : List Act) (later fs : List Frame) → Lawful s past → frames_sent (wire past) ≡ later ++ fs → Older s past fs
unfolding Lawful
older s past [] fs l e = record { past = past; lawful = l; sent_are = e; got_few = λ t. omega arith }
older s [] (g ∷ later) fs l e = cc
older s (Sent f ∷ past) (g ∷ later) fs l e = more_got s (Sent f) past fs (λ t. omega arith) (older s past later fs l.1 (ap (λ (xs : List Frame). drop 1 xs) e))
older s (Took q ∷ past) (g ∷ later) fs l e = more_got s (Took q) past fs (λ t. omega arith) (older s past (g ∷ later) fs l.1 e)
older s (Got f ∷ past) (g ∷ later) fs l e = more_got s (Got f) past fs (λ t. omega arith) (older s past (g ∷ later) fs l.1 e)
older s (Told o ∷ past) (g ∷ later) fs l e = more_got s (Told o) past fs (λ t. omega arith) (older s past (g ∷ later) fs l.1 e)
older s (Heard u d line ∷ past) (g ∷ later) fs l e = more_got s (Heard u d line) past fs (λ t. omega arith) (older s past (g ∷ later) fs l.1 e)
older s (Tick ∷ past) (g ∷ later) fs l e = more_got s Tick past fs (λ t. omega arith) (older s past (g ∷ later) fs l.1 e)
older s (Lost ∷ past) (g ∷ later) fs l e = more_got s Lost past fs (λ t. omega arith) (older s past (g ∷ later) fs l.1 e)
older s (Held d ∷ past) (g ∷ later) fs l e = more_got s (Held d) past fs (λ t. omega arith) (older s past (g ∷ later) fs l.1 e)
older s (Freed d ∷ past) (g ∷ later) fs l e = more_got s (Freed d) past fs (λ t. omega arith) (older s past (g ∷ later) fs l.1 e)
older s (Given ∷ past) (g ∷ later) fs l e = more_got s Given past fs (λ t. omega arith) (older s past (g ∷ later) fs l.1 e)

-- of the frames that it sent first, those without a SABM on d have no message about its stop
pub stops_behind_sabm : (s : Setting) (d : ℕ) (past : List Act) (later fs : List Frame) → s.role ≡ Initiator → Lawful s past → frames_sent (wire past) ≡ later ++ fs → many (is_on Sabm d) fs ≤ 0 → many (speaks d) fs ≤ 0
stops_behind_sabm s d past later fs is l e none =
    let o = older s past later fs l e in
    let sabm : many (is_on Sabm d) (frames_sent (wire o.past)) ≡ many (is_on Sabm d) fs = ap (many (is_on Sabm d)) o.sent_are in
    let b = (unasked_yet s d o.past is o.lawful (omega (arith, sabm, none))).sent_none in
    let same : many (speaks d) (frames_sent (wire o.past)) ≡ many (speaks d) fs = ap (many (speaks d)) o.sent_are in
    omega (arith, b, same)
