-- Wrong turns that say what waits: rows that the definitions refuse.
use Rattle.std.specs.Prelude.{ℕ, List, [], ◌∷◌, ◌++◌, take, codes, replicate}
use Rattle.mux_frame.specs.Frames.{Frame}
use Rattle.mux_frame.specs.declared.frame.Kind.TheVariants.{Sabm, Ua, Uih}
use Rattle.at_text.specs.declared.unsolicited.UrcKind.TheVariants.{Ring, Creg}
use Rattle.mux_station.specs.declared.role.Role.TheVariants.{Responder}
use Rattle.mux_station.specs.Written.{written}
use Rattle.modem_desk.specs.declared.request.Ask.TheVariants.{OpenChannel, Command}
use Rattle.modem_desk.specs.declared.request.Answer.TheVariants.{Opened, NotOpen}
use Rattle.modem_desk.specs.declared.request.Request.{Request}
use Rattle.modem_history.specs.Acts.{Act, Heard, Tick, Lost, Held}
use Rattle.modem_history.specs.Sessions.{SessionView}
use Rattle.modem_history.specs.Turns.{Moved, Waiting, Blocked}
use Rattle.modem_history.specs.Rows.{one, two, takes, tells, sends, comes, msc_command, framed, opening_zero, opening_one}
use Rattle.modem_history.specs.SessionRows.{TurnRow, settled, lf_octet, zero_came, sabm_zero, ua_zero, ua_one, ring_one, test_command_info, first_request, second_request, third_request, fourth_request, opened_zero, opened_both, outcome_of, ring, last_flag}
use Rattle.modem_history.specs.GoodSessions.{left_zero, asked_zero, ring_came, ua_unfed, ua_at_hand, zero_opened, outcome_waits, ring_announced, ring_waits}
use Rattle.modem_history.specs.GoodTurns.{at_calls, other_told, both_wait, two_lines_wait, both_came}
use Rattle.modem_history.specs.BadTurns.{nothing_but, goes_to, failing, held_one, stop_one, with_one, asking, hearing, at_hand, idle_with_frame, idle_with_unfed, idle_half_unfed, idle_with_unsent, idle_with_queued, idle_with_outcome, idle_with_line, command_stays, idle_with_command, idle_after_read, idle_without_read, idle_though_told, idle_though_sent, idle_though_announced, idle_with_lost_frame, idle_with_dropped_request, idle_and_still_held, idle_and_failed, moved_by_nothing, moved_by_a_mark, unfed_grows, full_unoffered, full_but_taken, full_of_nothing, full_without_read, full_with_frame, full_with_unfed, full_with_test, full_though_told, full_though_read, full_though_taken, full_with_dropped_request, full_and_not_held, full_and_still_held, full_and_failed}

-- ## Waiting

-- the caller's ring took the outcome
abbrev pub waiting_but_told : TurnRow
waiting_but_told = record {
  old = outcome_waits.view;
  new = at_calls 41 zero_opened.view;
  before = opening_zero;
  acts = [];
  says = Waiting 0;
}

-- none of this caller waits
abbrev pub waiting_for_another : TurnRow
waiting_for_another = nothing_but outcome_waits.view opening_zero (Waiting 1)

-- outcomes of both callers wait, and the greater is named
abbrev pub waiting_for_the_greater : TurnRow
waiting_for_the_greater = nothing_but both_wait other_told (Waiting 1)

-- octets wait too
abbrev pub waiting_with_unsent : TurnRow
waiting_with_unsent =
    nothing_but (record outcome_waits.view { unwritten = last_flag }) opening_zero (Waiting 0)

-- a frame is at hand, which the outcome holds up
abbrev pub waiting_with_frame : TurnRow
waiting_with_frame = nothing_but (record ua_at_hand.view { unplaced = opened_zero }) left_zero (Waiting 0)

-- the line was not read
abbrev pub waiting_without_read : TurnRow
waiting_without_read = record {
  old = outcome_waits.view;
  new = outcome_waits.view;
  before = opening_zero;
  acts = [];
  says = Waiting 0;
}

-- no outcome waits
abbrev pub waiting_for_none : TurnRow
waiting_for_none = nothing_but zero_opened.view opening_zero (Waiting 0)

-- the outcome comes of this turn, and its ring wasn't tried
abbrev pub waiting_untried : TurnRow
waiting_untried = record {
  old = ua_at_hand.view;
  new = at_calls 41 outcome_waits.view;
  before = left_zero;
  acts = comes Ua 0 [] ∷ tells 1 Opened ∷ [];
  says = Waiting 0;
}

-- 0 is open, and its outcome waits; these octets came, and these requests were taken
abbrev pub told_late : List ℕ → List Request → SessionView
told_late came requests = record (settled came sabm_zero requests [] [] [] last_flag) {
  unplaced = opened_zero;
}

-- octets of a frame came, and weren't given to the deframer
abbrev pub waiting_half_unfed : TurnRow
waiting_half_unfed =
    nothing_but (record (told_late (zero_came ++ take 3 ua_one)
    (first_request ∷ [])) { unfed = take 3 ua_one }) opening_zero (Waiting 0)

-- the frame that came was thrown away
abbrev pub waiting_with_lost_frame : TurnRow
waiting_with_lost_frame =
    nothing_but (told_late (zero_came ++ test_command_info) (first_request ∷ [])) opening_zero (Waiting 0)

-- a frame waits in the control queue, which the outcome holds up
abbrev pub asked_one : List Act
asked_one = opening_zero ++ takes 2 (OpenChannel one) ∷ sends Sabm 1 [] ∷ []

abbrev pub waiting_with_queued : TurnRow
waiting_with_queued =
    nothing_but (told_late zero_came (first_request ∷ second_request ∷ [])) asked_one (Waiting 0)

-- a command could leave, which the outcome holds up
abbrev pub waiting_with_command : TurnRow
waiting_with_command =
    nothing_but (asking (third_request ∷ []) (with_one [] [] opened_zero (outcome_of 2 Opened ∷ [])))
    command_stays (Waiting 0)

-- so many lines wait too that the connection had to be held, and it isn't
abbrev pub waiting_and_not_held : TurnRow
waiting_and_not_held =
    nothing_but (hearing (replicate 256 ring) (with_one ring_one [] opened_zero (outcome_of 2 Opened ∷ [])))
    ring_came (Waiting 0)

-- no line waits, and the connection is still held
abbrev pub waiting_and_still_held : TurnRow
waiting_and_still_held =
    nothing_but (with_one ring_one stop_one opened_zero (outcome_of 2 Opened ∷ [])) (ring_came ++ held_one)
    (Waiting 0)

-- a call on the line failed
abbrev pub waiting_and_failed : TurnRow
waiting_and_failed = goes_to outcome_waits.view (failing outcome_waits.view) opening_zero (Waiting 0)

-- ## Blocked

-- no line of this kind waits
abbrev pub blocked_by_none : TurnRow
blocked_by_none = nothing_but zero_opened.view opening_zero (Blocked Ring)

-- a line of another kind was heard before it
abbrev pub blocked_by_a_later : TurnRow
blocked_by_a_later = nothing_but two_lines_wait both_came (Blocked Ring)

-- a command could leave, which the line holds up
abbrev pub blocked_with_command : TurnRow
blocked_with_command =
    nothing_but (hearing (ring ∷ []) (asking (third_request ∷ []) (with_one ring_one [] opened_both [])))
    (ring_came ++ takes 3 (Command one (codes "AT+CSQ")) ∷ []) (Blocked Ring)

-- so many lines wait that the connection had to be held, and it isn't
abbrev pub blocked_and_not_held : TurnRow
blocked_and_not_held =
    nothing_but (record ring_waits.view { unannounced = replicate 256 ring }) ring_came (Blocked Ring)

-- one line waits, and the connection is still held
abbrev pub blocked_and_still_held : TurnRow
blocked_and_still_held =
    nothing_but (hearing (ring ∷ []) (with_one ring_one stop_one opened_both [])) (ring_came ++ held_one)
    (Blocked Ring)

-- one of another kind does
abbrev pub blocked_by_another : TurnRow
blocked_by_another = nothing_but ring_waits.view ring_came (Blocked Creg)

-- the listener's ring took the line
abbrev pub blocked_though_announced : TurnRow
blocked_though_announced = goes_to ring_waits.view ring_announced.view ring_came (Blocked Ring)

-- the line comes of this turn, and its ring wasn't tried
abbrev pub ring_frame : Frame
ring_frame = written Responder Uih 1 (framed (codes "RING"))

abbrev pub ring_at_hand : SessionView
ring_at_hand = at_hand (with_one ring_one [] opened_both []) ring_one ring_frame

abbrev pub blocked_untried : TurnRow
blocked_untried = record {
  old = ring_at_hand;
  new = at_calls 41 ring_waits.view;
  before = opening_one;
  acts = comes Uih 1 (framed (codes "RING")) ∷ Heard Ring 1 (codes "RING") ∷ [];
  says = Blocked Ring;
}

-- octets wait too
abbrev pub blocked_with_unsent : TurnRow
blocked_with_unsent = nothing_but (record ring_waits.view { unwritten = last_flag }) ring_came (Blocked Ring)

-- an outcome waits too
abbrev pub blocked_with_outcome : TurnRow
blocked_with_outcome =
    nothing_but (hearing (ring ∷ []) (with_one ring_one [] opened_zero (outcome_of 2 Opened ∷ []))) ring_came
    (Blocked Ring)

-- a frame is at hand, which the line holds up
abbrev pub blocked_with_frame : TurnRow
blocked_with_frame =
    nothing_but (hearing (ring ∷ [])
    (at_hand (with_one (ring_one ++ ring_one) [] opened_both []) ring_one ring_frame)) ring_came
    (Blocked Ring)

-- octets of a frame came, and weren't given to the deframer
abbrev pub blocked_half_unfed : TurnRow
blocked_half_unfed =
    nothing_but (record (with_one (ring_one ++ take 3 ring_one) [] opened_both []) {
      unfed = take 3 ring_one;
      unannounced = ring ∷ [];
    })
    ring_came (Blocked Ring)

-- the line was not read
abbrev pub blocked_without_read : TurnRow
blocked_without_read = record {
  old = ring_waits.view;
  new = ring_waits.view;
  before = ring_came;
  acts = [];
  says = Blocked Ring;
}

-- a frame waits in the control queue, which the line holds up
abbrev pub blocked_with_queued : TurnRow
blocked_with_queued =
    nothing_but (asking (fourth_request ∷ []) ring_waits.view)
    (ring_came ++ takes 4 (OpenChannel two) ∷ sends Sabm 2 [] ∷ [])
    (Blocked Ring)

-- a call on the line failed
abbrev pub blocked_and_failed : TurnRow
blocked_and_failed = goes_to ring_waits.view (failing ring_waits.view) ring_came (Blocked Ring)

-- ## Acts of a turn

-- a tick that nobody gave
abbrev pub tick_in_a_turn : TurnRow
tick_in_a_turn = record {
  old = zero_opened.view;
  new = at_calls 41 zero_opened.view;
  before = opening_zero;
  acts = Tick ∷ [];
  says = Moved;
}

-- the line is lost, and the turn says that it moved
abbrev pub loss_in_a_turn : TurnRow
loss_in_a_turn = record {
  old = zero_opened.view;
  new = at_calls 41 zero_opened.view;
  before = opening_zero;
  acts = Lost ∷ [];
  says = Moved;
}

-- the line failed, and the turn says that it moved
abbrev pub failed_and_moved : TurnRow
failed_and_moved = record {
  old = outcome_waits.view;
  new = record zero_opened.view { line = record zero_opened.view.line { failures = 1 } };
  before = opening_zero;
  acts = [];
  says = Moved;
}

-- the line was called three times
abbrev pub three_calls : TurnRow
three_calls = record {
  old = outcome_waits.view;
  new = at_calls 43 zero_opened.view;
  before = opening_zero;
  acts = [];
  says = Moved;
}

-- the line was read twice
abbrev pub read_twice : TurnRow
read_twice = record {
  old = settled [] [] [] [] [] [] [];
  new = at_calls 42 (settled lf_octet [] [] [] [] [] []);
  before = [];
  acts = [];
  says = Moved;
}

-- the line was read while octets wait that came before
abbrev pub read_while_unfed : TurnRow
read_while_unfed = record {
  old = ua_unfed.view;
  new =
      at_calls 41 (record (settled (zero_came ++ ua_one) sabm_zero (first_request ∷ []) [] [] [] []) {
        unfed = ua_zero ++ ua_one;
      });
  before = left_zero;
  acts = [];
  says = Moved;
}

-- a frame is handled, and the next one too
abbrev pub two_frames : TurnRow
two_frames = record {
  old = ua_at_hand.view;
  new = at_calls 41 (record zero_opened.view { unplaced = opened_zero });
  before = left_zero;
  acts = comes Ua 0 [] ∷ tells 1 Opened ∷ comes Uih 0 (msc_command 1 0x8d) ∷ [];
  says = Moved;
}

-- two requests are taken from the desk
abbrev pub two_requests : TurnRow
two_requests = record {
  old = settled lf_octet [] [] [] [] [] [];
  new =
      at_calls 41 (record (settled lf_octet [] (first_request ∷ second_request ∷ []) [] [] [] []) {
        unplaced = outcome_of 2 NotOpen ∷ [];
      });
  before = [];
  acts = asked_zero ++ takes 2 (OpenChannel one) ∷ tells 2 NotOpen ∷ [];
  says = Moved;
}

-- the frame at hand is got, and its outcome is told in the same turn
abbrev pub told_at_once : TurnRow
told_at_once = record {
  old = ua_at_hand.view;
  new = at_calls 41 zero_opened.view;
  before = left_zero;
  acts = comes Ua 0 [] ∷ tells 1 Opened ∷ [];
  says = Moved;
}

-- a connection is held although one line waits
abbrev pub held_too_early : TurnRow
held_too_early = record {
  old = ring_waits.view;
  new = at_calls 41 ring_waits.view;
  before = ring_came;
  acts = Held 1 ∷ sends Uih 0 (msc_command 1 0x8f) ∷ [];
  says = Moved;
}

-- a request is taken from the desk and dropped, and the turn says that it moved
abbrev pub moved_by_dropped_request : TurnRow
moved_by_dropped_request =
    goes_to zero_opened.view (asking (second_request ∷ []) zero_opened.view) opening_zero Moved

abbrev pub wrong_turns : List TurnRow
wrong_turns =
    idle_with_frame ∷ idle_with_unfed ∷ idle_half_unfed ∷ idle_with_unsent ∷ idle_with_queued ∷
    idle_with_outcome ∷ idle_with_line ∷ idle_with_command ∷ idle_after_read ∷
    idle_without_read ∷ idle_though_told ∷ idle_though_sent ∷ idle_though_announced ∷ idle_with_lost_frame ∷
    idle_with_dropped_request ∷ idle_and_still_held ∷ idle_and_failed ∷ moved_by_nothing ∷ moved_by_a_mark ∷
    unfed_grows ∷ full_unoffered ∷ full_but_taken ∷ full_of_nothing ∷ full_without_read ∷ full_with_frame ∷
    full_with_unfed ∷ full_with_test ∷ full_though_told ∷ full_though_read ∷ full_though_taken ∷
    full_with_dropped_request ∷ full_and_not_held ∷ full_and_still_held ∷ full_and_failed ∷
    waiting_but_told ∷ waiting_for_another ∷ waiting_for_the_greater ∷ waiting_with_unsent ∷
    waiting_with_frame ∷ waiting_without_read ∷ waiting_for_none ∷ waiting_untried ∷ waiting_half_unfed ∷
    waiting_with_lost_frame ∷ waiting_with_queued ∷ waiting_with_command ∷
    waiting_and_not_held ∷ waiting_and_still_held ∷ waiting_and_failed ∷ blocked_by_none ∷
    blocked_by_a_later ∷ blocked_with_command ∷ blocked_and_not_held ∷ blocked_and_still_held ∷
    blocked_by_another ∷ blocked_though_announced ∷ blocked_untried ∷ blocked_with_unsent ∷
    blocked_with_outcome ∷ blocked_with_frame ∷ blocked_half_unfed ∷ blocked_without_read ∷
    blocked_with_queued ∷ blocked_and_failed ∷ tick_in_a_turn ∷ loss_in_a_turn ∷
    failed_and_moved ∷ three_calls ∷ read_twice ∷ read_while_unfed ∷ two_frames ∷
    two_requests ∷ told_at_once ∷ held_too_early ∷ moved_by_dropped_request ∷ []
