-- Turns that don't mean what they say, whatever they exchanged with their line and their desk.
use Rattle.std.specs.Prelude.{ℕ, List, [], ◌∷◌, ◌++◌, Some, None, take, drop, codes, replicate}
use Rattle.mux_frame.specs.Frames.{Frame}
use Rattle.mux_frame.specs.declared.frame.Kind.TheVariants.{Uih}
use Rattle.mux_station.specs.declared.role.Role.TheVariants.{Responder}
use Rattle.mux_station.specs.Written.{written}
use Rattle.modem_desk.specs.declared.request.Ask.TheVariants.{OpenChannel, Command}
use Rattle.modem_desk.specs.declared.request.Answer.TheVariants.{NotOpen}
use Rattle.modem_desk.specs.declared.request.Request.{Request}
use Rattle.modem_desk.specs.declared.request.Outcome.{Outcome}
use Rattle.modem_desk.specs.declared.request.Urc.{Urc}
use Rattle.modem_history.specs.Acts.{Act, Held, Given}
use Rattle.modem_history.specs.Sessions.{SessionView}
use Rattle.modem_history.specs.Turns.{TurnAnswer, Moved, WriterFull, Idle}
use Rattle.modem_history.specs.Rows.{one, takes, tells, sends, msc_command, opening_zero, opening_one}
use Rattle.modem_history.specs.SessionRows.{TurnRow, settled, entry_answer, lf_octet, zero_came, one_came, one_left, sabm_zero, ua_zero, ring_one, test_command_info, first_request, second_request, third_request, opened_zero, opened_both, outcome_of, ring, last_flag}
use Rattle.modem_history.specs.GoodSessions.{left_zero, asked_zero, ring_came, sabm_queued, sabm_half_sent, ua_unfed, ua_at_hand, zero_opened, outcome_waits, ring_announced, ring_waits}
use Rattle.modem_history.specs.GoodTurns.{at_calls}

-- nothing happens but one call on the line
abbrev pub nothing_but : SessionView → List Act → TurnAnswer → TurnRow
nothing_but v before says = record { old = v; new = at_calls 41 v; before = before; acts = []; says = says }

-- nothing happens but two calls on the line, and it says that it takes nothing
abbrev pub offers_in_vain : SessionView → List Act → TurnRow
offers_in_vain v before = record {
  old = v;
  new = at_calls 42 v;
  before = before;
  acts = [];
  says = WriterFull;
}

-- by one call on the line old becomes new, and nothing happens
abbrev pub goes_to : (old new : SessionView) → List Act → TurnAnswer → TurnRow
goes_to old new before says = record {
  old = old;
  new = at_calls 41 new;
  before = before;
  acts = [];
  says = says;
}

-- a call on its line failed
abbrev pub failing : SessionView → SessionView
failing v = record v { line = record v.line { failures = 1 } }

-- 1 is held, and the MSC that says so left
abbrev pub held_one : List Act
held_one = Held 1 ∷ sends Uih 0 (msc_command 1 0x8f) ∷ Given ∷ []

abbrev pub stop_one : List ℕ
stop_one = 0xF9 ∷ 0x03 ∷ 0xEF ∷ 0x09 ∷ 0xE3 ∷ 0x05 ∷ 0x07 ∷ 0x8F ∷ 0xFB ∷ 0xF9 ∷ []

-- 0 and 1 are open; these octets came more, and these left; these outcomes were told, and these wait
abbrev pub with_one : (came left : List ℕ) → (told : List Outcome) → (waits : List Outcome) → SessionView
with_one came left told waits =
    record (settled (one_came ++ came) (one_left ++ left)
    (first_request ∷ second_request ∷ []) told [] [] last_flag) {
      unplaced = waits;
    }

-- a session that took these requests more
abbrev pub asking : List Request → SessionView → SessionView
asking more v = record v { desk = record v.desk { taken = v.desk.taken ++ more } }

-- where these lines wait
abbrev pub hearing : List Urc → SessionView → SessionView
hearing lines v = record v { unannounced = lines }

-- where a frame is at hand
abbrev pub at_hand : SessionView → (octets : List ℕ) → Frame → SessionView
at_hand v octets f = record v { deframer = record { n1 = 31; undecided = octets; next = Some f } }

-- ## Idle

-- a frame is at hand
abbrev pub idle_with_frame : TurnRow
idle_with_frame = nothing_but ua_at_hand.view left_zero Idle

-- octets of a frame are not fed yet
abbrev pub idle_with_unfed : TurnRow
idle_with_unfed = nothing_but ua_unfed.view left_zero Idle

-- the first octets of a frame were read and never given to the deframer
abbrev pub half_unfed : SessionView
half_unfed = record (settled (lf_octet ++ take 3 ua_zero) sabm_zero (first_request ∷ []) [] [] [] []) {
  unfed = take 3 ua_zero;
}

abbrev pub idle_half_unfed : TurnRow
idle_half_unfed = nothing_but half_unfed left_zero Idle

-- octets wait for the line
abbrev pub idle_with_unsent : TurnRow
idle_with_unsent = nothing_but sabm_half_sent.view left_zero Idle

-- a frame waits in the control queue
abbrev pub idle_with_queued : TurnRow
idle_with_queued = nothing_but sabm_queued.view asked_zero Idle

-- an outcome waits for a place
abbrev pub idle_with_outcome : TurnRow
idle_with_outcome = nothing_but outcome_waits.view opening_zero Idle

-- a line waits for a place
abbrev pub idle_with_line : TurnRow
idle_with_line = nothing_but ring_waits.view ring_came Idle

-- a command could leave
abbrev pub command_stays : List Act
command_stays = opening_one ++ takes 3 (Command one (codes "AT+CSQ")) ∷ []

abbrev pub idle_with_command : TurnRow
idle_with_command =
    nothing_but (asking (third_request ∷ []) (with_one [] [] opened_both [])) command_stays Idle

-- this turn's read gave octets
abbrev pub idle_after_read : TurnRow
idle_after_read = record {
  old = settled [] [] [] [] [] [] [];
  new = at_calls 41 (settled lf_octet [] [] [] [] [] []);
  before = [];
  acts = [];
  says = Idle;
}

-- the line was not called in this turn
abbrev pub idle_without_read : TurnRow
idle_without_read = record {
  old = settled lf_octet [] [] [] [] [] [];
  new = settled lf_octet [] [] [] [] [] [];
  before = [];
  acts = [];
  says = Idle;
}

-- the outcome that waited was told
abbrev pub idle_though_told : TurnRow
idle_though_told = goes_to outcome_waits.view zero_opened.view opening_zero Idle

-- octets were sent
abbrev pub idle_though_sent : TurnRow
idle_though_sent =
    goes_to sabm_half_sent.view (settled lf_octet sabm_zero (first_request ∷ []) [] [] [] []) left_zero Idle

-- a line was announced
abbrev pub idle_though_announced : TurnRow
idle_though_announced = goes_to ring_waits.view ring_announced.view ring_came Idle

-- the frame that came was thrown away
abbrev pub idle_with_lost_frame : TurnRow
idle_with_lost_frame =
    nothing_but (settled zero_came sabm_zero (first_request ∷ []) [] [] [] last_flag) left_zero Idle

-- a request is taken from the desk and dropped
abbrev pub idle_with_dropped_request : TurnRow
idle_with_dropped_request =
    goes_to zero_opened.view (asking (second_request ∷ []) zero_opened.view) opening_zero Idle

-- no line waits, and the connection is still held
abbrev pub idle_and_still_held : TurnRow
idle_and_still_held = nothing_but (with_one ring_one stop_one opened_both []) (ring_came ++ held_one) Idle

-- a call on the line failed
abbrev pub idle_and_failed : TurnRow
idle_and_failed = goes_to zero_opened.view (failing zero_opened.view) opening_zero Idle

-- ## Moved

-- nothing moved
abbrev pub moved_by_nothing : TurnRow
moved_by_nothing = nothing_but zero_opened.view opening_zero Moved

-- a control frame was taken into the output, and that is all
abbrev pub moved_by_a_mark : TurnRow
moved_by_a_mark = record {
  old = sabm_queued.view;
  new = at_calls 42 (record sabm_queued.view { unwritten = sabm_zero });
  before = asked_zero;
  acts = Given ∷ [];
  says = Moved;
}

-- octets wait unfed that were never read in this turn
abbrev pub unfed_grows : TurnRow
unfed_grows = record {
  old = ua_at_hand.view;
  new = at_calls 41 ua_unfed.view;
  before = left_zero;
  acts = [];
  says = WriterFull;
}

-- ## WriterFull

-- octets wait, and the line was not called
abbrev pub full_unoffered : TurnRow
full_unoffered = record {
  old = sabm_half_sent.view;
  new = sabm_half_sent.view;
  before = left_zero;
  acts = [];
  says = WriterFull;
}

-- the line took some
abbrev pub full_but_taken : TurnRow
full_but_taken = record {
  old = record (settled lf_octet (take 1 sabm_zero) (first_request ∷ []) [] [] [] []) {
    unwritten = drop 1 sabm_zero;
  };
  new = at_calls 42 sabm_half_sent.view;
  before = left_zero;
  acts = [];
  says = WriterFull;
}

-- no octets wait
abbrev pub full_of_nothing : TurnRow
full_of_nothing = nothing_but zero_opened.view opening_zero WriterFull

-- the line was not read
abbrev pub full_without_read : TurnRow
full_without_read = nothing_but sabm_half_sent.view left_zero WriterFull

-- a frame is at hand that calls for nothing
abbrev pub full_with_frame : TurnRow
full_with_frame = offers_in_vain (record ua_at_hand.view { unwritten = drop 2 sabm_zero }) left_zero

-- octets wait unfed, and no frame is at hand
abbrev pub full_with_unfed : TurnRow
full_with_unfed = nothing_but (record ua_unfed.view { unwritten = last_flag }) left_zero WriterFull

-- a Test command is at hand, and its response finds room
abbrev pub test_frame : Frame
test_frame = written Responder Uih 0 (0x23 ∷ 5 ∷ 0x41 ∷ 0x42 ∷ [])

abbrev pub test_at_hand : SessionView
test_at_hand =
    record (at_hand (settled (zero_came ++ test_command_info) sabm_zero (first_request ∷ [])
    opened_zero [] [] []) test_command_info test_frame) {
      unwritten = last_flag;
    }

abbrev pub full_with_test : TurnRow
full_with_test = offers_in_vain test_at_hand opening_zero

-- the outcome that waited was told
abbrev pub full_though_told : TurnRow
full_though_told = record {
  old = record outcome_waits.view { unwritten = last_flag };
  new = at_calls 42 (record zero_opened.view { unwritten = last_flag });
  before = opening_zero;
  acts = [];
  says = WriterFull;
}

-- octets came
abbrev pub full_though_read : TurnRow
full_though_read = record {
  old = sabm_half_sent.view;
  new = at_calls 42 (record sabm_half_sent.view {
    line = record {
      received = entry_answer ++ lf_octet ++ last_flag;
      sent = sabm_half_sent.view.line.sent;
      calls = 40;
      failures = 0;
      empty_reads = 0;
      stalled_writes = 0;
    };
    deframer = record { n1 = 31; undecided = last_flag; next = None };
  });
  before = left_zero;
  acts = [];
  says = WriterFull;
}

-- a request was taken
abbrev pub full_though_taken : TurnRow
full_though_taken = record {
  old = sabm_half_sent.view;
  new = at_calls 42 (record sabm_half_sent.view {
    desk = record sabm_half_sent.view.desk { taken = first_request ∷ second_request ∷ [] };
    unplaced = outcome_of 2 NotOpen ∷ [];
  });
  before = left_zero;
  acts = takes 2 (OpenChannel one) ∷ tells 2 NotOpen ∷ [];
  says = WriterFull;
}

-- a request is taken from the desk and dropped
abbrev pub full_with_dropped_request : TurnRow
full_with_dropped_request = record {
  old = record zero_opened.view { unwritten = last_flag };
  new = at_calls 42 (record (asking (second_request ∷ []) zero_opened.view) { unwritten = last_flag });
  before = opening_zero;
  acts = [];
  says = WriterFull;
}

-- so many lines wait too that the connection had to be held, it isn't, and an MSC had a place
abbrev pub full_and_not_held : TurnRow
full_and_not_held =
    offers_in_vain (record (hearing (replicate 256 ring)
    (with_one ring_one [] opened_both [])) { unwritten = last_flag }) ring_came

-- no line waits, the connection is still held, and an MSC had a place
abbrev pub full_and_still_held : TurnRow
full_and_still_held =
    offers_in_vain (record (with_one ring_one stop_one opened_both []) { unwritten = last_flag })
    (ring_came ++ held_one)

-- the line didn't take them since it failed
abbrev pub full_and_failed : TurnRow
full_and_failed = record {
  old = sabm_half_sent.view;
  new = at_calls 42 (failing sabm_half_sent.view);
  before = left_zero;
  acts = [];
  says = WriterFull;
}
