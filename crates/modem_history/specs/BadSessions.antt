-- Sessions that don't fit what happened.
use Rattle.std.specs.Prelude.{List, [], ◌∷◌, ◌++◌, None, take, drop, codes}
use Rattle.mux_frame.specs.declared.frame.Kind.TheVariants.{Sabm, Ua, Uih}
use Rattle.at_text.specs.declared.unsolicited.UrcKind.TheVariants.{Cring, Creg}
use Rattle.modem_desk.specs.declared.request.Ask.TheVariants.{OpenChannel, Command}
use Rattle.modem_desk.specs.declared.request.Answer.TheVariants.{Opened, AlreadyOpen}
use Rattle.modem_history.specs.Acts.{Act, Took, Told, Heard, Lost, Given}
use Rattle.modem_history.specs.Entering.{entry_text}
use Rattle.modem_desk.specs.declared.request.Request.{Request}
use Rattle.modem_history.specs.Rows.{zero, one, two, takes, tells, sends, comes, cr, framed, opening_zero, opening_one}
use Rattle.modem_history.specs.SessionRows.{SessionRow, entry_answer, settled, zero_came, one_came, one_left, lf_octet, sabm_zero, ua_zero, broken_ua_zero, sabm_one, sabm_two, test_command_info, test_response, csq_one, ring_one, creg_one, first_request, second_request, third_request, fourth_request, opened_zero, opened_both, outcome_of, ring, line_on_one, last_flag}
use Rattle.modem_history.specs.GoodSessions.{asked_zero, left_zero, ring_came, ring_announced}
use Rattle.modem_history.specs.GoodTurns.{other_request, other_outcome, other_told, both_came, two_lines_wait, creg}

-- ## Octets that leave

-- the SABM's octets are written twice
abbrev pub written_twice : SessionRow
written_twice = record {
  view = settled lf_octet (sabm_zero ++ sabm_zero) (first_request ∷ []) [] [] [] [];
  acts = left_zero;
}

-- one of its octets is left out
abbrev pub octet_left_out : SessionRow
octet_left_out = record {
  view = settled lf_octet (take 2 sabm_zero ++ drop 3 sabm_zero) (first_request ∷ []) [] [] [] [];
  acts = left_zero;
}

-- an octet that was sent waits again
abbrev pub octet_waits_again : SessionRow
octet_waits_again = record {
  view = record (settled lf_octet (take 3 sabm_zero) (first_request ∷ []) [] [] [] []) {
    unwritten = drop 2 sabm_zero;
  };
  acts = left_zero;
}

-- the SABM has its mark, and the output has none of it
abbrev pub marked_too_early : SessionRow
marked_too_early = record { view = settled lf_octet [] (first_request ∷ []) [] [] [] []; acts = left_zero }

-- the SABM is wholly sent, and hasn't its mark
abbrev pub marked_too_late : SessionRow
marked_too_late = record {
  view = settled lf_octet sabm_zero (first_request ∷ []) [] [] [] [];
  acts = asked_zero;
}

-- two frames of the control queue are marked, and none of their octets is sent
abbrev pub two_marked : SessionRow
two_marked = record {
  view =
      record (settled (lf_octet ++ ua_zero ++ test_command_info) sabm_zero
      (first_request ∷ second_request ∷ []) opened_zero [] [] last_flag) {
        unwritten = sabm_one ++ test_response;
      };
  acts =
      opening_zero ++ takes 2 (OpenChannel one) ∷ sends Sabm 1 [] ∷
      comes Uih 0 (0x23 ∷ 5 ∷ 0x41 ∷ 0x42 ∷ []) ∷
      sends Uih 0 (0x21 ∷ 5 ∷ 0x41 ∷ 0x42 ∷ []) ∷ Given ∷ Given ∷ [];
}

-- the requests to send AT+CSQ and to open 2 were taken
abbrev pub csq_and_two : List Act
csq_and_two =
    opening_one ++ takes 3 (Command one (codes "AT+CSQ")) ∷ takes 4 (OpenChannel two) ∷ sends Sabm 2 [] ∷ []

-- data leaves ahead of the octets of a SABM that wait
abbrev pub data_overtakes_octets : SessionRow
data_overtakes_octets = record {
  view =
      record (settled one_came (one_left ++ csq_one)
      (first_request ∷ second_request ∷ third_request ∷ fourth_request ∷ []) opened_both [] [] last_flag) {
        unwritten = sabm_two;
      };
  acts = csq_and_two ++ Given ∷ sends Uih 1 (codes "AT+CSQ" ++ cr) ∷ [];
}

-- data leaves while the SABM waits in the control queue
abbrev pub data_overtakes_frame : SessionRow
data_overtakes_frame = record {
  view =
      settled one_came (one_left ++ csq_one)
      (first_request ∷ second_request ∷ third_request ∷ fourth_request ∷ []) opened_both [] [] last_flag;
  acts = csq_and_two ++ sends Uih 1 (codes "AT+CSQ" ++ cr) ∷ [];
}

-- AT+CSQ leaves in two frames, though N1 octets and more wait (27.010, 5.4)
abbrev pub half_a_frame : SessionRow
half_a_frame = record {
  view =
      settled one_came one_left (first_request ∷ second_request ∷ third_request ∷ []) opened_both [] [] last_flag;
  acts =
      opening_one ++ takes 3 (Command one (codes "AT+CSQ")) ∷ sends Uih 1 (codes "AT+C") ∷
      sends Uih 1 (codes "SQ" ++ cr) ∷ [];
}

-- the octets of a frame wait that nothing called for
abbrev pub octets_of_none : SessionRow
octets_of_none = record { view = record (settled [] [] [] [] [] [] []) { unwritten = sabm_zero }; acts = [] }

-- ## Octets that come

-- a frame was got whose check octet is one off
abbrev pub broken_frame_got : SessionRow
broken_frame_got = record {
  view = settled (lf_octet ++ broken_ua_zero) sabm_zero (first_request ∷ []) opened_zero [] [] last_flag;
  acts = opening_zero;
}

-- a frame was got before its last octets came
abbrev pub got_too_soon : SessionRow
got_too_soon = record {
  view =
      settled (lf_octet ++ take 4 ua_zero) sabm_zero (first_request ∷ []) opened_zero [] [] (take 4 ua_zero);
  acts = opening_zero;
}

-- a frame was got while its octets wait to be fed
abbrev pub got_unfed : SessionRow
got_unfed = record {
  view = record (settled zero_came sabm_zero (first_request ∷ []) opened_zero [] [] []) { unfed = ua_zero };
  acts = opening_zero;
}

-- a frame came, none is at hand, and it was not got
abbrev pub frame_dropped : SessionRow
frame_dropped = record {
  view = settled zero_came sabm_zero (first_request ∷ []) [] [] [] last_flag;
  acts = left_zero;
}

-- the flag that opens a frame was taken, and the deframer doesn't keep it
abbrev pub flag_dropped : SessionRow
flag_dropped = record {
  view = record (settled zero_came sabm_zero (first_request ∷ []) [] [] [] []) { unfed = drop 1 ua_zero };
  acts = left_zero;
}

-- the deframer goes by another N1
abbrev pub other_n1 : SessionRow
other_n1 = record {
  view = record (settled [] [] [] [] [] [] []) { deframer = record { n1 = 32; undecided = []; next = None } };
  acts = [];
}

-- ## Requests

-- a request was taken and dropped
abbrev pub request_dropped : SessionRow
request_dropped = record { view = settled lf_octet [] (first_request ∷ []) [] [] [] []; acts = [] }

-- a request was taken that the desk never gave
abbrev pub request_invented : SessionRow
request_invented = record { view = settled lf_octet sabm_zero [] [] [] [] []; acts = left_zero }

abbrev pub third_caller : Request
third_caller = record { caller = 2; number = 1; ask = OpenChannel zero }

-- a caller used a number twice
abbrev pub number_twice : SessionRow
number_twice = record {
  view =
      settled zero_came sabm_zero (first_request ∷ first_request ∷ [])
      (opened_zero ++ outcome_of 1 AlreadyOpen ∷ []) [] [] last_flag;
  acts = opening_zero ++ takes 1 (OpenChannel zero) ∷ tells 1 AlreadyOpen ∷ [];
}

-- a request was taken of a caller that the desk hasn't
abbrev pub caller_unknown : SessionRow
caller_unknown = record {
  view =
      record (settled zero_came sabm_zero (first_request ∷ third_caller ∷ []) opened_zero [] [] last_flag) {
        unplaced = record { caller = 2; number = 1; answer = AlreadyOpen } ∷ [];
      };
  acts =
      opening_zero ++ Took third_caller ∷ Told (record { caller = 2; number = 1; answer = AlreadyOpen }) ∷ [];
}

-- ## The line

-- a sound line is taken for lost
abbrev pub sound_line_lost : SessionRow
sound_line_lost = record {
  view = settled zero_came sabm_zero (first_request ∷ []) opened_zero [] [] last_flag;
  acts = opening_zero ++ Lost ∷ [];
}

-- the line is lost twice
abbrev pub lost_twice : SessionRow
lost_twice = record {
  view = record (settled zero_came sabm_zero (first_request ∷ []) opened_zero [] [] last_flag) {
    line = record {
      received = entry_answer ++ zero_came;
      sent = entry_text ++ sabm_zero;
      calls = 40;
      failures = 1;
      empty_reads = 0;
      stalled_writes = 0;
    };
  };
  acts = opening_zero ++ Lost ∷ Lost ∷ [];
}

-- ## Outcomes

-- an outcome was told, and waits to be told again
abbrev pub told_and_kept : SessionRow
told_and_kept = record {
  view = record (settled zero_came sabm_zero (first_request ∷ []) opened_zero [] [] last_flag) {
    unplaced = opened_zero;
  };
  acts = opening_zero;
}

-- an outcome was neither told nor waits
abbrev pub outcome_dropped : SessionRow
outcome_dropped = record {
  view = settled zero_came sabm_zero (first_request ∷ []) [] [] [] last_flag;
  acts = opening_zero;
}

-- an outcome was told to another caller
abbrev pub told_to_another : SessionRow
told_to_another = record {
  view = record (settled zero_came sabm_zero (first_request ∷ []) [] [] [] last_flag) {
    desk = record { taken = first_request ∷ []; told = [] ∷ opened_zero ∷ []; announced = [] ∷ [] ∷ []; found_none = 0; told_back = 0 ∷ 0 ∷ []; announced_back = 0 ∷ 0 ∷ [] };
  };
  acts = opening_zero;
}

-- callers 0 and 1 asked under the same number, and 0 was told both outcomes
abbrev pub told_by_number : SessionRow
told_by_number = record {
  view =
      settled zero_came sabm_zero (first_request ∷ other_request ∷ [])
      (opened_zero ++ other_outcome ∷ []) [] [] last_flag;
  acts = other_told;
}

-- outcomes were told in another order than they came
abbrev pub told_in_other_order : SessionRow
told_in_other_order = record {
  view =
      settled one_came one_left (first_request ∷ second_request ∷ [])
      (outcome_of 2 Opened ∷ outcome_of 1 Opened ∷ []) [] [] last_flag;
  acts = opening_one;
}

-- a request that was answered is told nothing in the history either
abbrev pub not_told_at_all : SessionRow
not_told_at_all = record {
  view = settled zero_came sabm_zero (first_request ∷ []) [] [] [] last_flag;
  acts = left_zero ++ comes Ua 0 [] ∷ [];
}

-- ## Lines

-- two lines were heard one after the other
abbrev pub two_cregs : List Act
two_cregs =
    opening_one ++ comes Uih 1 (framed (codes "+CREG: 1")) ∷ Heard Creg 1 (codes "+CREG: 1") ∷
    comes Uih 1 (framed (codes "+CREG: 2")) ∷ Heard Creg 1 (codes "+CREG: 2") ∷ []

-- and the second was announced first
abbrev pub announced_out_of_order : SessionRow
announced_out_of_order = record {
  view =
      record (settled (one_came ++ creg_one 0x31 ++ creg_one 0x32) one_left
      (first_request ∷ second_request ∷ []) opened_both [] (line_on_one Creg (codes "+CREG: 2") ∷ [])
      last_flag) {
        unannounced = line_on_one Creg (codes "+CREG: 1") ∷ [];
      };
  acts = two_cregs;
}

-- RING was announced to the listener of another kind
abbrev pub announced_elsewhere : SessionRow
announced_elsewhere = record {
  view =
      settled (one_came ++ ring_one) one_left (first_request ∷ second_request ∷ []) opened_both [] (ring ∷ [])
      last_flag;
  acts = ring_came;
}

-- RING was announced twice
abbrev pub announced_twice : SessionRow
announced_twice = record {
  view =
      settled (one_came ++ ring_one) one_left (first_request ∷ second_request ∷ []) opened_both
      (ring ∷ ring ∷ []) [] last_flag;
  acts = ring_came;
}

-- RING was heard, and neither announced nor waits
abbrev pub line_dropped : SessionRow
line_dropped = record {
  view =
      settled (one_came ++ ring_one) one_left (first_request ∷ second_request ∷ []) opened_both [] []
      last_flag;
  acts = ring_came;
}

-- a line waits that nobody listens to
abbrev pub unheard_line_waits : SessionRow
unheard_line_waits = record {
  view =
      record (settled one_came one_left (first_request ∷ second_request ∷ []) opened_both [] [] last_flag) {
        unannounced = line_on_one Cring (codes "+CRING: VOICE") ∷ [];
      };
  acts = opening_one;
}

-- RING waits before the +CREG that was heard before it
abbrev pub lines_change_places : SessionRow
lines_change_places = record {
  view = record two_lines_wait { unannounced = ring ∷ creg ∷ [] };
  acts = both_came;
}

-- RING was announced where there is no listener too
abbrev pub announced_beyond : SessionRow
announced_beyond = record {
  view = record ring_announced.view {
    desk = record ring_announced.view.desk { announced = (ring ∷ []) ∷ [] ∷ (ring ∷ []) ∷ [] };
  };
  acts = ring_came;
}

abbrev pub wrong_sessions : List SessionRow
wrong_sessions =
    written_twice ∷ octet_left_out ∷ octet_waits_again ∷ marked_too_early ∷ marked_too_late ∷ two_marked ∷
    data_overtakes_octets ∷ data_overtakes_frame ∷ half_a_frame ∷ octets_of_none ∷ broken_frame_got ∷ got_too_soon ∷
    got_unfed ∷ frame_dropped ∷ flag_dropped ∷ other_n1 ∷ request_dropped ∷
    request_invented ∷ number_twice ∷ caller_unknown ∷ sound_line_lost ∷ lost_twice ∷ told_and_kept ∷
    outcome_dropped ∷ told_to_another ∷ told_by_number ∷ told_in_other_order ∷ not_told_at_all ∷
    announced_out_of_order ∷ announced_elsewhere ∷ announced_twice ∷ line_dropped ∷ unheard_line_waits ∷
    lines_change_places ∷ announced_beyond ∷ []
