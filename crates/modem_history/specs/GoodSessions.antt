-- Sessions that fit their histories, and turns that mean what they say.
use Rattle.std.specs.Prelude.{List, [], ◌∷◌, ◌++◌, Some, take, drop, codes}
use Rattle.mux_frame.specs.declared.frame.Kind.TheVariants.{Sabm, Ua, Uih}
use Rattle.mux_station.specs.declared.role.Role.TheVariants.{Responder}
use Rattle.mux_station.specs.Written.{written}
use Rattle.at_text.specs.declared.unsolicited.UrcKind.TheVariants.{Ring}
use Rattle.modem_desk.specs.declared.request.Ask.TheVariants.{OpenChannel, Command}
use Rattle.modem_history.specs.Acts.{Act, Heard, Lost, Given}
use Rattle.modem_history.specs.Entering.{entry_text}
use Rattle.modem_desk.specs.declared.request.Answer.TheVariants.{LineLost}
use Rattle.modem_history.specs.Rows.{tells, zero, one, takes, sends, comes, cr, framed, opening_zero, opening_one}
use Rattle.modem_history.specs.SessionRows.{SessionRow, entry_answer, sabm_one, outcome_of, settled, zero_came, one_came, one_left, lf_octet, sabm_zero, ua_zero, csq_one, ring_one, first_request, second_request, third_request, opened_zero, opened_both, ring, last_flag}

-- a request to open 0 was taken, and its SABM waits in the control queue
abbrev pub asked_zero : List Act
asked_zero = takes 1 (OpenChannel zero) ∷ sends Sabm 0 [] ∷ []

-- the SABM was given on
abbrev pub left_zero : List Act
left_zero = asked_zero ++ Given ∷ []

-- 1 is open, and AT+CSQ left
abbrev pub asked_csq : List Act
asked_csq = opening_one ++ takes 3 (Command one (codes "AT+CSQ")) ∷ sends Uih 1 (codes "AT+CSQ" ++ cr) ∷ []

-- 1 is open, and RING came
abbrev pub ring_came : List Act
ring_came = opening_one ++ comes Uih 1 (framed (codes "RING")) ∷ Heard Ring 1 (codes "RING") ∷ []

-- nothing has happened
abbrev pub nothing_yet : SessionRow
nothing_yet = record { view = settled [] [] [] [] [] [] []; acts = [] }

-- the SABM waits in the control queue
abbrev pub sabm_queued : SessionRow
sabm_queued = record { view = settled lf_octet [] (first_request ∷ []) [] [] [] []; acts = asked_zero }

-- two octets of the SABM are sent, and four wait
abbrev pub sabm_half_sent : SessionRow
sabm_half_sent = record {
  view = record (settled lf_octet (take 2 sabm_zero) (first_request ∷ []) [] [] [] []) {
    unwritten = drop 2 sabm_zero;
  };
  acts = left_zero;
}

-- the UA was received and not fed yet
abbrev pub ua_unfed : SessionRow
ua_unfed = record {
  view = record (settled zero_came sabm_zero (first_request ∷ []) [] [] [] []) { unfed = ua_zero };
  acts = left_zero;
}

-- the UA is at hand
abbrev pub ua_at_hand : SessionRow
ua_at_hand = record {
  view = record (settled zero_came sabm_zero (first_request ∷ []) [] [] [] []) {
    deframer = record { n1 = 31; undecided = ua_zero; next = Some (written Responder Ua 0 []) };
  };
  acts = left_zero;
}

-- 0 is open, and the caller was told
abbrev pub zero_opened : SessionRow
zero_opened = record {
  view = settled zero_came sabm_zero (first_request ∷ []) opened_zero [] [] last_flag;
  acts = opening_zero;
}

-- 0 is open, and the outcome waits for a place
abbrev pub outcome_waits : SessionRow
outcome_waits = record {
  view = record (settled zero_came sabm_zero (first_request ∷ []) [] [] [] last_flag) {
    unplaced = opened_zero;
  };
  acts = opening_zero;
}

-- the command left, and waits for its answer
abbrev pub csq_sent : SessionRow
csq_sent = record {
  view =
      settled one_came (one_left ++ csq_one)
      (first_request ∷ second_request ∷ third_request ∷ []) opened_both [] [] last_flag;
  acts = asked_csq;
}

-- RING was announced
abbrev pub ring_announced : SessionRow
ring_announced = record {
  view =
      settled (one_came ++ ring_one) one_left (first_request ∷ second_request ∷ []) opened_both (ring ∷ []) []
      last_flag;
  acts = ring_came;
}

-- RING is the frame at hand, and its first flag ended the frame before it
abbrev pub ring_comes : SessionRow
ring_comes = record {
  view =
      record (settled (one_came ++ drop 1 ring_one) one_left (first_request ∷ second_request ∷ []) opened_both []
      [] []) {
        deframer = record { n1 = 31; undecided = ring_one; next = Some (written Responder Uih 1 (framed (codes "RING"))) };
      };
  acts = opening_one;
}

-- RING waits for a place
abbrev pub ring_waits : SessionRow
ring_waits = record {
  view =
      record (settled (one_came ++ ring_one) one_left (first_request ∷ second_request ∷ []) opened_both [] []
      last_flag) {
        unannounced = ring ∷ [];
      };
  acts = ring_came;
}

-- the line is lost while 1 is being opened
abbrev pub loss_told : List Act
loss_told =
    opening_zero ++ takes 2 (OpenChannel one) ∷ sends Sabm 1 [] ∷ Given ∷ Lost ∷ tells 2 LineLost ∷ []

-- a call failed, and LineLost waits for a place; the SABM isn't sent any more
abbrev pub line_lost : SessionRow
line_lost = record {
  view =
      record (settled zero_came (sabm_zero ++ take 2 sabm_one)
      (first_request ∷ second_request ∷ []) opened_zero [] [] last_flag) {
        line = record {
          received = entry_answer ++ zero_came;
          sent = entry_text ++ sabm_zero ++ take 2 sabm_one;
          calls = 40;
          failures = 1;
          empty_reads = 0;
          stalled_writes = 0;
        };
        unwritten = drop 2 sabm_one;
        unplaced = outcome_of 2 LineLost ∷ [];
      };
  acts = loss_told;
}

abbrev pub right_sessions : List SessionRow
right_sessions =
    nothing_yet ∷ sabm_queued ∷ sabm_half_sent ∷ ua_unfed ∷ ua_at_hand ∷ zero_opened ∷ outcome_waits ∷
    csq_sent ∷ ring_announced ∷ ring_comes ∷ ring_waits ∷ line_lost ∷ []
