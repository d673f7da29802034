-- Turns of a right session.
use Rattle.std.specs.Prelude.{ℕ, List, [], ◌∷◌, ◌++◌, Option, Some, None, drop, take, flat_map, codes, replicate}
use Rattle.std.specs.List.{concat}
use Rattle.mux_frame.specs.declared.frame.Kind.TheVariants.{Ua, Uih}
use Rattle.at_text.specs.declared.unsolicited.UrcKind.TheVariants.{Ring, Creg}
use Rattle.modem_desk.specs.declared.request.Ask.TheVariants.{OpenChannel}
use Rattle.modem_desk.specs.declared.request.Answer.TheVariants.{Opened, AlreadyOpen}
use Rattle.modem_desk.specs.declared.request.Request.{Request}
use Rattle.modem_desk.specs.declared.request.Outcome.{Outcome}
use Rattle.modem_desk.specs.declared.request.Urc.{Urc}
use Rattle.modem_history.specs.Acts.{Act, Took, Told, Heard, Held, Given}
use Rattle.modem_history.specs.Sessions.{SessionView}
use Rattle.modem_history.specs.Turns.{Exchange, Write, Read, Moved, WriterFull, Waiting, Blocked, Idle}
use Rattle.modem_history.specs.Rows.{zero, comes, sends, tells, framed, msc_command, opening_zero, opening_one}
use Rattle.modem_history.specs.SessionRows.{TurnRow, IsRightTurn, settled, lf_octet, zero_came, one_came, one_left, sabm_zero, sabm_one, msc_one, test_command_info, ring_one, creg_one, first_request, second_request, opened_zero, opened_both, outcome_of, ring, line_on_one, last_flag}
use Rattle.modem_history.specs.GoodSessions.{asked_zero, left_zero, asked_csq, ring_came, sabm_queued, sabm_half_sent, ua_at_hand, zero_opened, outcome_waits, csq_sent, ring_waits}

-- ## Words

-- after so many calls on its line
abbrev pub at_calls : ℕ → SessionView → SessionView
at_calls n v = record v { line = record v.line { calls = n } }

-- the line was read and gave nothing
abbrev pub reads_none : Option Read
reads_none = Some (record { room = 64; octets = [] })

abbrev pub offers : List ℕ → ℕ → Option Write
offers octets n = Some (record { offered = octets; count = n })

-- nothing waits for a place, octets were or weren't written, nothing was read, and the desk gave this
abbrev pub exchanged : Option Write → Option Request → Exchange
exchanged write next = record {
  still_told = [];
  still_heard = [];
  told_back = [];
  heard_back = [];
  write = write;
  read = reads_none;
  next = Some next;
}

-- the second caller's request to open 0
abbrev pub other_request : Request
other_request = record { caller = 1; number = 1; ask = OpenChannel zero }

abbrev pub other_outcome : Outcome
other_outcome = record { caller = 1; number = 1; answer = AlreadyOpen }

abbrev pub other_told : List Act
other_told = opening_zero ++ Took other_request ∷ Told other_outcome ∷ []

-- +CREG: 1 and then RING came
abbrev pub creg : Urc
creg = line_on_one Creg (codes "+CREG: 1")

abbrev pub both_came : List Act
both_came =
    opening_one ++ comes Uih 1 (framed (codes "+CREG: 1")) ∷ Heard Creg 1 (codes "+CREG: 1") ∷
    comes Uih 1 (framed (codes "RING")) ∷ Heard Ring 1 (codes "RING") ∷ []

-- ## Moved

-- the rest of the SABM is written
abbrev pub writes_on : TurnRow
writes_on = record {
  old = sabm_half_sent.view;
  new = at_calls 42 (settled lf_octet sabm_zero (first_request ∷ []) [] [] [] []);
  before = left_zero;
  acts = [];
  says = Moved;
}

-- a request is taken, and its SABM waits in the control queue
abbrev pub takes_request : TurnRow
takes_request = record {
  old = settled lf_octet [] [] [] [] [] [];
  new = at_calls 41 sabm_queued.view;
  before = [];
  acts = asked_zero;
  says = Moved;
}

-- the frame at hand is got, and its outcome waits for the next turn
abbrev pub gets_frame : TurnRow
gets_frame = record {
  old = ua_at_hand.view;
  new = at_calls 41 outcome_waits.view;
  before = left_zero;
  acts = comes Ua 0 [] ∷ tells 1 Opened ∷ [];
  says = Moved;
}

-- the outcome that waited is told
abbrev pub places_outcome : TurnRow
places_outcome = record {
  old = outcome_waits.view;
  new = at_calls 41 zero_opened.view;
  before = opening_zero;
  acts = [];
  says = Moved;
}

-- ## WriterFull

-- the line takes none of the rest of the SABM
abbrev pub writes_nothing : TurnRow
writes_nothing = record {
  old = sabm_half_sent.view;
  new = at_calls 42 sabm_half_sent.view;
  before = left_zero;
  acts = [];
  says = WriterFull;
}

-- the SABM is taken from the control queue into the output, and the line takes none of it
abbrev pub gives_on_in_vain : TurnRow
gives_on_in_vain = record {
  old = sabm_queued.view;
  new = at_calls 42 (record sabm_queued.view { unwritten = sabm_zero });
  before = asked_zero;
  acts = Given ∷ [];
  says = WriterFull;
}

-- a Test command with 29 octets, and its response; it comes and is answered 111 times, and one with two
-- octets
abbrev pub long_test : ℕ → List ℕ
long_test octet = octet ∷ 0x3b ∷ replicate 29 0x41

abbrev pub answered : ℕ → List Act
answered n =
    flat_map (λ (acts : List Act). acts)
    (replicate n (comes Uih 0 (long_test 0x23) ∷ sends Uih 0 (long_test 0x21) ∷ [])) ++
    comes Uih 0 (0x23 ∷ 5 ∷ 0x41 ∷ 0x42 ∷ []) ∷ sends Uih 0 (0x21 ∷ 5 ∷ 0x41 ∷ 0x42 ∷ []) ∷ []

abbrev pub long_test_came : List ℕ
long_test_came = 0xF9 ∷ 0x01 ∷ 0xEF ∷ 0x3F ∷ long_test 0x23 ++ 0x5A ∷ 0xF9 ∷ []

-- 1 is held, none of its lines waits, and the responses and its MSC fill the control queue with 4127 octets
abbrev pub held_and_full : List Act
held_and_full = opening_one ++ Held 1 ∷ sends Uih 0 (msc_command 1 0x8f) ∷ answered 111

abbrev pub queue_full : SessionView
queue_full =
    record (settled (one_came ++ concat (replicate 111 long_test_came) ++ test_command_info)
    (sabm_zero ++ sabm_one ++ take 2 msc_one)
    (first_request ∷ second_request ∷ []) opened_both [] [] last_flag) {
      unwritten = drop 2 msc_one;
    }

-- the line takes none of the MSC that went into the output before, and no MSC has a place that would free 1
abbrev pub full_and_held : TurnRow
full_and_held = record {
  old = queue_full;
  new = at_calls 42 queue_full;
  before = held_and_full;
  acts = [];
  says = WriterFull;
}

-- ## Waiting

-- the outcome of caller 0 finds no place
abbrev pub waits_for_zero : TurnRow
waits_for_zero = record {
  old = outcome_waits.view;
  new = at_calls 41 outcome_waits.view;
  before = opening_zero;
  acts = [];
  says = Waiting 0;
}

-- that of caller 1 finds none
abbrev pub one_waits : SessionView
one_waits =
    record (settled zero_came sabm_zero (first_request ∷ other_request ∷ []) opened_zero [] [] last_flag) {
      unplaced = other_outcome ∷ [];
    }

abbrev pub waits_for_one : TurnRow
waits_for_one = record {
  old = one_waits;
  new = at_calls 41 one_waits;
  before = other_told;
  acts = [];
  says = Waiting 1;
}

-- those of both find none, and the lesser caller is named
abbrev pub both_outcomes : List Outcome
both_outcomes = outcome_of 1 Opened ∷ other_outcome ∷ []

abbrev pub both_wait : SessionView
both_wait = record one_waits {
  desk = record one_waits.desk { told = [] ∷ [] ∷ [] };
  unplaced = both_outcomes;
}

abbrev pub waits_for_both : TurnRow
waits_for_both = record {
  old = both_wait;
  new = at_calls 41 both_wait;
  before = other_told;
  acts = [];
  says = Waiting 0;
}

-- ## Blocked

-- RING finds no place
abbrev pub blocked_by_ring : TurnRow
blocked_by_ring = record {
  old = ring_waits.view;
  new = at_calls 41 ring_waits.view;
  before = ring_came;
  acts = [];
  says = Blocked Ring;
}

-- +CREG: 1 and RING find none
abbrev pub two_lines_wait : SessionView
two_lines_wait =
    record (settled (one_came ++ creg_one 0x31 ++ ring_one) one_left (first_request ∷ second_request ∷ [])
    opened_both [] [] last_flag) {
      unannounced = creg ∷ ring ∷ [];
    }

abbrev pub blocked_by_the_first : TurnRow
blocked_by_the_first = record {
  old = two_lines_wait;
  new = at_calls 41 two_lines_wait;
  before = both_came;
  acts = [];
  says = Blocked Creg;
}

-- ## Idle

-- nothing has happened but that the line was read
abbrev pub idle_at_first : TurnRow
idle_at_first = record {
  old = settled lf_octet [] [] [] [] [] [];
  new = at_calls 41 (settled lf_octet [] [] [] [] [] []);
  before = [];
  acts = [];
  says = Idle;
}

-- a command waits for its answer
abbrev pub idle_under_way : TurnRow
idle_under_way = record {
  old = csq_sent.view;
  new = at_calls 41 csq_sent.view;
  before = asked_csq;
  acts = [];
  says = Idle;
}

-- exchanges in which these outcomes or lines were handed back
abbrev pub outcomes_back : List Outcome → Exchange
outcomes_back os = record (exchanged None None) { still_told = os; told_back = os }

abbrev pub outcome_back : Outcome → Exchange
outcome_back o = outcomes_back (o ∷ [])

abbrev pub lines_back : List Urc → Exchange
lines_back lines = record (exchanged None None) { still_heard = lines; heard_back = lines }

-- the turns are right
pub record AreRightTurns : Type 0 where
  pub writes : IsRightTurn writes_on (exchanged (offers (drop 2 sabm_zero) 4) None)
  pub takes : IsRightTurn takes_request (exchanged None (Some first_request))
  pub gets : IsRightTurn gets_frame (exchanged None None)
  pub places : IsRightTurn places_outcome (exchanged None None)
  pub full : IsRightTurn writes_nothing (exchanged (offers (drop 2 sabm_zero) 0) None)
  pub gives : IsRightTurn gives_on_in_vain (exchanged (offers sabm_zero 0) None)
  pub full_held : IsRightTurn full_and_held (exchanged (offers (drop 2 msc_one) 0) None)
  pub waits_zero : IsRightTurn waits_for_zero (outcome_back (outcome_of 1 Opened))
  pub waits_one : IsRightTurn waits_for_one (outcome_back other_outcome)
  pub waits_both : IsRightTurn waits_for_both (outcomes_back both_outcomes)
  pub ring_waits : IsRightTurn blocked_by_ring (lines_back (ring ∷ []))
  pub both_wait : IsRightTurn blocked_by_the_first (lines_back (creg ∷ ring ∷ []))
  pub idles : IsRightTurn idle_at_first (exchanged None None)
  pub idles_on : IsRightTurn idle_under_way (exchanged None None)
