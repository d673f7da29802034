-- Faults of turns, and ticks, right and wrong.
use Rattle.std.specs.Prelude.{List, [], ◌∷◌, ◌++◌, None, take, drop, codes}
use Rattle.mux_frame.specs.declared.frame.Kind.TheVariants.{Sabm, Uih}
use Rattle.modem_desk.specs.declared.request.Ask.TheVariants.{OpenChannel, Command}
use Rattle.modem_desk.specs.declared.request.Answer.TheVariants.{LineLost}
use Rattle.modem_history.specs.Acts.{Act, Tick, Lost, Given, after}
use Rattle.modem_history.specs.Sessions.{SessionView, SessionFits}
use Rattle.modem_history.specs.Turns.{Exchange, TurnFault, NoMemory, LineFailed, Failed, IsFault, IsTick}
use Rattle.modem_history.specs.Rows.{one, cr, takes, tells, sends, opening_zero, opening_one}
use Rattle.modem_history.specs.SessionRows.{beginning, settled, lf_octet, zero_came, sabm_zero, sabm_one, first_request, second_request, third_request, opened_zero, outcome_of, last_flag}
use Rattle.modem_history.specs.GoodSessions.{asked_zero, sabm_queued, csq_sent, asked_csq, zero_opened, outcome_waits, ring_comes, line_lost, loss_told}
use Rattle.modem_history.specs.GoodTurns.{at_calls, exchanged, offers}

-- a session before and after a turn, what happened before it and in it, and its fault
pub record FaultRow : Type 0 where
  pub old : SessionView
  pub new : SessionView
  pub before : List Act
  pub acts : List Act
  pub says : TurnFault

-- the fault is right, by this exchange
pub record IsRightFault (row : FaultRow) (t : Exchange) : Type 0 where
  pub fitted : SessionFits beginning row.old (after [] row.before)
  pub fits : SessionFits beginning row.new (after (after [] row.before) row.acts)
  pub fault : IsFault beginning row.old row.new t (after [] row.before) row.acts row.says

-- the fault is wrong, whatever the turn exchanged
abbrev pub IsWrongFault : FaultRow → Type 0
IsWrongFault row =
    (t : Exchange) → ¬ IsFault beginning row.old row.new t (after [] row.before) row.acts row.says

-- ## Right faults

-- 1 is being opened, and four octets of its SABM wait
abbrev pub asked_one : List Act
asked_one = opening_zero ++ takes 2 (OpenChannel one) ∷ sends Sabm 1 [] ∷ Given ∷ []

abbrev pub one_half_sent : SessionView
one_half_sent =
    record (settled zero_came (sabm_zero ++ take 2 sabm_one)
    (first_request ∷ second_request ∷ []) opened_zero [] [] last_flag) {
      unwritten = drop 2 sabm_one;
    }

-- the write fails, and the request to open 1 is told LineLost
abbrev pub fails : FaultRow
fails = record {
  old = one_half_sent;
  new = at_calls 41 line_lost.view;
  before = asked_one;
  acts = Lost ∷ tells 2 LineLost ∷ [];
  says = LineFailed;
}

-- a later turn places the outcome
abbrev pub fails_again : FaultRow
fails_again = record {
  old = line_lost.view;
  new = record line_lost.view {
    desk = record line_lost.view.desk { told = (opened_zero ++ outcome_of 2 LineLost ∷ []) ∷ [] ∷ [] };
    unplaced = [];
  };
  before = loss_told;
  acts = [];
  says = Failed;
}

-- there is no memory for the data at hand, which stays there
abbrev pub keeps_frame : FaultRow
keeps_frame = record { old = ring_comes.view; new = ring_comes.view; before = opening_one; acts = []; says = NoMemory }

pub record AreRightFaults : Type 0 where
  pub first : IsRightFault fails
      (record (exchanged (offers (drop 2 sabm_one) 0) None) { read = None; next = None })
  pub later : IsRightFault fails_again (record (exchanged None None) { read = None; next = None })
  pub memory : IsRightFault keeps_frame (record (exchanged None None) { read = None; next = None })

-- ## Wrong faults

-- nothing has happened yet
abbrev pub blank : SessionView
blank = settled lf_octet [] [] [] [] [] []

-- no call has failed
abbrev pub fails_unfailed : FaultRow
fails_unfailed = record {
  old = zero_opened.view;
  new = at_calls 41 zero_opened.view;
  before = opening_zero;
  acts = Lost ∷ [];
  says = LineFailed;
}

-- the line was lost before
abbrev pub lost_before : FaultRow
lost_before = record {
  old = line_lost.view;
  new = at_calls 41 line_lost.view;
  before = loss_told;
  acts = [];
  says = LineFailed;
}

-- it isn't lost yet
abbrev pub failed_too_soon : FaultRow
failed_too_soon = record {
  old = zero_opened.view;
  new = zero_opened.view;
  before = opening_zero;
  acts = [];
  says = Failed;
}

-- the line is still called
abbrev pub calls_lost_line : FaultRow
calls_lost_line = record {
  old = line_lost.view;
  new = at_calls 41 line_lost.view;
  before = loss_told;
  acts = [];
  says = Failed;
}

-- the line is lost
abbrev pub memory_for_loss : FaultRow
memory_for_loss = record fails { says = NoMemory }

-- a request in hand is told nothing
abbrev pub loss_untold : FaultRow
loss_untold = record {
  old = one_half_sent;
  new = at_calls 41 line_lost.view;
  before = asked_one;
  acts = Lost ∷ [];
  says = LineFailed;
}

-- the write fails, and a request is taken all the same
abbrev pub loss_and_request : FaultRow
loss_and_request = record {
  old = one_half_sent;
  new = at_calls 42 (record line_lost.view {
    desk = record line_lost.view.desk { taken = first_request ∷ second_request ∷ third_request ∷ [] };
    unplaced = outcome_of 2 LineLost ∷ outcome_of 3 LineLost ∷ [];
  });
  before = asked_one;
  acts = Lost ∷ tells 2 LineLost ∷ takes 3 (Command one (codes "AT+CSQ")) ∷ tells 3 LineLost ∷ [];
  says = LineFailed;
}

-- a frame is sent behind the loss
abbrev pub sends_behind_loss : FaultRow
sends_behind_loss = record fails { acts = Lost ∷ sends Uih 1 (codes "AT" ++ cr) ∷ tells 2 LineLost ∷ [] }

-- the line was lost, and octets that came before are fed
abbrev pub feeds_when_lost : FaultRow
feeds_when_lost = record {
  old = record line_lost.view { unfed = last_flag };
  new = line_lost.view;
  before = loss_told;
  acts = [];
  says = Failed;
}

-- a call failed before, and a request is taken
abbrev pub goes_on_faulty : FaultRow
goes_on_faulty = record {
  old = record blank { line = record blank.line { failures = 1 } };
  new = record sabm_queued.view { line = record sabm_queued.view.line { failures = 1 } };
  before = [];
  acts = asked_zero;
  says = NoMemory;
}

-- the write fails in this turn, and the line isn't lost
abbrev pub failure_passed_over : FaultRow
failure_passed_over = record {
  old = one_half_sent;
  new = record one_half_sent { line = record one_half_sent.line { calls = 41; failures = 1 } };
  before = asked_one;
  acts = [];
  says = NoMemory;
}

-- a call failed before, and what waits is placed
abbrev pub places_faulty : FaultRow
places_faulty = record {
  old = record outcome_waits.view { line = record outcome_waits.view.line { failures = 1 } };
  new = record zero_opened.view { line = record zero_opened.view.line { failures = 1 } };
  before = opening_zero;
  acts = [];
  says = NoMemory;
}

abbrev pub wrong_faults : List FaultRow
wrong_faults =
    fails_unfailed ∷ lost_before ∷ failed_too_soon ∷ calls_lost_line ∷ memory_for_loss ∷ loss_untold ∷
    loss_and_request ∷ sends_behind_loss ∷ feeds_when_lost ∷ goes_on_faulty ∷ failure_passed_over ∷
    places_faulty ∷ []

-- ## Ticks

-- a session before and after a tick, what happened before it and in it
pub record TickRow : Type 0 where
  pub old : SessionView
  pub new : SessionView
  pub before : List Act
  pub acts : List Act

abbrev pub IsRightTick : TickRow → Type 0
IsRightTick row = IsTick row.old row.new (after [] row.before) row.acts

abbrev pub IsWrongTick : TickRow → Type 0
IsWrongTick row = ¬ IsTick row.old row.new (after [] row.before) row.acts

-- the SABM on 1 is sent again
abbrev pub sends_again : TickRow
sends_again = record {
  old = one_half_sent;
  new = one_half_sent;
  before = asked_one;
  acts = Tick ∷ sends Sabm 1 [] ∷ [];
}

-- nothing is called for
abbrev pub only_ticks : TickRow
only_ticks = record {
  old = zero_opened.view;
  new = zero_opened.view;
  before = opening_zero;
  acts = Tick ∷ [];
}

abbrev pub right_ticks : List TickRow
right_ticks = sends_again ∷ only_ticks ∷ []

-- the tick is left out
abbrev pub tick_left_out : TickRow
tick_left_out = record { old = zero_opened.view; new = zero_opened.view; before = opening_zero; acts = [] }

-- two ticks
abbrev pub two_ticks : TickRow
two_ticks = record {
  old = zero_opened.view;
  new = zero_opened.view;
  before = opening_zero;
  acts = Tick ∷ Tick ∷ [];
}

-- data leaves
abbrev pub data_at_tick : TickRow
data_at_tick = record {
  old = csq_sent.view;
  new = csq_sent.view;
  before = asked_csq;
  acts = Tick ∷ sends Uih 1 (codes "AT" ++ cr) ∷ [];
}

-- an outcome is placed
abbrev pub places_at_tick : TickRow
places_at_tick = record {
  old = outcome_waits.view;
  new = zero_opened.view;
  before = opening_zero;
  acts = Tick ∷ [];
}

-- the line is lost
abbrev pub ticks_when_lost : TickRow
ticks_when_lost = record { old = line_lost.view; new = line_lost.view; before = loss_told; acts = Tick ∷ [] }

abbrev pub wrong_ticks : List TickRow
wrong_ticks = tick_left_out ∷ two_ticks ∷ data_at_tick ∷ places_at_tick ∷ ticks_when_lost ∷ []
