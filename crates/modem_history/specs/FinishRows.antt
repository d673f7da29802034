-- What is left at the end of a session, right and wrong.
use Rattle.std.specs.Prelude.{List, [], ◌∷◌, ◌++◌}
use Rattle.mux_frame.specs.declared.frame.Kind.TheVariants.{Sabm}
use Rattle.modem_desk.specs.declared.request.Ask.TheVariants.{OpenChannel}
use Rattle.modem_desk.specs.declared.request.Request.{Request}
use Rattle.modem_desk.specs.declared.request.Outcome.{Outcome}
use Rattle.modem_desk.specs.declared.request.Urc.{Urc}
use Rattle.modem_history.specs.Acts.{Act, after}
use Rattle.modem_history.specs.Sessions.{SessionView, Leftovers, Finishes}
use Rattle.modem_history.specs.Rows.{two, takes, sends, opening_zero}
use Rattle.modem_history.specs.SessionRows.{settled, one_came, one_left, csq_one, first_request, second_request, third_request, fourth_request, opened_zero, opened_both, ring, last_flag}
use Rattle.modem_history.specs.GoodSessions.{asked_csq, ring_came, outcome_waits, ring_waits}

-- a session, its history, and what is left of it
pub record FinishRow : Type 0 where
  pub view : SessionView
  pub acts : List Act
  pub left : Leftovers

abbrev pub IsRightEnd : FinishRow → Type 0
IsRightEnd row = Finishes row.view (after [] row.acts) row.left

abbrev pub IsWrongEnd : FinishRow → Type 0
IsWrongEnd row = ¬ Finishes row.view (after [] row.acts) row.left

-- line and desk as they are, and these lists
abbrev pub leaves : SessionView → List Request → List Outcome → List Urc → Leftovers
leaves v requests told lines = record {
  line = v.line;
  desk = v.desk;
  in_hand = requests;
  unplaced = told;
  unannounced = lines;
}

-- the command waits for its answer, and 2 is being opened
abbrev pub two_left : SessionView
two_left =
    settled one_came (one_left ++ csq_one)
    (first_request ∷ second_request ∷ third_request ∷ fourth_request ∷ []) opened_both [] [] last_flag

abbrev pub asked_two : List Act
asked_two = asked_csq ++ takes 4 (OpenChannel two) ∷ sends Sabm 2 [] ∷ []

-- ## Right ends

abbrev pub both_handed_back : FinishRow
both_handed_back = record {
  view = two_left;
  acts = asked_two;
  left = leaves two_left (third_request ∷ fourth_request ∷ []) [] [];
}

abbrev pub outcome_handed_back : FinishRow
outcome_handed_back = record {
  view = outcome_waits.view;
  acts = opening_zero;
  left = leaves outcome_waits.view [] opened_zero [];
}

abbrev pub line_handed_back : FinishRow
line_handed_back = record {
  view = ring_waits.view;
  acts = ring_came;
  left = leaves ring_waits.view [] [] (ring ∷ []);
}

abbrev pub right_ends : List FinishRow
right_ends = both_handed_back ∷ outcome_handed_back ∷ line_handed_back ∷ []

-- ## Wrong ends

-- the first in hand is left out
abbrev pub first_left_out : FinishRow
first_left_out = record {
  view = two_left;
  acts = asked_two;
  left = leaves two_left (fourth_request ∷ []) [] [];
}

-- the last in hand is left out
abbrev pub last_left_out : FinishRow
last_left_out = record {
  view = two_left;
  acts = asked_two;
  left = leaves two_left (third_request ∷ []) [] [];
}

-- the last in hand stands first
abbrev pub last_first : FinishRow
last_first = record {
  view = two_left;
  acts = asked_two;
  left = leaves two_left (fourth_request ∷ third_request ∷ []) [] [];
}

-- a request that was told is in hand
abbrev pub told_in_hand : FinishRow
told_in_hand = record {
  view = outcome_waits.view;
  acts = opening_zero;
  left = leaves outcome_waits.view (first_request ∷ []) opened_zero [];
}

-- the outcome that waits is dropped
abbrev pub outcome_left_out : FinishRow
outcome_left_out = record {
  view = outcome_waits.view;
  acts = opening_zero;
  left = leaves outcome_waits.view [] [] [];
}

-- the line that waits is dropped
abbrev pub line_left_out : FinishRow
line_left_out = record { view = ring_waits.view; acts = ring_came; left = leaves ring_waits.view [] [] [] }

-- the line is called once more
abbrev pub line_called : FinishRow
line_called = record {
  view = outcome_waits.view;
  acts = opening_zero;
  left = record (leaves outcome_waits.view [] opened_zero []) {
    line = record outcome_waits.view.line { calls = 41 };
  };
}

-- an outcome is told at the end
abbrev pub told_at_end : FinishRow
told_at_end = record {
  view = outcome_waits.view;
  acts = opening_zero;
  left = record (leaves outcome_waits.view [] opened_zero []) {
    desk = record outcome_waits.view.desk { told = opened_zero ∷ [] ∷ [] };
  };
}

abbrev pub wrong_ends : List FinishRow
wrong_ends =
    first_left_out ∷ last_left_out ∷ last_first ∷ told_in_hand ∷ outcome_left_out ∷ line_left_out ∷
    line_called ∷ told_at_end ∷ []
