-- The worked examples, computed.
use Rattle.std.specs.Prelude.{refl}
use Rattle.modem_show.specs.Rows.{AreJudged, AreAnswered}
use Rattle.modem_show.specs.TalkRows.{AreTold}

-- each fault is found in the smallest capture that has it, and not in one nearly like it
pub are_judged : AreJudged
are_judged = record {
  opening = refl;
  twice = refl;
  sent_again = refl;
  echo = refl;
  other_echo = refl;
  refused = refl;
  never_asked = refl;
  negotiated = refl;
  both_close = refl;
  both_open = refl;
  refused_open = refl;
  not_open = refl;
  refused_opening = refl;
  closing = refl;
  closed = refl;
  down = refl;
  closing_down = refl;
  closed_down = refl;
  under_way = refl;
  stopped = refl;
  freed = refl;
  stop_of_all = refl;
  response_stops_none = refl;
  crosses_dm = refl;
  crosses_again = refl;
  closed_at_last = refl;
  closed_again = refl;
  most = refl;
  one_more = refl;
  close_as_data = refl;
  close_in_text = refl;
  test_in_command = refl;
}

-- what was never answered is found, and not what was answered or needn't be
pub are_answered : AreAnswered
are_answered = record {
  unechoed = refl;
  echoed = refl;
  unanswered_status = refl;
  answered_status = refl;
  opening = refl;
  sent_again = refl;
  both_open = refl;
  both_probe = refl;
  dropped = refl;
  behind_down = refl;
  awaited = refl;
  down = refl;
}

-- what is told of lines, and which of them are wrong
pub are_told : AreTold
are_told = record {
  answered = refl;
  overlapping = refl;
  in_turn = refl;
  alone = refl;
  report = refl;
  report_inside = refl;
  echo = refl;
  cut_anywhere = refl;
  reopened = refl;
  sent_again = refl;
  crosses_close = refl;
  crosses_down = refl;
  behind_close = refl;
  as_data = refl;
  other_text = refl;
  unfinished = refl;
  finished = refl;
}
