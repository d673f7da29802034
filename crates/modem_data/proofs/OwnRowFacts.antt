-- The worked lanes of the modem's end hold.
use Rattle.std.specs.Prelude.{refl}
use Rattle.modem_data.specs.OwnRows.{AnswersSo, EndsSo, PassesSo}

-- the worked lines of the modem turn its lane to data, or don't, as they say
pub answers_so : AnswersSo
answers_so = record {
  before = refl;
  by_it = refl;
  with_speed = refl;
  behind_echo = refl;
  in_half = refl;
  cut_in_end = refl;
  lf_later = refl;
  other_later = refl;
  none_later = refl;
  by_lf = refl;
  other_word = refl;
  ok = refl;
  refused = refl;
  a_command = refl;
  no_end = refl;
  by_client = refl;
  client_in_half = refl;
  for_modem = refl;
  on_another = refl;
  while_shut = refl;
  no_own = refl;
  without_lane = refl;
}

-- what passes such a lane is as worked
pub passes_so : PassesSo
passes_so = record {
  a_command = refl;
  none_given = refl;
  none_leaves = refl;
  lines_yet = refl;
  comes_at_once = refl;
  given_at_once = refl;
  not_between = refl;
  behind_lf = refl;
  still_data = refl;
  none_for_modem = refl;
  whole = refl;
  goes_on = refl;
  data_yet = refl;
  may = refl;
  its_cr = refl;
  its_msc = refl;
  client_msc = refl;
  open_there = refl;
  not_alone = refl;
  not_there = refl;
  stopped = refl;
  held = refl;
  freed = refl;
}

-- and what ends it
pub ends_so : EndsSo
ends_so = record {
  by_disc = refl;
  by_disc_of_0 = refl;
  of_another = refl;
  by_modem = refl;
  opened_again = refl;
  by_loss = refl;
  by_call = refl;
  before_connect = refl;
  in_its_end = refl;
  none_under_way = refl;
  none_leaves = refl;
  anew = refl;
  once_more = refl;
  from_its_begin = refl;
  by_carrier = refl;
  behind_cr = refl;
  while_waiting = refl;
  by_close = refl;
  at_once = refl;
}
