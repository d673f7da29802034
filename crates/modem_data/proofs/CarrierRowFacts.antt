-- The worked losses of a carrier hold.
use Rattle.std.specs.Prelude.{refl}
use Rattle.modem_data.specs.CarrierRows.{FallsSo, HangsUpSo}

-- the worked frames take the carrier of 2, or don't, as they say
pub falls_so : FallsSo
falls_so = record {
  fall = refl;
  stays = refl;
  rises = refl;
  first = refl;
  again = refl;
  once_more = refl;
  earlier = refl;
  shut = refl;
  of_another = refl;
  only_another = refl;
  between = refl;
  response = refl;
  behind_response = refl;
  sent = refl;
  behind_sent = refl;
  fc = refl;
  dv_alone = refl;
  all_but_dv = refl;
  with_break = refl;
  more_behind = refl;
  type_goes_on = refl;
  length_goes_on = refl;
  too_long = refl;
  no_signals = refl;
  as_data = refl;
}

-- and each worked loss ends the data or text that lasts until it, and nothing else
pub hangs_up_so : HangsUpSo
hangs_up_so = record {
  before = refl;
  over = refl;
  none_under_way = refl;
  goes_on = refl;
  lines_again = refl;
  none_leaves = refl;
  none_given = refl;
  stays_readable = refl;
  in_data = refl;
  by_words = refl;
  goes_on_with_data = refl;
  no_lines = refl;
  all_data = refl;
  next_by_close = refl;
  next_by_carrier = refl;
  waits = refl;
  then_data = refl;
  then_over = refl;
  just_connected = refl;
  at_once = refl;
  first_without = refl;
  from_the_opening = refl;
  of_another = refl;
  half_a_prompt = refl;
  behind_it = refl;
  ended = refl;
}
