-- The worked prompts hold.
use Rattle.std.specs.Prelude.{refl}
use Rattle.modem_data.specs.PromptRows.{PromptsSo}

-- each worked text is cut by its prompt as it says
pub prompts_so : PromptsSo
prompts_so = record {
  whole = record { lines_are = refl; data_are = refl; stands = refl };
  behind_echo = record { lines_are = refl; data_are = refl; stands = refl };
  behind_it = record { lines_are = refl; data_are = refl; stands = refl };
  cut_in_it = record { lines_are = refl; data_are = refl; stands = refl };
  blank_later = record { lines_are = refl; data_are = refl; stands = refl };
  nothing_later = record { lines_are = refl; data_are = refl; stands = refl };
  more_later = record { lines_are = refl; data_are = refl; stands = refl };
  other_later = record { lines_are = refl; data_are = refl; stands = refl };
  end_later = record { lines_are = refl; data_are = refl; stands = refl };
  prompt_later = record { lines_are = refl; data_are = refl; stands = refl };
  it_goes_first = refl;
  before_later = refl;
  behind_later = refl;
  two_marks = record { lines_are = refl; data_are = refl; stands = refl };
  ended_mark = record { lines_are = refl; data_are = refl; stands = refl };
  in_a_line = record { lines_are = refl; data_are = refl; stands = refl };
  at_its_end = record { lines_are = refl; data_are = refl; stands = refl };
  parted = record { lines_are = refl; data_are = refl; stands = refl };
  blank_first = record { lines_are = refl; data_are = refl; stands = refl };
  refused = record { lines_are = refl; data_are = refl; stands = refl };
  once = record { lines_are = refl; data_are = refl; stands = refl };
  owed_first = record { lines_are = refl; data_are = refl; stands = refl };
  owed_blank = record { lines_are = refl; data_are = refl; stands = refl };
  owed_still = record { lines_are = refl; data_are = refl; stands = refl };
}
