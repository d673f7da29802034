-- The worked examples, computed.
use Rattle.std.specs.Prelude.{refl}
use Rattle.std.specs.Fmt.{digits}
use Rattle.hex.specs.Hex.{encode_with}
use Rattle.mux_frame.specs.CheckOctet.{check_octet_of}
use Rattle.mux_frame.specs.Spelling.{body_of}
use Rattle.show_texts.specs.Complaints.{complaint_if}
use Rattle.show_texts.specs.Progress.{AreTold}
use Rattle.show_texts.specs.Rows.{ArePrinted}

-- what is printed of frames, and of what is counted
pub are_printed : ArePrinted
unfolding complaint_if digits encode_with body_of check_octet_of
are_printed = record {
  time = refl;
  span = refl;
  asked = refl;
  opened = refl;
  refused = refl;
  closed = refl;
  unasked = refl;
  stopped = refl;
  probed = refl;
  command = refl;
  answered = refl;
  heard = refl;
  cut = refl;
  unopened = refl;
  data_counted = refl;
  total = refl;
  no_total = refl;
}

-- what is told of no step, of one and of three
pub are_told : AreTold
unfolding digits
are_told = record { none = refl; one = refl; three = refl }
