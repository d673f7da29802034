-- The worked examples compute.
use Rattle.std.specs.Prelude.{refl}
use Rattle.at_text.specs.Rows.{AreLines, AreFinals, AreReports, RingInside, CregBoth, CgregBoth, EarlyOk, EchoOnce, TwoCommands}

-- the worked texts have these lines
pub are_lines : AreLines
are_lines = record { two = refl; none = refl; by_lf = refl; rest = refl }

-- these lines are final codes, or aren't
pub are_finals : AreFinals
are_finals = record {
  good = refl;
  error = refl;
  lower = refl;
  longer = refl;
  one_digit = refl;
  no_blank = refl;
  nine_digits = refl;
  ten_digits = refl;
  behind = refl;
  words = refl;
  nothing = refl;
}

-- these are reports, or answers of queries
pub are_reports : AreReports
are_reports = record {
  status = refl;
  no_blank = refl;
  cell = refl;
  query = refl;
  query_cell = refl;
  test = refl;
  empty = refl;
  packet = refl;
  packet_query = refl;
}

-- a RING inside an answer is unsolicited, and no part of it
pub ring_inside : RingInside
ring_inside = record { each = refl; all = refl }

-- a +CREG report goes to its listener, the answer of the query to its command
pub creg_both : CregBoth
creg_both = record { each = refl; all = refl }

-- so it is of +CGREG
pub cgreg_both : CgregBoth
cgreg_both = record { each = refl; all = refl }

-- an OK without a command is Other
pub early_ok : EarlyOk
early_ok = record { each = refl; all = refl }

-- of two lines that repeat the command the first alone is its echo
pub echo_once : EchoOnce
echo_once = record { each = refl; all = refl }

-- the answers of two commands are told apart by their final codes
pub two_commands : TwoCommands
two_commands = record { each = refl; all = refl }
