-- The line of a modem whose client hands octets in and takes octets out.
use Rattle.std.specs.Prelude.{ℕ, List, [], ◌++◌, None}
use Rattle.serial_line.specs.OtherSide.{OtherSide}
use Rattle.serial_line.specs.LineViews.{LineView}

pub record HeldState : Type 0 where
  pub received : List ℕ  -- what its reads gave
  pub waiting : List ℕ  -- what the reads to come give
  pub taken : List ℕ  -- what its writes took and was handed out
  pub going : List ℕ  -- what its writes took and is still to be handed out
  pub calls : ℕ
  pub empty_reads : ℕ  -- so many reads could give octets and gave none
  pub stalled_writes : ℕ  -- so many writes could take octets and took none

-- a line on which nothing has happened yet
abbrev pub new_held : HeldState
new_held = record {
  received = [];
  waiting = [];
  taken = [];
  going = [];
  calls = 0;
  empty_reads = 0;
  stalled_writes = 0;
}

-- what was handed in and handed out
abbrev pub held_side : HeldState → OtherSide
held_side l = record { given = l.received ++ l.waiting; passed_on = l.taken; rings = None }

-- what is seen of it as of any line: no call fails
abbrev pub held_view : HeldState → LineView
held_view l = record {
  received = l.received;
  sent = l.taken ++ l.going;
  calls = l.calls;
  failures = 0;
  empty_reads = l.empty_reads;
  stalled_writes = l.stalled_writes;
}
