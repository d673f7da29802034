-- A line in memory.
use Rattle.std.specs.Prelude.{ℕ, ◌+◌, ◌-◌, List, [], ◌++◌, length, take, drop, min, None, Result, Ok, Err}
use Rattle.serial_line.specs.declared.cuts.Cut.{Cut}
use Rattle.serial_line.specs.declared.line.LineFault.{LineFault}
use Rattle.serial_line.specs.Counts.{one_more, counted_if_none}
use Rattle.serial_line.specs.LineViews.{LineView}
use Rattle.serial_line.specs.OtherSide.{OtherSide}

-- a line in memory, as contracts see it
pub record CutState : Type 0 where
  pub received : List ℕ  -- what its reads gave
  pub waiting : List ℕ  -- what the reads to come give
  pub sent : List ℕ  -- what its writes took
  pub moved : ℕ  -- so many of the octets sent were given on
  pub reads : List Cut  -- an entry for each read to come; where none is left there is no limit
  pub writes : List Cut  -- the same for writes
  pub room : ℕ  -- so many octets it keeps of what is to be received, and as many of what is sent
  pub calls : ℕ
  pub failures : ℕ
  pub empty_reads : ℕ  -- so many reads could give octets and gave none
  pub stalled_writes : ℕ  -- so many writes could take octets and took none

-- a line on which nothing has happened yet, with this input as far as there is room
abbrev pub new_line : List ℕ → List Cut → List Cut → ℕ → CutState
new_line input reads writes room = record {
  received = [];
  waiting = take (min (length input) room) input;
  sent = [];
  moved = 0;
  reads = reads;
  writes = writes;
  room = room;
  calls = 0;
  failures = 0;
  empty_reads = 0;
  stalled_writes = 0;
}

-- how many octets more are kept to be received
abbrev pub room_to_receive : CutState → ℕ
room_to_receive s = s.room - (length s.received + length s.waiting)

-- how many octets more can be sent
abbrev pub room_to_send : CutState → ℕ
room_to_send s = s.room - length s.sent

-- what was sent and not yet given on
abbrev pub unmoved : CutState → List ℕ
unmoved s = drop s.moved s.sent

-- what is seen of it as of any line
abbrev pub cut_view : CutState → LineView
cut_view s = record {
  received = s.received;
  sent = s.sent;
  calls = s.calls;
  failures = s.failures;
  empty_reads = s.empty_reads;
  stalled_writes = s.stalled_writes;
}

-- what was put in and carried to it, and what was taken and carried from it
abbrev pub other_side_of : CutState → OtherSide
other_side_of s = record { given = s.received ++ s.waiting; passed_on = take s.moved s.sent; rings = None }

-- after a read with this room: it counts as a call, and its entry is used up
abbrev pub after_cut_read : CutState → (room : ℕ) → Result ℕ LineFault → CutState
after_cut_read s room (Ok n) = record s {
  received = s.received ++ take n s.waiting;
  waiting = drop n s.waiting;
  reads = drop 1 s.reads;
  calls = one_more s.calls;
  empty_reads = counted_if_none room n s.empty_reads;
}
after_cut_read s room (Err fault) =
    record s { reads = drop 1 s.reads; calls = one_more s.calls; failures = s.failures + 1 }

-- after a write of these octets
abbrev pub after_cut_write : CutState → List ℕ → Result ℕ LineFault → CutState
after_cut_write s octets (Ok n) = record s {
  sent = s.sent ++ take n octets;
  writes = drop 1 s.writes;
  calls = one_more s.calls;
  stalled_writes = counted_if_none (length octets) n s.stalled_writes;
}
after_cut_write s octets (Err fault) =
    record s { writes = drop 1 s.writes; calls = one_more s.calls; failures = s.failures + 1 }

-- how many octets go over where at most k do: as many as were not yet given on and find room
abbrev pub carried : ℕ → CutState → CutState → ℕ
carried k from to = min k (min (length (unmoved from)) (room_to_receive to))

-- a line after it carried with another: what it had goes over, and what the other had comes
abbrev pub after_carry : ℕ → CutState → CutState → CutState
after_carry k s other = record s {
  moved = s.moved + carried k s other;
  waiting = s.waiting ++ take (carried k other s) (unmoved other);
}
