-- What contracts see of a line, and what a call on it changes.
use Rattle.std.specs.Prelude.{ℕ, ◌+◌, List, [], ◌++◌, length, take}
use Rattle.serial_line.specs.Counts.{one_more, counted_if_none}

-- a line: all octets that it gave and took, in order, and four counts of its calls, which stop at u64::MAX
pub record LineView : Type 0 where
  pub received : List ℕ
  pub sent : List ℕ
  pub calls : ℕ
  pub failures : ℕ  -- so many calls failed
  pub empty_reads : ℕ  -- so many reads had room for an octet and gave none
  pub stalled_writes : ℕ  -- so many writes were offered an octet and took none

-- after a read with so much room, which gave the first n of these octets
abbrev pub after_read : (room n : ℕ) → List ℕ → LineView → LineView
after_read room n octets l = record l {
  received = l.received ++ take n octets;
  calls = one_more l.calls;
  empty_reads = counted_if_none room n l.empty_reads;
}

-- after a write that was offered these octets, and took the first n
abbrev pub after_write : (n : ℕ) → List ℕ → LineView → LineView
after_write n octets l = record l {
  sent = l.sent ++ take n octets;
  calls = one_more l.calls;
  stalled_writes = counted_if_none (length octets) n l.stalled_writes;
}

-- after a call that failed
abbrev pub after_fault : LineView → LineView
after_fault l = record l { calls = one_more l.calls; failures = l.failures + 1 }

-- how a line is seen on which nothing has happened yet
abbrev pub unused_line : LineView
unused_line = record { received = []; sent = []; calls = 0; failures = 0; empty_reads = 0; stalled_writes = 0 }
