-- The ends of rings between a device and its line.
use Rattle.std.specs.Prelude.{ℕ, List}
use Rattle.ring_id.specs.Rings.{RingId}

-- the end that a line reads
pub record ReaderState : Type 0 where
  pub ring : RingId
  pub received : List ℕ  -- what its reads gave
  pub seen : List ℕ  -- what it knows to be there for the reads to come

-- the end that a line writes
pub record WriterState : Type 0 where
  pub ring : RingId
  pub sent : List ℕ  -- what its writes took
  pub free : ℕ  -- so many octets it knows to find room
