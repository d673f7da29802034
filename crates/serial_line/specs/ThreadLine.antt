-- A line between threads.
use Rattle.std.specs.Prelude.{◌≡◌, ℕ, List, [], Some}
use Rattle.ring_id.specs.Rings.{RingId}
use Rattle.serial_line.specs.LineViews.{LineView}
use Rattle.serial_line.specs.OtherSide.{OtherSide}

-- one end of a line
pub record EndState : Type 0 where
  pub received : List ℕ  -- what its reads gave
  pub seen : List ℕ  -- what it knows to be there for the reads to come
  pub sent : List ℕ  -- what its writes took
  pub free : ℕ  -- so many octets it knows to find room
  pub calls : ℕ
  pub empty_reads : ℕ  -- so many reads could give octets and gave none
  pub stalled_writes : ℕ  -- so many writes could take octets and took none
  pub incoming : RingId
  pub outgoing : RingId

-- what is seen of it as of any line: no call fails
abbrev pub thread_view : EndState → LineView
thread_view e = record {
  received = e.received;
  sent = e.sent;
  calls = e.calls;
  failures = 0;
  empty_reads = e.empty_reads;
  stalled_writes = e.stalled_writes;
}

-- what an end knows of its other side: the rings that lead there
abbrev pub thread_side : EndState → OtherSide
thread_side e = record { given = []; passed_on = []; rings = Some (record { incoming = e.incoming; outgoing = e.outgoing }) }

-- these are the two ends of one line
pub record AreEnds (a b : EndState) : Type 0 where
  pub there : a.outgoing ≡ b.incoming
  pub back : b.outgoing ≡ a.incoming

-- an end on which nothing has happened yet, with this room each way
pub record IsNew (room : ℕ) (e : EndState) : Type 0 where
  pub received : e.received ≡ []
  pub seen : e.seen ≡ []
  pub sent : e.sent ≡ []
  pub free : e.free ≡ room
  pub calls : e.calls ≡ 0
  pub empty_reads : e.empty_reads ≡ 0
  pub stalled_writes : e.stalled_writes ≡ 0
