-- Which ring an end is of.
use Rattle.std.specs.declared.alloc.Global.{Global}
use denote.RawPtr.{Ptr}
use Rattle.rtrb.specs.Shared.{Names}
use Rattle.rtrb.specs.declared.producer.Producer.{Producer}
use Rattle.rtrb.specs.declared.consumer.Consumer.{Consumer}

-- a ring, by where it is and by what keeps it
pub record RingId : Type 0 where
  pub words : Ptr
  pub slots : Ptr
  pub names : Names
  pub heap : Global

module _ {T P : Type 0} where
  -- the ring that a producer is of
  abbrev pub ring_of_producer : Producer T Global P → RingId
  ring_of_producer p =
      record { words = p.end.words; slots = p.end.slots; names = p.end.names; heap = p.end.heap }

  -- the ring that a consumer is of
  abbrev pub ring_of_consumer : Consumer T Global P → RingId
  ring_of_consumer c =
      record { words = c.end.words; slots = c.end.slots; names = c.end.names; heap = c.end.heap }
