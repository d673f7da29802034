-- What it had seen is still there, in front of what it sees now.
use Rattle.device_line.proofs.Prefixes.{prefix_on}
use Rattle.device_line.proofs.ring_reader.RingReaderRead.read.Goals as goal

pub returns-clause-seen : goal.returns-clause-seen
returns-clause-seen c = rw (← c.self.view_is) (prefix_on _ _ _ c.is_abandoned-over.ensures.2 c.pop_partial_slice-count.ensures.known)
