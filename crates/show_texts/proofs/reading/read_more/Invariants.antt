-- So much was read.
use Rattle.show_texts.specs.Captures.{ReadsMore}
use Rattle.show_texts.proofs.reading.read_more.Given as goal

abbrev pub invariant-loop-left : goal.invariant-loop-left
invariant-loop-left g l =
    ReadsMore (g.I.Read.remaining l.initial.input) (g.I.Read.remaining l.input) l.initial.octets.items l.octets.items

abbrev pub decreases-loop-left : goal.decreases-loop-left
decreases-loop-left g l = l.left
