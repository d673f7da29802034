-- So many packets are told, and their octets counted.
use Rattle.std.proofs.Common.{◌≡◌, false}
use Rattle.show_texts.specs.Captures.{ToldSoFar}
use Rattle.show_texts.specs.Progress.{CountsRead}
use Rattle.show_texts.proofs.run.show_packets.Given as goal

abbrev pub invariant-loop : goal.invariant-loop
invariant-loop g l =
    ToldSoFar l.initial.teller l.teller (g.I.Read.remaining l.initial.input) (g.I.Read.remaining l.input) (g.W.Write.contents l.initial.output)
    (g.W.Write.contents l.output)
    × CountsRead (g.I.Read.remaining l.initial.input) (g.I.Read.remaining l.input) l.initial.progress l.progress
    × (l.initial.progress.is_on ≡ false → l.progress ≡ l.initial.progress)
