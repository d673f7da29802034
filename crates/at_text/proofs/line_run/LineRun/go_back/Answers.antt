-- The first octets of a run have no line end either.
use Rattle.at_text.proofs.lines.UnfinishedLines.{has_end-take}
use Rattle.at_text.proofs.line_run.LineRun.go_back.Goals as goal

pub invariant_of-self : goal.invariant_of-self
invariant_of-self c = rw c.truncate.ensures.items (has_end-take c.args.mark.len c.self.inside.octets.items c.self.invariant)
