-- What is kept fits.
use Rattle.std.proofs.Common.{◌≤◌, ℕ, List, length, subst}
use Rattle.at_text.proofs.lines.KeptOctets.{run_itself}
use Rattle.at_text.proofs.line_run.LineRun.kept.Goals as goal

pub returns-clause-itself : goal.returns-clause-itself
returns-clause-itself c =
    let octets = c.self.inside.octets.items in
    rw (← c.self.view_is, c.if-self.false) (run_itself octets c.self.invariant (subst (λ (xs : List ℕ). length xs ≤ 512) c.as_slice.ensures.value c.as_slice.ensures.fits))
