use Rattle.std.proofs.Common.{◌≡◌, ◌∙◌, length, rules}
use Rattle.std.proofs.lemmas.Bool.{eqb-true}
use Rattle.mux_capture.proofs.FirstFrames.{begins}
use Rattle.mux_capture.proofs.finding.can_begin.Goals as goal

pub returns : goal.returns
returns c = λ yes.
    let size : length c.in-Ok.rest.items ≡ c.len.result = search rules in
    begins c.args.n1 c.args.text.now _ _ c.in-Ok.ensures.ok (size ∙ eqb-true c.len.result (length c.args.text.now) yes)
