use Rattle.std.proofs.Common.{◌≡◌, arith, rules}
use Rattle.mux_frame.specs.Judging.{unfinished, refused, verdict_on}
use Rattle.mux_frame.specs.Judged.{verdict_seen}
use Rattle.mux_frame.proofs.candidates.Verdicts.{means_from}
use Rattle.mux_frame.proofs.judge.Verdict.on.Goals as goal

pub returns-in-Fits-clause-means : goal.returns-in-Fits-clause-means
unfolding verdict_on
returns-in-Fits-clause-means c =
    let e : verdict_seen c.by_rest.result ≡ verdict_on c.args.n1 c.args.text.now = search rules in
    means_from c.args.n1 c.args.text.now _ (λ i. let h = c.type_inv.text i in omega (arith, h)) e

pub returns-in-Unfinished-clause-means : goal.returns-in-Unfinished-clause-means
unfolding verdict_on
returns-in-Unfinished-clause-means c =
    let e : unfinished ≡ verdict_on c.args.n1 c.args.text.now = search rules in
    means_from c.args.n1 c.args.text.now unfinished (λ i. let h = c.type_inv.text i in omega (arith, h)) e

pub returns-in-Refused-clause-means : goal.returns-in-Refused-clause-means
unfolding verdict_on
returns-in-Refused-clause-means c =
    let e : refused ≡ verdict_on c.args.n1 c.args.text.now = search rules in
    means_from c.args.n1 c.args.text.now refused (λ i. let h = c.type_inv.text i in omega (arith, h)) e
