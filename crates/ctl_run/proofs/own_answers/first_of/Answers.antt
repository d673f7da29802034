use Rattle.std.proofs.Common.{codes, Some, None}
use Rattle.std.proofs.lemmas.Bool.Decides.{Decides-eqb}
use Rattle.std.proofs.lemmas.Slice.Eq.{strip_suffix_is}
use Rattle.ctl_run.proofs.inputs.AnswerLines.{first_found, no_end}
use Rattle.ctl_run.proofs.own_answers.first_of.Goals as goal

pub returns-in-Some : goal.returns-in-Some
returns-in-Some c =
    first_found c.args.text.now c.in-Some.left.now c.last_of.result
    (strip_suffix_is Decides-eqb c.args.text.now (codes " ") (Some c.in-Some.left) c.in-Some.ensures.cases) c.last_of.ensures

pub returns-in-None : goal.returns-in-None
returns-in-None c = no_end c.args.text.now (strip_suffix_is Decides-eqb c.args.text.now (codes " ") None c.in-None.ensures.cases)
