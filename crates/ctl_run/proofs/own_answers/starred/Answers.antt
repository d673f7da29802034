use Rattle.std.proofs.Common.{codes, Some}
use Rattle.std.proofs.lemmas.Bool.Decides.{Decides-eqb}
use Rattle.std.proofs.lemmas.Slice.Eq.{strip_suffix_is}
use Rattle.ctl_run.proofs.inputs.AnswerLines.{is_starred}
use Rattle.ctl_run.proofs.own_answers.starred.Goals as goal

pub returns-in-Some : goal.returns-in-Some
returns-in-Some c =
    is_starred c.args.front.now c.in-Some.command.now (strip_suffix_is Decides-eqb c.args.front.now (codes "*") (Some c.in-Some.command) c.in-Some.ensures.cases)
