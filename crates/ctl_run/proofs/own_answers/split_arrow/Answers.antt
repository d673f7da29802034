use Rattle.std.proofs.Common.{codes, Some, None}
use Rattle.std.proofs.lemmas.Bool.Decides.{Decides-eqb}
use Rattle.std.proofs.lemmas.Slice.Eq.{strip_suffix_is}
use Rattle.ctl_run.specs.AnswerTexts.{HasNoArrow}
use Rattle.ctl_run.proofs.inputs.AnswerLines.{has_arrow}
use Rattle.ctl_run.proofs.own_answers.split_arrow.Goals as goal

pub returns-in_err-front : goal.returns-in_err-front
returns-in_err-front c = rw c.from_residual.ensures (HasNoArrow.none_there c.args.line.now c.in_err-front.ensures)

pub returns-in_err-front-2 : goal.returns-in_err-front-2
returns-in_err-front-2 c =
    rw c.from_residual-in_err-front-2.ensures
    (HasNoArrow.other_before c.args.line.now c.in_ok-front.front.now c.in_ok-front.behind.now c.in_ok-front.ensures.1 c.in_ok-front.ensures.0
    (strip_suffix_is Decides-eqb c.in_ok-front.front.now (codes " =") None c.in_err-front-2.ensures.cases))

pub returns : goal.returns
returns c =
    has_arrow c.args.line.now c.in_ok-front.front.now c.in_ok-front-2.front.now c.in_ok-front.behind.now c.in_ok-front.ensures.0 c.in_ok-front.ensures.1
    (strip_suffix_is Decides-eqb c.in_ok-front.front.now (codes " =") (Some c.in_ok-front-2.front) c.in_ok-front-2.ensures.cases)
