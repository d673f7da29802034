use Rattle.std.proofs.Common.{◌≡◌, ◌++◌, codes, Some}
use Rattle.std.proofs.lemmas.Bool.Decides.{Decides-eqb}
use Rattle.std.proofs.lemmas.Result.{err_from_is_err_and}
use Rattle.std.proofs.lemmas.Slice.Eq.{strip_prefix_is}
use Rattle.ctl_run.proofs.inputs.ScriptLines.{in_nothing}
use Rattle.ctl_run.proofs.script.order_of.Goals as goal

pub returns-in-Some-strip_prefix-3-clause-says : goal.returns-in-Some-strip_prefix-3-clause-says
returns-in-Some-strip_prefix-3-clause-says c =
    (c.in-Some-strip_prefix-3.word.now, strip_prefix_is Decides-eqb c.args.line.now (codes "probe ") (Some c.in-Some-strip_prefix-3.word) c.in-Some-strip_prefix-3.ensures.cases, c.in_ok-probe_of.ensures.says.0, c.in_ok-probe_of.ensures.says.1)

pub returns-in-Some-strip_prefix-2-clause-says : goal.returns-in-Some-strip_prefix-2-clause-says
returns-in-Some-strip_prefix-2-clause-says c =
    let cut : c.args.line.now ≡ codes "cmd " ++ c.in-Some-strip_prefix-2.words.now =
    strip_prefix_is Decides-eqb c.args.line.now (codes "cmd ") (Some c.in-Some-strip_prefix-2.words) c.in-Some-strip_prefix-2.ensures.cases in
    rw cut c.command_of.ensures.says

pub returns-in-Some-strip_prefix-2-clause-fault : goal.returns-in-Some-strip_prefix-2-clause-fault
returns-in-Some-strip_prefix-2-clause-fault c =
    let cut : c.args.line.now ≡ codes "cmd " ++ c.in-Some-strip_prefix-2.words.now =
    strip_prefix_is Decides-eqb c.args.line.now (codes "cmd ") (Some c.in-Some-strip_prefix-2.words) c.in-Some-strip_prefix-2.ensures.cases in
    rw cut c.command_of.ensures.fault

pub returns-in_err-probe_of-clause-fault : goal.returns-in_err-probe_of-clause-fault
returns-in_err-probe_of-clause-fault c =
    let cut : c.args.line.now ≡ codes "probe " ++ c.in-Some-strip_prefix-3.word.now =
    strip_prefix_is Decides-eqb c.args.line.now (codes "probe ") (Some c.in-Some-strip_prefix-3.word) c.in-Some-strip_prefix-3.ensures.cases in
    let given = err_from_is_err_and c.from_residual-in_err-probe_of.result c.from_residual-in_err-probe_of.ensures.1 in
    rw (given.1, given.2, cut) c.in_err-probe_of.ensures.fault

pub returns-in_err-octets_of-clause-says : goal.returns-in_err-octets_of-clause-says
returns-in_err-octets_of-clause-says c =
    let cut : c.args.line.now ≡ codes "in " ++ c.in-Some-strip_prefix-4.word.now =
    strip_prefix_is Decides-eqb c.args.line.now (codes "in ") (Some c.in-Some-strip_prefix-4.word) c.in-Some-strip_prefix-4.ensures.cases in
    let given = err_from_is_err_and c.from_residual-in_err-octets_of.result c.from_residual-in_err-octets_of.ensures.1 in
    rw (given.1, given.2, cut) (λ n. in_nothing c.in-Some-strip_prefix-4.word.now (c.in_err-octets_of.ensures.says n))
