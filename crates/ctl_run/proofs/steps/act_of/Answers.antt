use Rattle.std.proofs.Common.{◌≡◌, ◌++◌, codes, Some}
use Rattle.std.proofs.lemmas.Bool.Decides.{Decides-eqb}
use Rattle.std.proofs.lemmas.Result.{err_from_is_err_and}
use Rattle.std.proofs.lemmas.Slice.Eq.{strip_prefix_is}
use Rattle.ctl_run.proofs.steps.act_of.Goals as goal

pub returns-in-Some-clause-fault : goal.returns-in-Some-clause-fault
returns-in-Some-clause-fault c =
    let cut : c.args.words.now ≡ codes "announce " ++ c.in-Some.words.now = strip_prefix_is Decides-eqb c.args.words.now (codes "announce ") (Some c.in-Some.words) c.in-Some.ensures.cases in
    rw cut c.announce_of.ensures.fault

pub returns-in-Some-strip_prefix-3-clause-fault : goal.returns-in-Some-strip_prefix-3-clause-fault
returns-in-Some-strip_prefix-3-clause-fault c =
    let cut : c.args.words.now ≡ codes "hold " ++ c.in-Some-strip_prefix-3.words.now =
    strip_prefix_is Decides-eqb c.args.words.now (codes "hold ") (Some c.in-Some-strip_prefix-3.words) c.in-Some-strip_prefix-3.ensures.cases in
    rw cut c.hold_of.ensures.fault

pub returns-in_err-last_connection-3-clause-fault : goal.returns-in_err-last_connection-3-clause-fault
returns-in_err-last_connection-3-clause-fault c =
    let cut : c.args.words.now ≡ codes "disconnect " ++ c.in-Some-strip_prefix-4.words.now =
    strip_prefix_is Decides-eqb c.args.words.now (codes "disconnect ") (Some c.in-Some-strip_prefix-4.words) c.in-Some-strip_prefix-4.ensures.cases in
    let given = err_from_is_err_and c.from_residual-in_err-last_connection-3.result c.from_residual-in_err-last_connection-3.ensures.1 in
    rw (given.1, given.2, cut) c.in_err-last_connection-3.ensures.fault
