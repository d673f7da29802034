use Rattle.std.proofs.Common.{◌≡◌, ◌++◌, codes, Some}
use Rattle.std.proofs.lemmas.Bool.Decides.{Decides-eqb}
use Rattle.std.proofs.lemmas.Slice.Eq.{strip_prefix_is}
use Rattle.ctl_text.proofs.dialects.rule_of.Goals as goal

pub returns-in-Some-strip_prefix : goal.returns-in-Some-strip_prefix
returns-in-Some-strip_prefix c =
    let cut : c.args.line.now ≡ codes "unsolicited " ++ c.in-Some-strip_prefix.words.now =
    strip_prefix_is Decides-eqb c.args.line.now (codes "unsolicited ") (Some c.in-Some-strip_prefix.words) c.in-Some-strip_prefix.ensures.cases in
    rw cut c.unsolicited_text.ensures
