use Rattle.std.proofs.Common.{subst}
use Rattle.mux_frame.specs.Judged.{StandsSo}
use Rattle.mux_frame.proofs.deframers.SearchedOctets.{fails, settles_fits, settles_open, settles_unfinished}
use Rattle.mux_frame.proofs.settling.settle.Goals as goal

pub settle_behind-requires-clause-failed : goal.settle_behind-requires-clause-failed
settle_behind-requires-clause-failed c =
    let s = c.in-Some.ensures in
    fails c.args.n1 c.args.from c.in-Some.begin c.args.octets.now s.text s.is_second
    c.requires.octets c.requires.from s.candidate s.begin_is
    (subst (StandsSo c.args.n1 s.text) c.in-Refused.is s.stands_so)

pub returns-in-Whole : goal.returns-in-Whole
returns-in-Whole c =
    let s = c.in-Some.ensures in
    settles_fits c.args.n1 c.args.from c.in-Some.begin c.args.octets.now s.text s.is_second
    c.requires.octets c.requires.from s.candidate s.begin_is
    c.in-Whole.place (subst (StandsSo c.args.n1 s.text) c.in-Whole.is s.stands_so)

pub returns-in-Unfinished : goal.returns-in-Unfinished
returns-in-Unfinished c =
    let s = c.in-Some.ensures in
    settles_unfinished c.args.n1 c.args.from c.in-Some.begin c.args.octets.now s.text s.is_second
    c.requires.octets c.requires.from s.candidate s.begin_is
    (subst (StandsSo c.args.n1 s.text) c.in-Unfinished.is s.stands_so)

pub returns-in-Refused : goal.returns-in-Refused
returns-in-Refused c =
    let s = c.in-Some.ensures in
    settles_open c.args.n1 c.args.from c.in-Some.begin c.args.octets.now s.text s.is_second
    c.requires.octets c.requires.from s.candidate s.begin_is
    _ c.settle_behind.result c.settle_behind.ensures
