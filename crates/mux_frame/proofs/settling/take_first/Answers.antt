use Rattle.std.proofs.Common.{◌≡◌, ◌∙◌, [], arith, drop, sym}
use Rattle.std.proofs.lemmas.List.{drop_all}
use Rattle.mux_frame.proofs.deframers.SearchedOctets.{settles_nothing, settles_searched}
use Rattle.mux_frame.proofs.settling.take_first.Goals as goal

pub returns-then-is_empty-clause-settles : goal.returns-then-is_empty-clause-settles
returns-then-is_empty-clause-settles c =
    let size = c.requires.passed in
    let gone : drop c.args.passed.now c.args.octets.now.items ≡ [] = drop_all c.args.passed.now c.args.octets.now.items (omega (arith, size)) in
    settles_nothing c.args.n1 c.searched-start.result.0 c.args.more.now c.split_at.result.1.now _ c.searched-start.result.1 c.requires.more c.searched-start.ensures c.split_at.ensures.back (sym c.if-is_empty.true ∙ c.is_empty.ensures) gone

pub returns-clause-settles : goal.returns-clause-settles
returns-clause-settles c =
    let size = c.requires.passed in
    let gone : drop c.args.passed.now c.args.octets.now.items ≡ [] = drop_all c.args.passed.now c.args.octets.now.items (omega (arith, size)) in
    rw (c.append.ensures, gone, c.split_at.ensures.back) (settles_searched c.args.n1 c.searched-start.result.0 c.args.more.now c.searched-start.result.1 c.requires.more c.searched-start.ensures)
