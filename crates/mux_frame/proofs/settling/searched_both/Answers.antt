use Rattle.std.proofs.Common.{◌∙◌, sym}
use Rattle.mux_frame.proofs.deframers.SearchedOctets.{passed_later, some_found}
use Rattle.mux_frame.proofs.settling.searched_both.Goals as goal

pub returns-then-is_some : goal.returns-then-is_some
returns-then-is_some c = some_found c.args.n1 c.searched-start.result.0 c.args.front.now c.args.back.now c.searched-start.result.1 c.requires (sym c.if-is_some.true ∙ c.is_some.ensures) c.searched-start.ensures

pub searched_on-requires-clause-passed : goal.searched_on-requires-clause-passed
searched_on-requires-clause-passed c = passed_later c.args.n1 c.searched-start.result.0 c.args.front.now c.args.back.now c.searched-start.ensures.passed
