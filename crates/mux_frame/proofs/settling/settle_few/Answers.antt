use Rattle.mux_frame.proofs.deframers.SearchedOctets.{settles_flag}
use Rattle.mux_frame.proofs.settling.settle_few.Goals as goal

pub returns-then-is_last_flag : goal.returns-then-is_last_flag
returns-then-is_last_flag c = settles_flag c.args.n1 c.args.from c.args.octets.now c.requires.octets c.requires.from (c.is_last_flag.ensures c.if-is_last_flag.true)
