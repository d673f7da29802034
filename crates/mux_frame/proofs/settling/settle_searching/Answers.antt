use Rattle.mux_frame.proofs.deframers.SearchedOctets.{settles_from_searched}
use Rattle.mux_frame.proofs.settling.settle_searching.Goals as goal

pub returns : goal.returns
returns c =
    settles_from_searched c.args.n1 c.args.from c.searched-count.result.0 c.args.octets.now c.split_at.result.1.now c.searched-count.result.1
    c.requires.octets c.requires.from c.split_at.ensures.back c.searched-count.ensures
