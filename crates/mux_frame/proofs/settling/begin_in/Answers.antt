use Rattle.mux_frame.proofs.deframers.FlagRuns.{begin_reads}
use Rattle.mux_frame.proofs.settling.begin_in.Goals as goal

pub returns-clause-reads : goal.returns-clause-reads
returns-clause-reads c o n1 = begin_reads n1 c.flag_in-place.result c.flags_passed.result c.args.octets.now c.split_at.result.1.now c.split_at.ensures.back c.flag_in-place.ensures.rest o c.flags_passed.ensures.reads
