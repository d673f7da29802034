use Rattle.mux_frame.proofs.deframers.DeframerOctets.{flag_in_slice}
use Rattle.mux_frame.proofs.settling.flag_in.Goals as goal

pub returns-clause-rest : goal.returns-clause-rest
returns-clause-rest c = flag_in_slice c.args.octets.now c.memchr.result c.unwrap_or.result c.memchr.ensures c.unwrap_or.ensures
