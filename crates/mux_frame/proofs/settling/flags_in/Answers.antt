use Rattle.mux_frame.proofs.deframers.FlagRuns.{flags_before}
use Rattle.mux_frame.proofs.settling.flags_in.Goals as goal

pub returns-clause-value : goal.returns-clause-value
returns-clause-value c = flags_before c.args.octets.now c.first_other.result c.unwrap_or.result c.first_other.ensures c.unwrap_or.ensures
