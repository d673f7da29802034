use Rattle.std.proofs.Common.{◌∙◌, sym}
use Rattle.mux_frame.specs.Judged.{verdict_seen}
use Rattle.mux_frame.proofs.deframers.WrappedOctets.{decision_alone}
use Rattle.mux_frame.proofs.settling.decided.Goals as goal

pub returns-then-is_empty : goal.returns-then-is_empty
returns-then-is_empty c = decision_alone c.args.n1 c.args.front.now c.args.back.now (verdict_seen c.slice_verdict.result) c.slice_verdict.ensures (sym c.if-is_empty.true ∙ c.is_empty.ensures)
