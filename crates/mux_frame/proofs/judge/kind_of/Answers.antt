use Rattle.std.proofs.Common.{arith}
use Rattle.mux_frame.proofs.candidates.Verdicts.{uih_octet}
use Rattle.mux_frame.proofs.judge.kind_of.Goals as goal

pub returns-then-control-eq255 : goal.returns-then-control-eq255
returns-then-control-eq255 c = let h = c.ranges.control.fits in uih_octet c.args.control (omega (arith, h)) c.if-control-eq255.true
