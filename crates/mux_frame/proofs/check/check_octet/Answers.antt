use Rattle.std.proofs.Common.{arith}
use Rattle.mux_frame.proofs.CheckOctets.{registered_step, registered_end}
use Rattle.mux_frame.proofs.check.check_octet.Goals as goal

pub loop-octet-preserved : goal.loop-octet-preserved
loop-octet-preserved c = registered_step c.args.octets.now c.loop-octet.octet-index c.loop-octet.register c.from.result c.loop-octet-test.true c.from.ensures c.loop-octet.invariant

pub returns : goal.returns
returns c = registered_end c.args.octets.now c.loop-octet.octet-index c.loop-octet.register c.loop-octet-test.false (λ i. let h = c.type_inv.octets i in omega (arith, h)) c.loop-octet.invariant
