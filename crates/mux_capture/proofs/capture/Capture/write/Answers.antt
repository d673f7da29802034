use Rattle.std.proofs.Common.{sym}
use Rattle.mux_capture.proofs.Passing.{captures_from_modem, captures_to_modem, weaker}
use Rattle.mux_capture.proofs.capture.Capture.write.Goals as goal

pub returns-in-ToModem-clause-wrote : goal.returns-in-ToModem-clause-wrote
returns-in-ToModem-clause-wrote g c =
    rw c.in-ToModem.is
    (weaker c.pass.result
    (captures_to_modem c.args.self.now (g.C.Write.contents c.self.inside.output) (g.C.Write.contents c.pass.new.output) c.self.inside.n1 c.self.inside.to_modem.items c.pass.new.kept.items c.self.inside.from_modem.items c.self.inside.failed
    c.args.stamp c.args.octets.now (sym c.self.view_is)) (rw c.in-ToModem.is at c.pass.ensures))

pub returns-in-FromModem-clause-wrote : goal.returns-in-FromModem-clause-wrote
returns-in-FromModem-clause-wrote g c =
    rw c.in-FromModem.is
    (weaker c.pass-in-FromModem.result
    (captures_from_modem c.args.self.now (g.C.Write.contents c.self.inside.output) (g.C.Write.contents c.pass-in-FromModem.new.output) c.self.inside.n1 c.self.inside.to_modem.items c.self.inside.from_modem.items c.pass-in-FromModem.new.kept.items c.self.inside.failed
    c.args.stamp c.args.octets.now (sym c.self.view_is)) (rw c.in-FromModem.is at c.pass-in-FromModem.ensures))
