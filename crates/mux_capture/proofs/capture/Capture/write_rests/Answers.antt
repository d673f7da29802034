use Rattle.std.proofs.Common.{sym}
use Rattle.mux_capture.proofs.Passing.{renews_by, weaker}
use Rattle.mux_capture.proofs.capture.Capture.write_rests.Goals as goal

pub returns-clause-renews : goal.returns-clause-renews
returns-clause-renews g c =
    weaker c.put_rests.result
    (renews_by c.args.self.now (g.C.Write.contents c.self.inside.output) (g.C.Write.contents c.put_rests.new.output) c.self.inside.n1 c.args.n1 c.self.inside.to_modem.items c.self.inside.from_modem.items
    c.put_rests.new.to_modem.items c.put_rests.new.from_modem.items c.self.inside.failed c.args.stamp (sym c.self.view_is)) c.put_rests.ensures
