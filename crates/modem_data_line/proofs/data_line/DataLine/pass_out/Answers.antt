use Rattle.std.proofs.Common.{ap, ◌∙◌}
use Rattle.modem_data_line.specs.DataLines.{DataLineState}
use Rattle.modem_data_line.proofs.Leads.{takes_by}
use Rattle.modem_data_line.proofs.Lost.{offered_stuck, behind_of}
use Rattle.modem_data_line.proofs.data_line.DataLine.pass_out.Goals as goal

pub returns-clause-takes : goal.returns-clause-takes
returns-clause-takes g c = takes_by g.L.SerialLine.seen c.args.self.now c.write_first.new.self c.take_octets-taken.new.self c.write_behind.new.self
    _ c.write_first.ensures.goes c.take_octets-taken.ensures.takes c.write_behind.ensures.goes (ap (λ (x : DataLineState _). x.is_behind) c.write_behind.ensures.same)

pub returns-clause-stuck : goal.returns-clause-stuck
returns-clause-stuck g c = λ z some.
    let behind = c.take_octets-taken.ensures.behind ∙ behind_of _ _ z some in
    let still = c.write_behind.ensures.still behind in
    rw still (offered_stuck g.L.SerialLine.seen c.args.self.now c.write_first.new.self c.take_octets-taken.new.self c.write_first.ensures.offered
    (ap (λ (x : DataLineState _). x.line) c.take_octets-taken.ensures.same) (ap (λ (x : DataLineState _). x.is_lost) c.take_octets-taken.ensures.same)
    (c.take_octets-taken.ensures.none z) (c.take_octets-taken.ensures.stuck z some))
