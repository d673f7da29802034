use Rattle.std.proofs.Common.{ap}
use Rattle.modem_data_line.specs.DataLines.{DataLineState}
use Rattle.modem_data_line.proofs.Lost.{offered_or}
use Rattle.modem_data_line.proofs.serial.DataLineSerialLine.try_write.Goals as goal

pub returns-clause-stuck : goal.returns-clause-stuck
returns-clause-stuck g c = λ z some.
    let same = c.in_ok-begin_call.ensures.goes_on in
    offered_or g.L.SerialLine.seen c.args.self.now.line c.begin_call.new.self.line c.pass_out-count.new.self.line c.self.inside.line
    c.pass_out-count.new.self.is_lost c.self.inside.is_lost (ap (λ (x : DataLineState _). x.line) same)
    (ap (λ (x : DataLineState _). x.line) c.self.view_is) (ap (λ (x : DataLineState _). x.is_lost) c.self.view_is) (c.pass_out-count.ensures.stuck z some)
