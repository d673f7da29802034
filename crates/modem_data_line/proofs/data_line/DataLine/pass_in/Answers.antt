use Rattle.std.proofs.Common.{ap}
use Rattle.modem_data_line.specs.DataLines.{DataLineState}
use Rattle.modem_data_line.proofs.Leads.{passes_in}
use Rattle.modem_data_line.proofs.Asked.{asked_by_count, blocked_by_count}
use Rattle.modem_data_line.proofs.data_line.DataLine.pass_in.Goals as goal

pub returns-clause-goes : goal.returns-clause-goes
returns-clause-goes g c = passes_in g.L.SerialLine.seen c.args.self.now c.write_one.new.self c.take_in.new.self c.hand_on.new.self
    c.write_one.ensures.goes c.take_in.ensures.goes c.hand_on.ensures.goes
    (ap (λ (x : DataLineState _). x.is_behind) c.write_one.ensures.same) (ap (λ (x : DataLineState _). x.is_behind) c.take_in.ensures.same)

pub returns-clause-asked : goal.returns-clause-asked
returns-clause-asked g c = λ z some none. asked_by_count g.L.SerialLine.seen c.args.self.now c.write_one.new.self c.take_in.new.self c.hand_on.new.self
    _ _ c.hand_on.ensures.count z some c.write_one.ensures.none_came c.write_one.ensures.no_read (ap (λ (x : DataLineState _). x.unfed) c.write_one.ensures.same)
    (ap (λ (x : DataLineState _). x.line) c.hand_on.ensures.same) (ap (λ (x : DataLineState _). x.is_lost) c.hand_on.ensures.same) c.take_in.ensures.still c.take_in.ensures.asked none

pub returns-clause-blocks : goal.returns-clause-blocks
returns-clause-blocks g c = λ z some. blocked_by_count c.write_one.new.self c.take_in.new.self c.hand_on.new.self _ _ c.hand_on.ensures.count z some
    (ap (λ (x : DataLineState _). x.unfed) c.hand_on.ensures.same) c.hand_on.ensures.same_line c.take_in.ensures.still c.take_in.ensures.blocks
