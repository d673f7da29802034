use Rattle.std.specs.Prelude.{refl}
use Rattle.std.proofs.Common.{ap, ◌∙◌}
use Rattle.modem_data_line.specs.DataLines.{DataLineState}
use Rattle.modem_data_line.proofs.Leads.{counted_round}
use Rattle.modem_data_line.proofs.Asked.{asked_or}
use Rattle.modem_data_line.proofs.serial.DataLineSerialLine.try_read.Goals as goal

pub returns-clause-goes : goal.returns-clause-goes
returns-clause-goes g c = counted_round g.L.SerialLine.seen c.args.self.now c.begin_call.new.self c.pass_in-count.new.self _
    (rw c.in_ok-begin_call.ensures.goes_on refl) c.pass_in-count.ensures.goes (rw (← c.self-2.view_is) refl)

pub returns-clause-asked : goal.returns-clause-asked
returns-clause-asked g c = λ z some none.
    let same = c.in_ok-begin_call.ensures.goes_on in
    asked_or g.L.SerialLine.seen c.args.self.now c.begin_call.new.self c.pass_in-count.new.self
    (record c.pass_in-count.new.self { line = c.self-2.inside.line; is_lost = c.self-2.inside.is_lost })
    (ap (λ (x : DataLineState _). (g.L.SerialLine.seen x.line).received) same) (ap (λ (x : DataLineState _). (g.L.SerialLine.seen x.line).empty_reads) same)
    (ap (λ (x : DataLineState _). x.line) c.self-2.view_is) (ap (λ (x : DataLineState _). x.is_lost) c.self-2.view_is)
    (c.pass_in-count.ensures.asked z some (ap (λ (x : DataLineState _). x.unfed) same ∙ none))
