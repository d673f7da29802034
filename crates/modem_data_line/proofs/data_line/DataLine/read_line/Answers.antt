use Rattle.std.specs.Prelude.{refl}
use Rattle.std.proofs.Common.{◌∙◌, sym, inr}
use Rattle.std.proofs.lemmas.Bool.{ltb-true}
use Rattle.modem_data_line.proofs.Leads.{reads_line, loses_reading}
use Rattle.modem_data_line.proofs.Asked.{is_asked, none_came, none_left, some_came}
use Rattle.modem_data_line.proofs.data_line.DataLine.read_line.Goals as goal

pub returns-in-Ok-clause-goes : goal.returns-in-Ok-clause-goes
returns-in-Ok-clause-goes g c = rw (← c.self.view_is) (reads_line g.L.SerialLine.seen _ _ c.in-Ok.came
    (none_left c.self.inside.unfed (sym c.is_empty.ensures ∙ c.if-not-is_empty.false)) c.in-Ok.ensures.came c.in-Ok.ensures.count refl)

pub returns-in-Ok-clause-asked : goal.returns-in-Ok-clause-asked
returns-in-Ok-clause-asked g c = rw (← c.self.view_is) (λ e. inr (is_asked g.L.SerialLine.seen c.self.inside.line c.read.new.line c.read.new.self c.in-Ok.came
    c.in-Ok.ensures.came c.in-Ok.ensures.count))

pub returns-in-Err-clause-goes : goal.returns-in-Err-clause-goes
returns-in-Err-clause-goes g c = rw (← c.self.view_is) (loses_reading g.L.SerialLine.seen _ _
    (none_left c.self.inside.unfed (sym c.is_empty.ensures ∙ c.if-not-is_empty.false)) c.in-Err.ensures.none c.lost.ensures c.in-Err.ensures.fault refl)

pub returns-in-Ok-clause-some : goal.returns-in-Ok-clause-some
returns-in-Ok-clause-some g c = rw (← c.self.view_is) (λ e. some_came g.L.SerialLine.seen c.self.inside.line c.read.new.line c.read.new.self c.in-Ok.came
    c.in-Ok.ensures.came c.in-Ok.ensures.count (ltb-true 0 c.in-Ok.came e))

pub returns-in-Ok-clause-none : goal.returns-in-Ok-clause-none
returns-in-Ok-clause-none g c = rw (← c.self.view_is) (λ e none. inr (none_came g.L.SerialLine.seen c.self.inside.line c.read.new.line c.read.new.self c.in-Ok.came c.in-Ok.ensures.came e))
