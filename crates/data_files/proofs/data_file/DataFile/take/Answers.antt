use Rattle.std.specs.Prelude.{length, refl}
use Rattle.std.proofs.lemmas.Bool.{eqb-true}
use Rattle.std.proofs.lemmas.List.{nil_from_length}
use Rattle.std.proofs.Common.{sym, inr, ◌∙◌}
use Rattle.data_files.proofs.FileSteps.{takes, takes_none}
use Rattle.data_files.proofs.data_file.DataFile.take.Goals as goal

pub returns-clause-moves : goal.returns-clause-moves
returns-clause-moves g c = rw (← c.self.view_is) (takes g.L.SerialLine.seen g.P.SerialLine.seen c.args.line.now c.read.new.line _ _ (nil_from_length c.self.inside.unwritten (eqb-true (length c.self.inside.unwritten) 0 (sym c.if-not-is_empty.ensures))) c.in-Ok.ensures.read c.read.ensures.beside refl)

pub returns-clause-reads : goal.returns-clause-reads
returns-clause-reads g c = rw (← c.self.view_is) (λ none. inr c.in-Ok.ensures.count)

pub returns-clause-over : goal.returns-clause-over
returns-clause-over g c = rw (← c.self.view_is) (λ none. inr c.in-Ok.ensures.over)

pub returns-in_default-clause-moves : goal.returns-in_default-clause-moves
returns-in_default-clause-moves g c = rw (← c.self.view_is) (takes_none g.L.SerialLine.seen g.P.SerialLine.seen c.args.line.now c.read.new.line _ c.read.new.self c.in_default.ensures.err.0
    (c.in_default.ensures.err.1 ∙ sym (nil_from_length c.self.inside.unwritten (eqb-true (length c.self.inside.unwritten) 0 (sym c.if-not-is_empty.ensures)))))
