use Rattle.std.specs.Prelude.{refl}
use Rattle.data_files.proofs.FileSteps.{takes_none}
use Rattle.data_files.proofs.Keeping.{keeps, keeps_left, under_way}
use Rattle.data_files.proofs.data_file.DataFile.keep.Goals as goal

pub returns-then-is_behind_lines-clause-keeps : goal.returns-then-is_behind_lines-clause-keeps
returns-then-is_behind_lines-clause-keeps g c = rw (← c.self.view_is) (λ renews some. under_way _ _ _ _ c.is_behind_lines.result c.is_behind_lines.ensures c.if-is_behind_lines.true)

pub returns-in-Ok-clause-moves : goal.returns-in-Ok-clause-moves
returns-in-Ok-clause-moves g c = rw (← c.self.view_is) (keeps g.L.SerialLine.seen g.P.SerialLine.seen c.args.line.now c.keep.new.line _ _
    c.in-Ok.ensures.keeps c.keep.ensures.beside refl)

pub returns-in-Ok-clause-keeps : goal.returns-in-Ok-clause-keeps
returns-in-Ok-clause-keeps g c = rw (← c.self.view_is) (λ renews some. keeps_left _ _ _ _ c.in-Ok.ensures.some)

pub returns-in-Err-clause-moves : goal.returns-in-Err-clause-moves
returns-in-Err-clause-moves g c = rw (← c.self.view_is) (takes_none g.L.SerialLine.seen g.P.SerialLine.seen c.args.line.now c.keep.new.line _ _
    c.in-Err.ensures.err.0 c.in-Err.ensures.err.1)
