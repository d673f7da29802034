use Rattle.std.specs.Prelude.{◌<◌, length, refl}
use Rattle.std.proofs.Common.{sym, subst, ◌∙◌}
use Rattle.std.proofs.lemmas.List.{get_or_default}
use Rattle.modem_data.specs.PipeSets.{NoneOf}
use Rattle.data_files.specs.Files.{FileState, FiledState, dlcis}
use Rattle.data_files.specs.Moves.{FileMoves, HadTurn}
use Rattle.data_files.proofs.Lifts.{moves_at}
use Rattle.data_files.proofs.Turns.{not_none}
use Rattle.data_files.proofs.filed_line.FiledLine.move_file.Goals as goal

pub invariant_of-self : goal.invariant_of-self
invariant_of-self g c =
    let there = subst (λ (v : FiledState _ _). c.args.place < length v.files) (sym c.self.view_is) c.requires in
    let here = c.index_mut.ensures.value ∙ get_or_default c.self.inside.files.items c.args.place c.index_mut.result.now c.move_on.new.self there in
    moves_at g.L.SerialLine.seen g.P.SerialLine.seen (record { line = c.self.inside.line; files = c.self.inside.files.items; role = c.self.inside.role; n1 = c.self.inside.n1; before = c.self.inside.before }) c.move_on.new.line c.args.place c.move_on.new.self there
    (subst (λ (f : FileState _). FileMoves g.L.SerialLine.seen g.P.SerialLine.seen c.self.inside.line c.move_on.new.line f c.move_on.new.self) here c.move_on.ensures.moves) c.self.invariant

pub returns-clause-moves : goal.returns-clause-moves
returns-clause-moves g c =
    let there = subst (λ (v : FiledState _ _). c.args.place < length v.files) (sym c.self.view_is) c.requires in
    let here = c.index_mut.ensures.value ∙ get_or_default c.self.inside.files.items c.args.place c.index_mut.result.now c.move_on.new.self there in
    rw (← c.self.view_is) (record {
      file = c.move_on.new.self;
      moves = subst (λ (f : FileState _). FileMoves g.L.SerialLine.seen g.P.SerialLine.seen c.self.inside.line c.move_on.new.line f c.move_on.new.self) here c.move_on.ensures.moves;
      turn = subst
          (λ (f : FileState _). HadTurn g.L.SerialLine.seen g.P.SerialLine.seen c.self.inside.role c.self.inside.n1 (dlcis c.self.inside.files.items) c.self.inside.before c.self.inside.line f c.move_on.new.self)
          here
          (c.move_on.ensures.turn c.self.inside.role c.self.inside.n1 (dlcis c.self.inside.files.items) c.self.inside.before
          (λ none. not_none c.self.inside.files.items c.args.place c.move_on.new.self there
          (subst (λ (f : FileState _). NoneOf (dlcis c.self.inside.files.items) f.dlci) here none)));
      files_are = refl;
    })
