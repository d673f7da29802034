-- They stand behind the last read.
use Rattle.std.specs.Prelude.{ℕ, List, OnOk, ◌++◌}
use Rattle.std.proofs.Common.{subst}
use Rattle.data_files.specs.Moves.{ReadsSome}
use Rattle.data_files.proofs.Keeping.{on_ok, some_behind}
use Rattle.data_files.proofs.unwritten.Unwritten.keep.Goals as goal

pub returns-clause-some : goal.returns-clause-some
returns-clause-some g c =
    subst (λ (xs : List ℕ). OnOk c.read.result (ReadsSome c.args.line.now.relay.pipes c.args.dlci.number xs (c.self.inside.piece ++ c.read.new.self))) c.self.view_is
    (on_ok c.read.result (some_behind c.args.line.now.relay.pipes c.args.dlci.number c.self.inside.piece c.self.inside.kept c.read.new.self) c.read.ensures.some)
