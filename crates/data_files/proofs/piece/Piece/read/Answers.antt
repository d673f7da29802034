use Rattle.std.specs.Prelude.{ℕ, length, take}
use Rattle.std.proofs.Common.{subst, sym, ◌∙◌}
use Rattle.data_files.specs.Moves.{IsUnread}
use Rattle.data_files.proofs.Waiting.{counts_512}
use Rattle.data_files.proofs.piece.Piece.read.Goals as goal

pub returns-clause-count : goal.returns-clause-count
returns-clause-count g c = subst (λ (n : ℕ). IsUnread c.args.line.now.relay.pipes c.args.dlci.number (length (take n c.read.new.room))) (sym c.min-self-inside.ensures)
    (counts_512 c.args.line.now.relay.pipes c.args.dlci.number c.in_ok-reading.reading.count _ c.read.new.room (c.read.auto.room ∙ c.self.told) c.self.told c.in_ok-reading.ensures.count)
