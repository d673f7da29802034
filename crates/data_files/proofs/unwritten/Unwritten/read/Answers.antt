-- Nothing was kept.
use Rattle.std.specs.Prelude.{ℕ, List, length, OnOk}
use Rattle.std.proofs.Common.{subst, ◌∙◌}
use Rattle.modem_data.specs.Passing.{Read}
use Rattle.modem_data.specs.Hops.{Hops, Passed}
use Rattle.data_files.specs.Moves.{IsUnread}
use Rattle.data_files.proofs.Keeping.{back_nil, front_nil}
use Rattle.data_files.proofs.unwritten.Unwritten.read.Goals as goal

pub read-requires : goal.read-requires
read-requires g c = front_nil c.self.inside.piece c.self.inside.kept (c.self.view_is ∙ c.requires)

pub returns-clause-count : goal.returns-clause-count
returns-clause-count g c = subst (λ (xs : List ℕ). OnOk c.read.result (IsUnread c.args.line.now.relay.pipes c.args.dlci.number (length xs)))
    (back_nil c.read.new.self c.self.inside.piece c.self.inside.kept (c.self.view_is ∙ c.requires)) c.read.ensures.count

pub returns-clause-read : goal.returns-clause-read
returns-clause-read g c = subst (λ (xs : List ℕ). OnOk c.read.result (Hops c.args.line.now.relay c.read.new.line.relay (Passed (Read c.args.dlci.number xs))))
    (back_nil c.read.new.self c.self.inside.piece c.self.inside.kept (c.self.view_is ∙ c.requires)) c.read.ensures.read
