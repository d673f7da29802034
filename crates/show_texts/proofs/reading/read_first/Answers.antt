-- What was read first.
use Rattle.std.specs.Prelude.{List, ℕ, ◌++◌, take}
use Rattle.std.proofs.Common.{ap, ◌∙◌}
use Rattle.show_texts.proofs.Shown.{read_piece_on}
use Rattle.show_texts.proofs.reading.read_first.Goals as goal

pub returns-in-Ok-clause-more : goal.returns-in-Ok-clause-more
returns-in-Ok-clause-more g c = λ e.
    read_piece_on (g.I.Read.remaining c.args.input.now) (g.I.Read.remaining c.loop.input) (g.I.Read.remaining c.read.new.self)
    c.args.octets.now.items c.extend_from_slice.new.self.items (take c.in-Ok.count c.read.new.buf) c.loop.invariant.0 c.in-Ok.ensures.bytes.0
    (c.in_ok-extend_from_slice-in-Ok.ensures.items ∙ ap (λ (l : List ℕ). l ++ take c.in-Ok.count c.read.new.buf) c.loop.invariant.1)
