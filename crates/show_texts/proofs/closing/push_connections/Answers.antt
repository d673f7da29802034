-- One connection more is printed.
use Rattle.std.specs.Prelude.{Bool, ◌+◌}
use Rattle.std.proofs.Common.{refl, subst, sym, arith}
use Rattle.std.specs.String.{string_bytes}
use Rattle.show_texts.specs.Telling.{AreClosed}
use Rattle.show_texts.proofs.LineEnds.{more_closed}
use Rattle.show_texts.proofs.closing.push_connections.Goals as goal

pub loop-number-preserved : goal.loop-number-preserved
loop-number-preserved c =
    subst
    (λ (b : Bool). AreClosed c.args.talks.now c.args.tallies.now (string_bytes c.args.text.now) (string_bytes c.push_connection.new.text) b (c.loop-number.number + 1))
    (sym c.either-some.ensures)
    (more_closed c.args.talks.now c.args.tallies.now (string_bytes c.args.text.now) (string_bytes c.loop-number.text) (string_bytes c.push_connection.new.text)
    c.loop-number.some c.is_under_way-unfinished.result c.loop-number.number c.loop-number.number c.tally_at.result c.loop-number.invariant refl (omega arith)
    (λ line h. c.is_under_way-unfinished.ensures line h)
    c.tally_at.ensures
    c.in_ok-push_connection.ensures)
