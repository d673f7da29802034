-- Each moves up in its turn.
use Rattle.std.proofs.Common.{◌≡◌, ◌++◌, ◌+◌, ◌∙◌, ℕ, suc, take, map, sym, subst, arith}
use Rattle.std.specs.Prelude.{drop, slice_set}
use Rattle.modem_queues.specs.Hands.{moved_up}
use Rattle.modem_queues.proofs.lists.CommandPlaces.{moved_next, moved_all}
use Rattle.modem_queues.proofs.hand.move_up.Goals as goal

pub loop-start-preserved : goal.loop-start-preserved
loop-start-preserved c =
    let f = moved_up c.args.place in
    let xs = c.loop-start.starts in
    let i = c.loop-start.start-index in
    let same = c.loop-start.auto.starts in
    let here = c.loop-start-test.true in
    let next : i + 1 ≡ suc i = omega arith in
    subst (λ (v : ℕ). take (i + 1) (slice_set xs i v) ++ map f (drop (i + 1) (slice_set xs i v)) ≡ map f c.args.starts.now) (sym c.moved_up.ensures)
    (moved_next f xs i (i + 1) (omega (arith, same, here)) next ∙ c.loop-start.invariant)

pub returns : goal.returns
returns c =
    let same = c.loop-start.auto.starts in
    let end = c.loop-start-test.false in
    sym (moved_all (moved_up c.args.place) c.loop-start.start-index c.loop-start.starts (omega (arith, same, end))) ∙ c.loop-start.invariant
