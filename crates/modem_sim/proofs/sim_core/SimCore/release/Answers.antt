use Rattle.std.proofs.Common.{◌≡◌, ◌<◌, ◌∙◌, ap, subst, true, ℕ, Bool, IfOk, arith, length, slice_index_or, slice_set, sym}
use Rattle.modem_sim.specs.Boxes.{fresh_box}
use Rattle.modem_sim.specs.Cores.{Core, holds_over}
use Rattle.modem_sim.proofs.ends.EndAfterFrame.{any_default}
use Rattle.modem_sim.proofs.ends.OfferedPieces.{fewer_released}
use Rattle.modem_sim.proofs.sim_core.SimCore.release.Goals as goal

pub returns-clause-fewer : goal.returns-clause-fewer
returns-clause-fewer c =
    let d = c.args.dlci.number in
    let b = c.index_mut-channel.result.now in
    let boxes = c.self.inside.channels.items in
    let place : c.from.result ≡ d = omega arith in
    let inside : d < length boxes = let all = c.self.invariant.0 in let small = c.args.dlci.in_range in omega arith in
    let Fewer : Core → Type 0 = λ o. IfOk c.release.result (λ (moved : Bool). moved ≡ true → holds_over (slice_set boxes c.from.result c.release.new.self) < holds_over o.boxes) in
    let At : ℕ → Type 0 = λ i. IfOk c.release.result (λ (moved : Bool). moved ≡ true → holds_over (slice_set boxes i c.release.new.self) < holds_over boxes) in
    subst Fewer c.self.view_is
    (subst At (sym place)
    (fewer_released boxes d b c.release.new.self c.release.result inside
    (c.index_mut-channel.ensures.value ∙ ap (λ i. slice_index_or boxes i b) place ∙ any_default boxes d b fresh_box inside)
    c.release.ensures.moved c.release.ensures.ok))
