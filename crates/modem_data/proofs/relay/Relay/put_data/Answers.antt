-- Data leaves behind the driver's frames.
use Rattle.std.specs.Prelude.{◌≡◌, ◌++◌, None, refl, List, ℕ}
use Rattle.std.proofs.Common.{subst, sym, ap, ◌∙◌}
use Rattle.mux_frame.specs.Frames.{frame_of}
use Rattle.mux_frame.specs.Spelling.{spelled}
use Rattle.modem_data.specs.Passing.{Left}
use Rattle.modem_data.specs.PipeSets.{LeavesInTurn}
use Rattle.modem_data.specs.Hops.{Relay, HopsBy, Passed}
use Rattle.modem_data.proofs.Relays.{hops_left}
use Rattle.modem_data.proofs.relay.Relay.put_data.Goals as goal

pub returns-clause-left : goal.returns-clause-left
returns-clause-left c =
    let old : Relay = record { outer = c.self.inside.outer; inner = c.self.inside.inner; pipes = c.self.inside.pipes; to_driver = c.self.inside.to_driver.items; to_line = c.self.inside.to_line.items } in
    let new : Relay = record old { pipes = c.leave.new.self; to_line = c.put_frame.new.self.items } in
    let none : old.inner.next ≡ None = subst (λ (v : Relay). v.inner.next ≡ None) (sym c.self.view_is) c.requires.first in
    let f = frame_of c.next_frame-frame.result in
    let leaves = subst (λ n. LeavesInTurn n old.pipes new.pipes f) c.self.invariant.outer_is (c.leave.ensures f c.next_frame-frame.ensures.frame) in
    let written = c.put_frame.ensures.written ∙ ap (λ (x : List ℕ). x ++ spelled f) c.fit.ensures.same in
    λ e. subst (λ v. HopsBy v new (λ f. Passed (Left f))) c.self.view_is (record { frame = f; leads = hops_left old new f c.deframed.ensures none leaves written refl })
