-- Data leaves behind the driver's frames, and goes at once.
use Rattle.std.specs.Prelude.{◌≡◌, ◌==◌, None, refl, length, take, true}
use Rattle.std.proofs.Common.{subst, sym}
use Rattle.mux_frame.specs.Frames.{frame_of}
use Rattle.modem_data.specs.PipeSets.{LeavesInTurn}
use Rattle.modem_data.specs.Hops.{Relay, GoesOut}
use Rattle.modem_data.proofs.GoingOut.{leaves_out}
use Rattle.modem_data.proofs.relay.Relay.leave.Goals as goal

pub returns-clause-left : goal.returns-clause-left
returns-clause-left c =
    let old : Relay = record { outer = c.self.inside.outer; inner = c.self.inside.inner; pipes = c.self.inside.pipes; to_driver = c.self.inside.to_driver.items; to_line = c.self.inside.to_line.items } in
    let new : Relay = record old { pipes = c.leave.new.self } in
    let octets = take c.write_data-count.result c.write_data-count.new.room in
    let none : old.inner.next ≡ None = subst (λ (v : Relay). v.inner.next ≡ None) (sym c.self.view_is) c.requires.first in
    let empty : (length old.to_line == 0) ≡ true = subst (λ (v : Relay). (length v.to_line == 0) ≡ true) (sym c.self.view_is) c.requires.none_wait in
    let f = frame_of c.next_frame-frame.result in
    let leaves = subst (λ n. LeavesInTurn n old.pipes new.pipes f) c.self.invariant.outer_is (c.leave.ensures f c.next_frame-frame.ensures.frame) in
    λ e. subst (λ v. GoesOut v new octets) c.self.view_is (leaves_out old new f octets c.deframed.ensures none empty leaves refl c.write_data-count.ensures.written)
