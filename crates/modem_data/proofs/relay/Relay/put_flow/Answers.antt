-- What is due is said of the flow.
use Rattle.std.specs.Prelude.{◌≡◌, ◌++◌, ℕ, List, None, false, refl}
use Rattle.std.proofs.Common.{subst, ap, sym, ◌∙◌}
use Rattle.mux_frame.specs.Frames.{Frame}
use Rattle.mux_frame.specs.Spelling.{spelled}
use Rattle.mux_frame.specs.declared.frame.Kind.TheVariants.{Uih}
use Rattle.modem_data.specs.Passing.{Flowed}
use Rattle.modem_data.specs.Hops.{Relay, HopsBy, Passed}
use Rattle.modem_data.proofs.Relays.{hops_flowed}
use Rattle.modem_data.proofs.relay.Relay.put_flow.Goals as goal

pub returns-clause-flowed : goal.returns-clause-flowed
returns-clause-flowed c =
    let old : Relay = record { outer = c.self.inside.outer; inner = c.self.inside.inner; pipes = c.self.inside.pipes; to_driver = c.self.inside.to_driver.items; to_line = c.self.inside.to_line.items } in
    let new : Relay = record old { pipes = c.flowed.new.self; to_line = c.put_frame.new.self.items } in
    let f : Frame = record { dlci = 0; kind = Uih; cr = c.info_cr.result; pf = false; info = c.flow_info-info.result } in
    let none : old.inner.next ≡ None = subst (λ (v : Relay). v.inner.next ≡ None) (sym c.self.view_is) c.requires.first in
    let written = c.put_frame.ensures.written ∙ ap (λ (x : List ℕ). x ++ spelled f) c.fit.ensures.same in
    λ e. subst (λ v. HopsBy v new (λ f. Passed (Flowed f))) c.self.view_is (hops_flowed old new f c.deframed.ensures none c.flowed.ensures written refl)
