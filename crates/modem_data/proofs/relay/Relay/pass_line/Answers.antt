-- A frame of the line passes.
use Rattle.std.specs.Prelude.{refl, ◌≡◌, true, false, IfOk}
use Rattle.std.proofs.Common.{subst}
use Rattle.modem_data.specs.Passing.{Came}
use Rattle.modem_data.specs.Hops.{Relay, HopsBy, AllCame, Passed}
use Rattle.modem_data.proofs.Relays.{frame_came, none_by}
use Rattle.modem_data.proofs.relay.Relay.pass_line.Goals as goal

pub returns-clause-came : goal.returns-clause-came
returns-clause-came c =
    let old : Relay = record { outer = c.self.inside.outer; inner = c.self.inside.inner; pipes = c.self.inside.pipes; to_driver = c.self.inside.to_driver.items; to_line = c.self.inside.to_line.items } in
    let new : Relay = record old { outer = c.pass_in.new.deframer; pipes = c.pass_in.new.pipes; to_driver = c.pass_in.new.to_driver.items } in
    subst (λ v. IfOk c.pass_in.result (λ one. one ≡ true → HopsBy v new (λ f. Passed (Came f)))) c.self.view_is (frame_came old new c.pass_in.result c.pass_in.ensures.passes c.pass_in.ensures.over c.pass_in.ensures.n1 refl refl)

pub returns-clause-none : goal.returns-clause-none
returns-clause-none c =
    let old : Relay = record { outer = c.self.inside.outer; inner = c.self.inside.inner; pipes = c.self.inside.pipes; to_driver = c.self.inside.to_driver.items; to_line = c.self.inside.to_line.items } in
    subst (λ v. IfOk c.pass_in.result (λ one. one ≡ false → AllCame v)) c.self.view_is (none_by old c.pass_in.result c.deframed.ensures c.pass_in.ensures.none)
