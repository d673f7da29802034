-- Octets are given, and leave at once as one frame.
use Rattle.std.specs.Prelude.{◌≤◌, length, take}
use Rattle.std.proofs.Common.{ap, subst, sym}
use Rattle.mux_frame.specs.Frames.{frame_of}
use Rattle.modem_data.specs.PipeSets.{PipeSet, IsFreeAt}
use Rattle.modem_data.specs.Hops.{Relay, IsClear, SendsOut}
use Rattle.modem_data.proofs.Through.{passes_through}
use Rattle.modem_data.proofs.relay.Relay.pass_through.Goals as goal

pub returns-clause-sends : goal.returns-clause-sends
returns-clause-sends c =
    let old : Relay = record { outer = c.self.inside.outer; inner = c.self.inside.inner; pipes = c.self.inside.pipes; to_driver = c.self.inside.to_driver.items; to_line = c.self.inside.to_line.items } in
    let new : Relay = record old { pipes = c.went_through.new.self } in
    let octets = take c.write_data-count.result c.write_data-count.new.room in
    let info = c.args.info.now in
    let place = c.args.place in
    let f = frame_of c.data_frame-frame.result in
    let clear : IsClear old = subst IsClear (sym c.self.view_is) c.requires.clear in
    let short : length info ≤ old.outer.n1 = subst (λ (v : Relay). length info ≤ v.outer.n1) (sym c.self.view_is) c.requires.short in
    λ d free. subst (λ (v : Relay). SendsOut v new d info octets) c.self.view_is
    (passes_through old new place d info octets f c.deframed.ensures clear c.requires.some c.requires.few short c.data_frame-frame.ensures.frame
    (ap (λ (ps : PipeSet). record old { pipes = ps }) c.went_through.ensures) c.write_data-count.ensures.written
    (subst (λ (v : Relay). IsFreeAt v.pipes place d) (sym c.self.view_is) free))
