-- The end goes on with the frame.
use Rattle.std.proofs.Common.{◌≡◌, ◌&&◌, Bool, drop, sym, ap, ◌∙◌, subst, arith}
use Rattle.mux_station.specs.Stations.{channel_at, seen_in}
use Rattle.mux_station.specs.States.{is_opened}
use Rattle.mux_station.specs.Written.{is_on}
use Rattle.mux_frame.specs.declared.frame.Kind.TheVariants.{Uih}
use Rattle.mux_frame.specs.Frames.{frame_of}
use Rattle.modem_sim.specs.Cores.{Core, EndGoesOn, closes_all, closes_in, octets_in, opens_in}
use Rattle.modem_sim.proofs.ends.EndAfterFrame.{closing_noted}
use Rattle.modem_sim.proofs.ends.SilentFrames.{silent_goes_on}
use Rattle.modem_sim.proofs.sim_core.SimCore.got_no_line.Goals as goal

pub returns-clause-took : goal.returns-clause-took
returns-clause-took c = λ _.
    let f = frame_of c.args.frame in
    let view = c.self.view_is in
    let Goes : Core → Type 0 = λ o. EndGoesOn o c.keep_octets.new.self f in
    let old : Core = record {
      station = c.self.inside.station;
      modem = c.self.inside.modem;
      echo = c.self.inside.echo;
      boxes = c.self.inside.channels.items;
      come = c.self.inside.come;
      steps = drop c.self.inside.next c.self.inside.steps.items;
      closed = c.self.inside.closed;
    } in
    let closes : c.closes_down-closes.result ≡ closes_in old f =
    c.closes_down-closes.ensures
    ∙ ap (λ (b : Bool). b && (is_on Uih 0 f && closes_all c.in-Ok.noted)) (c.is_open-running.ensures ∙ ap (λ (o : Core). is_opened (channel_at o.station 0).state) (sym view))
    ∙ closing_noted c.self.inside.station.role (seen_in c.self.inside.station) f c.in-Ok.noted c.in-Ok.ensures.noted in
    subst Goes view
    (silent_goes_on old c.keep_octets.new.self c.got.new.self f c.args.octets.now c.args.opens c.closes_down-closes.result
    c.self.invariant.0 c.args.frame.dlci.in_range
    (c.requires.octets ∙ ap (λ o. octets_in o f) (sym view))
    (c.requires.opens ∙ ap (λ o. opens_in o f) (sym view))
    closes
    c.keep_octets.ensures.run c.keep_octets.ensures.none
    c.in-Ok.ensures.past
    (omega arith)
    c.keep_octets.ensures.kept)
