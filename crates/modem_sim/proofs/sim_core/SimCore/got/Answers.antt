use Rattle.std.proofs.Common.{◌≡◌, ◌++◌, ◌&&◌, Bool, drop, refl, sym, ap, ◌∙◌, subst, slice_index_or, arith}
use Rattle.mux_frame.specs.declared.frame.Kind.TheVariants.{Uih}
use Rattle.mux_frame.specs.Frames.{frame_of}
use Rattle.mux_station.specs.Stations.{channel_at, seen_in}
use Rattle.mux_station.specs.States.{is_opened}
use Rattle.mux_station.specs.Written.{is_on}
use Rattle.modem_sim.specs.Cores.{Core, EndGoesOn, closes_all, closes_in, octets_in, opens_in}
use Rattle.modem_sim.proofs.ends.EndAfterFrame.{got_goes_on, closing_noted, kept_of}
use Rattle.modem_sim.proofs.ends.SilentFrames.{ends_a_line}
use Rattle.modem_sim.proofs.sim_core.SimCore.got.Goals as goal

pub keep-requires : goal.keep-requires
keep-requires c = kept_of c.in_ok-answered.answered.reader (c.index-channel.result.now.run ++ c.octets_in-octets.result.now) c.in_ok-answered.ensures.kept

pub returns-clause-took : goal.returns-clause-took
returns-clause-took c = λ _.
    let f = frame_of c.args.frame in
    let view = c.self.view_is in
    let place : c.from.result ≡ c.args.frame.dlci.number = omega arith in
    let Goes : Core → Type 0 = λ o. EndGoesOn o c.keep.new.self f in
    let old : Core = record {
      station = c.self.inside.station;
      modem = c.self.inside.modem;
      echo = c.self.inside.echo;
      boxes = c.self.inside.channels.items;
      come = c.self.inside.come;
      steps = drop c.self.inside.next c.self.inside.steps.items;
      closed = c.self.inside.closed;
    } in
    let closes : c.closes_down-closes.result ≡ closes_in old f =
    c.closes_down-closes.ensures
    ∙ ap (λ (b : Bool). b && (is_on Uih 0 f && closes_all c.in-Ok.noted)) (c.is_open-running.ensures ∙ ap (λ (o : Core). is_opened (channel_at o.station 0).state) (sym view))
    ∙ closing_noted c.self.inside.station.role (seen_in c.self.inside.station) f c.in-Ok.noted c.in-Ok.ensures.noted in
    subst Goes view
    (got_goes_on old (record old { station = c.got.new.self }) c.keep.new.self c.in_ok-modem.modem c.answered.new.modem f c.index-channel.result.now
    c.octets_in-octets.result.now c.in_ok-answered.answered.reader c.in_ok-answered.answered.said.items c.in_ok-answered.answered.calls c.opens-opens.result c.closes_down-closes.result c.in_ok-answered.answered.ended
    c.self.invariant.0 c.args.frame.dlci.in_range refl
    (c.index-channel.ensures ∙ ap (λ i. slice_index_or c.self.inside.channels.items i c.index-channel.result.now) place)
    (c.octets_in-octets.ensures ∙ ap (λ o. octets_in o f) (sym view))
    (c.opens-opens.ensures ∙ ap (λ o. opens_in o f) (sym view))
    closes
    c.in_ok-modem.ensures c.in_ok-answered.ensures.run c.in_ok-answered.ensures.state c.in_ok-answered.ensures.ended c.in_ok-answered.ensures.kept c.in_ok-answered.ensures.said c.in_ok-answered.ensures.calls
    c.in-Ok.ensures.past
    c.keep.ensures.kept)

pub returns-in_err-answered-clause-ends : goal.returns-in_err-answered-clause-ends
returns-in_err-answered-clause-ends c =
    ends_a_line c.from_residual-in_err-answered.result c.octets_in-octets.result.now _ c.run_len.result c.run_len.ensures.within c.if-run_len-octets.false c.run_len.ensures.end c.octets_in-octets.ensures
