-- The station's next frame goes out.
use Rattle.std.specs.Prelude.{◌==◌, drop, length, option_map, refl}
use Rattle.std.proofs.Common.{◌∙◌, ap, subst}
use Rattle.mux_station.specs.Stations as stations
use Rattle.mux_station.specs.Giving.{next_given, GivesOn}
use Rattle.mux_station.specs.GivenFrames.{with_freshness}
use Rattle.modem_sim.specs.Cores.{Core, gone_on}
use Rattle.modem_sim.proofs.ends.OfferedPieces.{gives_out}
use Rattle.modem_sim.proofs.sim_core.SimCore.outgoing.Goals as goal

pub returns : goal.returns
returns c =
    let i = c.self.inside in
    let with_station : stations.Station → Core = λ s. record {
      station = s;
      modem = i.modem;
      echo = i.echo;
      boxes = i.channels.items;
      come = i.come;
      steps = drop i.next i.steps.items;
      closed = i.closed;
    } in (
      (refl, (λ _. tt), ap with_station c.next_frame.follows.holds-at-none ∙ ap gone_on c.self.view_is),
      record {
        frame = c.next_frame.ensures.frame ∙ ap (λ (v : Core). option_map (with_freshness (length v.station.queue == 0)) (next_given v.station v.station.queue)) c.self.view_is;
        short = c.next_frame.ensures.short;
        past = gives_out c.args.self.now (subst (λ (v : Core). GivesOn v.station) c.self.view_is c.givings.ensures);
        after = tt;
      },
    )
