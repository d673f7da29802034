-- What goes out is what every history says, and the core goes on with it.
use Rattle.std.proofs.Common.{arith, ◌≡◌, length, ◌∙◌, ap, subst, refl}
use Rattle.std.specs.Prelude.{Some, false, option_map, ◌==◌}
use Rattle.mux_station.specs.Stations.{Station}
use Rattle.mux_station.specs.Giving.{turn_at, next_given, GivesOn}
use Rattle.mux_station.specs.GivenFrames.{outgoing_of, as_turn, with_freshness}
use Rattle.modem_core.specs.Cores.{Core}
use Rattle.modem_core.specs.CoreGoing.{begun_next}
use Rattle.modem_core.proofs.outgoing.CoreAfterFrame.{IsSound, sound, sends_truly, turn_live, turn_at_station, goes_on, goes_out, station_stays, gone, kept_on}
use Rattle.modem_core.proofs.holds.HoldsAndFrames.{out_holds}
use Rattle.modem_core.proofs.outgoing.EndOfSending.{leaves_less}
use Rattle.modem_core.proofs.driver.Core.give.Goals as goal

pub begin_next-requires : goal.begin_next-requires
begin_next-requires c =
    turn_at_station c.args.self.now (Some (as_turn c.args.turn)) (turn_live c.args.self.now (as_turn c.args.turn) c.requires) c.requires

pub give-requires : goal.give-requires
give-requires c =
    let old : Core = c.args.self.now in
    let begun : Core = record { station = c.self-2.inside.station; lanes = c.self-2.inside.lanes; hand = c.self-2.inside.hand; rules = c.self-2.inside.dialect; kinds = c.self-2.inside.kinds.items; lost = c.self-2.inside.lost } in
    let same = station_stays old begun (c.self-2.view_is ∙ c.begin_next.ensures) in
    ap (λ (v : Station). turn_at v v.queue) same
    ∙ turn_at_station old (Some (as_turn c.args.turn)) (turn_live old (as_turn c.args.turn) c.requires) c.requires

pub invariant_of-self : goal.invariant_of-self
invariant_of-self c = kept_on c.self-2.inside.station c.give.follows.lender-at-none c.self-2.inside.n1 c.self-2.inside.lanes c.self-2.invariant c.give.follows.holds-at-none

pub returns : goal.returns
returns c =
    let old : Core = c.args.self.now in
    let station : Station = c.self-2.inside.station in
    let begun : Core = record { station = station; lanes = c.self-2.inside.lanes; hand = c.self-2.inside.hand; rules = c.self-2.inside.dialect; kinds = c.self-2.inside.kinds.items; lost = c.self-2.inside.lost } in
    let e : begun ≡ begun_next old = c.self-2.view_is ∙ c.begin_next.ensures in
    let live : old.lost ≡ false = turn_live old (as_turn c.args.turn) c.requires in
    let same : station ≡ old.station = station_stays old begun e in
    let is_sound : IsSound old = subst IsSound c.self.view_is (sound (record { station = c.self.inside.station; lanes = c.self.inside.lanes; hand = c.self.inside.hand; rules = c.self.inside.dialect; kinds = c.self.inside.kinds.items; lost = c.self.inside.lost }) c.self.inside.n1 c.self.invariant) in
    let frame : Some (outgoing_of c.give.result) ≡ option_map (with_freshness (length old.station.queue == 0)) (next_given old.station old.station.queue)
    = c.give.ensures.frame ∙ ap (λ (v : Station). option_map (with_freshness (length v.queue == 0)) (next_given v v.queue)) same in
    let gives : GivesOn old.station = subst GivesOn (ap (λ (v : Core). v.station) c.self.view_is) c.givings.ensures in
    let sender = sends_truly old.station gives in (
      (refl, (λ v. tt), gone old begun c.give.follows.lender-at-none live e c.give.follows.holds-at-none),
      record {
        frame = goes_out old (Some (outgoing_of c.give.result)) is_sound sender live frame;
        past = goes_on old is_sound gives sender;
        holds = out_holds old;
        less = leaves_less old (Some (outgoing_of c.give.result)) (let l = is_sound.least in omega (arith, l)) live frame;
        short = c.give.ensures.short;
        after = tt;
      },
    )
