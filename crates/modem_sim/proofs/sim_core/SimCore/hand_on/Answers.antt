use Rattle.std.proofs.Common.{◌≡◌, ◌<◌, drop, min, length, slice_index_or, slice_set, ap, ◌∙◌, subst, arith}
use Rattle.mux_station.specs.States.{is_opened}
use Rattle.mux_station.specs.Acts as station
use Rattle.mux_station.specs.Fitting as fitting
use Rattle.mux_station.specs.Stations.{channel_at}
use Rattle.modem_sim.specs.Boxes.{Box, fresh_box}
use Rattle.modem_sim.specs.Cores.{Core, holds_over}
use Rattle.modem_sim.specs.Stills.{Offering}
use Rattle.modem_sim.proofs.ends.EndAfterFrame.{any_default, is_handled}
use Rattle.modem_sim.proofs.ends.OfferedPieces.{hands_goes, same_over}
use Rattle.modem_sim.proofs.sim_core.SimCore.hand_on.Goals as goal

pub returns-clause-offers : goal.returns-clause-offers
returns-clause-offers c = λ _.
    let old : Core = record {
      station = c.self.inside.station;
      modem = c.self.inside.modem;
      echo = c.self.inside.echo;
      boxes = c.self.inside.channels.items;
      come = c.self.inside.come;
      steps = drop c.self.inside.next c.self.inside.steps.items;
      closed = c.self.inside.closed;
    } in
    let d = c.args.dlci.number in
    let new : Core = record old {
      station = c.offer.new.self;
      boxes = slice_set c.self.inside.channels.items c.from.result c.handed.new.self;
    } in
    let b = c.index_mut-channel.result.now in
    let place : c.from.result ≡ d = omega arith in
    let inside : d < length c.self.inside.channels.items = let all = c.self.invariant.0 in let small = c.args.dlci.in_range in omega arith in
    let Offering_to : Core → Type 0 = λ o. Offering o new d in
    subst Offering_to c.self.view_is
    (hands_goes old new d (min c.saturating_sub-room.result (length b.unsent)) b c.next_octets-octets.result.now c.self.invariant.0 c.args.dlci.in_range
    (ap (λ (o : Core). is_opened (channel_at o.station d).state) c.self.view_is ∙ c.requires)
    (c.index_mut-channel.ensures.value ∙ ap (λ i. slice_index_or c.self.inside.channels.items i b) place ∙ any_default c.self.inside.channels.items d b fresh_box inside)
    c.next_octets-octets.ensures
    (is_handled c.offer.result (fitting.StationHandles c.self.inside.station c.offer.new.self (station.Called (station.Offer d c.next_octets-octets.result.now))) c.offer.ensures.past c.if-is_err.ensures.negation)
    (ap (λ i. record new { boxes = slice_set c.self.inside.channels.items i c.handed.new.self }) place
    ∙ ap (λ (x : Box). record new { boxes = slice_set c.self.inside.channels.items d x }) c.handed.ensures)
    (λ none. c.if-count-eq0.false (ap length none)))

pub returns-clause-count : goal.returns-clause-count
returns-clause-count c =
    let d = c.args.dlci.number in
    let b = c.index_mut-channel.result.now in
    let boxes = c.self.inside.channels.items in
    let place : c.from.result ≡ d = omega arith in
    let inside : d < length boxes = let all = c.self.invariant.0 in let small = c.args.dlci.in_range in omega arith in
    let Same : Core → Type 0 = λ o. holds_over (slice_set boxes c.from.result c.handed.new.self) ≡ holds_over o.boxes in
    subst Same c.self.view_is
    (ap (λ i. holds_over (slice_set boxes i c.handed.new.self)) place
    ∙ ap (λ (x : Box). holds_over (slice_set boxes d x)) c.handed.ensures
    ∙ same_over boxes d b _ inside
    (c.index_mut-channel.ensures.value ∙ ap (λ i. slice_index_or boxes i b) place ∙ any_default boxes d b fresh_box inside))
