use Rattle.std.proofs.Common.{◌≡◌, ◌∙◌, sym}
use Rattle.modem_sim.specs.Acts.{is_handing}
use Rattle.modem_sim.specs.Boxes.{released}
use Rattle.modem_sim.specs.Cores.{box_at, boxed}
use Rattle.modem_sim.proofs.ends.HandedOctets.{goes_either, hands_one, offers_on, offers_shut, release_opened, released_there}
use Rattle.modem_sim.proofs.ends.OfferedPieces.{goes_then, release_goes, release_stays}
use Rattle.modem_sim.proofs.sim_core.SimCore.offer_on.Goals as goal

pub returns-clause-goes : goal.returns-clause-goes
returns-clause-goes c =
    let mid = c.release.new.self in
    let new = c.hand_on-handed.new.self in
    goes_then is_handing c.args.self.now mid new
    (release_goes c.args.self.now mid c.args.dlci.number c.in_ok-released.ensures.all c.args.dlci.in_range c.in_ok-released.ensures.ok)
    (goes_either mid new c.hand_on-handed.result c.args.dlci.number c.hand_on-handed.ensures.offers c.hand_on-handed.ensures.same)

pub returns-then-not-is_open-clause-hands : goal.returns-then-not-is_open-clause-hands
returns-then-not-is_open-clause-hands c = offers_shut c.args.self.now c.args.dlci.number (sym c.is_open.ensures ∙ c.if-not-is_open.true)

pub returns-clause-hands : goal.returns-clause-hands
returns-clause-hands c =
    let old = c.args.self.now in
    let mid = c.release.new.self in
    let d = c.args.dlci.number in
    let same : mid ≡ boxed old d (released (box_at old d)) = c.in_ok-released.ensures.ok in
    offers_on old mid c.hand_on-handed.new.self d c.in_ok-released.released c.hand_on-handed.result
    c.in_ok-released.ensures.fewer c.in_ok-released.ensures.same c.hand_on-handed.ensures.count
    (release_stays old mid d c.in_ok-released.ensures.all c.args.dlci.in_range same)
    (hands_one mid c.hand_on-handed.new.self d c.hand_on-handed.result c.args.dlci.in_range
    (release_opened old mid d same (sym c.is_open.ensures ∙ c.if-not-is_open.false))
    (released_there old mid d c.in_ok-released.ensures.all c.args.dlci.in_range same)
    c.hand_on-handed.ensures.hold c.hand_on-handed.ensures.offers c.hand_on-handed.ensures.same c.hand_on-handed.ensures.none)
