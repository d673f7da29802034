use Rattle.std.proofs.Common.{arith, ap, ◌∙◌, get_or, slice_set}
use Rattle.std.proofs.lemmas.List.Edits.{map_over_more}
use Rattle.modem_sim.specs.Boxes.{Box, box_heard}
use Rattle.modem_sim.proofs.channel.hear_all.Goals as goal

pub loop-channel-preserved : goal.loop-channel-preserved
loop-channel-preserved c =
    let hears = box_heard c.args.dlci.number c.args.ended in
    let item = get_or c.loop-channel.channel-items c.loop-channel.channel-index c.channel-item.result in
    ap (slice_set c.loop-channel.channel-items c.loop-channel.channel-index) c.hear.ensures
    ∙ map_over_more hears c.args.channels.now.items c.loop-channel.channel-items c.loop-channel.channel-index item
    (omega (arith, c.loop-channel-test.true)) c.loop-channel.invariant
    (ap (λ (b : Box). get_or c.loop-channel.channel-items c.loop-channel.channel-index b) c.channel-item.is)
