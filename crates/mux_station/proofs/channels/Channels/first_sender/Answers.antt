-- The lowest bit from here on is the first that may send.
use Rattle.std.specs.Prelude.{List}
use Rattle.std.proofs.Common.{◌∙◌, sym, ap}
use Rattle.mux_station.specs.Stations.{Channel}
use Rattle.mux_station.specs.Marks.{first_sender}
use Rattle.mux_station.proofs.turns.SenderMarks.{no_sender, the_sender, sender_within, masked, some_left, left_small}
use Rattle.mux_station.proofs.channels.Channels.first_sender.Goals as goal

pub returns-then-above-eq0 : goal.returns-then-above-eq0
returns-then-above-eq0 c =
    let i = c.self.inside in
    sym (no_sender i.each.items i.senders c.args.from _ c.self.invariant c.requires (masked i.senders c.args.from c.requires) c.if-above-eq0.true)
    ∙ ap (λ (cs : List Channel). first_sender cs c.args.from) c.self.view_is

pub invariant_of-result : goal.invariant_of-result
invariant_of-result c =
    let i = c.self.inside in
    record { in_range = sender_within i.each.items i.senders c.args.from _ c.self.invariant c.requires (masked i.senders c.args.from c.requires) (some_left _ c.if-above-eq0.false) (left_small i.senders c.args.from) }

pub returns : goal.returns
returns c =
    let i = c.self.inside in
    sym (the_sender i.each.items i.senders c.args.from _ c.self.invariant c.requires (masked i.senders c.args.from c.requires) (some_left _ c.if-above-eq0.false) (left_small i.senders c.args.from))
    ∙ ap (λ (cs : List Channel). first_sender cs c.args.from) c.self.view_is
