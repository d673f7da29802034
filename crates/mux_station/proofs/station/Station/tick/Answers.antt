-- All connections have their turn, and then the probe.
use Rattle.std.specs.Prelude.{◌∷◌, [], Bool, if◌then◌else◌}
use Rattle.std.proofs.Common.{◌∙◌, ap, sym, append-nil}
use Rattle.mux_station.specs.Ticking.{UpProbe}
use Rattle.mux_station.proofs.ticks.WholeTicks.{tick_handles}
use Rattle.mux_station.proofs.ticks.ConnectionTurns.{tick_new, tick_up, pushed_up}
use Rattle.mux_station.proofs.station.Station.tick.Goals as goal

pub returns-then-tick_probe-clause-past : goal.returns-then-tick_probe-clause-past
returns-then-tick_probe-clause-past c =
    let turns = c.tick_channels-noticed in
    tick_handles c.args.self.now c.tick_probe.new.self turns.ensures.all (tick_new c.args.self.now turns.new.self c.tick_probe.new.self turns.ensures.after c.tick_probe.ensures.after)

pub returns-then-tick_probe-clause-noticed : goal.returns-then-tick_probe-clause-noticed
returns-then-tick_probe-clause-noticed c =
    let turns = c.tick_channels-noticed in
    pushed_up _ _ _ c.push.ensures.items
    ∙ tick_up c.args.self.now turns.new.self _ _ turns.ensures.after turns.ensures.up (c.tick_probe.ensures.up ∙ ap (λ (b : Bool). if b then UpProbe ∷ [] else []) c.if-tick_probe.true)

pub returns-else-tick_probe-clause-past : goal.returns-else-tick_probe-clause-past
returns-else-tick_probe-clause-past c =
    let turns = c.tick_channels-noticed in
    tick_handles c.args.self.now c.tick_probe.new.self turns.ensures.all (tick_new c.args.self.now turns.new.self c.tick_probe.new.self turns.ensures.after c.tick_probe.ensures.after)

pub returns-else-tick_probe-clause-noticed : goal.returns-else-tick_probe-clause-noticed
returns-else-tick_probe-clause-noticed c =
    let turns = c.tick_channels-noticed in
    sym (append-nil _)
    ∙ tick_up c.args.self.now turns.new.self _ _ turns.ensures.after turns.ensures.up (c.tick_probe.ensures.up ∙ ap (λ (b : Bool). if b then UpProbe ∷ [] else []) c.if-tick_probe.false)
