-- The connections have their turns in rising order.
use Rattle.std.specs.Prelude.{◌++◌, List, map, refl}
use Rattle.std.proofs.Common.{◌∙◌, ap, sym, arith, append-nil}
use Rattle.mux_station.proofs.ticks.ConnectionTurns.{up_end, ticked_next, ticked_end, up_pushed, up_passed}
use Rattle.mux_station.specs.Ticking.{Up}
use Rattle.mux_station.specs.Noticing.{up_of}
use Rattle.mux_station.proofs.station.Station.tick_channels.Goals as goal
use Rattle.mux_station.proofs.station.Station.tick_channels.Goals.{then-tick_channel, else-tick_channel}

pub loop-number-init : goal.loop-number-init
loop-number-init c = let none = c.new-noticed.ensures in (refl, rw none refl, rw none (omega arith))

pub loop-number-preserved : goal.loop-number-preserved
loop-number-preserved c =
    let i = c.loop-number.number in
    let w = c.loop-number.self in
    let new = c.tick_channel.new.self in
    let turn = sym (ticked_next w new i c.loop-number-test.true c.tick_channel.ensures.after) ∙ c.loop-number.invariant.0 in
    elim c.if-tick_channel.branch [
      | then-tick_channel x ↦ (turn, rw x.noticed-is (up_pushed w new i _ _ _ _ c.loop-number-test.true c.tick_channel.ensures.after x.push.ensures.items refl (sym c.tick_channel.ensures.up ∙ x.if-tick_channel.true) c.loop-number.invariant.1), rw x.noticed-is (omega (arith, x.push.ensures.len, c.loop-number.invariant.2)))
      | else-tick_channel x ↦ (turn, rw x.noticed-is (up_passed w new i c.loop-number.noticed.items _ c.loop-number-test.true c.tick_channel.ensures.after (sym c.tick_channel.ensures.up ∙ x.if-tick_channel.false) c.loop-number.invariant.1), rw x.noticed-is (omega (arith, c.loop-number.invariant.2)))
    ]

pub returns-clause-after : goal.returns-clause-after
returns-clause-after c = sym (ticked_end c.loop-number.self c.loop-number.number c.loop-number-test.false) ∙ c.loop-number.invariant.0

pub returns-clause-up : goal.returns-clause-up
returns-clause-up c = sym (append-nil _) ∙ (ap (λ (ys : List Up). map up_of c.loop-number.noticed.items ++ ys) (sym (up_end c.loop-number.self c.loop-number.number c.loop-number-test.false)) ∙ c.loop-number.invariant.1)
