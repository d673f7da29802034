use Rattle.std.proofs.Common.{◌∙◌, sym, subst}
use Rattle.modem_sim.specs.declared.sim.SimTurn.TheVariants.{Moved, Idle, Ended}
use Rattle.modem_sim.specs.Sims.{SimGoes, SimState}
use Rattle.modem_sim.specs.Turns.{GoesTurn}
use Rattle.modem_sim.proofs.sims.TurnMeanings.{turn_idle, turn_moved, turn_over, turn_was_over}
use Rattle.modem_sim.proofs.sims.IdleTurns.{refused_by, wants_memory}
use Rattle.modem_sim.proofs.sim.Sim.turn.Goals as goal

pub returns-then-is_ended-clause-turn : goal.returns-then-is_ended-clause-turn
returns-then-is_ended-clause-turn g c =
    let see = g.L.SerialLine.seen in
    let s : SimState g.row.L.Denot = record { line = c.self.inside.line; machine = c.self.inside.machine } in
    let At : SimState g.row.L.Denot → Type 0 = λ x. GoesTurn see x x Ended in
    subst At c.self.view_is
    (turn_was_over see s (sym c.is_ended.ensures ∙ c.if-is_ended.true))

pub returns-then-is_ended-2-clause-turn : goal.returns-then-is_ended-2-clause-turn
returns-then-is_ended-2-clause-turn g c =
    let see = g.L.SerialLine.seen in
    let old : SimState g.row.L.Denot = record { line = c.self.inside.line; machine = c.self.inside.machine } in
    let new : SimState g.row.L.Denot = record { line = c.go_on.new.line; machine = c.go_on.new.self } in
    let From : SimState g.row.L.Denot → Type 0 = λ x. GoesTurn see x new Ended in
    subst From c.self.view_is
    (turn_over see old new c.in_ok-moved.moved c.in_ok-moved.ensures.turn (sym c.is_ended-2.ensures ∙ c.if-is_ended-2.true))

pub returns-then-moved-clause-turn : goal.returns-then-moved-clause-turn
returns-then-moved-clause-turn g c =
    let see = g.L.SerialLine.seen in
    let old : SimState g.row.L.Denot = record { line = c.self.inside.line; machine = c.self.inside.machine } in
    let new : SimState g.row.L.Denot = record { line = c.go_on.new.line; machine = c.go_on.new.self } in
    let From : SimState g.row.L.Denot → Type 0 = λ x. GoesTurn see x new Moved in
    subst From c.self.view_is
    (turn_moved see old new c.in_ok-moved.moved c.in_ok-moved.ensures.turn c.if-moved.true)

pub returns-clause-turn : goal.returns-clause-turn
returns-clause-turn g c =
    let see = g.L.SerialLine.seen in
    let old : SimState g.row.L.Denot = record { line = c.self.inside.line; machine = c.self.inside.machine } in
    let new : SimState g.row.L.Denot = record { line = c.go_on.new.line; machine = c.go_on.new.self } in
    let From : SimState g.row.L.Denot → Type 0 = λ x. GoesTurn see x new Idle in
    subst From c.self.view_is
    (turn_idle see old new c.in_ok-moved.moved c.in_ok-moved.ensures.turn c.if-moved.false)

pub returns-in_err-moved-clause-memory : goal.returns-in_err-moved-clause-memory
returns-in_err-moved-clause-memory g c = λ why.
    wants_memory g.L.SerialLine.seen (record { line = c.go_on.new.line; machine = c.go_on.new.self }) (refused_by c.from_residual.result c.in_err-moved.field-0.0 c.from_residual.ensures.1 why c.in_err-moved.ensures.memory)

pub returns-then-is_ended-2-clause-goes : goal.returns-then-is_ended-2-clause-goes
returns-then-is_ended-2-clause-goes g c =
    let new : SimState g.row.L.Denot = record { line = c.go_on.new.line; machine = c.go_on.new.self } in
    let From : SimState g.row.L.Denot → Type 0 = λ x. SimGoes g.L.SerialLine.seen x new in
    subst From c.self.view_is c.go_on.ensures.goes

pub returns-then-moved-clause-goes : goal.returns-then-moved-clause-goes
returns-then-moved-clause-goes g c =
    let new : SimState g.row.L.Denot = record { line = c.go_on.new.line; machine = c.go_on.new.self } in
    let From : SimState g.row.L.Denot → Type 0 = λ x. SimGoes g.L.SerialLine.seen x new in
    subst From c.self.view_is c.go_on.ensures.goes

pub returns-clause-goes : goal.returns-clause-goes
returns-clause-goes g c =
    let new : SimState g.row.L.Denot = record { line = c.go_on.new.line; machine = c.go_on.new.self } in
    let From : SimState g.row.L.Denot → Type 0 = λ x. SimGoes g.L.SerialLine.seen x new in
    subst From c.self.view_is c.go_on.ensures.goes
