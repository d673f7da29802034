use Rattle.std.proofs.Common.{arith, sym, ap, ◌∙◌}
use Rattle.modem_sim.specs.Contexts.{with_context}
use Rattle.modem_sim.proofs.modem_steps.Contexts.{found_inside, replaced, inserted, appended}
use Rattle.modem_sim.proofs.contexts.PdpContexts.set.Goals as goal

pub index-requires : goal.index-requires
index-requires c = let inside = found_inside c.args.context c.deref.result.now c.in-Some.i c.in-Some.ensures in omega arith

pub index_mut-requires : goal.index_mut-requires
index_mut-requires c = let inside = found_inside c.args.context c.deref.result.now c.in-Some.i c.in-Some.ensures in omega arith

pub insert-requires : goal.insert-requires
insert-requires c = let inside = found_inside c.args.context c.deref.result.now c.in-Some.i c.in-Some.ensures in omega arith

pub returns-in_default-clause-ok : goal.returns-in_default-clause-ok
returns-in_default-clause-ok c =
    c.in_ok-push.ensures.items
    ∙ appended c.args.context c.self.inside.contexts.items c.deref.result.now (sym c.deref.ensures.value) c.in_default.ensures
    ∙ ap (with_context c.args.context) c.self.view_is

pub returns-then-index-context-clause-ok : goal.returns-then-index-context-clause-ok
returns-then-index-context-clause-ok c =
    replaced c.args.context c.index.result.now c.self.inside.contexts.items c.deref.result.now c.in-Some.i (sym c.deref.ensures.value) c.in-Some.ensures c.index.ensures c.if-index-context.true
    ∙ ap (with_context c.args.context) c.self.view_is

pub returns-in_ok-insert-clause-ok : goal.returns-in_ok-insert-clause-ok
returns-in_ok-insert-clause-ok c =
    c.in_ok-insert.ensures.items
    ∙ inserted c.args.context c.index.result.now c.self.inside.contexts.items c.deref.result.now c.in-Some.i (sym c.deref.ensures.value) c.in-Some.ensures c.index.ensures c.if-index-context.false
    ∙ ap (with_context c.args.context) c.self.view_is
