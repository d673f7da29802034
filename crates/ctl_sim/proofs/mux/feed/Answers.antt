use Rattle.std.proofs.Common.{◌++◌, [], ap, ◌∙◌}
use Rattle.modem_sim.specs.Stills.{at_line}
use Rattle.ctl_sim.specs.HeldLine.{HeldState}
use Rattle.ctl_sim.specs.declared.fault.ServeFault.{ServeFault}
use Rattle.ctl_sim.specs.Endless.{IsUnanswered}
use Rattle.ctl_sim.proofs.Endless.{not_handed, not_taken, unanswered}
use Rattle.ctl_sim.proofs.Leaving.{given_so}
use Rattle.ctl_sim.proofs.Muxes.{fed_by}
use Rattle.ctl_sim.proofs.mux.feed.Goals as goal

pub returns-in_err-put-clause-fault : goal.returns-in_err-put-clause-fault
returns-in_err-put-clause-fault c =
    given_so (λ (f : ServeFault). IsUnanswered f c.args.sim.now (at_line c.put.new.self c.args.sim.now.machine) c.args.piece.now) _ ServeFault.NoMemory c.from_residual.ensures.1
    (not_handed c.args.sim.now c.put.new.self c.args.piece.now (c.in_err-put.ensures.err ∙ c.line_mut.ensures.value))

pub returns-in_err-ended-clause-fault : goal.returns-in_err-ended-clause-fault
returns-in_err-ended-clause-fault c =
    given_so (λ (f : ServeFault). IsUnanswered f c.args.sim.now c.settle.new.sim c.args.piece.now) _ _ c.from_residual-in_err-ended.ensures.1
    (unanswered _ c.args.sim.now (at_line c.put.new.self c.args.sim.now.machine) c.settle.new.sim c.args.piece.now
    (ap (λ (l : HeldState). at_line l c.args.sim.now.machine)
    (c.in_ok-put.ensures.ok ∙ ap (λ (l : HeldState). record l { waiting = l.waiting ++ c.args.piece.now }) c.line_mut.ensures.value)) c.in_err-ended.ensures.fault)

pub returns-in_err-take-clause-fault : goal.returns-in_err-take-clause-fault
returns-in_err-take-clause-fault c =
    given_so (λ (f : ServeFault). IsUnanswered f c.args.sim.now (at_line c.take.new.self c.settle.new.sim.machine) c.args.piece.now) _ ServeFault.NoMemory c.from_residual-in_err-take.ensures.1
    (not_taken c.in_ok-ended.ended c.args.sim.now (at_line c.put.new.self c.args.sim.now.machine) c.settle.new.sim (at_line c.take.new.self c.settle.new.sim.machine) c.args.piece.now
    (ap (λ (l : HeldState). at_line l c.args.sim.now.machine)
    (c.in_ok-put.ensures.ok ∙ ap (λ (l : HeldState). record l { waiting = l.waiting ++ c.args.piece.now }) c.line_mut.ensures.value)) c.in_ok-ended.ensures.rests c.in_ok-ended.ensures.ends
    (ap (λ (l : HeldState). at_line l c.settle.new.sim.machine) (c.in_err-take.ensures.err.0 ∙ c.line_mut-2.ensures.value)))

pub returns-clause-fed : goal.returns-clause-fed
returns-clause-fed c =
    let line = c.line_mut-2.ensures.value in
    fed_by c.args.sim.now (at_line c.put.new.self c.args.sim.now.machine) c.settle.new.sim (at_line c.take.new.self c.settle.new.sim.machine) c.args.piece.now c.args.out.now.items
    c.take.new.out.items c.is_up-was_up.result c.is_up.result c.in_ok-ended.ended c.is_over.result c.is_up-was_up.ensures
    (ap (λ (l : HeldState). at_line l c.args.sim.now.machine)
    (c.in_ok-put.ensures.ok ∙ ap (λ (l : HeldState). record l { waiting = l.waiting ++ c.args.piece.now }) c.line_mut.ensures.value))
    c.settle.ensures.goes c.settle.ensures.side c.in_ok-ended.ensures.rests c.in_ok-ended.ensures.ends
    (c.in_ok-take.ensures.out ∙ ap (λ (l : HeldState). c.args.out.now.items ++ l.going) line)
    (ap (λ (l : HeldState). at_line l c.settle.new.sim.machine)
    (c.in_ok-take.ensures.line ∙ ap (λ (l : HeldState). record l { taken = l.taken ++ l.going; going = [] }) line))
    c.is_up.ensures c.is_over.ensures
