use Rattle.std.proofs.Common.{List, ℕ, subst}
use Rattle.modem_sim.specs.declared.state.ModemState.{ModemState}
use Rattle.ctl_sim.specs.EndlessClients.{PassesToEndless}
use Rattle.ctl_sim.specs.Leaving.{IsOfModemBy}
use Rattle.ctl_sim.specs.Standing.{setting_by}
use Rattle.ctl_sim.proofs.EndlessClients.{passes_then_endless}
use Rattle.ctl_sim.proofs.Leaving.{endless_so, given_so}
use Rattle.ctl_sim.specs.Watching.{PassesOn}
use Rattle.ctl_sim.proofs.Watched.{passes_both}
use Rattle.ctl_sim.proofs.parts.pass.Goals as goal

pub returns-in_err-next-clause-fault : goal.returns-in_err-next-clause-fault
returns-in_err-next-clause-fault g c =
    given_so
    (IsOfModemBy ((m : ModemState) → PassesToEndless g.M.Answering.holds g.M.Answering.undecided g.V.Watcher.sees g.V.Watcher.begins g.M.Answering.endless (setting_by c.args.setup.now m) c.args.first c.args.watcher.now c.args.octets.now))
    _ _ c.from_residual-in_err-next.ensures.1
    (endless_so
    {P = (m : ModemState) → PassesToEndless g.M.Answering.holds g.M.Answering.undecided g.V.Watcher.sees g.V.Watcher.begins g.M.Answering.endless (setting_by c.args.setup.now m) c.loop-rest.now c.loop-rest.watcher c.as_slice.result.now}
    {Q = (m : ModemState) → PassesToEndless g.M.Answering.holds g.M.Answering.undecided g.V.Watcher.sees g.V.Watcher.begins g.M.Answering.endless (setting_by c.args.setup.now m) c.args.first c.args.watcher.now c.args.octets.now} _
    (λ endless m.
    passes_then_endless g.M.Answering.holds g.M.Answering.undecided g.V.Watcher.sees g.V.Watcher.begins g.M.Answering.endless (setting_by c.args.setup.now m) c.args.first c.loop-rest.now c.args.watcher.now c.loop-rest.watcher
    c.args.octets.now c.loop-rest.rest.items c.as_slice.result.now c.args.out.now.items c.loop-rest.out.items (c.loop-rest.invariant.passes m) c.as_slice.ensures.value (endless m))
    c.in_err-next.ensures.fault)

pub loop-rest-preserved : goal.loop-rest-preserved
loop-rest-preserved g c = record {
  passes = λ m.
      passes_both g.M.Answering.holds g.M.Answering.undecided g.V.Watcher.sees g.V.Watcher.begins (setting_by c.args.setup.now m) c.args.first c.loop-rest.now c.in_ok-next.next c.args.watcher.now c.loop-rest.watcher c.pass_part.new.watcher
      c.args.octets.now c.loop-rest.rest.items c.as_slice.result.now c.in_ok-next.behind.items c.args.out.now.items c.loop-rest.out.items c.pass_part.new.out.items (c.loop-rest.invariant.passes m) c.as_slice.ensures.value (c.in_ok-next.ensures.passes m);
  pending = c.in_ok-next.ensures.pending;
}

pub returns-then-not-entered-clause-passes : goal.returns-then-not-entered-clause-passes
returns-then-not-entered-clause-passes g c = λ m.
    subst (λ (l : List ℕ). PassesOn g.M.Answering.holds g.M.Answering.undecided g.V.Watcher.sees g.V.Watcher.begins (setting_by c.args.setup.now m) c.args.first c.in_ok-next.next c.args.watcher.now c.pass_part.new.watcher c.args.octets.now l c.args.out.now.items c.pass_part.new.out.items)
    (c.in_ok-next.ensures.all c.if-not-entered.true)
    (passes_both g.M.Answering.holds g.M.Answering.undecided g.V.Watcher.sees g.V.Watcher.begins (setting_by c.args.setup.now m) c.args.first c.loop-rest.now c.in_ok-next.next c.args.watcher.now c.loop-rest.watcher c.pass_part.new.watcher
    c.args.octets.now c.loop-rest.rest.items c.as_slice.result.now c.in_ok-next.behind.items c.args.out.now.items c.loop-rest.out.items c.pass_part.new.out.items (c.loop-rest.invariant.passes m) c.as_slice.ensures.value (c.in_ok-next.ensures.passes m))
