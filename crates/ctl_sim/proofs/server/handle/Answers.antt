use Rattle.std.proofs.Common.{ap, ◌∙◌}
use Rattle.ctl_sim.specs.Endless.{IsEndlessAt}
use Rattle.ctl_sim.specs.Leaving.{IsOfModemBy}
use Rattle.ctl_sim.proofs.Endless.{let_go}
use Rattle.ctl_sim.proofs.Leaving.{given_so}
use Rattle.modem_sim.specs.Sims.{modem_of}
use Rattle.ctl_sim.specs.Plain.{plain_begun}
use Rattle.ctl_sim.proofs.Stepping.{at_lines_by, flag_kept, in_mux_by}
use Rattle.ctl_sim.proofs.server.handle.Goals as goal

pub returns-in_err-is_over-clause-fault : goal.returns-in_err-is_over-clause-fault
returns-in_err-is_over-clause-fault c =
    given_so (IsOfModemBy (IsEndlessAt c.args.sim c.args.frame.now)) _ _ c.from_residual.ensures.1
    (let_go c.feed.result _ c.args.sim c.feed.new.sim c.args.frame.now c.in_err-is_over.ensures.refused c.feed.ensures.fault)

pub returns-then-is_over-clause-handles : goal.returns-then-is_over-clause-handles
returns-then-is_over-clause-handles c =
    at_lines_by c.args.setup.now c.args.sim c.feed.new.sim c.args.n1.octets c.args.frame.now c.args.out.now.items c.feed.new.out.items c.new.result c.in_ok-is_over.is_over
    c.if-is_over.true (c.new.ensures ∙ ap (plain_begun c.args.setup.now.n1.octets) (c.finish-line.ensures.1 ∙ ap modem_of c.in_ok-is_over.ensures.kept)) (rw c.in_ok-is_over.ensures.made at c.feed.ensures.fed)

pub returns-clause-handles : goal.returns-clause-handles
returns-clause-handles c =
    in_mux_by c.args.setup.now c.args.sim c.feed.new.sim _ c.args.n1.octets c.args.frame.now c.in_ok-kept.kept.items c.args.out.now.items c.feed.new.out.items c.in_ok-is_over.is_over
    c.if-is_over.false (c.in_ok-kept.ensures.kept ∙ c.in_ok-is_over.ensures.kept) (rw c.in_ok-kept.ensures.made at c.from_slice.ensures.items) (rw c.in_ok-is_over.ensures.made at c.feed.ensures.fed)

pub invariant_of-result : goal.invariant_of-result
invariant_of-result c = flag_kept c.args.n1.octets c.in_ok-kept.kept.items (rw c.in_ok-kept.ensures.made at c.from_slice.ensures.items)
