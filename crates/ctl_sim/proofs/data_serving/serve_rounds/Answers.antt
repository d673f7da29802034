use Rattle.std.specs.Prelude.{refl}
use Rattle.std.proofs.Common.{◌∙◌}
use Rattle.ctl_sim.proofs.DataEnding.{unsent_none, unsent_then}
use Rattle.ctl_sim.proofs.data_serving.serve_rounds.Goals as goal

pub loop-init : goal.loop-init
loop-init g c = record { named = refl; says = unsent_none _ }

pub loop-preserved : goal.loop-preserved
loop-preserved g c = record { named = c.round.ensures.named ∙ c.loop.invariant.named; says = unsent_then _ _ _ c.loop.invariant.says c.round.ensures.said }

pub returns-in_err-round-clause-said : goal.returns-in_err-round-clause-said
returns-in_err-round-clause-said g c = unsent_then _ _ _ c.loop.invariant.says c.round.ensures.said

pub returns-then-branch-clause-said : goal.returns-then-branch-clause-said
returns-then-branch-clause-said g c = unsent_then _ _ _ c.loop.invariant.says c.round.ensures.said
