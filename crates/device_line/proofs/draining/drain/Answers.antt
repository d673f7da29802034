-- What flows in a turn comes behind what flowed in those before it.
use Rattle.std.proofs.Common.{arith, ap, inl, inr, refl, rules, Some}
use Rattle.device_line.proofs.Written.{both_out, none_out}
use Rattle.device_line.proofs.draining.drain.Goals as goal

pub returns-then-is_over-clause-flows : goal.returns-then-is_over-clause-flows
returns-then-is_over-clause-flows g c end = absurd (cc)

pub returns-then-is_over-clause-first : goal.returns-then-is_over-clause-first
returns-then-is_over-clause-first g c = both_out 512 _ _ _ _ _ _ c.loop.invariant.flows (none_out 512 _ _)

pub returns-in-Some-turn-clause-flows : goal.returns-in-Some-turn-clause-flows
returns-in-Some-turn-clause-flows g c end = both_out 0 _ _ _ _ _ _ c.loop.invariant.flows (c.in-Some-turn.ensures.flows (inr (ap (λ e. Some e) end)))

pub returns-in-Some-turn-clause-first : goal.returns-in-Some-turn-clause-first
returns-in-Some-turn-clause-first g c = both_out 512 _ _ _ _ _ _ c.loop.invariant.flows c.in-Some-turn.ensures.first

pub loop-init : goal.loop-init
loop-init g c = record { iterator = search rules; ring = search rules; flows = none_out 0 _ _ }

pub loop-preserved : goal.loop-preserved
loop-preserved g c = record {
  iterator = search rules;
  ring = grind (arith);
  flows = both_out 0 _ _ _ _ _ _ c.loop.invariant.flows (c.in_default.ensures.flows (inl refl));
}
