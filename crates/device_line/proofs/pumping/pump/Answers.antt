-- What flows in a turn comes behind what flowed in those before it.
use Rattle.std.specs.Prelude.{ℕ, List, refl}
use Rattle.std.proofs.Common.{arith, ◌∙◌, ap, Some, sym, subst}
use Rattle.rtrb.specs.Ring.{sent}
use Rattle.device_line.specs.Flows.{FlowsIn}
use Rattle.device_line.proofs.Written.{both_in, none_in, not_some, still_in}
use Rattle.device_line.proofs.pumping.pump.Goals as goal
use Rattle.device_line.proofs.pumping.pump.Goals.{then-is_over-via-then-is_over, then-is_over-via-else-is_over+then-is_abandoned}

pub returns-then-is_over-clause-flows : goal.returns-then-is_over-clause-flows
returns-then-is_over-clause-flows g c other = absurd (other refl)

pub returns-then-is_over-clause-stopped : goal.returns-then-is_over-clause-stopped
returns-then-is_over-clause-stopped g c _ =
    elim c.then-is_over.branch [
      | then-is_over-via-then-is_over w ↦ still_in 512 (sent c.args.ring.now) (sent c.loop.ring) (sent c.then-is_over.ring) _ _ c.loop.invariant.flows (ap (λ r. sent r) w.ring-is)
      | then-is_over-via-else-is_over+then-is_abandoned w ↦ still_in 512 (sent c.args.ring.now) (sent c.loop.ring) (sent c.then-is_over.ring) _ _ c.loop.invariant.flows
          (ap (λ r. sent r) w.ring-is ∙ w.is_abandoned.ensures.1)
    ]

pub returns-in-Some-clause-flows : goal.returns-in-Some-clause-flows
returns-in-Some-clause-flows g c = λ other.
    let looked = subst (λ (l : List ℕ). FlowsIn 0 (sent c.args.ring.now) l (g.R.Read.remaining c.args.reader.now) (g.R.Read.remaining c.loop.reader)) (sym c.is_abandoned.ensures.1) c.loop.invariant.flows in
    both_in 0 _ _ _ _ _ _ looked (c.in-Some.ensures.flows (not_some _ _ other))

pub returns-in-Some-clause-stopped : goal.returns-in-Some-clause-stopped
returns-in-Some-clause-stopped g c stopped =
    let looked = subst (λ (l : List ℕ). FlowsIn 0 (sent c.args.ring.now) l (g.R.Read.remaining c.args.reader.now) (g.R.Read.remaining c.loop.reader)) (sym c.is_abandoned.ensures.1) c.loop.invariant.flows in
    both_in 512 _ _ _ _ _ _ looked (c.in-Some.ensures.stopped (ap (λ e. Some e) stopped))

pub returns-clause-flows : goal.returns-clause-flows
returns-clause-flows g c _ = c.loop.invariant.flows

pub returns-clause-stopped : goal.returns-clause-stopped
returns-clause-stopped g c _ = both_in 512 _ _ _ _ _ _ c.loop.invariant.flows (none_in 512 _ _)

pub loop-preserved : goal.loop-preserved
loop-preserved g c =
    let looked = subst (λ (l : List ℕ). FlowsIn 0 (sent c.args.ring.now) l (g.R.Read.remaining c.args.reader.now) (g.R.Read.remaining c.loop.reader)) (sym c.is_abandoned.ensures.1) c.loop.invariant.flows in
    record {
      ring = grind (arith);
      flows = both_in 0 _ _ _ _ _ _ looked (c.in_default.ensures.flows (λ e. cc));
    }
