-- One round after the other.
use Rattle.std.proofs.Common.{◌≡◌, ℕ, arith, subst}
use Rattle.modem_bench.specs.Rounds.{Rounds, by_round, no_round, one_more, pair, used_up}
use Rattle.modem_bench.proofs.JointLists.{joins_none, joins_then}
use Rattle.modem_bench.proofs.OneLine.{stays_none, stays_then}
use Rattle.modem_bench.proofs.rounds.steps.Goals as goal

pub loop-init : goal.loop-init
loop-init g c = record { rounds = no_round; joins = joins_none (pair c.args.session.now c.args.sim.now); one_line = stays_none (pair c.args.session.now c.args.sim.now) }

pub loop-preserved : goal.loop-preserved
loop-preserved g c =
    let old = pair c.args.session.now c.args.sim.now in
    let mid = pair c.loop.session c.loop.sim in
    let new = pair c.step.new.session c.step.new.sim in
    record {
      rounds = one_more c.loop.counter mid new c.loop.invariant.rounds c.in-None.ensures.goes;
      joins = joins_then old mid new c.loop.invariant.joins c.step.ensures.joins;
      one_line = stays_then old mid new c.loop.invariant.one_line c.step.ensures.one_line;
    }

pub returns-in-Some-clause-ended : goal.returns-in-Some-clause-ended
returns-in-Some-clause-ended g c =
    let last = c.loop-test.true in
    by_round c.loop.counter (pair c.loop.session c.loop.sim) c.in-Some.end (omega (arith, last)) c.loop.invariant.rounds c.in-Some.ensures.ends

pub returns-in-Some-clause-joins : goal.returns-in-Some-clause-joins
returns-in-Some-clause-joins g c =
    joins_then (pair c.args.session.now c.args.sim.now) (pair c.loop.session c.loop.sim) (pair c.step.new.session c.step.new.sim) c.loop.invariant.joins c.step.ensures.joins

pub returns-clause-ended : goal.returns-clause-ended
returns-clause-ended g c =
    let At : ℕ → Type 0 = λ n. Rounds c.args.cut (pair c.args.session.now c.args.sim.now) n (pair c.loop.session c.loop.sim) in
    let last = c.loop-test.false in
    let in_range = c.loop.invariant in
    let all : c.loop.counter ≡ c.args.rounds = omega arith in
    used_up (subst At all in_range.rounds)

pub returns-clause-joins : goal.returns-clause-joins
returns-clause-joins g c = c.loop.invariant.joins

pub returns-in-Some-clause-one_line : goal.returns-in-Some-clause-one_line
returns-in-Some-clause-one_line g c =
    stays_then (pair c.args.session.now c.args.sim.now) (pair c.loop.session c.loop.sim) (pair c.step.new.session c.step.new.sim) c.loop.invariant.one_line c.step.ensures.one_line

pub returns-clause-one_line : goal.returns-clause-one_line
returns-clause-one_line g c = c.loop.invariant.one_line
