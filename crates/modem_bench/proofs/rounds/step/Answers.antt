-- How a round ends the rounds.
use Rattle.std.proofs.Common.{◌≡◌, ◌∙◌, sym}
use Rattle.modem_bench.specs.Rounds.{Says, judged_so, pair}
use Rattle.modem_bench.proofs.JointLists.{last_full}
use Rattle.modem_bench.proofs.rounds.step.Goals as goal

pub returns-in-Some-clause-ends : goal.returns-in-Some-clause-ends
returns-in-Some-clause-ends g c =
    let says : Says = record { near = c.round-said.result.near; far = c.round-said.result.far; moved = c.round-said.result.moved } in
    judged_so says c.in-Some.end c.round-said.ensures.round (sym c.judge.ensures ∙ c.in-Some.is)

pub returns-in-None-clause-ends : goal.returns-in-None-clause-ends
returns-in-None-clause-ends g c =
    let says : Says = record { near = c.round-said.result.near; far = c.round-said.result.far; moved = c.round-said.result.moved } in
    let mid = pair c.round-said.new.session c.round-said.new.sim in
    let new = pair c.full_end.new.session c.full_end.new.sim in
    let same : new ≡ mid = λ i. pair (c.full_end.ensures.same.0 i) (c.full_end.ensures.same.1 i) in
    last_full c.args.cut c.args.room (pair c.args.session.now c.args.sim.now) mid new says c.full_end.result c.round-said.ensures.round (sym c.judge.ensures ∙ c.in-None.is) same c.full_end.ensures.ends c.full_end.ensures.full
