-- An entry goes on call by call, to its end.
use Rattle.std.proofs.Common.{arith, subst, sym}
use Rattle.modem_driver.specs.Entries.{IsUnderWay, answer_by}
use Rattle.modem_driver.proofs.Entries.{begun, goes_on, ends_by_code, ends_failed, says_entered, says_answer, none_answered}
use Rattle.modem_driver.proofs.entering.enter.Goals as goal

pub loop-init : goal.loop-init
loop-init g c =
    let l = g.L.SerialLine.seen c.args.line.now in
    subst (IsUnderWay 0 l l) (sym c.new-entry.ensures) (begun l)

pub loop-preserved : goal.loop-preserved
loop-preserved g c =
    goes_on c.loop.counter _ _ _ c.loop.entry c.go_on.new.self c.in-Ok-None.field-0 c.loop.invariant c.in-Ok-None.ensures.goes c.in-Ok-None.field-0-is

pub returns-in-Ok-Some-clause-entered : goal.returns-in-Ok-Some-clause-entered
returns-in-Ok-Some-clause-entered g c =
    says_entered c.args.turns _ _ (answer_by c.in-Ok-Some.code) c.said_by.result
    (ends_by_code c.loop.counter c.args.turns _ _ _ c.loop.entry c.go_on.new.self c.in-Ok-Some.field-0 c.in-Ok-Some.code c.loop.invariant c.in-Ok-Some.ensures.goes c.in-Ok-Some.field-0-is c.loop-test.true)
    c.said_by.ensures.entered

pub returns-in-Ok-Some-clause-not_entered : goal.returns-in-Ok-Some-clause-not_entered
returns-in-Ok-Some-clause-not_entered g c =
    says_answer c.args.turns _ _ (answer_by c.in-Ok-Some.code) c.said_by.result
    (ends_by_code c.loop.counter c.args.turns _ _ _ c.loop.entry c.go_on.new.self c.in-Ok-Some.field-0 c.in-Ok-Some.code c.loop.invariant c.in-Ok-Some.ensures.goes c.in-Ok-Some.field-0-is c.loop-test.true)
    c.said_by.ensures.not_entered

pub returns-in-Err-clause-not_entered : goal.returns-in-Err-clause-not_entered
returns-in-Err-clause-not_entered g c = ends_failed c.loop.counter c.args.turns _ _ _ c.loop.entry c.loop.invariant c.in-Err.ensures.fails c.loop-test.true

pub returns-clause-not_entered : goal.returns-clause-not_entered
returns-clause-not_entered g c =
    none_answered c.loop.counter c.args.turns _ _ c.loop.entry c.loop.invariant (omega (arith, c.loop.auto.counter-end, c.loop-test.false))
