use Rattle.std.specs.Prelude.{refl}
use Rattle.std.proofs.Common.{arith}
use Rattle.ctl_text.specs.DialectTexts.{rule_in}
use Rattle.ctl_text.proofs.CommonLines.{read_all, read_clash, read_end, read_none, read_on}
use Rattle.ctl_text.proofs.clashes.line_of.Goals as goal

pub loop-place-init : goal.loop-place-init
loop-place-init c = (read_none (rule_in c.args.rule) c.args.text.now, omega arith)

pub returns-in_err-line : goal.returns-in_err-line
returns-in_err-line c =
    rw c.from_residual.ensures
    (read_end (rule_in c.args.rule) c.args.text.now c.loop-place.left.now c.loop-place.place c.args.count c.loop-place.invariant.0 c.in_err-line.ensures.cut c.loop-place.invariant.1)

pub returns-then-clashes_with : goal.returns-then-clashes_with
returns-then-clashes_with c =
    read_clash (rule_in c.args.rule) c.args.text.now c.loop-place.left.now c.in_ok-line.line.now c.in_ok-line.rest.now c.loop-place.place c.args.count
    c.loop-place.invariant.0 c.in_ok-line.ensures.cut c.loop-place-test.true (c.if-clashes_with.ensures.yes refl)

pub loop-place-preserved : goal.loop-place-preserved
loop-place-preserved c = (
  read_on (rule_in c.args.rule) c.args.text.now c.loop-place.left.now c.in_ok-line.line.now c.in_ok-line.rest.now c.loop-place.place
      c.loop-place.invariant.0 c.in_ok-line.ensures.cut (λ short. c.if-clashes_with.ensures.no short refl),
  (let less = c.loop-place-test.true in omega (arith, less)),
)

pub returns : goal.returns
returns c =
    read_all (rule_in c.args.rule) c.args.text.now c.loop-place.left.now c.loop-place.place c.args.count c.loop-place.invariant.0
    (let most = c.loop-place.invariant.1 in let least = c.loop-place-test.false in omega (arith, most, least))
