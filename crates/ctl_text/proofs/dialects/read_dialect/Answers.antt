use Rattle.std.specs.Prelude.{ℕ, take}
use Rattle.std.proofs.Common.{sym, subst}
use Rattle.ctl_text.proofs.DialectLines.{made_add, made_all, made_none, made_pass, none_there, one_less, refused_there}
use Rattle.ctl_text.specs.DialectTexts.{RefusesAt, rule_in}
use Rattle.ctl_text.specs.Input.{input_lines}
use Rattle.ctl_text.proofs.dialects.read_dialect.Goals as goal

pub loop-line-init : goal.loop-line-init
loop-line-init c = made_none c.args.text.now c.standard-dialect.result c.standard-dialect.ensures

pub loop-line-preserved-then-is_passed_over : goal.loop-line-preserved-then-is_passed_over
loop-line-preserved-then-is_passed_over c =
    made_pass c.args.text.now c.loop-line.left.now c.in-Some.line.now c.in-Some.rest.now c.loop-line.place c.loop-line.dialect
    c.loop-line.invariant c.in-Some.ensures.cut c.in-Some.ensures.shorter (sym c.if-is_passed_over.ensures)

pub returns-in-Err : goal.returns-in-Err
returns-in-Err c =
    none_there c.args.text.now c.loop-line.left.now c.in-Some.line.now c.in-Some.rest.now c.loop-line.place c.loop-line.dialect c.in-Err.part
    c.loop-line.invariant c.in-Some.ensures.cut (sym c.if-is_passed_over.ensures) c.in-Err.ensures

pub returns-in-Err-add_rule : goal.returns-in-Err-add_rule
returns-in-Err-add_rule c =
    refused_there c.args.text.now c.loop-line.left.now c.in-Some.line.now c.in-Some.rest.now c.loop-line.place c.loop-line.dialect (rule_in c.in-Ok.rule) c.in-Err-add_rule.why c.refusal_behind.result
    c.loop-line.invariant c.in-Some.ensures.cut c.in-Ok.ensures c.in-Err-add_rule.ensures.refused
    (subst (λ (n : ℕ). RefusesAt (rule_in c.in-Ok.rule) (take n (input_lines c.args.text.now)) n c.in-Err-add_rule.why c.refusal_behind.result) (one_less c.loop-line.place) c.refusal_behind.ensures)

pub loop-line-preserved : goal.loop-line-preserved
loop-line-preserved c =
    made_add c.args.text.now c.loop-line.left.now c.in-Some.line.now c.in-Some.rest.now c.loop-line.place c.loop-line.dialect c.add_rule.new.dialect (rule_in c.in-Ok.rule)
    c.loop-line.invariant c.in-Some.ensures.cut c.in-Some.ensures.shorter c.in-Ok.ensures c.in_default-add_rule.ensures.taken c.in_default-add_rule.ensures.added

pub returns : goal.returns
returns c = made_all c.args.text.now c.loop-line.left.now c.loop-line.place c.loop-line.dialect c.loop-line.invariant c.in_default.ensures.cut
