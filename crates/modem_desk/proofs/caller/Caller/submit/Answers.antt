use Rattle.std.proofs.Common.{rules, ◌≡◌, ◌+◌, length, ap, sym, ◌∙◌}
use Rattle.crossbeam_queue.specs.Passes.{view}
use Rattle.modem_desk.proofs.queue_rule.RuleSteps.{submits}
use Rattle.modem_desk.proofs.queue_rule.CallerNumbers.{one_more}
use Rattle.modem_desk.proofs.caller.Caller.submit.Goals as goal

pub push_as-requires-clause-rule : goal.push_as-requires-clause-rule
push_as-requires-clause-rule g c =
    let next : c.in-Some.number ≡ c.self.inside.first + length (view c.self.inside.pass).submitted = c.in-Some.ensures.1 ∙ ap (λ n. c.self.inside.first + n) (sym c.self.invariant.5) in
    (submits _ _ _ _ (search rules) (search rules) (search rules) (one_more c.self.inside.first (view c.self.inside.pass).submitted (record { caller = c.self.inside.number; number = c.in-Some.number; ask = c.args.ask }) c.self.invariant.9 next), λ items views h at. tt)
