-- The core said what the backlog calls for, or there was no room for it.
use Rattle.std.proofs.Common.{◌≡◌, sym, ◌∙◌, subst, ℕ, Bool, false, refl}
use Rattle.std.specs.Prelude.{not, length, ◌==◌, is_some, Option, Some, None}
use Rattle.modem_history.specs.Sessions.{backlog_in}
use Rattle.modem_core.specs.Cores.{Core}
use Rattle.modem_core.specs.Holding.{Flows, HasNoRoom, NeverDue, due_in, acts_due}
use Rattle.modem_driver.specs.BacklogChecks.{ChecksOne}
use Rattle.modem_driver.specs.SessionStates.{Machine}
use Rattle.modem_driver.proofs.sessions.steps.OneBacklog.{checks_one, checks_never, checks_full}
use Rattle.modem_driver.proofs.sessions.steps.MachineParts.{machine_of}
use Rattle.modem_driver.proofs.machine.Machine.check_backlog.Goals as goal
use Rattle.modem_driver.proofs.machine.Machine.check_backlog.Goals.{in-Some, in-None}

some_due : (n : ℕ) (o : Option Bool) → not (length (acts_due n o) == 0) ≡ is_some o
some_due n None = refl
some_due n (Some go) = refl

pub returns-then-not-checks : goal.returns-then-not-checks
returns-then-not-checks c =
    let d = c.args.dlci.number in
    let never : NeverDue c.args.self.now.core d = subst (λ (v : Machine). NeverDue v.core d) c.self.view_is (c.checks.ensures c.if-not-checks.true) in
    checks_never c.args.self.now d never

pub returns : goal.returns
returns c =
    let k = c.self.inside in
    let d = c.args.dlci.number in
    let old : Machine = machine_of k in
    let core = c.do_backlog.new.self in
    let new : Machine = record old { core = core } in
    let lines = c.backlog-lines.ensures in
    elim c.match-do_backlog.branch [
      | in-Some w ↦
          let due = due_in k.core d c.backlog-lines.result in
          let flows : Flows k.core core d (backlog_in d k.waiting.lines) (acts_due d due) = subst (λ (n : ℕ). Flows k.core core d n (acts_due d due)) lines w.in-Some.ensures.past in
          let moved : not (length (acts_due d due) == 0) ≡ c.match-do_backlog.result = some_due d due ∙ (sym w.in-Some.ensures.moved ∙ sym w.result-is) in
          subst (λ (v : Machine). ChecksOne d v new c.match-do_backlog.result) c.self.view_is
          (subst (λ (m : Bool). ChecksOne d old new m) moved (checks_one old core d (acts_due d due) due refl flows))
      | in-None w ↦
          let full : HasNoRoom k.core d (backlog_in d k.waiting.lines) = subst (λ (n : ℕ). HasNoRoom k.core d n) lines w.in-None.ensures.no_room in
          subst (λ (m : Bool). ChecksOne d c.args.self.now new m) (sym w.result-is)
          (subst (λ (v : Machine). ChecksOne d v new false) c.self.view_is
          (subst (λ (v : Core). ChecksOne d old (record old { core = v }) false) (sym w.in-None.ensures.stays) (checks_full old d full)))
    ]
