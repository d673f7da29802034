-- Something that was asked waits for its outcome.
use Rattle.std.proofs.Common.{ap, rules, ◌∙◌}
use Rattle.modem_desk.specs.declared.request.Request.{Request}
use Rattle.ctl_drive.specs.Asking.{submitted_on}
use Rattle.ctl_drive.specs.declared.users.Users.{Users}
use Rattle.ctl_drive.proofs.Asks.{submitted_other}
use Rattle.ctl_drive.proofs.Besides.{asks_noted}
use Rattle.ctl_drive.proofs.users.Users.ask.Goals as goal

pub returns-clause-goes : goal.returns-clause-goes
returns-clause-goes g c =
    let r : Request = record { caller = c.args.self.now.caller.place.number; number = c.in-Ok.number; ask = c.ask.result } in
    λ out.
    asks_noted out c.args.self.now _ c.submit.new.self r (record { number = c.in-Ok.number; control = c.args.control })
    (record { place = c.in-Ok.ensures.place.0; submitted = c.in-Ok.ensures.submitted; got = c.in-Ok.ensures.place.1; before = c.in-Ok.ensures.got_before })
    (search rules) c.in-Ok.ensures.next c.ask.ensures c.requires c.note_asked.ensures

pub returns-clause-asks : goal.returns-clause-asks
returns-clause-asks g c =
    let r : Request = record { caller = c.args.self.now.caller.place.number; number = c.in-Ok.number; ask = c.ask.result } in
    λ d.
    ap (λ (u : Users). submitted_on d u.caller.submitted) c.note_asked.ensures
    ∙ submitted_other c.submit.new.self.submitted c.args.self.now.caller.submitted r c.args.control c.in-Ok.ensures.submitted c.ask.ensures d
