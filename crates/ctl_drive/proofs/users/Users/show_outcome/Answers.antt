-- An outcome was taken, of a line or of something that was asked beside the lines.
use Rattle.std.proofs.Common.{refl, rules}
use Rattle.ctl_drive.proofs.Besides.{looks, told_noted}
use Rattle.ctl_drive.proofs.Lines.{tells_line}
use Rattle.ctl_drive.proofs.users.Users.show_outcome.Goals as goal

pub returns-in_default-clause-goes : goal.returns-in_default-clause-goes
returns-in_default-clause-goes g c =
    looks (g.W.Write.contents c.args.output.now) c.args.self.now c.take.new.self c.args.self.now.under_way (search rules) (search rules) (search rules) (search rules) refl

pub returns-in-Some-asked-clause-goes : goal.returns-in-Some-asked-clause-goes
returns-in-Some-asked-clause-goes g c =
    told_noted (g.W.Write.contents c.args.output.now) c.args.self.now c.take_told.new.self c.take.new.self c.in-Some.outcome c.in-Some-asked.asked
    (record { place = c.take.ensures.place.0; submitted = c.take.ensures.place.1; before = c.take.ensures.place.2; got = c.in-Some.ensures.got })
    (search rules) (search rules) c.take_told.ensures

pub returns-in_ok-show_told-in_default-asked-clause-goes : goal.returns-in_ok-show_told-in_default-asked-clause-goes
returns-in_ok-show_told-in_default-asked-clause-goes g c =
    tells_line (g.W.Write.contents c.args.output.now) (g.W.Write.contents c.show_told.new.output) c.args.self.now c.show_told.new.self c.take.new.self c.in-Some.outcome
    (record { place = c.take.ensures.place.0; submitted = c.take.ensures.place.1; before = c.take.ensures.place.2; got = c.in-Some.ensures.got })
    c.in_ok-show_told-in_default-asked.ensures
