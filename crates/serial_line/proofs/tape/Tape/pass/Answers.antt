-- What passes now comes after what had passed before.
use Rattle.serial_line.proofs.PassedOctets.{passes_more}
use Rattle.serial_line.proofs.tape.Tape.pass.Goals as goal

pub returns : goal.returns
returns c = rw (← c.self.view_is) (passes_more c.self.inside.octets.items c.self.inside.passed c.args.count c.self.inside.room)
