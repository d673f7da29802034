-- The next line, or none.
use Rattle.std.proofs.Common.{ℕ, [], ◌∷◌, Option, subst}
use Rattle.std.specs.declared.vec.Vec.{Vec}
use Rattle.std.specs.declared.alloc.Global.{Global}
use Rattle.ctl_drive.specs.Input.{Reads, line_in}
use Rattle.ctl_drive.proofs.Reading.{reads_then}
use Rattle.ctl_drive.proofs.input.Lines.next.Goals as goal

pub returns-then-self : goal.returns-then-self
returns-then-self g c =
    reads_then c.args.self.now c.take_line.new.self c.take_last.new.self [] (line_in c.take_last.result)
    (subst (λ (o : Option (Vec ℕ Global)). Reads c.args.self.now c.take_line.new.self (line_in o)) c.in_default.is c.in_ok-line.ensures.reads) c.take_last.ensures

pub returns-in-Some-2 : goal.returns-in-Some-2
returns-in-Some-2 g c =
    reads_then c.args.self.now c.take_line.new.self c.take_line-2.new.self [] (c.in-Some-2.line.items ∷ [])
    (subst (λ (o : Option (Vec ℕ Global)). Reads c.args.self.now c.take_line.new.self (line_in o)) c.in_default.is c.in_ok-line.ensures.reads)
    (reads_then c.take_line.new.self c.read_on.new.self c.take_line-2.new.self [] (c.in-Some-2.line.items ∷ []) c.in_ok-read_on.ensures
    (subst (λ (o : Option (Vec ℕ Global)). Reads c.read_on.new.self c.take_line-2.new.self (line_in o)) c.in-Some-2.is c.in_ok-line-2.ensures.reads))

pub returns-in-None : goal.returns-in-None
returns-in-None g c =
    reads_then c.args.self.now c.take_line.new.self c.take_last-in-None.new.self [] (line_in c.take_last-in-None.result)
    (subst (λ (o : Option (Vec ℕ Global)). Reads c.args.self.now c.take_line.new.self (line_in o)) c.in_default.is c.in_ok-line.ensures.reads)
    (reads_then c.take_line.new.self c.read_on.new.self c.take_last-in-None.new.self [] (line_in c.take_last-in-None.result) c.in_ok-read_on.ensures
    (reads_then c.read_on.new.self c.take_line-2.new.self c.take_last-in-None.new.self [] (line_in c.take_last-in-None.result)
    (subst (λ (o : Option (Vec ℕ Global)). Reads c.read_on.new.self c.take_line-2.new.self (line_in o)) c.in-None.is c.in_ok-line-2.ensures.reads) c.take_last-in-None.ensures))
