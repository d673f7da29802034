use Rattle.std.specs.Prelude.{refl}
use Rattle.data_files.proofs.Growing.{write_grows}
use Rattle.data_files.proofs.data_file.DataFile.write_file.Goals as goal

pub returns-in-Ok-clause-grows : goal.returns-in-Ok-clause-grows
returns-in-Ok-clause-grows g c = rw (← c.self.view_is) (write_grows g.P.SerialLine.seen _ _ c.write.result c.write.ensures.same.0 c.write.ensures.same.1
    c.write.ensures.split c.write.ensures.count c.write.ensures.err c.write.ensures.stalled (λ q. q) refl)

pub returns-in-Err-clause-grows : goal.returns-in-Err-clause-grows
returns-in-Err-clause-grows g c = rw (← c.self.view_is) (write_grows g.P.SerialLine.seen _ _ c.write.result c.write.ensures.same.0 c.write.ensures.same.1
    c.write.ensures.split c.write.ensures.count c.write.ensures.err c.write.ensures.stalled (λ q. refl) refl)
