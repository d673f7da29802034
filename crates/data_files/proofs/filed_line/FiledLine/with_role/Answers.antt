use Rattle.std.proofs.Common.{subst}
use Rattle.data_files.specs.Moves.{HasBegunTo}
use Rattle.modem_data_line.specs.DataLines.{new_data_line}
use Rattle.data_files.proofs.Begins.{begins_filed, has_begun}
use Rattle.data_files.proofs.filed_line.FiledLine.with_role.Goals as goal

pub invariant_of-result : goal.invariant_of-result
invariant_of-result g c = has_begun g.L.SerialLine.seen g.P.SerialLine.seen c.args.line c.args.relay c.args.role c.args.n1 c.args.files.items c.in_ok-line.line c.of-before.result c.requires.relay
    (subst (λ fs. HasBegunTo g.L.SerialLine.seen fs (new_data_line c.args.line c.args.relay) c.in_ok-line.line) c.as_slice.ensures.value c.in_ok-line.ensures) c.of-before.ensures c.requires.fits

pub returns : goal.returns
returns g c = record {
  begins = begins_filed g.L.SerialLine.seen c.args.line c.args.relay c.args.role c.args.n1 c.args.files.items c.in_ok-line.line c.of-before.result c.requires.relay
      (subst (λ fs. HasBegunTo g.L.SerialLine.seen fs (new_data_line c.args.line c.args.relay) c.in_ok-line.line) c.as_slice.ensures.value c.in_ok-line.ensures) c.of-before.ensures;
}
