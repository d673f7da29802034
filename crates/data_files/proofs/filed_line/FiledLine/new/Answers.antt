use Rattle.data_files.proofs.Begins.{all_fresh}
use Rattle.data_files.proofs.filed_line.FiledLine.new.Goals as goal

pub with_role-requires-clause-fits : goal.with_role-requires-clause-fits
with_role-requires-clause-fits g c = all_fresh g.P.SerialLine.seen c.args.files.items c.requires.fresh
