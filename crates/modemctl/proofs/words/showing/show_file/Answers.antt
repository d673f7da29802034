-- What is said of a capture that isn't shown to its end.
use Rattle.std.specs.Prelude.{codes}
use Rattle.modemctl.proofs.ShownFiles.{says_closed}
use Rattle.modemctl.proofs.words.showing.show_file.Goals as goal

pub returns-in-Ok-clause-said : goal.returns-in-Ok-clause-said
returns-in-Ok-clause-said g c = λ one. c.show_reader.ensures.said one (codes "capture") c.args.path.now

pub returns-in-Err-clause-said : goal.returns-in-Err-clause-said
returns-in-Err-clause-said g c = λ one. says_closed _ _ _ _ _ _ c.refuse_file.ensures.said
