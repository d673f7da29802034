use Rattle.std.specs.Prelude.{refl}
use Rattle.ctl_run.proofs.inputs.Dumps.{word_cut}
use Rattle.ctl_run.proofs.dump.next_word.Goals as goal

pub returns-clause-cut : goal.returns-clause-cut
returns-clause-cut c = word_cut _ _ _ _ _ c.split_once.ensures refl refl c.unwrap_or.ensures
