-- The line is cleared.
use Rattle.std.proofs.Common.{rules}
use Rattle.show_texts.proofs.Progressing.{ends_clear}
use Rattle.show_texts.proofs.progress.Progress.end.Goals as goal

pub returns-then-self-ge-STEP-clause-ends : goal.returns-then-self-ge-STEP-clause-ends
returns-then-self-ge-STEP-clause-ends g c =
    λ before n h. ends_clear c.args.self.now _ before n (search rules) (search rules) (search rules) (search rules) h
