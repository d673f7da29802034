use Rattle.ctl_run.proofs.inputs.WordFaults.{deed_at}
use Rattle.ctl_run.proofs.steps.word_fault.Goals as goal

pub returns : goal.returns
returns c = deed_at c.args.words.now c.first_word.result.0.now c.lone_fault.result c.first_word.ensures.word c.lone_fault.ensures c.requires.front c.requires.word
