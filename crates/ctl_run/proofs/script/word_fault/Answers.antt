use Rattle.ctl_run.proofs.inputs.WordFaults.{event_at}
use Rattle.ctl_run.proofs.script.word_fault.Goals as goal

pub returns : goal.returns
returns c = event_at c.args.line.now c.first_word.result.0.now c.lone_fault.result c.first_word.ensures.word c.lone_fault.ensures c.requires.front c.requires.word
