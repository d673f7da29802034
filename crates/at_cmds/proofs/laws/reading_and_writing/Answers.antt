use Rattle.at_cmds.proofs.command_texts.ReadAndWritten.{of_one}
use Rattle.at_cmds.proofs.laws.reading_and_writing.Goals as goal

pub returns-clause-one : goal.returns-clause-one
returns-clause-one c = of_one
