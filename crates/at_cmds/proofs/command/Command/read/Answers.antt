-- A command whose text is fixed is the only one of its text.
use Rattle.std.specs.Prelude.{Some, Ok}
use Rattle.std.proofs.Common.{sym, ◌∙◌}
use Rattle.at_cmds.proofs.command_texts.ReadCommands.{gives_fixed, reads}
use Rattle.at_cmds.proofs.command.Command.read.Goals as goal

pub returns-in-Some-clause-reads : goal.returns-in-Some-clause-reads
returns-in-Some-clause-reads c =
    reads c.args.text.now (Ok (Some c.in-Some.command)) (gives_fixed c.args.text.now c.in-Some.command (sym c.in-Some.is ∙ c.fixed_command.ensures))

pub returns-in-Some-clause-gives : goal.returns-in-Some-clause-gives
returns-in-Some-clause-gives c = gives_fixed c.args.text.now c.in-Some.command (sym c.in-Some.is ∙ c.fixed_command.ensures)
