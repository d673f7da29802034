-- Behind each name the value says which command it is.
use Rattle.std.specs.Prelude.{Ok}
use Rattle.at_cmds.specs.Values.{Cpin, Creg, Cops, Cgdcont, Cmee}
use Rattle.at_cmds.proofs.command_texts.ReadCommands.{set_as}
use Rattle.at_cmds.proofs.reading.set_command.Goals as goal

pub returns-in-Some : goal.returns-in-Some
returns-in-Some c = set_as Cpin c.args.text.now c.in-Some.value.now c.pin_command.result c.in-Some.ensures.0 c.in-Some.ensures.1 c.pin_command.ensures

pub returns-in-Some-after_head : goal.returns-in-Some-after_head
returns-in-Some-after_head c = set_as Creg c.args.text.now c.in-Some-after_head.value.now (Ok c.reg_command.result) c.in-Some-after_head.ensures.0 c.in-Some-after_head.ensures.1 c.reg_command.ensures

pub returns-in-Some-after_head-2 : goal.returns-in-Some-after_head-2
returns-in-Some-after_head-2 c = set_as Cops c.args.text.now c.in-Some-after_head-2.value.now c.oper_command.result c.in-Some-after_head-2.ensures.0 c.in-Some-after_head-2.ensures.1 c.oper_command.ensures

pub returns-in-Some-after_head-3 : goal.returns-in-Some-after_head-3
returns-in-Some-after_head-3 c = set_as Cgdcont c.args.text.now c.in-Some-after_head-3.value.now c.context_command.result c.in-Some-after_head-3.ensures.0 c.in-Some-after_head-3.ensures.1 c.context_command.ensures

pub returns-in-Some-after_head-4 : goal.returns-in-Some-after_head-4
returns-in-Some-after_head-4 c = set_as Cmee c.args.text.now c.in-Some-after_head-4.value.now (Ok c.error_mode_command.result) c.in-Some-after_head-4.ensures.0 c.in-Some-after_head-4.ensures.1 c.error_mode_command.ensures
