use Rattle.modemctl.proofs.words.commands.sim_command.Goals as goal

pub returns : goal.returns
returns c =
    c.add.ensures _ _ c.data_path_option.ensures.rule (c.add-made-6.ensures _ _ c.capture_option.ensures.rule (c.add-made-5.ensures _ _ c.answers_option.ensures.rule (c.add-made-4.ensures _ _ c.script_option.ensures.rule (c.add-made-3.ensures _ _ c.echo_option.ensures.rule (c.add-made-2.ensures _ _ c.pin_option.ensures.rule (c.add-made.ensures _ _ c.n1_option.ensures.rule (c.new_command.ensures)))))))
