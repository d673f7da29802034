use Rattle.modemctl.proofs.words.commands.replay_command.Goals as goal

pub returns : goal.returns
returns c =
    c.add.ensures _ _ c.explain_option.ensures.rule (c.add-made-2.ensures _ _ c.dialect_option.ensures.rule (c.add-made.ensures _ _ c.n1_option.ensures.rule (c.new_command.ensures)))
