use Rattle.modemctl.proofs.words.commands.bench_command.Goals as goal

pub returns : goal.returns
returns c =
    c.add.ensures _ _ c.explain_option.ensures.rule (c.add-made-2.ensures _ _ c.cut_option.ensures.rule (c.add-made.ensures _ _ c.callers_option.ensures.rule (c.new_command.ensures)))
