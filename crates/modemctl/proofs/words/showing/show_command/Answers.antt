use Rattle.modemctl.proofs.words.showing.show_command.Goals as goal

pub returns : goal.returns
returns c =
    c.add.ensures _ _ c.file_word.ensures.rule (c.add-made-5.ensures _ _ c.raw_option.ensures.rule (c.add-made-4.ensures _ _ c.strict_option.ensures.rule (c.add-made-3.ensures _ _ c.data_option.ensures.rule (c.add-made-2.ensures _ _ c.dialect_option.ensures.rule (c.add-made.ensures _ _ c.n1_option.ensures.rule (c.new_command.ensures))))))
