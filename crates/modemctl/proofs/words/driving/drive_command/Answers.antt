use Rattle.modemctl.proofs.words.driving.drive_command.Goals as goal

pub returns : goal.returns
returns c =
    c.add.ensures _ _ c.device_word.ensures.rule (c.add-made-9.ensures _ _ c.text_path_option.ensures.rule (c.add-made-8.ensures _ _ c.arm_option.ensures.rule (c.add-made-7.ensures _ _ c.data_path_option.ensures.rule (c.add-made-6.ensures _ _ c.capture_option.ensures.rule (c.add-made-5.ensures _ _ c.dialect_option.ensures.rule (c.add-made-4.ensures _ _ c.entry_option.ensures.rule (c.add-made-3.ensures _ _ c.quiet_option.ensures.rule (c.add-made-2.ensures _ _ c.tick_option.ensures.rule (c.add-made.ensures _ _ c.n1_option.ensures.rule (c.new_command.ensures))))))))))
