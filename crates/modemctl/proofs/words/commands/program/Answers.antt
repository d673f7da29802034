use Rattle.std.specs.Prelude.{refl}
use Rattle.modemctl.proofs.words.commands.program.Goals as goal

pub returns : goal.returns
returns c =
    c.add_subcommand.ensures _ _ refl (c.add_subcommand-made-5.ensures _ _ refl (c.add_subcommand-made-4.ensures _ _ refl (c.add_subcommand-made-3.ensures _ _ refl (c.add_subcommand-made-2.ensures _ _ refl (c.add_subcommand-made.ensures _ _ refl c.bare_program.ensures c.frames_command.ensures) c.replay_command.ensures) c.bench_command.ensures) c.sim_command.ensures) c.drive_command.ensures) c.show_command.ensures
