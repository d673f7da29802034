-- What a line was told is printed.
use Rattle.std.specs.Prelude.{List}
use Rattle.std.proofs.Common.{ap}
use Rattle.ctl_drive.specs.declared.channels.ChannelState.{ChannelState}
use Rattle.ctl_drive.proofs.users.Users.show_told.Goals as goal

pub returns : goal.returns
returns g c = record {
  line = c.in_ok-line.line;
  mid = c.settle_line.new.self;
  takes = c.in_ok-line.ensures;
  printed = c.in_ok-write_outcome.ensures;
  stays = ap (λ (states : List ChannelState). record c.settle_line.new.self { channels = states }) c.note_told.ensures;
}
