-- The line is a new one.
use Rattle.std.proofs.Common.{◌≡◌, None}
use Rattle.std.proofs.lemmas.Result.{IfOk-at_ok}
use Rattle.serial_line.specs.StreamLine.{new_stream}
use Rattle.serial_line.specs.declared.stream_line.ZeroRead.TheVariants.{Ended}
use Rattle.ctl_drive.proofs.on_device.start_threads.Goals as goal

pub returns : goal.returns
returns g c = IfOk-at_ok (λ r. r.0 ≡ new_stream None None Ended) c.in_ok-line.ensures.made c.line_beside-made.ensures
