use Rattle.std.proofs.Common.{◌∙◌}
use Rattle.modem_show.proofs.Passing.{stopped_by}
use Rattle.modem_show.proofs.watcher.Watcher.is_stopped.Goals as goal

pub returns : goal.returns
returns c = λ line fits.
    let side = c.side.ensures line fits in
    c.is_stopped.ensures ∙ stopped_by c.side.result.now c.args.end line c.args.dlci.number side.0 side.1 c.args.dlci.in_range
