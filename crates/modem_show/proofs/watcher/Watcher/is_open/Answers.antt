use Rattle.std.proofs.Common.{◌∙◌}
use Rattle.modem_show.proofs.Passing.{open_by}
use Rattle.modem_show.proofs.watcher.Watcher.is_open.Goals as goal

pub returns : goal.returns
returns c = λ line fits.
    let side = c.side.ensures line fits in
    c.is_open.ensures ∙ open_by c.side.result.now c.args.end line c.args.dlci.number side.0 side.1 c.args.dlci.in_range
