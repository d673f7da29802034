-- The mark of the window tells.
use Rattle.std.proofs.Common.{ap, ◌∙◌}
use Rattle.modem_core.specs.Lanes.{Lane, awaits_echo}
use Rattle.modem_core.proofs.lines.LateLines.{fresh_marked}
use Rattle.modem_core.proofs.lane.Lane.awaits_echo.Goals as goal

pub returns : goal.returns
returns c = fresh_marked c.self.inside.under_way c.mark.result c.mark.ensures ∙ ap (λ (l : Lane). awaits_echo l.under_way) c.self.view_is
