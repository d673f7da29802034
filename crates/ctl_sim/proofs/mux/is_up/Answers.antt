use Rattle.serial_line.specs.LineViews.{unused_line}
use Rattle.ctl_sim.proofs.Muxes.{down_is, up_is}
use Rattle.ctl_sim.proofs.mux.is_up.Goals as goal

pub returns-in-Opened : goal.returns-in-Opened
returns-in-Opened c = λ e past fits. up_is past c.state.result (c.state.ensures unused_line e past fits) c.in-Opened.is

pub returns-in_default : goal.returns-in_default
returns-in_default c = λ e past fits. down_is past c.state.result (c.state.ensures unused_line e past fits) c.in_default.not-Opened
