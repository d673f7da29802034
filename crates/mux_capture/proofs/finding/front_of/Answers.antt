use Rattle.std.proofs.Common.{refl}
use Rattle.mux_capture.proofs.FirstFrames.{front_grows}
use Rattle.mux_capture.proofs.finding.front_of.Goals as goal

pub returns-in_default : goal.returns-in_default
returns-in_default c = front_grows c.args.n1 c.in_ok-count.count _ c.args.text.now c.in_ok-front.front refl c.in_ok-count.ensures.bound c.in_default.not-Begins c.in_ok-front.ensures
