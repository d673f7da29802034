-- Both were just made, each at a new line.
use Rattle.std.proofs.Common.{◌≡◌, [], subst, sym}
use Rattle.std.specs.Prelude.{IfOk, Result}
use Rattle.serial_line.specs.CutLine.{CutState, cut_view, new_line}
use Rattle.serial_line.specs.LineViews.{unused_line}
use Rattle.modem_driver.specs.SessionStates.{SessionState, beginning_of}
use Rattle.modem_sim.specs.Acts.{End, end_of}
use Rattle.modem_sim.specs.Sims.{FitsSim, SimState}
use Rattle.modem_sim.specs.Steps.{started}
use Rattle.modem_bench.specs.OneLine.{AreOnOneLine, BeginsOnOneLine}
use Rattle.modem_bench.specs.Rounds.{pair}
use Rattle.modem_bench.specs.declared.signals.Fault.{Fault}
use Rattle.modem_bench.proofs.OneLine.{begins_on_one_line}
use Rattle.modem_bench.proofs.meeting.meet.Goals as goal

pub returns-clause-on : goal.returns-clause-on
unfolding BeginsOnOneLine
returns-clause-on g c =
    let n1 = c.args.n1.octets in
    let room = c.args.room in
    let e : End = end_of n1 (started c.args.start) c.args.script in
    let Fits : Result (SimState CutState) Fault → Type 0 = λ r. IfOk r (λ m. FitsSim cut_view unused_line e m []) in
    let At : Result (SimState CutState) Fault → Type 0 = λ r. IfOk r (λ m. m.line ≡ new_line [] [] [] room) in
    let On : SessionState CutState → Type 0 = λ s. AreOnOneLine (beginning_of n1 (cut_view (new_line [] [] [] room)) c.args.driver) unused_line e [] (pair s c.in_ok-sim.sim) in
    subst On (sym c.in_ok-sim.ensures.kept)
    (begins_on_one_line n1 room room [] [] [] [] c.args.driver c.args.start c.args.script c.in_ok-session.session c.in_ok-sim.sim c.args.n1.in_range.0 c.args.n1.in_range.1 c.far_end.ensures.is_start
    c.in_ok-session.ensures.line c.in_ok-session.ensures.driver c.in_ok-session.ensures.begins (subst At c.in_ok-sim.ensures.made c.far_end.ensures.line) (subst Fits c.in_ok-sim.ensures.made c.far_end.ensures.begins))
