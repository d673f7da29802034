-- The line, and what stands at its two ends.
use Rattle.std.proofs.Common.{◌≡◌, map, subst, sym}
use Rattle.std.proofs.lemmas.Result.{IfOk-at_ok, IfOk-weaker}
use Rattle.std.specs.Prelude.{vec_items}
use Rattle.std.specs.declared.alloc.Global.{Global}
use Rattle.std.specs.declared.vec.Vec.{Vec}
use Rattle.serial_line.specs.OtherSide.{AreOpposite}
use Rattle.serial_line.specs.ThreadLine.{EndState, thread_side, thread_view}
use Rattle.modem_desk.specs.declared.request.Outcome.{Outcome}
use Rattle.modem_sim.specs.declared.script.Script.{Script}
use Rattle.modem_bench.specs.Running.{IsLine, Ran, RanFor}
use Rattle.modem_bench.specs.Simulating.{IsStarted}
use Rattle.modem_bench.proofs.Lines.{opposite}
use Rattle.modem_bench.proofs.running.run_signalled.Goals as goal

pub run_threads-requires-clause-one_line : goal.run_threads-requires-clause-one_line
run_threads-requires-clause-one_line g c = λ κs lives.
    let line = c.in_ok-line.line in
    let is = IfOk-at_ok (λ (r : EndState × EndState). IsLine c.args.cut r.0 r.1) c.in_ok-line.ensures.made c.make_line.ensures in
    let near : c.in_ok-ends.ends.session.line ≡ line.0 = c.in_ok-ends.ensures.at_line in
    let far : c.in_ok-ends.ends.sim.line ≡ line.1 = c.in_ok-ends.ensures.started.line_is in
    subst (λ (x : EndState × EndState). AreOpposite (thread_side x.0) (thread_side x.1)) (λ i. (sym near i, sym far i)) (opposite line.0 line.1 is.ends)

pub returns : goal.returns
returns g c =
    let ends = c.in_ok-ends.ends in
    IfOk-weaker c.run_threads.result
    (λ (os : Vec (Vec Outcome Global) Global). RanFor thread_view c.args.submissions.now ends.callers.items ends.session ends.sim (map vec_items os.items))
    (λ (os : Vec (Vec Outcome Global) Global). Ran c.args.submissions.now c.args.callers c.args.cut c.args.script (map vec_items os.items))
    (λ os ran. record {
      near = c.in_ok-line.line.0;
      far = c.in_ok-line.line.1;
      line = IfOk-at_ok (λ (r : EndState × EndState). IsLine c.args.cut r.0 r.1) c.in_ok-line.ensures.made c.make_line.ensures;
      session = ends.session;
      at_line = c.in_ok-ends.ensures.at_line;
      sim = ends.sim;
      started = subst (λ (s : Script). IsStarted thread_view c.in_ok-line.line.1 s ends.sim) c.in_ok-line.ensures.kept c.in_ok-ends.ensures.started;
      callers = ends.callers.items;
      fresh = c.in_ok-ends.ensures.many;
      ran = ran;
    })
    c.run_threads.ensures
