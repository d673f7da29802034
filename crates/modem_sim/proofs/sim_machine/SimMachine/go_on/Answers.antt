use Rattle.modem_sim.specs.Acts.{any_act, is_step_act}
use Rattle.modem_sim.specs.Stills.{at_line, leaves_frame, leaves_octets, leaves_step}
use Rattle.modem_sim.proofs.sims.SimPasts.{sim_machine_goes, sim_read_by, sim_then, sim_wrote_by}
use Rattle.modem_sim.proofs.sims.TurnHistories.{goes_once}
use Rattle.modem_sim.proofs.sims.WholeTurns.{Went}
use Rattle.modem_sim.proofs.sim_machine.SimMachine.go_on.Goals as goal

pub returns-in_err-done-clause-goes : goal.returns-in_err-done-clause-goes
returns-in_err-done-clause-goes g c =
    sim_machine_goes g.L.SerialLine.seen (at_line c.args.line.now c.args.self.now) is_step_act c.do_steps.new.self c.do_steps.ensures.goes

pub returns-in_err-wrote-clause-goes : goal.returns-in_err-wrote-clause-goes
returns-in_err-wrote-clause-goes g c =
    let look = g.L.SerialLine.seen in
    sim_then look (at_line c.args.line.now c.args.self.now) (at_line c.args.line.now c.do_steps.new.self) (at_line c.write.new.line c.write.new.self)
    (sim_machine_goes look (at_line c.args.line.now c.args.self.now) is_step_act c.do_steps.new.self c.do_steps.ensures.goes)
    (sim_wrote_by look (at_line c.args.line.now c.do_steps.new.self) c.write.new.line c.write.new.self c.write.result
    c.write.ensures.writes c.write.ensures.fault c.write.ensures.err)

pub returns-in_err-loaded-clause-goes : goal.returns-in_err-loaded-clause-goes
returns-in_err-loaded-clause-goes g c =
    let look = g.L.SerialLine.seen in
    sim_then look (at_line c.args.line.now c.args.self.now) (at_line c.write.new.line c.write.new.self) (at_line c.write.new.line c.load.new.self)
    (sim_then look (at_line c.args.line.now c.args.self.now) (at_line c.args.line.now c.do_steps.new.self) (at_line c.write.new.line c.write.new.self)
    (sim_machine_goes look (at_line c.args.line.now c.args.self.now) is_step_act c.do_steps.new.self c.do_steps.ensures.goes)
    (sim_wrote_by look (at_line c.args.line.now c.do_steps.new.self) c.write.new.line c.write.new.self c.write.result
    c.write.ensures.writes c.write.ensures.fault c.write.ensures.err))
    (sim_machine_goes look (at_line c.write.new.line c.write.new.self) any_act c.load.new.self c.load.ensures.goes)

pub returns-in_err-took-clause-goes : goal.returns-in_err-took-clause-goes
returns-in_err-took-clause-goes g c =
    let look = g.L.SerialLine.seen in
    sim_then look (at_line c.args.line.now c.args.self.now) (at_line c.write.new.line c.load.new.self) (at_line c.write.new.line c.take_frame.new.self)
    (sim_then look (at_line c.args.line.now c.args.self.now) (at_line c.write.new.line c.write.new.self) (at_line c.write.new.line c.load.new.self)
    (sim_then look (at_line c.args.line.now c.args.self.now) (at_line c.args.line.now c.do_steps.new.self) (at_line c.write.new.line c.write.new.self)
    (sim_machine_goes look (at_line c.args.line.now c.args.self.now) is_step_act c.do_steps.new.self c.do_steps.ensures.goes)
    (sim_wrote_by look (at_line c.args.line.now c.do_steps.new.self) c.write.new.line c.write.new.self c.write.result
    c.write.ensures.writes c.write.ensures.fault c.write.ensures.err))
    (sim_machine_goes look (at_line c.write.new.line c.write.new.self) any_act c.load.new.self c.load.ensures.goes))
    (sim_machine_goes look (at_line c.write.new.line c.load.new.self) any_act c.take_frame.new.self c.take_frame.ensures.goes)

pub returns-in_err-came-clause-goes : goal.returns-in_err-came-clause-goes
returns-in_err-came-clause-goes g c =
    let look = g.L.SerialLine.seen in
    sim_then look (at_line c.args.line.now c.args.self.now) (at_line c.write.new.line c.take_frame.new.self) (at_line c.receive.new.line c.receive.new.self)
    (sim_then look (at_line c.args.line.now c.args.self.now) (at_line c.write.new.line c.load.new.self) (at_line c.write.new.line c.take_frame.new.self)
    (sim_then look (at_line c.args.line.now c.args.self.now) (at_line c.write.new.line c.write.new.self) (at_line c.write.new.line c.load.new.self)
    (sim_then look (at_line c.args.line.now c.args.self.now) (at_line c.args.line.now c.do_steps.new.self) (at_line c.write.new.line c.write.new.self)
    (sim_machine_goes look (at_line c.args.line.now c.args.self.now) is_step_act c.do_steps.new.self c.do_steps.ensures.goes)
    (sim_wrote_by look (at_line c.args.line.now c.do_steps.new.self) c.write.new.line c.write.new.self c.write.result
    c.write.ensures.writes c.write.ensures.fault c.write.ensures.err))
    (sim_machine_goes look (at_line c.write.new.line c.write.new.self) any_act c.load.new.self c.load.ensures.goes))
    (sim_machine_goes look (at_line c.write.new.line c.load.new.self) any_act c.take_frame.new.self c.take_frame.ensures.goes))
    (sim_read_by look (at_line c.write.new.line c.take_frame.new.self) c.receive.new.line c.receive.new.self c.receive.result
    c.receive.ensures.reads c.receive.ensures.fault c.receive.ensures.err)

pub returns-clause-goes : goal.returns-clause-goes
returns-clause-goes g c =
    let look = g.L.SerialLine.seen in
    sim_then look (at_line c.args.line.now c.args.self.now) (at_line c.receive.new.line c.receive.new.self) (at_line c.receive.new.line c.feed-fed.new.self)
    (sim_then look (at_line c.args.line.now c.args.self.now) (at_line c.write.new.line c.take_frame.new.self) (at_line c.receive.new.line c.receive.new.self)
    (sim_then look (at_line c.args.line.now c.args.self.now) (at_line c.write.new.line c.load.new.self) (at_line c.write.new.line c.take_frame.new.self)
    (sim_then look (at_line c.args.line.now c.args.self.now) (at_line c.write.new.line c.write.new.self) (at_line c.write.new.line c.load.new.self)
    (sim_then look (at_line c.args.line.now c.args.self.now) (at_line c.args.line.now c.do_steps.new.self) (at_line c.write.new.line c.write.new.self)
    (sim_machine_goes look (at_line c.args.line.now c.args.self.now) is_step_act c.do_steps.new.self c.do_steps.ensures.goes)
    (sim_wrote_by look (at_line c.args.line.now c.do_steps.new.self) c.write.new.line c.write.new.self c.write.result
    c.write.ensures.writes c.write.ensures.fault c.write.ensures.err))
    (sim_machine_goes look (at_line c.write.new.line c.write.new.self) any_act c.load.new.self c.load.ensures.goes))
    (sim_machine_goes look (at_line c.write.new.line c.load.new.self) any_act c.take_frame.new.self c.take_frame.ensures.goes))
    (sim_read_by look (at_line c.write.new.line c.take_frame.new.self) c.receive.new.line c.receive.new.self c.receive.result
    c.receive.ensures.reads c.receive.ensures.fault c.receive.ensures.err))
    (sim_machine_goes look (at_line c.receive.new.line c.receive.new.self) any_act c.feed-fed.new.self c.feed-fed.ensures.goes)

pub returns-clause-turn : goal.returns-clause-turn
returns-clause-turn g c =
    let see = g.L.SerialLine.seen in
    let went : Went see c.args.line.now c.write.new.line c.receive.new.line
    c.args.self.now c.do_steps.new.self c.write.new.self c.load.new.self c.take_frame.new.self c.receive.new.self c.feed-fed.new.self
    c.in_ok-done.done c.in_ok-wrote.field-0 c.in_ok-loaded.loaded c.in_ok-took.took c.in_ok-came.came c.feed-fed.result =
    record {
      steps_go = c.do_steps.ensures.goes;
      steps_same = c.in_ok-done.ensures.same;
      steps_fewer = c.in_ok-done.ensures.fewer;
      steps_rest = c.do_steps.ensures.rest;
      steps_none = c.in_ok-done.ensures.none;
      steps_passed = c.do_steps.ensures.passed;
      writes = c.in_ok-wrote.ensures.writes;
      load_rest = c.load.ensures.rest;
      loads = c.in_ok-loaded.ensures.loads;
      load_none = c.in_ok-loaded.ensures.none;
      load_steps = c.in_ok-loaded.ensures.steps;
      take_rest = c.take_frame.ensures.rest;
      takes = c.in_ok-took.ensures.takes;
      take_none = c.in_ok-took.ensures.none;
      take_steps = c.in_ok-took.ensures.steps;
      reads = c.in_ok-came.ensures.reads;
      feeds = c.feed-fed.ensures.feeds;
      feed_rest = c.feed-fed.ensures.rest;
      feed_fewer = c.feed-fed.ensures.fewer;
      feed_none = c.feed-fed.ensures.none;
    } in
    goes_once see c.args.line.now c.write.new.line c.receive.new.line
    c.args.self.now c.do_steps.new.self c.write.new.self c.load.new.self c.take_frame.new.self c.receive.new.self c.feed-fed.new.self
    c.in_ok-done.done c.in_ok-wrote.field-0 c.in_ok-loaded.loaded c.in_ok-took.took c.in_ok-came.came c.feed-fed.result went

pub returns-in_err-done-clause-memory : goal.returns-in_err-done-clause-memory
returns-in_err-done-clause-memory g c = λ _. leaves_step c.in_err-done.ensures.says

pub returns-in_err-loaded-clause-memory : goal.returns-in_err-loaded-clause-memory
returns-in_err-loaded-clause-memory g c = λ _. leaves_octets c.in_err-loaded.ensures.released

pub returns-in_err-took-clause-memory : goal.returns-in_err-took-clause-memory
returns-in_err-took-clause-memory g c = λ _. leaves_frame c.in_err-took.ensures.hand
