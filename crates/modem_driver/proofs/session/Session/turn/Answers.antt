-- How a turn ends: in a fault, or in an answer.
use Rattle.std.proofs.Common.{ap, sym, ◌∙◌, subst, true, false, Bool}
use Rattle.std.specs.Prelude.{refl, Result, Ok, Err}
use Rattle.modem_driver.specs.declared.session.error.SessionFault.{SessionFault}
use Rattle.modem_driver.specs.TurnSteps.{TurnState}
use Rattle.modem_driver.specs.SessionTurns.{Answers, TakesTurn, Faults, standing_of, turn_answer}
use Rattle.modem_driver.proofs.sessions.meanings.TurnMeanings.{goes_turn}
use Rattle.modem_driver.proofs.sessions.meanings.TurnEnds.{all_turned, failed_before, lost_at_first, faulty_at_first, lost_first, lost_writing, lost_reading, gets_in_vain, all_or}
use Rattle.modem_driver.proofs.sessions.meanings.FullRings.{none_free}
use Rattle.modem_driver.proofs.sessions.steps.TakenRequests.{lost_driver, read_driver, took_none, took_one, wrote_driver}
use Rattle.modem_driver.proofs.session.Session.turn.Goals as goal

pub returns-then-is_lost-clause-faults : goal.returns-then-is_lost-clause-faults
unfolding Faults
returns-then-is_lost-clause-faults g c =
    let look = g.L.SerialLine.seen in
    let p = c.place-placed.ensures.places in
    (failed_before p (lost_at_first true p (sym c.is_lost.ensures ∙ c.if-is_lost.true))).fault

pub returns-then-is_lost-clause-turned : goal.returns-then-is_lost-clause-turned
returns-then-is_lost-clause-turned g c =
    let look = g.L.SerialLine.seen in
    let p = c.place-placed.ensures.places in
    (failed_before p (lost_at_first true p (sym c.is_lost.ensures ∙ c.if-is_lost.true))).turned

pub returns-then-is_faulty-clause-faults : goal.returns-then-is_faulty-clause-faults
unfolding Faults
returns-then-is_faulty-clause-faults g c =
    let look = g.L.SerialLine.seen in
    let p = c.place-placed.ensures.places in
    (lost_first c.lose_line.result (standing_of look c.lose_line.new.self) p c.lose_line.ensures.loses (lost_at_first false p (sym c.is_lost.ensures ∙ c.if-is_lost.false))).fault

pub returns-then-is_faulty-clause-turned : goal.returns-then-is_faulty-clause-turned
returns-then-is_faulty-clause-turned g c =
    let look = g.L.SerialLine.seen in
    let p = c.place-placed.ensures.places in
    (lost_first c.lose_line.result (standing_of look c.lose_line.new.self) p c.lose_line.ensures.loses (lost_at_first false p (sym c.is_lost.ensures ∙ c.if-is_lost.false))).turned

pub returns-then-is_faulty-2-clause-faults : goal.returns-then-is_faulty-2-clause-faults
unfolding Faults
returns-then-is_faulty-2-clause-faults g c =
    let look = g.L.SerialLine.seen in
    let p = c.place-placed.ensures.places in
    let end = c.lose_line-then-is_faulty-2 in
    (lost_writing end.result (standing_of look end.new.self) p c.check_backlogs-checked.ensures.checks c.send_on-sent.ensures.sends c.write_on-wrote.ensures.writes end.ensures.loses (faulty_at_first false p (sym c.is_faulty.ensures ∙ c.if-is_faulty.false)) (lost_at_first false p (sym c.is_lost.ensures ∙ c.if-is_lost.false))).fault

pub returns-then-is_faulty-2-clause-turned : goal.returns-then-is_faulty-2-clause-turned
returns-then-is_faulty-2-clause-turned g c =
    let look = g.L.SerialLine.seen in
    let p = c.place-placed.ensures.places in
    let end = c.lose_line-then-is_faulty-2 in
    (lost_writing end.result (standing_of look end.new.self) p c.check_backlogs-checked.ensures.checks c.send_on-sent.ensures.sends c.write_on-wrote.ensures.writes end.ensures.loses (faulty_at_first false p (sym c.is_faulty.ensures ∙ c.if-is_faulty.false)) (lost_at_first false p (sym c.is_lost.ensures ∙ c.if-is_lost.false))).turned

pub returns-in_default-clause-faults : goal.returns-in_default-clause-faults
unfolding Faults
returns-in_default-clause-faults g c =
    let look = g.L.SerialLine.seen in
    let p = c.place-placed.ensures.places in
    (gets_in_vain (standing_of look c.get_one.new.self) p c.check_backlogs-checked.ensures.checks c.send_on-sent.ensures.sends c.write_on-wrote.ensures.writes (ap (standing_of look) c.in_default.ensures.err) (sym c.is_faulty-2.ensures ∙ c.if-is_faulty-2.false) (lost_at_first false p (sym c.is_lost.ensures ∙ c.if-is_lost.false))).fault

pub returns-in_default-clause-turned : goal.returns-in_default-clause-turned
returns-in_default-clause-turned g c =
    let look = g.L.SerialLine.seen in
    let p = c.place-placed.ensures.places in
    (gets_in_vain (standing_of look c.get_one.new.self) p c.check_backlogs-checked.ensures.checks c.send_on-sent.ensures.sends c.write_on-wrote.ensures.writes (ap (standing_of look) c.in_default.ensures.err) (sym c.is_faulty-2.ensures ∙ c.if-is_faulty-2.false) (lost_at_first false p (sym c.is_lost.ensures ∙ c.if-is_lost.false))).turned

pub returns-then-is_faulty-3-clause-faults : goal.returns-then-is_faulty-3-clause-faults
unfolding Faults
returns-then-is_faulty-3-clause-faults g c =
    let look = g.L.SerialLine.seen in
    let p = c.place-placed.ensures.places in
    let end = c.lose_line-then-is_faulty-3 in
    (lost_reading end.result (standing_of look end.new.self) p c.check_backlogs-checked.ensures.checks c.send_on-sent.ensures.sends c.write_on-wrote.ensures.writes c.in-Ok.ensures.gets c.read_on-read.ensures.reads end.ensures.loses (faulty_at_first false p (sym c.is_faulty.ensures ∙ c.if-is_faulty.false)) (lost_at_first false p (sym c.is_lost.ensures ∙ c.if-is_lost.false))).fault

pub returns-then-is_faulty-3-clause-turned : goal.returns-then-is_faulty-3-clause-turned
returns-then-is_faulty-3-clause-turned g c =
    let look = g.L.SerialLine.seen in
    let p = c.place-placed.ensures.places in
    let end = c.lose_line-then-is_faulty-3 in
    (lost_reading end.result (standing_of look end.new.self) p c.check_backlogs-checked.ensures.checks c.send_on-sent.ensures.sends c.write_on-wrote.ensures.writes c.in-Ok.ensures.gets c.read_on-read.ensures.reads end.ensures.loses (faulty_at_first false p (sym c.is_faulty.ensures ∙ c.if-is_faulty.false)) (lost_at_first false p (sym c.is_lost.ensures ∙ c.if-is_lost.false))).turned

pub returns-clause-turns : goal.returns-clause-turns
unfolding TakesTurn
returns-clause-turns g c =
    let p = c.place-placed.ensures.places in
    goes_turn
    (record {
      places = p;
      checks = c.check_backlogs-checked.ensures.checks;
      sends = c.send_on-sent.ensures.sends;
      writes = c.write_on-wrote.ensures.writes;
      gets = c.in-Ok.ensures.gets;
      reads = c.read_on-read.ensures.reads;
      takes = c.take_one-took.ensures.takes;
      sound_first = faulty_at_first false p (sym c.is_faulty.ensures ∙ c.if-is_faulty.false);
      sound_written = sym c.is_faulty-2.ensures ∙ c.if-is_faulty-2.false;
      sound_read = sym c.is_faulty-3.ensures ∙ c.if-is_faulty-3.false;
    })
    (turn_answer c.answer.result)
    (subst (λ (m : Bool). Answers c.take_one-took.new.self.machine m (turn_answer c.answer.result)) (all_or c.place-placed.result c.check_backlogs-checked.result c.send_on-sent.result c.write_on-wrote.result c.in-Ok.got c.read_on-read.result c.take_one-took.result) c.answer.ensures)

pub returns-clause-turned : goal.returns-clause-turned
returns-clause-turned g c =
    all_turned c.place-placed.ensures.places c.check_backlogs-checked.ensures.checks c.send_on-sent.ensures.sends c.write_on-wrote.ensures.writes c.in-Ok.ensures.gets c.read_on-read.ensures.reads c.take_one-took.ensures.takes

pub returns-then-is_lost-clause-takes : goal.returns-then-is_lost-clause-takes
returns-then-is_lost-clause-takes g c =
    let look = g.L.SerialLine.seen in
    took_none (standing_of look c.place-placed.new.self) c.place-placed.ensures.places refl

pub returns-then-is_faulty-clause-takes : goal.returns-then-is_faulty-clause-takes
returns-then-is_faulty-clause-takes g c =
    let look = g.L.SerialLine.seen in
    let s = standing_of look c.lose_line.new.self in
    took_none s c.place-placed.ensures.places (lost_driver c.lose_line.result (standing_of look c.place-placed.new.self) s c.lose_line.ensures.loses)

pub returns-then-is_faulty-2-clause-takes : goal.returns-then-is_faulty-2-clause-takes
returns-then-is_faulty-2-clause-takes g c =
    let look = g.L.SerialLine.seen in
    let end = c.lose_line-then-is_faulty-2 in
    let s = standing_of look end.new.self in
    took_none s c.place-placed.ensures.places (lost_driver end.result (standing_of look c.write_on-wrote.new.self) s end.ensures.loses ∙ wrote_driver c.check_backlogs-checked.ensures.checks c.send_on-sent.ensures.sends c.write_on-wrote.ensures.writes)

pub returns-in_default-clause-takes : goal.returns-in_default-clause-takes
returns-in_default-clause-takes g c =
    let look = g.L.SerialLine.seen in
    let s = standing_of look c.get_one.new.self in
    took_none s c.place-placed.ensures.places (ap (λ (x : TurnState). x.driver) (ap (standing_of look) c.in_default.ensures.err) ∙ wrote_driver c.check_backlogs-checked.ensures.checks c.send_on-sent.ensures.sends c.write_on-wrote.ensures.writes)

pub returns-then-is_faulty-3-clause-takes : goal.returns-then-is_faulty-3-clause-takes
returns-then-is_faulty-3-clause-takes g c =
    let look = g.L.SerialLine.seen in
    let end = c.lose_line-then-is_faulty-3 in
    let s = standing_of look end.new.self in
    took_none s c.place-placed.ensures.places (lost_driver end.result (standing_of look c.read_on-read.new.self) s end.ensures.loses ∙ read_driver c.check_backlogs-checked.ensures.checks c.send_on-sent.ensures.sends c.write_on-wrote.ensures.writes c.in-Ok.ensures.gets c.read_on-read.ensures.reads)

pub returns-clause-takes : goal.returns-clause-takes
returns-clause-takes g c =
    let look = g.L.SerialLine.seen in
    let s = standing_of look c.read_on-read.new.self in
    took_one (standing_of look c.args.self.now) s (standing_of look c.take_one-took.new.self) (took_none s c.place-placed.ensures.places (read_driver c.check_backlogs-checked.ensures.checks c.send_on-sent.ensures.sends c.write_on-wrote.ensures.writes c.in-Ok.ensures.gets c.read_on-read.ensures.reads)) c.take_one-took.ensures.takes

pub returns-clause-full : goal.returns-clause-full
returns-clause-full g c =
    none_free (turn_answer c.answer.result) c.place-placed.ensures.places c.check_backlogs-checked.ensures.checks c.send_on-sent.ensures.sends c.write_on-wrote.ensures.writes c.in-Ok.ensures.gets c.read_on-read.ensures.reads c.take_one-took.ensures.takes
    (subst (λ (m : Bool). Answers c.take_one-took.new.self.machine m (turn_answer c.answer.result)) (all_or c.place-placed.result c.check_backlogs-checked.result c.send_on-sent.result c.write_on-wrote.result c.in-Ok.got c.read_on-read.result c.take_one-took.result) c.answer.ensures)

pub returns-then-is_lost-clause-beyond : goal.returns-then-is_lost-clause-beyond
returns-then-is_lost-clause-beyond g c = ap g.L.SerialLine.other_side c.place-placed.ensures.line

pub returns-then-is_faulty-clause-beyond : goal.returns-then-is_faulty-clause-beyond
returns-then-is_faulty-clause-beyond g c = ap g.L.SerialLine.other_side c.lose_line.ensures.line ∙ ap g.L.SerialLine.other_side c.place-placed.ensures.line

pub returns-then-is_faulty-2-clause-beyond : goal.returns-then-is_faulty-2-clause-beyond
returns-then-is_faulty-2-clause-beyond g c = ap g.L.SerialLine.other_side c.lose_line-then-is_faulty-2.ensures.line ∙ (c.write_on-wrote.ensures.beyond ∙ (ap g.L.SerialLine.other_side c.send_on-sent.ensures.line ∙ (ap g.L.SerialLine.other_side c.check_backlogs-checked.ensures.line ∙ ap g.L.SerialLine.other_side c.place-placed.ensures.line)))

pub returns-in_default-clause-beyond : goal.returns-in_default-clause-beyond
returns-in_default-clause-beyond g c = ap g.L.SerialLine.other_side c.get_one.ensures.line ∙ (c.write_on-wrote.ensures.beyond ∙ (ap g.L.SerialLine.other_side c.send_on-sent.ensures.line ∙ (ap g.L.SerialLine.other_side c.check_backlogs-checked.ensures.line ∙ ap g.L.SerialLine.other_side c.place-placed.ensures.line)))

pub returns-then-is_faulty-3-clause-beyond : goal.returns-then-is_faulty-3-clause-beyond
returns-then-is_faulty-3-clause-beyond g c = ap g.L.SerialLine.other_side c.lose_line-then-is_faulty-3.ensures.line ∙ (c.read_on-read.ensures.beyond ∙ (ap g.L.SerialLine.other_side c.get_one.ensures.line ∙ (c.write_on-wrote.ensures.beyond ∙ (ap g.L.SerialLine.other_side c.send_on-sent.ensures.line ∙ (ap g.L.SerialLine.other_side c.check_backlogs-checked.ensures.line ∙ ap g.L.SerialLine.other_side c.place-placed.ensures.line)))))

pub returns-clause-beyond : goal.returns-clause-beyond
returns-clause-beyond g c = ap g.L.SerialLine.other_side c.take_one-took.ensures.line ∙ (c.read_on-read.ensures.beyond ∙ (ap g.L.SerialLine.other_side c.get_one.ensures.line ∙ (c.write_on-wrote.ensures.beyond ∙ (ap g.L.SerialLine.other_side c.send_on-sent.ensures.line ∙ (ap g.L.SerialLine.other_side c.check_backlogs-checked.ensures.line ∙ ap g.L.SerialLine.other_side c.place-placed.ensures.line)))))

pub returns-in_default-clause-memory : goal.returns-in_default-clause-memory
returns-in_default-clause-memory g c _ = c.in_default.ensures.at_hand

-- the fault of a turn that ends in one
abbrev fault_in : {A : Type 0} → Result A SessionFault → SessionFault
fault_in (Ok x) = SessionFault.Failed
fault_in (Err why) = why

pub returns-then-is_faulty-clause-memory : goal.returns-then-is_faulty-clause-memory
returns-then-is_faulty-clause-memory g c e = absurd (c.lose_line.ensures.never (ap fault_in e))

pub returns-then-is_faulty-2-clause-memory : goal.returns-then-is_faulty-2-clause-memory
returns-then-is_faulty-2-clause-memory g c e = absurd (c.lose_line-then-is_faulty-2.ensures.never (ap fault_in e))

pub returns-then-is_faulty-3-clause-memory : goal.returns-then-is_faulty-3-clause-memory
returns-then-is_faulty-3-clause-memory g c e = absurd (c.lose_line-then-is_faulty-3.ensures.never (ap fault_in e))
