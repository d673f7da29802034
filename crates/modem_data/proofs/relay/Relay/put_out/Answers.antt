-- Octets that wait go, or data does.
use Rattle.std.proofs.Common.{take, subst}
use Rattle.modem_data.specs.Hops.{Relay, GoesOut}
use Rattle.modem_data.proofs.Relays.{holds_by}
use Rattle.modem_data.proofs.GoingOut.{goes_out}
use Rattle.modem_data.proofs.relay.Relay.put_out.Goals as goal

pub returns-then-room-from-clause-goes : goal.returns-then-room-from-clause-goes
returns-then-room-from-clause-goes c = goes_out c.args.self.now c.ready.new.self c.write.new.self (take c.write.result c.write.new.room) c.ready.ensures.one c.write.ensures.writes

pub returns-clause-goes : goal.returns-clause-goes
returns-clause-goes c = subst (λ (v : Relay). GoesOut v c.leave_all.new.self (take c.leave_all.result c.leave_all.new.room)) (c.ready_first.ensures.none_passed c.if-ready_first.false) c.leave_all.ensures.left

pub returns-clause-all : goal.returns-clause-all
returns-clause-all c =
    let first = c.ready_first.ensures in
    let no = c.if-ready_first.false in
    λ none there. holds_by c.args.self.now c.ready_first.new.self c.leave_all.new.self c.deframed.ensures (first.none_wait no) (first.no_frame no) (first.none_due no) (first.none_passed no) (c.leave_all.ensures.none none) (c.leave_all.ensures.still none)
