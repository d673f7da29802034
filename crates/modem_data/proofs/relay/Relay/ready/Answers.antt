-- Where no octets wait and nothing passed, nothing may go.
use Rattle.modem_data.proofs.Relays.{holds_by}
use Rattle.modem_data.proofs.relay.Relay.ready.Goals as goal

pub returns-clause-none : goal.returns-clause-none
returns-clause-none c =
    let first = c.ready_first.ensures in
    let no = c.if-ready_first.false in
    λ none. holds_by c.args.self.now c.ready_first.new.self c.put_data.new.self c.deframed.ensures (first.none_wait no) (first.no_frame no) (first.none_due no) (first.none_passed no) (c.put_data.ensures.none none) (c.put_data.ensures.still none)
