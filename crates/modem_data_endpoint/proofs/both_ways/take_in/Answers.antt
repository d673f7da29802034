-- What is handed over, what comes, and what is handed over then, one behind the other.
use Rattle.std.specs.Prelude.{take}
use Rattle.modem_data_endpoint.proofs.Pairing.{takes_blocked, takes_on}
use Rattle.modem_data_endpoint.proofs.both_ways.take_in.Goals as goal

pub returns-then-is_some-clause-takes : goal.returns-then-is_some-clause-takes
returns-then-is_some-clause-takes c =
    takes_blocked c.args.relay.now c.hand_over-first.new.relay c.args.endpoint.now c.hand_over-first.new.endpoint c.hand_over-first.result c.args.octets.now c.hand_over-first.ensures

pub returns-then-input-clause-takes : goal.returns-then-input-clause-takes
returns-then-input-clause-takes c =
    takes_on c.args.relay.now c.hand_over-first.new.relay c.from_line-input.new.self c.hand_over-last.new.relay c.args.endpoint.now c.hand_over-first.new.endpoint c.hand_over-last.new.endpoint c.hand_over-first.result c.hand_over-last.result (take c.from_line-input.result.taken c.args.octets.now) c.hand_over-first.ensures c.from_line-input.ensures.takes c.hand_over-last.ensures

pub returns-else-input-clause-takes : goal.returns-else-input-clause-takes
returns-else-input-clause-takes c =
    takes_on c.args.relay.now c.hand_over-first.new.relay c.from_line-input.new.self c.hand_over-last.new.relay c.args.endpoint.now c.hand_over-first.new.endpoint c.hand_over-last.new.endpoint c.hand_over-first.result c.hand_over-last.result (take c.from_line-input.result.taken c.args.octets.now) c.hand_over-first.ensures c.from_line-input.ensures.takes c.hand_over-last.ensures
