-- A length field tells at most 127.
use Rattle.mux_station.proofs.received.MessageValues.{short_value}
use Rattle.mux_station.proofs.message.Message.read.Goals as goal

pub invariant_of-result : goal.invariant_of-result
invariant_of-result c = record { short = short_value c.args.info.now c.in_ok-octet.rest.now c.in_ok-indicator.rest.now _ _ c.from-length.result c.type_inv.info c.in_ok-octet.ensures.cases.0 c.in_ok-indicator.ensures.cases.0 c.from-length.ensures }
