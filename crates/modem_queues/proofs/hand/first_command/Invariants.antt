-- None of those before is a command on the connection.
use Rattle.std.proofs.Common.{◌≡◌, drop}
use Rattle.modem_history.specs.Calls.{first_on}
use Rattle.modem_queues.proofs.hand.first_command.Given as goal

abbrev pub invariant-loop-request : goal.invariant-loop-request
invariant-loop-request l = first_on l.dlci.number l.hand ≡ first_on l.dlci.number (drop l.request-index l.hand)
