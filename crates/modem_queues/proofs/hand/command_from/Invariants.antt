-- None so far is a command on the connection.
use Rattle.std.proofs.Common.{◌≡◌, take, false}
use Rattle.std.specs.List.{list_any}
use Rattle.modem_history.specs.Requests.{commands_on}
use Rattle.modem_queues.proofs.hand.command_from.Given as goal

abbrev pub invariant-loop-place : goal.invariant-loop-place
invariant-loop-place l = list_any (commands_on l.dlci.number) (take l.place l.requests) ≡ false
