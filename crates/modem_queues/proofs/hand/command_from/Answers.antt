-- The first is found, or none is there.
use Rattle.std.proofs.Common.{◌∙◌, sym}
use Rattle.modem_history.specs.Requests.{commands_on}
use Rattle.modem_queues.proofs.lists.FirstPlaces.{first_is, none_is}
use Rattle.modem_queues.proofs.hand.command_from.Goals as goal

pub returns-then-is_command-clause-place : goal.returns-then-is_command-clause-place
returns-then-is_command-clause-place c =
    first_is (commands_on c.args.dlci.number) c.args.requests.now c.loop-place.place c.index-requests-place.result c.loop-place.invariant c.loop-place-test.true c.index-requests-place.is (sym c.is_command.ensures ∙ c.if-is_command.true)

pub returns-clause-place : goal.returns-clause-place
returns-clause-place c = none_is (commands_on c.args.dlci.number) c.args.requests.now c.loop-place.place c.loop-place.invariant c.loop-place-test.false
