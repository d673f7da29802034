-- It gave none.
use Rattle.std.specs.Prelude.{ℕ, take}
use Rattle.std.proofs.Common.{subst}
use Rattle.modem_driver.specs.Endpoints.{GivesOctets}
use Rattle.modem_data_endpoint.proofs.between.take_over.Goals as goal

pub returns-then-poll_output-eq0-clause-none : goal.returns-then-poll_output-eq0-clause-none
returns-then-poll_output-eq0-clause-none c = λ e l d.
    subst (λ (n : ℕ). GivesOctets l d c.args.endpoint.now c.poll_output.new.self (take n c.poll_output.new.room)) c.if-poll_output-eq0.true (c.poll_output.ensures.out l d)
