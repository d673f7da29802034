use Rattle.std.specs.Prelude.{◌≡◌, ◌-◌, Err, ℕ, List, length, min}
use Rattle.std.proofs.Common.{ap, subst, ◌∙◌}
use Rattle.modem_data.specs.DataLanes.{most_to_go}
use Rattle.modem_data.specs.Passing.{given, left}
use Rattle.modem_data.specs.PipeSets.{OfEachPast}
use Rattle.data_files.proofs.Waiting.{gives_err, gives_ok}
use Rattle.data_files.proofs.data_file.give.Goals as goal

pub returns-in_err-count-clause-gives : goal.returns-in_err-count-clause-gives
returns-in_err-count-clause-gives g c = gives_err c.args.line.now.relay.pipes c.args.dlci.number c.args.octets.now (Err c.in_err-count.field-0.0)
    c.in_err-count.ensures.others c.in_err-count.ensures.not_data c.in_err-count.ensures.not_open c.in_err-count.ensures.takes_none

pub returns-clause-gives : goal.returns-clause-gives
returns-clause-gives g c = gives_ok c.args.line.now.relay.pipes c.args.dlci.number c.in_ok-count.count c.min-count.result c.args.octets.now c.pass.new.self
    (subst (λ (xs : List ℕ). OfEachPast c.args.line.now.relay.pipes (λ role past. c.in_ok-count.count ≡ min (length xs) (most_to_go - (length (given c.args.dlci.number past) - length (left c.args.dlci.number past)))))
    c.as_slice-waiting.ensures c.in_ok-count.ensures.count)
    (c.min-count.ensures ∙ ap (λ (xs : List ℕ). min c.in_ok-count.count (length xs)) c.as_slice-waiting.ensures) c.pass.ensures
