use Rattle.std.specs.Prelude.{map}
use Rattle.std.specs.String.{string_bytes}
use Rattle.modem_history.specs.Acts.{act_of}
use Rattle.ctl_text.specs.Input.{input_lines}
use Rattle.ctl_run.specs.Printed.{IsReplayedBy}
use Rattle.ctl_run.proofs.outputs.RunEnds.{at_known}
use Rattle.ctl_run.proofs.inputs.RequestNumbers.{script_once}
use Rattle.ctl_run.proofs.dialect_runs.replayed_by.Goals as goal

pub returns-clause-ok : goal.returns-clause-ok
returns-clause-ok g c =
    at_known (λ all. IsReplayedBy c.args.dialect.now c.args.n1.octets all (string_bytes c.in_ok-text.text)) (g.R.Read.remaining c.args.input.now) c.in_ok-script.script.items c.as_slice.result.now
    c.in_ok-script.ensures.whole c.as_slice.ensures.value (record {
      events = c.in_ok-events.events.items;
      acts = map act_of c.in_ok-acts.acts.items;
      script = c.in_ok-events.ensures;
      replays = (rw c.as_slice-2.ensures.value at c.in_ok-acts.ensures) (script_once (input_lines c.as_slice.result.now) 1 c.in_ok-events.events.items c.in_ok-events.ensures);
      printed = rw c.as_slice-3.ensures.value at c.in_ok-text.ensures;
    })
