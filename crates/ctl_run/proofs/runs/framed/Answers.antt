use Rattle.std.specs.Prelude.{map}
use Rattle.std.specs.String.{string_bytes}
use Rattle.mux_frame.specs.Frames.{kept_frame}
use Rattle.ctl_run.specs.Printed.{IsFramed}
use Rattle.ctl_run.proofs.outputs.RunEnds.{at_known}
use Rattle.ctl_run.proofs.runs.framed.Goals as goal

pub returns-clause-ok : goal.returns-clause-ok
returns-clause-ok g c =
    at_known (λ all. IsFramed c.args.n1.octets all (string_bytes c.in_ok-text.text)) (g.R.Read.remaining c.args.input.now) c.in_ok-dump.dump.items c.as_slice.result.now
    c.in_ok-dump.ensures.whole c.as_slice.ensures.value (record {
      octets = c.in_ok-octets.octets.items;
      frames = map kept_frame c.in_ok-frames.frames.items;
      rest = c.in_ok-frames.rest.items;
      dump = c.in_ok-octets.ensures;
      reads = rw c.as_slice-2.ensures.value at c.in_ok-frames.ensures;
      printed = rw (c.as_slice-3.ensures.value, c.as_slice-4.ensures.value) at c.in_ok-text.ensures;
    })
