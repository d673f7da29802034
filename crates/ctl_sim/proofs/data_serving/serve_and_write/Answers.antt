-- What was said while the client was served stands before what was said of the files.
use Rattle.std.proofs.Common.{ap, ◌∙◌}
use Rattle.std.proofs.lemmas.Result.{on_ok_weaker}
use Rattle.ctl_sim.proofs.data_serving.serve_and_write.Goals as goal

pub returns-clause-served : goal.returns-clause-served
returns-clause-served g c = on_ok_weaker c.end_client.result (λ ends. record {
  noted = g.E.Write.contents c.serve_rounds-ended.new.faults;
  unsent_said = c.serve_rounds-ended.ensures.said;
  last = c.end_client.new.client.line;
  named_are = c.end_client.ensures.named ∙ (c.serve_rounds-ended.ensures.named ∙ ap g.L.ModemLine.named c.new-client.ensures);
  ended = ends;
}) c.end_client.ensures.ends

pub returns-clause-said : goal.returns-clause-said
returns-clause-said g c = record { noted = g.E.Write.contents c.serve_rounds-ended.new.faults; unsent_said = c.serve_rounds-ended.ensures.said; ends_said = c.end_client.ensures.said }
