-- It was served so, where its capture didn't fail.
use Rattle.std.proofs.lemmas.Result.{on_ok_weaker}
use Rattle.ctl_sim.proofs.DataEnding.{ok_then}
use Rattle.ctl_sim.proofs.data_serving.serve_recorded.Goals as goal

pub returns-clause-served : goal.returns-clause-served
returns-clause-served g c = on_ok_weaker c.with_capture.result (λ ok. ok_then c.serve_and_write-ended.result ok.0 c.serve_and_write-ended.ensures.served) c.with_capture.ensures
