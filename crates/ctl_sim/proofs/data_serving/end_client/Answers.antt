-- All is written where it ended well.
use Rattle.std.proofs.lemmas.Result.{on_ok_weaker}
use Rattle.ctl_sim.proofs.data_serving.end_client.Goals as goal

pub returns-clause-ends : goal.returns-clause-ends
returns-clause-ends g c = on_ok_weaker c.judge.result (λ ok. c.in-Ok.ensures.ends ok.1) c.judge.ensures
