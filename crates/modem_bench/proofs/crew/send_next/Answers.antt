-- Its thread is kept behind the others.
use Rattle.std.proofs.Common.{ap}
use Rattle.std.proofs.lemmas.Result.{on_ok_weaker}
use Rattle.std.specs.declared.alloc.Global.{Global}
use Rattle.std.specs.declared.vec.Vec.{Vec}
use Rattle.modem_desk.specs.declared.request.Ask.{Ask}
use Rattle.modem_bench.proofs.crew.send_next.Goals as goal

pub returns : goal.returns
returns g c = on_ok_weaker c.keep.result (λ kept. record {
  handle = c.in_ok-handle.handle;
  was = c.in_ok-handle.ensures.0;
  asks_are = ap (λ (v : Vec Ask Global). v.items) c.in_ok-handle.ensures.1;
  items = kept;
}) c.keep.ensures
