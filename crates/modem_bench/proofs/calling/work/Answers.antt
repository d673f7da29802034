use Rattle.std.proofs.Common.{◌≡◌, subst, sym}
use Rattle.std.proofs.lemmas.Result.{IfOk-at_ok}
use Rattle.std.specs.Prelude.{Ok}
use Rattle.std.specs.declared.alloc.Global.{Global}
use Rattle.std.specs.declared.vec.Vec.{Vec}
use Rattle.modem_desk.specs.Ends.{CallerView}
use Rattle.modem_desk.specs.declared.request.Outcome.{Outcome}
use Rattle.modem_bench.specs.Calling.{Works}
use Rattle.modem_bench.proofs.calling.work.Goals as goal

pub returns : goal.returns
returns g c =
    let asks = c.args.asks.items in
    let outcomes = c.in_ok-outcomes.outcomes in
    let told = IfOk-at_ok (λ (os : Vec Outcome Global). c.work_on-told.result ≡ Ok os) c.in_ok-outcomes.ensures.made c.or_give_up.ensures in
    let works = IfOk-at_ok (λ (os : Vec Outcome Global). Works c.args.caller c.work_on-told.new.caller asks os.items) told c.work_on-told.ensures in
    subst (λ (x : CallerView). Works c.args.caller x asks outcomes.items) (sym c.in_ok-outcomes.ensures.kept) works
