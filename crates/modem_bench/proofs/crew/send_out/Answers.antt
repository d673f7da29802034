use Rattle.std.proofs.Common.{◌≡◌, ◌+◌, ◌∙◌, List, [], ◌∷◌, ◌++◌, length, ap, append_assoc, arith, subst, sym}
use Rattle.std.proofs.lemmas.Result.{IfOk-at_ok}
use Rattle.std.proofs.lemmas.List.{length_push}
use Rattle.std.specs.declared.alloc.Global.{Global}
use Rattle.std.specs.declared.vec.Vec.{Vec}
use Rattle.std.specs.Vec.Iter.{into_iter_items}
use Rattle.modem_desk.specs.declared.request.Ask.{Ask}
use Rattle.modem_desk.specs.Ends.{CallerView}
use Rattle.modem_bench.specs.Asks.{asks_for}
use Rattle.modem_bench.specs.Running.{GoesOut}
use Rattle.modem_bench.specs.declared.signals.Signals.{Signals}
use Rattle.modem_bench.proofs.CallerThreads.{out_next}
use Rattle.modem_bench.proofs.crew.send_out.Goals as goal

pub loop-caller-preserved : goal.loop-caller-preserved
loop-caller-preserved g c =
    let i = c.loop-caller.invariant in
    let all = c.args.submissions.now in
    let steps : into_iter_items c.loop-caller.caller-iterator ≡ c.in-Some.caller ∷ into_iter_items c.next.new.self = c.in-Some.ensures.steps.0 in
    let counted = i.counted in
    let number : c.loop-caller.number ≡ 0 + length c.loop-caller.yielded = omega (arith, counted) in
    let theirs : c.in_ok-asks.asks.items ≡ asks_for c.loop-caller.number all =
    IfOk-at_ok (λ (r : Vec Ask Global × Signals). r.0.items ≡ asks_for c.loop-caller.number all) c.in_ok-asks.ensures.made c.share_of-share.ensures in
    let goes = subst (λ (x : CallerView). GoesOut x c.in_ok-asks.asks.items c.loop-caller.out.items c.send_next.new.out.items) c.in_ok-asks.ensures.kept c.in_ok-send_next.ensures in
    record {
      can_next = tt;
      is_finite = tt;
      out = out_next all 0 c.loop-caller.yielded c.loop-caller.out.items c.send_next.new.out.items c.in-Some.caller c.in_ok-asks.asks.items i.out (theirs ∙ ap (λ n. asks_for n all) number) goes;
      counted = ap (λ n. n + 1) i.counted ∙ sym (length_push c.loop-caller.yielded c.in-Some.caller);
      came = append_assoc c.loop-caller.yielded (c.in-Some.caller ∷ []) (into_iter_items c.next.new.self) ∙ ap (λ (l : List CallerView). c.loop-caller.yielded ++ l) (sym steps) ∙ i.came;
    }
