use Rattle.std.proofs.Common.{◌≡◌, ◌∙◌, List, [], ◌∷◌, ◌++◌, ap, append_assoc, sym}
use Rattle.std.specs.Vec.Iter.{into_iter_items}
use Rattle.modem_bench.specs.Running.{Work}
use Rattle.modem_bench.proofs.CallerThreads.{back_next}
use Rattle.modem_bench.proofs.crew.bring_back.Goals as goal

pub loop-handle-preserved-in-Ok : goal.loop-handle-preserved-in-Ok
loop-handle-preserved-in-Ok g c =
    let i = c.loop-handle.invariant in
    let steps : into_iter_items c.loop-handle.handle-iterator ≡ c.in-Some.handle ∷ into_iter_items c.next.new.self = c.in-Some.ensures.steps.0 in
    record {
      can_next = tt;
      is_finite = tt;
      back = back_next c.loop-handle.end c.loop-handle.yielded c.loop-handle.back.items c.join_one.new.back.items c.in-Some.handle i.back c.in-Ok.ensures;
      came = append_assoc c.loop-handle.yielded (c.in-Some.handle ∷ []) (into_iter_items c.next.new.self) ∙ ap (λ (l : List Work). c.loop-handle.yielded ++ l) (sym steps) ∙ i.came;
    }
