use Rattle.std.specs.Prelude.{◌≡◌, ◌++◌, OnOk}
use Rattle.std.specs.Vec.Iter.{into_iter_items}
use Rattle.modem_bench.specs.Running.{AreBack}
use Rattle.modem_bench.proofs.crew.bring_back.Given as goal

abbrev pub invariant-loop-handle : goal.invariant-loop-handle
invariant-loop-handle g l = record {
  can_next : (goal.iterator-loop-handle g).can_next l.handle-iterator;
  is_finite : (goal.iterator-loop-handle g).is_finite l.handle-iterator;
  back : OnOk l.end (AreBack l.yielded l.back.items);
  came : l.yielded ++ into_iter_items l.handle-iterator ≡ l.fn.out.items;
}
