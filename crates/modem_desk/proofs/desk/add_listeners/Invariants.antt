use Rattle.std.proofs.Common.{◌≡◌, [], length, take, replicate}
use Rattle.modem_desk.specs.Ends.{AreNewListeners}
use Rattle.modem_desk.proofs.desk.add_listeners.Given as goal

abbrev pub invariant-loop-kind : goal.invariant-loop-kind
invariant-loop-kind l = record {
  same : l.driver ≡ record l.initial.driver {
    desk = record l.initial.driver.desk { kinds = take l.kind-index l.kinds; line_rings = l.driver.desk.line_rings };
    announced = replicate l.kind-index [];
    free_lines = replicate l.kind-index 256;
    announced_back = replicate l.kind-index 0;
  };
  line_rings : length l.driver.desk.line_rings ≡ l.kind-index;
  length : length l.all.items ≡ l.kind-index;
  new_listeners : AreNewListeners l.driver.desk l.all.items;
}
