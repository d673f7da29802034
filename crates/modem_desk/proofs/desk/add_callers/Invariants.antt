use Rattle.std.proofs.Common.{◌≡◌, [], length, replicate}
use Rattle.modem_desk.specs.Ends.{AreNewCallers}
use Rattle.modem_desk.proofs.desk.add_callers.Given as goal

abbrev pub invariant-loop : goal.invariant-loop
invariant-loop l = record {
  same : l.driver ≡ record l.initial.driver {
    desk = record l.initial.driver.desk { rings = l.driver.desk.rings };
    told = replicate l.counter [];
    free = replicate l.counter 8;
    told_back = replicate l.counter 0;
  };
  callers : length l.driver.desk.rings ≡ l.counter;
  length : length l.all.items ≡ l.counter;
  new_callers : AreNewCallers l.driver.desk l.first l.all.items;
}
