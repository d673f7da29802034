-- The frames so far went.
use Rattle.std.proofs.Common.{◌≡◌, ◌≤◌, length, take, drop, ◌-◌}
use Rattle.modem_data.specs.Hops.{GoesOut}
use Rattle.modem_data.proofs.relay.Relay.leave_all.Given as goal

abbrev pub invariant-loop-room : goal.invariant-loop-room
invariant-loop-room l = record {
  goes : GoesOut l.initial.self l.self (take l.count l.room);
  few : l.count ≤ length l.room;
  same : l.self ≡ record l.initial.self { pipes = l.self.pipes };
  long : length l.room ≡ length l.initial.room;
  behind : drop l.count l.room ≡ drop l.count l.initial.room;
  still : l.count ≡ 0 → l.self ≡ l.initial.self;
}

abbrev pub decreases-loop-room : goal.decreases-loop-room
decreases-loop-room l = length l.room - l.count
