-- The octets so far went out.
use Rattle.std.specs.Prelude.{◌≡◌, ◌≤◌, ◌-◌, length, take, drop}
use Rattle.modem_desk.specs.Ends.{DriverView}
use Rattle.modem_history.specs.Sessions.{LineView}
use Rattle.modem_c.specs.Calls.{GivesOn}
use Rattle.modem_c.proofs.octets.give_on.Given as goal

abbrev pub invariant-loop-count : goal.invariant-loop-count
invariant-loop-count l = record {
  out : (v : LineView) (d : DriverView) → GivesOn v d l.initial.endpoint l.endpoint (take l.count l.room);
  behind : drop l.count l.room ≡ drop l.count l.initial.room;
  few : l.count ≤ length l.initial.room;
  same : length l.room ≡ length l.initial.room;
}

abbrev pub decreases-loop-count : goal.decreases-loop-count
decreases-loop-count l = length l.initial.room - l.count
