-- The frames so far were given and went.
use Rattle.std.specs.Prelude.{ℕ}
use Rattle.std.proofs.Common.{◌≡◌, ◌≤◌, ◌<◌, length, take, drop, ◌-◌}
use Rattle.modem_data.specs.PipeSets.{IsFreeAt}
use Rattle.modem_data.specs.Hops.{SendsOut}
use Rattle.modem_data.proofs.relay.Relay.pass_all_through.Given as goal

abbrev pub invariant-loop-room : goal.invariant-loop-room
invariant-loop-room l = record {
  sends : (d : ℕ) → IsFreeAt l.initial.self.pipes l.place d → SendsOut l.initial.self l.self d (take l.taken l.octets) (take l.count l.room);
  taken : l.taken ≤ length l.octets;
  few : l.count ≤ length l.room;
  same : l.self ≡ record l.initial.self { pipes = record l.initial.self.pipes { turn = l.self.pipes.turn } };
  long : length l.room ≡ length l.initial.room;
  behind : drop l.count l.room ≡ drop l.count l.initial.room;
  still : l.count ≡ 0 → l.self ≡ l.initial.self;
  some : 0 < l.count → 0 < l.taken;
}

abbrev pub decreases-loop-room : goal.decreases-loop-room
decreases-loop-room l = length l.room - l.count
