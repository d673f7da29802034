use Rattle.std.proofs.Common.{◌≡◌, ◌++◌, ◌+◌, ◌≤◌, length, vec_capacity, vec_len}
use Rattle.rtrb.specs.Ring.{sent, received, known_items}
use Rattle.modem_desk.proofs.settling.empty_ring.Given as goal

abbrev pub invariant-loop : goal.invariant-loop
invariant-loop g l = record {
  all : received l.consumer ≡ received l.initial.consumer ++ l.into.items;
  rest : received l.consumer ++ known_items l.consumer ≡ sent l.producer;
  count : length (known_items l.consumer) + l.counter ≡ l.count;
  long : vec_len l.into ≡ l.counter;
  room : l.count ≤ vec_capacity l.into;
}
