use Rattle.std.proofs.Common.{◌≡◌, ◌++◌, ◌+◌, ◌≤◌, ◌<◌, true, false, [], length, vec_capacity}
use Rattle.std.specs.Prelude.{All}
use Rattle.crossbeam_queue.specs.Passes.{view, IsPassOf}
use Rattle.modem_desk.specs.Rule.{AllLeft}
use Rattle.modem_desk.proofs.settling.drain.Given as goal

abbrev pub invariant-loop : goal.invariant-loop
invariant-loop g l = record {
  of_queue : IsPassOf l.queue l.pass;
  drives : (view l.pass).drives ≡ true;
  all_left : AllLeft (view l.pass);
  known : (view l.pass).known ≡ (view l.initial.pass).known;
  taken : (view l.pass).taken ≡ (view l.initial.pass).taken ++ l.left.items;
  given : (view l.pass).given ≡ (view l.initial.pass).given;
  below : All (λ r. r.caller < (view l.initial.pass).given) l.left.items;
  room : 64 ≤ vec_capacity l.left;
  begun : (view l.pass).counted ≡ true → length l.left.items + length (view l.pass).waiting ≤ 64;
  fresh : (view l.pass).counted ≡ false → l.left.items ≡ [];
}
