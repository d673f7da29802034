-- The numbers so far stand at the front of the room.
use Rattle.std.specs.Prelude.{◌≡◌, ◌++◌, map, take, drop}
use Rattle.modem_desk.specs.declared.request.Request.{Request}
use Rattle.modem_c.proofs.ending.put_numbers.Given as goal

abbrev pub invariant-loop-place : goal.invariant-loop-place
invariant-loop-place l = l.numbers ≡ map (λ (q : Request). q.number) (take l.place l.requests) ++ drop l.place l.initial.numbers
