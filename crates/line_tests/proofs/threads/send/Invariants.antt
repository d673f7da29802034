-- What was sent so far and the rest are the whole text.
use Rattle.std.proofs.Common.{◌≡◌, ◌++◌}
use Rattle.line_tests.proofs.threads.send.Given as goal

abbrev pub invariant-loop : goal.invariant-loop
invariant-loop g l =
    (l.line.incoming ≡ l.initial.line.incoming) × (l.line.outgoing ≡ l.initial.line.outgoing)
    × (l.line.sent ++ l.rest ≡ l.initial.line.sent ++ l.text)
