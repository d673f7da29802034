-- What came so far was received, and there is room for the rest.
use Rattle.std.proofs.Common.{◌≡◌, ◌≤◌, ◌++◌, length, vec_capacity}
use Rattle.line_tests.proofs.threads.receive.Given as goal

abbrev pub invariant-loop : goal.invariant-loop
invariant-loop g l =
    (l.line.incoming ≡ l.initial.line.incoming) × (l.line.outgoing ≡ l.initial.line.outgoing)
    × (l.line.received ≡ l.initial.line.received ++ l.text.items)
    × (length l.text.items ≤ l.total) × (l.total ≤ vec_capacity l.text)
