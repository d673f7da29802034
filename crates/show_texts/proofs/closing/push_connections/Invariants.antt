-- So many connections are printed.
use Rattle.std.specs.String.{string_bytes}
use Rattle.show_texts.specs.Telling.{AreClosed}
use Rattle.show_texts.proofs.closing.push_connections.Given as goal

abbrev pub invariant-loop-number : goal.invariant-loop-number
invariant-loop-number l =
    AreClosed l.talks l.tallies (string_bytes l.initial.text) (string_bytes l.text) l.some l.number
