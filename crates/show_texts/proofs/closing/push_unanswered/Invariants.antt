use Rattle.std.specs.Prelude.{◌≡◌, ◌++◌, take}
use Rattle.std.specs.List.{flat_map}
use Rattle.std.specs.String.{string_bytes}
use Rattle.show_texts.specs.Telling.{unanswered_line}
use Rattle.show_texts.proofs.closing.push_unanswered.Given as goal

abbrev pub invariant-loop-ask : goal.invariant-loop-ask
invariant-loop-ask l =
    string_bytes l.text ≡ string_bytes l.initial.text ++ flat_map (unanswered_line l.direction) (take l.ask-index l.asks)
