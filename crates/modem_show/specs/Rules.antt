-- Which rules the faults of a frame break.
use Rattle.std.specs.Prelude.{ℕ, Bool, false, List, codes}
use Rattle.modem_show.specs.declared.faults.Faults.{Faults}
use Rattle.modem_show.specs.declared.rule.Rule.{Rule}
use Rattle.modem_show.specs.declared.rule.Rule.TheVariants.{Unasked, Unopened, Unstopped, TooLong, Astray, Unanswered, Overlapping, Unprompted, Unfinished}

-- the frame breaks the rule
abbrev pub breaks : Faults → Rule → Bool
breaks f Unasked = f.unasked
breaks f Unopened = f.unopened
breaks f Unstopped = f.unstopped
breaks f TooLong = f.too_long
breaks f Astray = f.astray
breaks f _ = false

-- the rule in words
abbrev pub rule_words : Rule → List ℕ
rule_words Unasked = codes "an answer that nothing waits for: it came twice, or unasked"
rule_words Unopened = codes "data on a connection that isn't open"
rule_words Unstopped = codes "data on a connection that is stopped"
rule_words TooLong = codes "more information than N1 allows"
rule_words Astray = codes "a control message as data"
rule_words Unanswered = codes "never answered"
rule_words Overlapping = codes "a command while another one is under way"
rule_words Unprompted = codes "an answer without a command"
rule_words Unfinished = codes "a command without an answer"
