-- So many are read.
use Rattle.std.specs.Prelude.{◌≡◌, map, take}
use Rattle.std.specs.Fmt.{decimal}
use Rattle.modemctl.proofs.words.showing.channels_of.Given as goal

abbrev pub invariant-loop-text : goal.invariant-loop-text
invariant-loop-text l = map (λ t. t.now) (take l.text-index l.texts) ≡ map (λ d. decimal d.number) l.channels.items
