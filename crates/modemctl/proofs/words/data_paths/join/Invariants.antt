-- So many are behind the first.
use Rattle.std.specs.Prelude.{◌≡◌, ◌++◌, take}
use Rattle.modemctl.proofs.words.data_paths.join.Given as goal

abbrev pub invariant-loop-one : goal.invariant-loop-one
invariant-loop-one l = l.all.items ≡ l.fn.first.items ++ take l.one-index l.others
