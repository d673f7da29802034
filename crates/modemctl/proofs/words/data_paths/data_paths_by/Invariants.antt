-- So many are read.
use Rattle.std.specs.Prelude.{◌≡◌, All, map, take}
use Rattle.modemctl.specs.Drives.{data_path_text}
use Rattle.modemctl.proofs.words.data_paths.data_paths_by.Given as goal

abbrev pub invariant-loop-text : goal.invariant-loop-text
invariant-loop-text l = record {
  texts_are : map (λ t. t.now) (take l.text-index l.texts) ≡ map (λ p. data_path_text p) l.found.items;
  begin : All (λ p. p.begin ≡ l.begin) l.found.items;
}
