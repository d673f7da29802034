use Rattle.std.specs.Prelude.{refl}
use Rattle.ctl_text.proofs.FirstWords.{word_cut}
use Rattle.ctl_text.proofs.lines.first_word.Goals as goal

pub returns : goal.returns
returns c =
    let cut = word_cut _ _ _ _ _ c.split_once.ensures refl refl c.unwrap_or.ensures in
    record { word = cut.0; behind = cut.1 }
