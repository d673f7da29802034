-- Of all connections nothing was said.
use Rattle.std.specs.Prelude.{◌≡◌, List, [], replicate, slice_index_or}
use Rattle.std.proofs.Common.{ap, ◌∙◌}
use Rattle.std.proofs.lemmas.List.{get_or-replicate}
use Rattle.mux_frame.specs.declared.dlci.Dlci.{Dlci}
use Rattle.at_text.specs.Rules.{Rules}
use Rattle.modem_show.specs.Talking.{Talk, TalksFit, silence}

-- where no frame passed, silence is what is kept of each
pub silent_fit : (rules : Rules) (ds : List Dlci) (ts : List Talk) → ts ≡ replicate 62 silence
    → TalksFit (record { rules = rules; data_channels = ds; talks = ts }) []
silent_fit rules ds ts e = record {
  each = λ d l. ap (λ (xs : List Talk). slice_index_or xs d silence) e ∙ get_or-replicate 62 d silence silence l;
}
