-- The setting that options give.
use Rattle.show_texts.specs.declared.run.ShowOptions.{ShowOptions}
use Rattle.show_texts.specs.Telling.{Setting}

abbrev pub setting_by : ShowOptions → Setting
setting_by o = record { n1 = o.n1; rules = o.dialect; data_channels = o.data_channels.items }
