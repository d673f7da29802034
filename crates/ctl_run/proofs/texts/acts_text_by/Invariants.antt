use Rattle.std.specs.Prelude.{◌≡◌, map, take}
use Rattle.std.specs.List.{flat_map}
use Rattle.std.specs.String.{string_bytes}
use Rattle.modem_history.specs.Acts.{act_of}
use Rattle.ctl_run.specs.Texts.{act_text_by}
use Rattle.ctl_run.proofs.texts.acts_text_by.Given as goal

abbrev pub invariant-loop-act : goal.invariant-loop-act
invariant-loop-act l = string_bytes l.text ≡ flat_map (act_text_by l.dialect) (map act_of (take l.act-index l.acts))
