-- The acts of the first are the first of the acts.
use Rattle.std.proofs.Common.{List, ap, sym, ◌∙◌}
use Rattle.std.proofs.lemmas.List.{take-map}
use Rattle.std.specs.Prelude.{map, take}
use Rattle.modem_history.specs.declared.act.Act as code
use Rattle.modem_history.specs.Acts.{act_of}
use Rattle.modem_core.proofs.frame_acts.FrameActsLineRoom.truncate.Goals as goal

pub returns : goal.returns
returns c =
    ap (map act_of) c.truncate.ensures.items
    ∙ (sym (take-map act_of c.args.count c.self.inside.acts.items) ∙ ap (λ (xs : List code.Act). take c.args.count (map act_of xs)) c.self.view_is)
