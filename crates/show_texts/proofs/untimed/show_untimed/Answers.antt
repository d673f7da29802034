-- The octets of both ways are shown.
use Rattle.std.proofs.lemmas.Result.{IfOk-weaker}
use Rattle.show_texts.specs.Options.{setting_by}
use Rattle.show_texts.proofs.Merged.{shown_untimed}
use Rattle.show_texts.proofs.untimed.show_untimed.Goals as goal

pub returns-clause-shown : goal.returns-clause-shown
returns-clause-shown g c =
    IfOk-weaker c.show_frames.result _ _
    (λ wrong prints. shown_untimed (setting_by c.args.options) wrong _ _ _ _ c.in_ok-to_frames.to_frames.items c.in_ok-from_frames.from_frames.items c.as_slice.result.now c.as_slice-2.result.now
    c.in_ok-to_frames.ensures.read c.in_ok-from_frames.ensures.read c.as_slice.ensures.value c.as_slice-2.ensures.value prints)
    c.show_frames.ensures.shown
