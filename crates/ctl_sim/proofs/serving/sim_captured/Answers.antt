use Rattle.std.specs.Prelude.{Result, Ok, Err, IsOk, OnOk}
use Rattle.std.proofs.Common.{sym, ◌∙◌}
use Rattle.std.proofs.lemmas.Bool.{false≢true}
use Rattle.ctl_sim.specs.Standing.{setting_by}
use Rattle.ctl_sim.proofs.Ending.{both_well, ends_captured, served_in_part}
use Rattle.ctl_sim.proofs.Watched.{is_captured}
use Rattle.ctl_sim.proofs.serving.sim_captured.Goals as goal

done : {T E P : Type 0} (r : Result T E) → IsOk r → OnOk r P → P
done (Ok x) ok h = h
done (Err e) ok h = absurd (false≢true ok)

pub returns-in-Ok-clause-captured : goal.returns-in-Ok-clause-captured
returns-in-Ok-clause-captured g c zero =
    let both = both_well c.serve_client-served.result c.captured-ended.result c.has_failed.result c.end.result _ c.captured-ended.ensures.well c.captured-ended.ensures.fault c.end.ensures.said zero in
    is_captured c.args.options (setting_by c.in-Ok.setup c.in-Ok.modem) (g.I.Read.remaining c.args.input.now) (g.W.Write.contents c.args.output.now) (g.W.Write.contents c.serve_client-served.new.output) c.args.capture c.new-recorder.result
    c.serve_client-served.new.watcher c.finish-capture.result c.in-Ok.ensures.1 c.new-recorder.ensures (done c.serve_client-served.result both.0 c.serve_client-served.ensures.watched) c.finish-capture.ensures (sym c.has_failed.ensures ∙ both.1)

pub returns-in-Ok-clause-sound : goal.returns-in-Ok-clause-sound
returns-in-Ok-clause-sound g c zero =
    let both = both_well c.serve_client-served.result c.captured-ended.result c.has_failed.result c.end.result _ c.captured-ended.ensures.well c.captured-ended.ensures.fault c.end.ensures.said zero in
    sym c.has_failed.ensures ∙ both.1

pub returns-in-Ok-clause-said : goal.returns-in-Ok-clause-said
returns-in-Ok-clause-said g c one =
    ends_captured c.args.options (setting_by c.in-Ok.setup c.in-Ok.modem) c.serve_client-served.result c.captured-ended.result c.has_failed.result
    c.finish-capture.result.failed c.end.result _ _ _ _ _ _ _ c.in-Ok.ensures.1 c.has_failed.ensures
    c.serve_client-served.ensures.fault c.serve_client-served.ensures.left c.serve_client-served.ensures.answered
    c.captured-ended.ensures.well c.captured-ended.ensures.fault c.end.ensures.well c.end.ensures.said one

pub returns-in-Ok-clause-left : goal.returns-in-Ok-clause-left
returns-in-Ok-clause-left g c one =
    served_in_part c.args.options _ _ _ _ _ _
    (ends_captured c.args.options (setting_by c.in-Ok.setup c.in-Ok.modem) c.serve_client-served.result c.captured-ended.result c.has_failed.result
    c.finish-capture.result.failed c.end.result _ (g.I.Read.remaining c.args.input.now) (g.I.Read.remaining c.serve_client-served.new.input)
    (g.W.Write.contents c.args.output.now) (g.W.Write.contents c.serve_client-served.new.output) _ _ c.in-Ok.ensures.1 c.has_failed.ensures
    c.serve_client-served.ensures.fault c.serve_client-served.ensures.left c.serve_client-served.ensures.answered
    c.captured-ended.ensures.well c.captured-ended.ensures.fault c.end.ensures.well c.end.ensures.said one)
