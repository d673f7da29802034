use Rattle.std.proofs.Common.{take, map, ◌≡◌, ◌+◌, ◌<◌, ℕ, List, [], ◌∷◌, ◌++◌, length, ap, sym, ◌∙◌, add-one}
use Rattle.std.specs.Prelude.{slice_index_or}
use Rattle.std.proofs.Math.Seq.{take-suc}
use Rattle.std.proofs.lemmas.List.{map-append}
use Rattle.modem_sim.specs.declared.contexts.PdpContext.{PdpContext}
use Rattle.modem_sim.specs.Steps.{line_of}
use Rattle.modem_sim.specs.StateTexts.{whole_context_text}
use Rattle.modem_sim.proofs.modem_steps.AnswerLines.{pushed_line}
use Rattle.modem_sim.proofs.activity.push_whole_contexts.Goals as goal

-- one more context is one more line
more_wholes : (contexts : List PdpContext) (i : ℕ) (context : PdpContext) → i < length contexts → context ≡ slice_index_or contexts i context → map line_of (map whole_context_text (take (i + 1) contexts)) ≡ map line_of (map whole_context_text (take i contexts)) ++ line_of (whole_context_text context) ∷ []
more_wholes contexts i context inside is =
    let one : take (i + 1) contexts ≡ take i contexts ++ context ∷ [] = rw add-one (take-suc contexts i context inside ∙ ap (λ x. take i contexts ++ x ∷ []) (sym is)) in
    ap (λ x. map line_of (map whole_context_text x)) one
    ∙ ap (map line_of) (map-append whole_context_text (take i contexts) (context ∷ []))
    ∙ map-append line_of (map whole_context_text (take i contexts)) (whole_context_text context ∷ [])

pub loop-context-preserved : goal.loop-context-preserved
loop-context-preserved c =
    let contexts = c.args.contexts.now in
    let i = c.loop-context.context-index in
    pushed_line c.args.answer.now.items c.loop-context.answer.items c.push_line.new.answer.items
    (map line_of (map whole_context_text (take i contexts))) (map line_of (map whole_context_text (take (i + 1) contexts)))
    c.in_ok-whole_context_line.field-0.items (whole_context_text c.context-item.result)
    c.in_ok-push_line.ensures c.loop-context.invariant c.in_ok-whole_context_line.ensures
    (more_wholes contexts i c.context-item.result c.loop-context-test.true c.context-item.is)
