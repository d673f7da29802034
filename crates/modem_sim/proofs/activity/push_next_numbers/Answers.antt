use Rattle.std.proofs.Common.{take, ◌≡◌, ◌+◌, ◌<◌, ℕ, List, [], ◌∷◌, ◌++◌, length, ap, sym, ◌∙◌, add-one, append_assoc, append-nil, rules}
use Rattle.std.specs.Prelude.{slice_index_or}
use Rattle.std.specs.List.{flat_map}
use Rattle.std.proofs.Math.Seq.{take-suc}
use Rattle.std.proofs.lemmas.Grind.{flat_map-append}
use Rattle.modem_sim.specs.declared.contexts.PdpContext.{PdpContext}
use Rattle.modem_sim.specs.SettingTexts.{next_number}
use Rattle.modem_sim.proofs.activity.push_next_numbers.Goals as goal

-- one more context is one more number
more_numbers : (start before after : List ℕ) (contexts : List PdpContext) (i : ℕ) (context : PdpContext) → i < length contexts → context ≡ slice_index_or contexts i context → before ≡ start ++ flat_map next_number (take i contexts) → after ≡ before ++ next_number context
    → after ≡ start ++ flat_map next_number (take (i + 1) contexts)
more_numbers start before after contexts i context inside is so_far added =
    let one : take (i + 1) contexts ≡ take i contexts ++ context ∷ [] = rw add-one (take-suc contexts i context inside ∙ ap (λ x. take i contexts ++ x ∷ []) (sym is)) in
    added ∙ ap (λ x. x ++ next_number context) so_far ∙ append_assoc start (flat_map next_number (take i contexts)) (next_number context)
    ∙ ap (λ x. start ++ (flat_map next_number (take i contexts) ++ x)) (sym (append-nil (next_number context)))
    ∙ ap (λ x. start ++ x) (sym (flat_map-append next_number (take i contexts) (context ∷ [])))
    ∙ ap (λ x. start ++ flat_map next_number x) (sym one)

pub loop-context-preserved : goal.loop-context-preserved
loop-context-preserved c =
    more_numbers c.args.text.now.items c.loop-context.text.items _ c.args.contexts.now c.loop-context.context-index c.context-item.result c.loop-context-test.true c.context-item.is c.loop-context.invariant (search rules)
