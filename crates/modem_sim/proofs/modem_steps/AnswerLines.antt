-- Lines of answers.
use Rattle.std.specs.Prelude.{◌≡◌, ℕ, ◌+◌, ◌<◌, Bool, true, List, [], ◌∷◌, ◌++◌, length, take, map, slice_index_or, codes}
use Rattle.std.specs.Fmt.{decimal}
use Rattle.std.proofs.Common.{ap, sym, ◌∙◌, add-one, append_assoc}
use Rattle.std.proofs.Math.Seq.{take-suc}
use Rattle.std.proofs.lemmas.List.{map-append}
use Rattle.at_text.specs.declared.answer.AnswerLine.{AnswerLine}
use Rattle.modem_sim.specs.declared.contexts.PdpContext.{PdpContext}
use Rattle.modem_sim.specs.Steps.{line_of}
use Rattle.modem_sim.specs.StateTexts.{context_text, cell_text, reg_text}

-- one more context is one more line
pub more_contexts : (contexts : List PdpContext) (i : ℕ) (context : PdpContext) → i < length contexts → context ≡ slice_index_or contexts i context → map line_of (map context_text (take (i + 1) contexts)) ≡ map line_of (map context_text (take i contexts)) ++ line_of (context_text context) ∷ []
more_contexts contexts i context inside is =
    let one : take (i + 1) contexts ≡ take i contexts ++ context ∷ [] = rw add-one (take-suc contexts i context inside ∙ ap (λ x. take i contexts ++ x ∷ []) (sym is)) in
    ap (λ x. map line_of (map context_text x)) one
    ∙ ap (map line_of) (map-append context_text (take i contexts) (context ∷ []))
    ∙ map-append line_of (map context_text (take i contexts)) (context_text context ∷ [])

-- where the modem is registered
pub registered_text : (n : ℕ) (registered : Bool) (cell : List ℕ) → registered ≡ true → cell ≡ cell_text n → codes "+CREG: " ++ (decimal n ++ (codes ",1" ++ cell)) ≡ reg_text n registered
registered_text n registered cell is here =
    ap (λ x. codes "+CREG: " ++ (decimal n ++ (codes ",1" ++ x))) here
    ∙ sym (append_assoc (codes "+CREG: " ++ decimal n) (codes ",1") (cell_text n) ∙ append_assoc (codes "+CREG: ") (decimal n) (codes ",1" ++ cell_text n))
    ∙ ap (reg_text n) (sym is)

-- lines that were pushed one by one stand behind those that were there
pub pushed_line : (old before new some all : List AnswerLine) (line text : List ℕ) → new ≡ before ++ line_of line ∷ [] → before ≡ old ++ some → line ≡ text → all ≡ some ++ line_of text ∷ [] → new ≡ old ++ all
pushed_line old before new some all line text pushed begun is next =
    pushed
    ∙ ap (λ x. x ++ line_of line ∷ []) begun
    ∙ append_assoc old some (line_of line ∷ [])
    ∙ ap (λ x. old ++ x) (ap (λ x. some ++ line_of x ∷ []) is ∙ sym next)

-- three lines that were pushed stand behind those that were there
pub three_lines : (old a b c : List AnswerLine) (x y z : AnswerLine) → a ≡ old ++ x ∷ [] → b ≡ a ++ y ∷ [] → c ≡ b ++ z ∷ [] → c ≡ old ++ x ∷ y ∷ z ∷ []
three_lines old a b c x y z first second third =
    third
    ∙ ap (λ t. t ++ z ∷ []) (second ∙ ap (λ t. t ++ y ∷ []) first ∙ append_assoc old (x ∷ []) (y ∷ []))
    ∙ append_assoc old (x ∷ y ∷ []) (z ∷ [])
