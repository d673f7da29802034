-- Frames that are judged one after the other.
use Rattle.std.specs.Prelude.{◌≡◌, ℕ, ◌||◌, Bool, true, false, List, [], ◌∷◌, ◌++◌, reverse, refl}
use Rattle.std.specs.List.{list_any}
use Rattle.std.proofs.Common.{ap, ◌∙◌}
use Rattle.std.proofs.lemmas.List.{reverse-append}
use Rattle.std.proofs.lemmas.List.Folds.{list_any-append}
use Rattle.mux_capture.specs.Passing.{Caught}
use Rattle.modem_show.specs.declared.faults.Faults.{Faults}
use Rattle.modem_show.specs.declared.rule.Rule.{Rule}
use Rattle.modem_show.specs.Judging.{faults_from, faults_of}
use Rattle.modem_show.specs.Rules.{breaks}
use Rattle.show_laws.specs.Lines.{NoneBreaks}

-- the frames, of which the first comes first, put onto a line
abbrev onto : List Caught → List Caught → List Caught
onto line [] = line
onto line (c ∷ more) = onto (c ∷ line) more

faults_on : (n1 : ℕ) (line xs ys : List Caught) → faults_from n1 line (xs ++ ys) ≡ faults_from n1 line xs ++ faults_from n1 (onto line xs) ys
faults_on n1 line [] ys = refl
faults_on n1 line (c ∷ xs) ys = ap (λ (fs : List Faults). faults_of n1 line c ∷ fs) (faults_on n1 (c ∷ line) xs ys)

-- turned round, one frame more stands last
pub turned : (c : Caught) (line : List Caught) → reverse (c ∷ line) ≡ reverse line ++ c ∷ []
turned c line = reverse-append (c ∷ []) line

onto_both : (line xs ys : List Caught) → onto line (xs ++ ys) ≡ onto (onto line xs) ys
onto_both line [] ys = refl
onto_both line (c ∷ xs) ys = onto_both (c ∷ line) xs ys

onto_turned : (line : List Caught) → onto [] (reverse line) ≡ line
onto_turned [] = refl
onto_turned (c ∷ line) = ap (onto []) (turned c line) ∙ (onto_both [] (reverse line) (c ∷ []) ∙ ap (λ (xs : List Caught). c ∷ xs) (onto_turned line))

-- so it is judged last, behind those that passed before
pub judged : (n1 : ℕ) (c : Caught) (line : List Caught) → faults_from n1 [] (reverse (c ∷ line)) ≡ faults_from n1 [] (reverse line) ++ faults_of n1 line c ∷ []
judged n1 c line =
    ap (faults_from n1 []) (turned c line)
    ∙ (faults_on n1 [] (reverse line) (c ∷ []) ∙ ap (λ (l : List Caught). faults_from n1 [] (reverse line) ++ faults_from n1 l (c ∷ [])) (onto_turned line))

either_off : (a b : Bool) → a ≡ false → b ≡ false → (a || (b || false)) ≡ false
either_off true b h k = cc
either_off false true h k = cc
either_off false false h k = refl

-- one frame more doesn't break the rule either
pub one_more : (rule : Rule) (n1 : ℕ) (c : Caught) (line : List Caught) → NoneBreaks rule n1 line → breaks (faults_of n1 line c) rule ≡ false → NoneBreaks rule n1 (c ∷ line)
one_more rule n1 c line before h =
    let t : Faults → Bool = λ f. breaks f rule in
    ap (list_any t) (judged n1 c line)
    ∙ (list_any-append t (faults_from n1 [] (reverse line)) (faults_of n1 line c ∷ [])
    ∙ either_off (list_any t (faults_from n1 [] (reverse line))) (t (faults_of n1 line c)) before h)
