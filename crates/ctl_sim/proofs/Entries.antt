-- Entries into the multiplexer, as more comes and goes behind them.
use Rattle.std.specs.Prelude.{◌≡◌, ℕ, List, [], ◌∷◌, ◌++◌, refl}
use Rattle.std.proofs.Common.{ap, ◌∙◌, append_assoc, append-nil}
use Rattle.ctl_sim.specs.Serving.{Entry, with_more}

-- where nothing more comes or goes, the entries stay
pub none_more : (es : List Entry) → with_more [] [] es ≡ es
none_more [] = refl
none_more (e ∷ es) =
    ap (λ (l : List ℕ). (record { n1 = e.n1; came = l; went = e.went ++ [] }) ∷ with_more [] [] es) (append-nil e.came)
    ∙ ap (λ (l : List ℕ). (record { n1 = e.n1; came = e.came; went = l }) ∷ with_more [] [] es) (append-nil e.went) ∙ ap (λ (l : List Entry). e ∷ l) (none_more es)

more_both : (a b : List ℕ) (es fs : List Entry) → with_more a b (es ++ fs) ≡ with_more a b es ++ with_more a b fs
more_both a b [] fs = refl
more_both a b (e ∷ es) fs = ap (λ (l : List Entry). (record { n1 = e.n1; came = e.came ++ a; went = e.went ++ b }) ∷ l) (more_both a b es fs)

-- behind one more
pub entry_more : (n1 : ℕ) (behind later more : List ℕ) (es fs : List Entry)
    → with_more later more (es ++ (record { n1 = n1; came = behind; went = [] }) ∷ []) ++ fs ≡ with_more later more es ++ ((record { n1 = n1; came = behind ++ later; went = more }) ∷ fs)
entry_more n1 behind later more es fs =
    ap (λ (l : List Entry). l ++ fs) (more_both later more es ((record { n1 = n1; came = behind; went = [] }) ∷ []))
    ∙ append_assoc (with_more later more es) ((record { n1 = n1; came = behind ++ later; went = more }) ∷ []) fs
