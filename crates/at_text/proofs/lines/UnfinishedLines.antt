-- Lines are read on from the unfinished run, and from what is kept of it.
use Rattle.std.specs.Prelude.{◌≡◌, ℕ, zero, suc, ◌||◌, Bool, true, false, List, [], ◌∷◌, ◌++◌, take, refl, if◌then◌else◌, map, filter}
use Rattle.std.specs.List.{list_any}
use Rattle.std.proofs.Common.{ap, sym, ◌∙◌}
use Rattle.std.proofs.lemmas.List.{map-append}
use Rattle.std.proofs.lemmas.List.Elements.{filter-append}
use Rattle.std.proofs.lemmas.List.Folds.{list_any-append}
use Rattle.at_text.specs.Lines.{is_line_end, onto_first, ended_runs, unfinished, is_filled, cut, lines, kept_run, ReadsOn}

-- a line end is in the text
abbrev pub has_end : List ℕ → Bool
has_end text = list_any is_line_end text

-- ## Texts without a line end

no_first : (b h : Bool) → (b || h) ≡ false → b ≡ false
no_first true h e = cc
no_first false h e = refl

no_later : (b h : Bool) → (b || h) ≡ false → h ≡ false
no_later true h e = cc
no_later false h e = e

-- such a text is all unfinished
pub unfinished_all : (text : List ℕ) → has_end text ≡ false → unfinished text ≡ text
unfinished_all [] none = refl
unfinished_all (c ∷ text) none = rw none refl

-- and no run of it has ended
pub no_run : (text : List ℕ) → has_end text ≡ false → ended_runs text ≡ []
no_run [] none = refl
no_run (c ∷ text) none =
    rw (no_first (is_line_end c) (has_end text) none, no_run text (no_later (is_line_end c) (has_end text) none)) refl

has_end-append : (x y : List ℕ) → has_end x ≡ false → has_end (x ++ y) ≡ has_end y
has_end-append x y none = list_any-append is_line_end x y ∙ rw none refl

-- nor has its beginning a line end
pub has_end-take : (n : ℕ) (text : List ℕ) → has_end text ≡ false → has_end (take n text) ≡ false
has_end-take zero text none = refl
has_end-take (suc n) [] none = refl
has_end-take (suc n) (c ∷ text) none =
    rw (no_first (is_line_end c) (has_end text) none) (has_end-take n text (no_later (is_line_end c) (has_end text) none))

-- what is unfinished has none
pub has_end-unfinished : (text : List ℕ) → has_end (unfinished text) ≡ false
has_end-unfinished [] = refl
has_end-unfinished (c ∷ text) = at (has_end (c ∷ text)) c text refl (has_end-unfinished text)
  where
    at : (b : Bool) (c : ℕ) (text : List ℕ) → has_end (c ∷ text) ≡ b → has_end (unfinished text) ≡ false → has_end (if b then unfinished text else c ∷ text) ≡ false
    at true c text e h = h
    at false c text e h = e

-- a run before the first of some runs
abbrev onto_run : List ℕ → List (List ℕ) → List (List ℕ)
onto_run run [] = []
onto_run run (r ∷ rs) = (run ++ r) ∷ rs

onto_first-onto_run : (c : ℕ) (run : List ℕ) (runs : List (List ℕ)) → onto_first c (onto_run run runs) ≡ onto_run (c ∷ run) runs
onto_first-onto_run c run [] = refl
onto_first-onto_run c run (r ∷ rs) = refl

onto_run-nil : (runs : List (List ℕ)) → onto_run [] runs ≡ runs
onto_run-nil [] = refl
onto_run-nil (r ∷ rs) = refl

-- a run without a line end is the beginning of what ends first after it
pub ended_runs-behind : (run y : List ℕ) → has_end run ≡ false → ended_runs (run ++ y) ≡ onto_run run (ended_runs y)
ended_runs-behind [] y none = sym (onto_run-nil (ended_runs y))
ended_runs-behind (c ∷ run) y none =
    let here : is_line_end c ≡ false = no_first (is_line_end c) (has_end run) none in
    let rest : ended_runs (run ++ y) ≡ onto_run run (ended_runs y) = ended_runs-behind run y (no_later (is_line_end c) (has_end run) none) in
    rw here (rw rest (onto_first-onto_run c run (ended_runs y)))

-- behind such a run what is unfinished goes on from it, unless a line ends there
pub unfinished-behind : (run y : List ℕ) → has_end run ≡ false → unfinished (run ++ y) ≡ (if has_end y then unfinished y else run ++ y)
unfinished-behind [] y none = at (has_end y) y refl
  where
    at : (b : Bool) (y : List ℕ) → has_end y ≡ b → unfinished y ≡ (if b then unfinished y else y)
    at true y e = refl
    at false y e = unfinished_all y e
unfinished-behind (c ∷ run) y none =
    let rest : has_end run ≡ false = no_later (is_line_end c) (has_end run) none in
    let here : is_line_end c ≡ false = no_first (is_line_end c) (has_end run) none in
    rw (here, has_end-append run y rest) (at (has_end y) c (run ++ y) (if has_end y then unfinished y else run ++ y) (unfinished y) (unfinished-behind run y rest) refl)
  where
    at : (b : Bool) (c : ℕ) (all rest last : List ℕ) → unfinished all ≡ rest → rest ≡ (if b then last else all) → (if b then unfinished all else c ∷ all) ≡ (if b then last else c ∷ all)
    at true c all rest last h e = h ∙ e
    at false c all rest last h e = refl

-- ## Reading on

abbrev has_runs : List (List ℕ) → Bool
has_runs [] = false
has_runs (r ∷ rs) = true

has_runs-onto : (c : ℕ) (runs : List (List ℕ)) → has_runs (onto_first c runs) ≡ has_runs runs
has_runs-onto c [] = refl
has_runs-onto c (r ∷ rs) = refl

has_runs-ended : (text : List ℕ) → has_runs (ended_runs text) ≡ has_end text
has_runs-ended [] = refl
has_runs-ended (c ∷ text) = at (is_line_end c) c text (has_runs-ended text)
  where
    at : (b : Bool) (c : ℕ) (text : List ℕ) → has_runs (ended_runs text) ≡ has_end text → has_runs (if b then [] ∷ ended_runs text else onto_first c (ended_runs text)) ≡ (b || has_end text)
    at true c text h = refl
    at false c text h = has_runs-onto c (ended_runs text) ∙ h

onto_first-append : (c : ℕ) (xs ys : List (List ℕ)) → has_runs xs ≡ true → onto_first c (xs ++ ys) ≡ onto_first c xs ++ ys
onto_first-append c [] ys h = cc
onto_first-append c (x ∷ xs) ys h = refl

-- the runs that end later go on from what is unfinished
pub ended_runs-append : (x y : List ℕ) → ended_runs (x ++ y) ≡ ended_runs x ++ ended_runs (unfinished x ++ y)
ended_runs-append [] y = refl
ended_runs-append (c ∷ x) y = at (is_line_end c) (has_end x) c x y refl refl (ended_runs-append x y)
  where
    at : (b h : Bool) (c : ℕ) (x y : List ℕ) → is_line_end c ≡ b → has_end x ≡ h → ended_runs (x ++ y) ≡ ended_runs x ++ ended_runs (unfinished x ++ y)
        → ended_runs ((c ∷ x) ++ y) ≡ ended_runs (c ∷ x) ++ ended_runs (unfinished (c ∷ x) ++ y)
    at true h c x y e f more = rw e (ap (λ (v : List (List ℕ)). [] ∷ v) more)
    at false true c x y e f more = rw (e, f) (rw more (onto_first-append c (ended_runs x) (ended_runs (unfinished x ++ y)) (has_runs-ended x ∙ f)))
    at false false c x y e f more = rw (e, f) (rw (e, no_run x f) refl)

-- so does what is unfinished then
pub unfinished-append : (x y : List ℕ) → unfinished (x ++ y) ≡ unfinished (unfinished x ++ y)
unfinished-append [] y = refl
unfinished-append (c ∷ x) y = at (has_end (c ∷ x)) c x y refl (unfinished-append x y)
  where
    at : (b : Bool) (c : ℕ) (x y : List ℕ) → has_end (c ∷ x) ≡ b → unfinished (x ++ y) ≡ unfinished (unfinished x ++ y)
        → unfinished ((c ∷ x) ++ y) ≡ unfinished (unfinished (c ∷ x) ++ y)
    at true c x y e more = rw (list_any-append is_line_end (c ∷ x) y, e) more
    at false c x y e more = rw e refl

lines-split : (x y : List (List ℕ)) → map cut (filter is_filled (x ++ y)) ≡ map cut (filter is_filled x) ++ map cut (filter is_filled y)
lines-split x y = rw (filter-append is_filled x y) (map-append cut (filter is_filled x) (filter is_filled y))

-- and so do the lines
pub lines-append : (x y : List ℕ) → lines (x ++ y) ≡ lines x ++ lines (unfinished x ++ y)
lines-append x y = rw (ended_runs-append x y) (lines-split (ended_runs x) (ended_runs (unfinished x ++ y)))

-- ## What is cut

take-take_append : (n : ℕ) (run y : List ℕ) → take n (take n run ++ y) ≡ take n (run ++ y)
take-take_append zero run y = refl
take-take_append (suc n) [] y = refl
take-take_append (suc n) (c ∷ run) y = ap (λ (v : List ℕ). c ∷ v) (take-take_append n run y)

is_filled-cut : (run y : List ℕ) → is_filled (cut run ++ y) ≡ is_filled (run ++ y)
is_filled-cut [] y = refl
is_filled-cut (c ∷ run) y = refl

-- a run cut to what is kept gives the same lines
pub lines-cut : (run y : List ℕ) → has_end run ≡ false → lines (cut run ++ y) ≡ lines (run ++ y)
lines-cut run y none =
    rw (ended_runs-behind (cut run) y (has_end-take 512 run none), ended_runs-behind run y none) (at run (ended_runs y))
  where
    same : (b : Bool) (x y : List ℕ) (rest : List (List ℕ)) → cut x ≡ cut y → map cut (if b then x ∷ filter is_filled rest else filter is_filled rest) ≡ map cut (if b then y ∷ filter is_filled rest else filter is_filled rest)
    same true x y rest e = ap (λ (v : List ℕ). v ∷ map cut (filter is_filled rest)) e
    same false x y rest e = refl

    at : (run : List ℕ) (runs : List (List ℕ)) → map cut (filter is_filled (onto_run (cut run) runs)) ≡ map cut (filter is_filled (onto_run run runs))
    at run [] = refl
    at run (r ∷ rs) = rw (is_filled-cut run r) (same (is_filled (run ++ r)) (cut run ++ r) (run ++ r) rs (take-take_append 512 run r))

-- and what is kept then is the same
pub kept_run-cut : (run y : List ℕ) → has_end run ≡ false → kept_run (cut run ++ y) ≡ kept_run (run ++ y)
kept_run-cut run y none =
    rw (unfinished-behind (cut run) y (has_end-take 512 run none), unfinished-behind run y none) (at (has_end y) (cut run ++ y) (run ++ y) (unfinished y) (take-take_append 512 run y))
  where
    at : (b : Bool) (x y last : List ℕ) → cut x ≡ cut y → cut (if b then last else x) ≡ cut (if b then last else y)
    at true x y last e = refl
    at false x y last e = e

-- lines can be read on from the unfinished run, or from what is kept of it
pub reads_on : (x y : List ℕ) → ReadsOn x y
reads_on x y =
    let none : has_end (unfinished x) ≡ false = has_end-unfinished x in
    record {
      reads = lines-append x y;
      runs_on = unfinished-append x y;
      reads_kept = lines-append x y ∙ ap (λ (v : List (List ℕ)). lines x ++ v) (sym (lines-cut (unfinished x) y none));
      keeps = ap cut (unfinished-append x y) ∙ sym (kept_run-cut (unfinished x) y none);
    }
