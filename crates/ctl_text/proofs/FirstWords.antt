-- The first word of a text, and what stands behind it.
use Rattle.std.specs.Prelude.{◌≡◌, ◌≢◌, ℕ, suc, ◌==◌, ◌<◌, ◌≤◌, Bool, true, false, List, [], ◌∷◌, ◌++◌, length, Option, Some, None, refl, if◌then◌else◌}
use Rattle.std.proofs.Common.{sym, ap, arith, ◌∙◌}
use Rattle.std.proofs.lemmas.Bool.{ne_eqb, eqb-true}
use denote.Ref.{Bor}
use Rattle.std.specs.Option.{MatchOption, unwrap_or}
use Rattle.std.specs.Str.Iter.{LacksByte}
use Rattle.ctl_text.specs.LineFaults.{behind_word, first_word}
use Rattle.ctl_text.proofs.CutTexts.{IsCutAt, lacks_head, lacks_tail}

-- ## One octet more

first_on : (b : Bool) (c : ℕ) (text : List ℕ) → (c == 32) ≡ b → b ≡ false → first_word (c ∷ text) ≡ c ∷ first_word text
first_on b c text e f = rw (e ∙ f) refl

behind_on : (b : Bool) (c : ℕ) (text : List ℕ) → (c == 32) ≡ b → b ≡ false → behind_word (c ∷ text) ≡ behind_word text
behind_on b c text e f = rw (e ∙ f) refl

-- ## Where blanks stand

-- a text without a blank
pub first_alone : (text : List ℕ) → LacksByte 32 text → first_word text ≡ text
first_alone [] h = refl
first_alone (c ∷ text) h =
    first_on (c == 32) c text refl (ne_eqb c 32 (lacks_head 32 c text h))
    ∙ ap (λ (l : List ℕ). c ∷ l) (first_alone text (lacks_tail 32 c text h))

-- has nothing behind its first word
pub behind_alone : (text : List ℕ) → LacksByte 32 text → behind_word text ≡ []
behind_alone [] h = refl
behind_alone (c ∷ text) h =
    behind_on (c == 32) c text refl (ne_eqb c 32 (lacks_head 32 c text h)) ∙ behind_alone text (lacks_tail 32 c text h)

-- a word, a blank and more
pub first_front : (word rest : List ℕ) → LacksByte 32 word → first_word (word ++ 32 ∷ rest) ≡ word
first_front [] rest h = refl
first_front (c ∷ word) rest h =
    first_on (c == 32) c (word ++ 32 ∷ rest) refl (ne_eqb c 32 (lacks_head 32 c word h))
    ∙ ap (λ (l : List ℕ). c ∷ l) (first_front word rest (lacks_tail 32 c word h))

-- the rest stands behind the blank
pub behind_front : (word rest : List ℕ) → LacksByte 32 word → behind_word (word ++ 32 ∷ rest) ≡ rest
behind_front [] rest h = refl
behind_front (c ∷ word) rest h =
    behind_on (c == 32) c (word ++ 32 ∷ rest) refl (ne_eqb c 32 (lacks_head 32 c word h)) ∙ behind_front word rest (lacks_tail 32 c word h)

-- ## Back to the text

whole_at : (b : Bool) (c : ℕ) (text : List ℕ) → (c == 32) ≡ b → (first_word text ≢ text → text ≡ first_word text ++ 32 ∷ behind_word text)
    → (if b then [] else c ∷ first_word text) ≢ c ∷ text
    → c ∷ text ≡ (if b then [] else c ∷ first_word text) ++ 32 ∷ (if b then text else behind_word text)
whole_at true c text e later n = ap (λ (x : ℕ). x ∷ text) (eqb-true c 32 e)
whole_at false c text e later n = ap (λ (l : List ℕ). c ∷ l) (later (λ same. n (ap (λ (l : List ℕ). c ∷ l) same)))

-- a text that isn't its first word alone
pub whole : (text : List ℕ) → first_word text ≢ text → text ≡ first_word text ++ 32 ∷ behind_word text
whole [] n = absurd (n refl)
whole (c ∷ text) n = whole_at (c == 32) c text refl (whole text) n

alone_at : (b : Bool) (c : ℕ) (text : List ℕ) → (first_word text ≡ text → behind_word text ≡ []) → (if b then [] else c ∷ first_word text) ≡ c ∷ text
    → (if b then text else behind_word text) ≡ []
alone_at true c text later e = absurd (cc)
alone_at false c text later e = later (tails c (first_word text) text e)
  where
    tails : (d : ℕ) (xs ys : List ℕ) → d ∷ xs ≡ d ∷ ys → xs ≡ ys
    tails d xs ys same = cc

-- nothing stands behind a word that is the whole text
pub nothing_behind : (text : List ℕ) → first_word text ≡ text → behind_word text ≡ []
nothing_behind [] e = refl
nothing_behind (c ∷ text) e = alone_at (c == 32) c text (nothing_behind text) e

-- where something stands behind it, it isn't the whole text
pub not_alone : (text : List ℕ) → behind_word text ≢ [] → first_word text ≢ text
not_alone text n e = n (nothing_behind text e)

long_at : (b : Bool) (c : ℕ) (text : List ℕ) → (length text ≤ length (first_word text) → first_word text ≡ text)
    → suc (length text) ≤ length (if b then [] else c ∷ first_word text) → (if b then [] else c ∷ first_word text) ≡ c ∷ text
long_at true c text later l = absurd (omega (arith, l))
long_at false c text later l = ap (λ (xs : List ℕ). c ∷ xs) (later (omega (arith, l)))

-- a word as long as the text is the whole
pub as_long : (text : List ℕ) → length text ≤ length (first_word text) → first_word text ≡ text
as_long [] l = refl
as_long (c ∷ text) l = long_at (c == 32) c text (as_long text) l

-- a shorter one isn't
pub shorter : (text : List ℕ) → length (first_word text) < length text → first_word text ≢ text
shorter text l e = let n = ap length e in omega (arith, l, n)

-- ## Cuts

-- what `split_once` says of a blank
pub word_cut : (text : List ℕ) (o : Option (Bor (List ℕ) × Bor (List ℕ))) (whole nothing : Bor (List ℕ)) (cut : Bor (List ℕ) × Bor (List ℕ))
    → MatchOption o (LacksByte 32 text) (λ parts. IsCutAt 32 text parts.0.now parts.1.now) → whole.now ≡ text → nothing.now ≡ [] → cut ≡ unwrap_or o (whole, nothing)
    → (cut.0.now ≡ first_word text) × (cut.1.now ≡ behind_word text)
word_cut text None whole nothing cut h w n e = rw (e, w, n) (sym (first_alone text h), sym (behind_alone text h))
word_cut text (Some parts) whole nothing cut h w n e =
    rw (e, h.1) (sym (first_front parts.0.now parts.1.now h.0), sym (behind_front parts.0.now parts.1.now h.0))
