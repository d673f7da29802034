-- Texts that are cut at an octet, and into lines.
use Rattle.std.specs.Prelude.{◌≡◌, ◌≢◌, ℕ, zero, suc, ◌+◌, ◌-◌, ◌==◌, ◌&&◌, ◌<◌, Bool, true, false, List, [], ◌∷◌, ◌++◌, length, take, drop, slice_index, Option, None, Some, refl, if◌then◌else◌}
use Rattle.std.proofs.Common.{sym, subst, eqb, ap, arith, inl, inr, ◌∙◌, add-one}
use Rattle.std.proofs.lemmas.Bool.{ne_eqb, eqb-true, eq-eqb, cases_eq, false≢true}
use Rattle.std.proofs.lemmas.Bool.Decides.{Decides-eqb}
use Rattle.std.proofs.lemmas.Slice.Eq.{strip_suffix_is}
use Rattle.std.proofs.lemmas.List.{append_assoc, append-nil, take_all, length-drop}
use Rattle.std.specs.Option.{MatchOption, unwrap_or}
use denote.Ref.{Bor}
use Rattle.std.specs.Cmp.Lexicographic.{pointwise}
use Rattle.std.specs.Str.Iter.{LacksByte}
use Rattle.std.specs.List.{onto_first}
use Rattle.memchr.specs.Find.{IsFirst, IsLast, Nowhere, Passes, is_byte}
use Rattle.ctl_text.specs.Input.{input_lines, is_at_end}

-- Searches.

abbrev Is : ℕ → List ℕ → ℕ → Type 0
Is c xs k = Passes (is_byte c) xs k

-- where no such octet is found, the text lacks it
pub lacking : (c : ℕ) (xs : List ℕ) → IsFirst (Is c xs) 0 (length xs) None → LacksByte c xs
lacking c xs h k l e = h k (omega arith) l (eq-eqb (slice_index xs k) c e)

-- an empty text lacks any octet
pub lacks_nil : (c : ℕ) → LacksByte c []
lacks_nil c k l = absurd (omega (arith, l))

-- one more octet, and another than this, leaves it lacking
pub lacks_cons : (c x : ℕ) (xs : List ℕ) → x ≢ c → LacksByte c xs → LacksByte c (x ∷ xs)
lacks_cons c x xs n h zero l = n
lacks_cons c x xs n h (suc k) l = h k (omega (arith, l))

-- a text is cut where the first of these octets stands
abbrev pub IsCutAt : ℕ → List ℕ → List ℕ → List ℕ → Type 0
IsCutAt c xs front back = LacksByte c front × (xs ≡ front ++ c ∷ back)

cut_first : (c : ℕ) (xs : List ℕ) (k : ℕ) → k < length xs → ((j : ℕ) → j < k → Is c xs j → ⊥) → Is c xs k → IsCutAt c xs (take k xs) (drop (suc k) xs)
cut_first c [] k l before e = absurd (omega (arith, l))
cut_first c (x ∷ xs) zero l before e = (lacks_nil c, ap (λ (y : ℕ). y ∷ xs) (eqb-true x c e))
cut_first c (x ∷ xs) (suc k) l before e =
    let later = cut_first c xs k (omega (arith, l)) (λ j m. before (suc j) (omega (arith, m))) e in
    (lacks_cons c x (take k xs) (λ same. before 0 (omega arith) (eq-eqb x c same)) later.0, ap (λ (ys : List ℕ). x ∷ ys) later.1)

-- the first that is found cuts the text
pub cut_at : (c : ℕ) (xs : List ℕ) (k : ℕ) → IsFirst (Is c xs) 0 (length xs) (Some k) → IsCutAt c xs (take k xs) (take (length xs - (k + 1)) (drop (k + 1) xs))
cut_at c xs k h =
    let all : take (length xs - (k + 1)) (drop (k + 1) xs) ≡ drop (k + 1) xs = take_all (length xs - (k + 1)) (drop (k + 1) xs) (rw length-drop (omega arith)) in
    rw all (rw add-one (cut_first c xs k h.0.high (λ j l. h.0.before j (omega arith) l) h.1))

-- a text is cut where the last of these octets stands
abbrev pub IsCutAtLast : ℕ → List ℕ → List ℕ → List ℕ → Type 0
IsCutAtLast c xs front back = LacksByte c back × (xs ≡ front ++ c ∷ back)

-- where none is found from the end, the text lacks it
pub lacking_last : (c : ℕ) (xs : List ℕ) → IsLast (Is c xs) 0 (length xs) None → LacksByte c xs
lacking_last c xs h k l e = h k (omega arith) l (eq-eqb (slice_index xs k) c e)

cut_there : (c : ℕ) (xs : List ℕ) (k : ℕ) → k < length xs → Is c xs k → xs ≡ take k xs ++ c ∷ drop (suc k) xs
cut_there c [] k l e = absurd (omega (arith, l))
cut_there c (x ∷ xs) zero l e = ap (λ (y : ℕ). y ∷ xs) (eqb-true x c e)
cut_there c (x ∷ xs) (suc k) l e = ap (λ (ys : List ℕ). x ∷ ys) (cut_there c xs k (omega (arith, l)) e)

lacks_behind : (c : ℕ) (xs : List ℕ) (k : ℕ) → Nowhere (Is c xs) (k + 1) (length xs) → LacksByte c (drop (suc k) xs)
lacks_behind c [] k after = lacks_nil c
lacks_behind c (x ∷ xs) zero after = λ j l e. after (suc j) (omega arith) (omega (arith, l)) (eq-eqb (slice_index xs j) c e)
lacks_behind c (x ∷ xs) (suc k) after = lacks_behind c xs k (λ j low high is. after (suc j) (omega (arith, low)) (omega (arith, high)) is)

-- the last that is found cuts the text there
pub cut_last : (c : ℕ) (xs : List ℕ) (k : ℕ) → IsLast (Is c xs) 0 (length xs) (Some k) → IsCutAtLast c xs (take k xs) (take (length xs - (k + 1)) (drop (k + 1) xs))
cut_last c xs k h =
    let all : take (length xs - (k + 1)) (drop (k + 1) xs) ≡ drop (k + 1) xs = take_all (length xs - (k + 1)) (drop (k + 1) xs) (rw length-drop (omega arith)) in
    let back : LacksByte c (drop (suc k) xs) = lacks_behind c xs k h.0.after in
    rw all (rw add-one (back, cut_there c xs k h.0.high h.1))

-- the first octet of a text that lacks this one is another
pub lacks_head : (c x : ℕ) (xs : List ℕ) → LacksByte c (x ∷ xs) → x ≢ c
lacks_head c x xs h = h 0 (omega arith)

-- and what stands behind it lacks this one too
pub lacks_tail : (c x : ℕ) (xs : List ℕ) → LacksByte c (x ∷ xs) → LacksByte c xs
lacks_tail c x xs h = λ k l. h (suc k) (omega (arith, l))

-- Lines.

third : {X : Type 0} (a b : Bool) (x y z : X) → a ≡ false → b ≡ false → (if a then x else if b then y else z) ≡ z
third a b x y z e f = rw (e, f) refl

no_end : (c : ℕ) (b : Bool) → (c ≡ 13 → b ≡ false) → (c == 13 && b) ≡ false
no_end c true h = elim (cases_eq c 13) [
  | inl same ↦ absurd (false≢true (sym (h same)))
  | inr apart ↦ rw (ne_eqb c 13 apart) refl
]
no_end c false h = grind arith

-- an octet that ends no line
stands : (c : ℕ) (text : List ℕ) → c ≢ 10 → (c ≡ 13 → is_at_end text ≡ false) → input_lines (c ∷ text) ≡ onto_first c (input_lines text)
stands c text n h =
    third (c == 10) (c == 13 && is_at_end text) ([] ∷ input_lines text) (input_lines text) (onto_first c (input_lines text))
    (ne_eqb c 10 n) (no_end c (is_at_end text) h)

-- the last line, which no LF ends
last_line : (c : ℕ) (text : List ℕ) → LacksByte 10 (c ∷ text) → input_lines (c ∷ text) ≡ (c ∷ text) ∷ []
last_line c [] h = stands c [] (lacks_head 10 c [] h) (λ _. refl)
last_line c (d ∷ text) h =
    let next : d ≢ 10 = lacks_head 10 d text (lacks_tail 10 c (d ∷ text) h) in
    stands c (d ∷ text) (lacks_head 10 c (d ∷ text) h) (λ _. ne_eqb d 10 next)
    ∙ ap (λ (l : List (List ℕ)). onto_first c l) (last_line d text (lacks_tail 10 c (d ∷ text) h))

-- a line that LF ends, with no CR before it
plain_line : (line rest : List ℕ) → LacksByte 10 line → ((front : List ℕ) → line ≢ front ++ 13 ∷ []) → input_lines (line ++ 10 ∷ rest) ≡ line ∷ input_lines rest
plain_line [] rest h n = refl
plain_line (c ∷ []) rest h n = stands c (10 ∷ rest) (lacks_head 10 c [] h) (λ same. absurd (n [] (ap (λ (x : ℕ). x ∷ []) same)))
plain_line (c ∷ d ∷ line) rest h n =
    let next : d ≢ 10 = lacks_head 10 d line (lacks_tail 10 c (d ∷ line) h) in
    stands c (d ∷ line ++ 10 ∷ rest) (lacks_head 10 c (d ∷ line) h) (λ _. ne_eqb d 10 next)
    ∙ ap (λ (l : List (List ℕ)). onto_first c l)
    (plain_line (d ∷ line) rest (lacks_tail 10 c (d ∷ line) h) (λ front e. n (c ∷ front) (ap (λ (l : List ℕ). c ∷ l) e)))

-- a line that CR LF ends
stripped_line : (line rest : List ℕ) → LacksByte 10 line → input_lines (line ++ 13 ∷ 10 ∷ rest) ≡ line ∷ input_lines rest
stripped_line [] rest h = refl
stripped_line (c ∷ []) rest h = stands c (13 ∷ 10 ∷ rest) (lacks_head 10 c [] h) (λ _. refl)
stripped_line (c ∷ d ∷ line) rest h =
    let next : d ≢ 10 = lacks_head 10 d line (lacks_tail 10 c (d ∷ line) h) in
    stands c (d ∷ line ++ 13 ∷ 10 ∷ rest) (lacks_head 10 c (d ∷ line) h) (λ _. ne_eqb d 10 next)
    ∙ ap (λ (l : List (List ℕ)). onto_first c l) (stripped_line (d ∷ line) rest (lacks_tail 10 c (d ∷ line) h))

lacks_front : (c : ℕ) (front back : List ℕ) → LacksByte c (front ++ back) → LacksByte c front
lacks_front c [] back h = lacks_nil c
lacks_front c (x ∷ front) back h = lacks_cons c x front (lacks_head c x (front ++ back) h) (lacks_front c front back (lacks_tail c x (front ++ back) h))

-- what `strip_suffix` says of CR
abbrev IsStripped : List ℕ → Option (Bor (List ℕ)) → Type 0
IsStripped line o = MatchOption o (pointwise eqb (drop (length line - 1) line) (13 ∷ []) ≡ false) (λ x. (pointwise eqb (drop (length line - 1) line) (13 ∷ []) ≡ true) × (x.now ≡ take (length line - 1) line) × (length x.now + 1 ≡ length line))

cut_line : (text line rest : List ℕ) (o : Option (Bor (List ℕ))) (whole : Bor (List ℕ)) → IsCutAt 10 text line rest → whole.now ≡ line → MatchOption o ((front : List ℕ) → line ≢ front ++ 13 ∷ []) (λ x. line ≡ x.now ++ 13 ∷ []) → input_lines text ≡ (unwrap_or o whole).now ∷ input_lines rest
cut_line text line rest None whole h e n =
    rw (h.1, e) (plain_line line rest h.0 n)
cut_line text line rest (Some x) whole h e n =
    let split : text ≡ x.now ++ 13 ∷ 10 ∷ rest = h.1 ∙ ap (λ (l : List ℕ). l ++ 10 ∷ rest) n ∙ append_assoc x.now (13 ∷ []) (10 ∷ rest) in
    rw split (stripped_line x.now rest (lacks_front 10 x.now (13 ∷ []) (subst (LacksByte 10) n h.0)))

-- a text cut at its first LF, without a CR just before that, has this line first
pub line_cut : (text line rest : List ℕ) (o : Option (Bor (List ℕ))) (whole shown : Bor (List ℕ)) → IsCutAt 10 text line rest → whole.now ≡ line → IsStripped line o → shown ≡ unwrap_or o whole → input_lines text ≡ shown.now ∷ input_lines rest
line_cut text line rest o whole shown h e s u =
    rw u (cut_line text line rest o whole h e (strip_suffix_is Decides-eqb line (13 ∷ []) o s))

-- the same of a text that goes on
pub line_goes_on : (text line rest : List ℕ) (o : Option (Bor (List ℕ))) (whole shown : Bor (List ℕ)) → IsCutAt 10 text line rest → whole.now ≡ line → IsStripped line o → shown ≡ unwrap_or o whole → (more : List ℕ)
    → input_lines (text ++ more) ≡ shown.now ∷ input_lines (rest ++ more)
line_goes_on text line rest o whole shown h e s u more = line_cut (text ++ more) line (rest ++ more) o whole shown (h.0, ap (λ (l : List ℕ). l ++ more) h.1 ∙ append_assoc line (10 ∷ rest) more) e s u

-- a text without more
pub line_alone : (text line rest : List ℕ) → ((more : List ℕ) → input_lines (text ++ more) ≡ line ∷ input_lines (rest ++ more)) → input_lines text ≡ line ∷ input_lines rest
line_alone text line rest h = ap input_lines (sym (append-nil text)) ∙ h [] ∙ ap (λ (l : List ℕ). line ∷ input_lines l) (append-nil rest)

-- the last line, which no LF ends
pub line_left : (text : List ℕ) → LacksByte 10 text → false ≡ (length text == 0) → input_lines text ≡ text ∷ []
line_left [] h n = absurd (false≢true n)
line_left (c ∷ text) h n = last_line c text h
