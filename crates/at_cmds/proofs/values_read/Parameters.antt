-- Where the first parameter ends.
use Rattle.std.specs.Prelude.{◌≡◌, ℕ, zero, suc, ◌+◌, ◌<◌, ◌&&◌, ◌||◌, not, Bool, true, false, List, [], ◌∷◌, ◌++◌, length, take, drop, refl, if◌then◌else◌}
use Rattle.std.proofs.Common.{arith, add-one, append_assoc, append-nil, ap, sym, ◌∙◌, get_or}
use Rattle.std.specs.List.{list_all, list_any}
use Rattle.std.proofs.lemmas.Bool.Decides.{nat_tests}
use Rattle.at_text.specs.Octets.{is_comma, is_quote}
use Rattle.at_cmds.specs.Forms.{in_quotes}
use Rattle.at_cmds.proofs.command_texts.CommandLines.{both_true}
use Rattle.at_cmds.proofs.values_read.ValueForms.{not_true}
use Rattle.at_cmds.specs.Params.{divided, put_front, parameters}

-- a text in front of the first of some texts
abbrev pub put_text : List ℕ → List (List ℕ) → List (List ℕ)
put_text front [] = front ∷ []
put_text front (first ∷ more) = (front ++ first) ∷ more

-- an octet in front of the first text comes behind what is put there
pub put_text-put_front : (front : List ℕ) (c : ℕ) (texts : List (List ℕ)) → put_text front (put_front c texts) ≡ put_text (front ++ c ∷ []) texts
put_text-put_front front c [] = refl
put_text-put_front front c (first ∷ more) = ap (λ x. x ∷ more) (sym (append_assoc front (c ∷ []) first))

put_text-cons : (c : ℕ) (front : List ℕ) (texts : List (List ℕ)) → put_text (c ∷ front) texts ≡ put_front c (put_text front texts)
put_text-cons c front [] = refl
put_text-cons c front (first ∷ more) = refl

put_text-started : (texts : List (List ℕ)) (c : ℕ) → put_text [] (put_front c texts) ≡ put_front c texts
put_text-started [] c = refl
put_text-started (first ∷ more) c = refl

put_text-chosen : (b : Bool) (c : ℕ) (behind texts : List (List ℕ)) → put_text [] (if b then [] ∷ behind else put_front c texts) ≡ (if b then [] ∷ behind else put_front c texts)
put_text-chosen true c behind texts = refl
put_text-chosen false c behind texts = put_text-started texts c

-- no octets in front of the first parameter leave the parameters as they are
pub put_text-empty : (q : Bool) (text : List ℕ) → put_text [] (divided q text) ≡ divided q text
put_text-empty q [] = refl
put_text-empty q (c ∷ text) = put_text-chosen (is_comma c && not q) c (divided false text) (divided (if is_quote c then not q else q) text)

-- before anything is passed, all is still to be divided
pub begun : (text : List ℕ) → parameters text ≡ put_text [] (divided false text)
unfolding parameters
begun text = sym (put_text-empty false text)

passed_suc : (text : List ℕ) (i : ℕ) (q : Bool) → i < length text → (is_comma (get_or text i 0) && not q) ≡ false → put_text (take i text) (divided q (drop i text)) ≡ put_text (take (suc i) text) (divided (if is_quote (get_or text i 0) then not q else q) (drop (suc i) text))
passed_suc [] i q inside not_here = absurd (omega (arith, inside))
passed_suc (c ∷ text) zero q inside not_here =
    rw not_here (put_text-put_front [] c (divided (if is_quote c then not q else q) text))
passed_suc (c ∷ text) (suc i) q inside not_here =
    let next = divided (if is_quote (get_or text i 0) then not q else q) (drop (suc i) text) in
    put_text-cons c (take i text) (divided q (drop i text))
    ∙ ap (put_front c) (passed_suc text i q (omega arith) not_here)
    ∙ sym (put_text-cons c (take (suc i) text) next)

-- an octet that divides nothing goes to the first parameter
pub passed : (text : List ℕ) (i : ℕ) (q : Bool) → i < length text → (is_comma (get_or text i 0) && not q) ≡ false → put_text (take i text) (divided q (drop i text)) ≡ put_text (take (i + 1) text) (divided (if is_quote (get_or text i 0) then not q else q) (drop (i + 1) text))
passed text i q inside not_here = rw add-one (passed_suc text i q inside not_here)

ended_suc : (text : List ℕ) (i : ℕ) (q : Bool) → i < length text → (is_comma (get_or text i 0) && not q) ≡ true → put_text (take i text) (divided q (drop i text)) ≡ take i text ∷ divided false (drop (suc i) text)
ended_suc [] i q inside here = absurd (omega (arith, inside))
ended_suc (c ∷ text) zero q inside here = rw here refl
ended_suc (c ∷ text) (suc i) q inside here =
    put_text-cons c (take i text) (divided q (drop i text)) ∙ ap (put_front c) (ended_suc text i q (omega arith) here)

-- a comma outside quotes ends it
pub ended : (text : List ℕ) (i : ℕ) (q : Bool) → i < length text → (is_comma (get_or text i 0) && not q) ≡ true → put_text (take i text) (divided q (drop i text)) ≡ take i text ∷ parameters (drop (i + 1) text)
unfolding parameters
ended text i q inside here = rw add-one (ended_suc text i q inside here)

put_front-some : (c : ℕ) (texts : List (List ℕ)) → 0 < length (put_front c texts)
put_front-some c [] = omega arith
put_front-some c (first ∷ more) = omega arith

divided-some-at : (b : Bool) (c : ℕ) (behind texts : List (List ℕ)) → 0 < length (if b then [] ∷ behind else put_front c texts)
divided-some-at true c behind texts = omega arith
divided-some-at false c behind texts = put_front-some c texts

-- each text has a parameter, if only an empty one
pub length-parameters : (text : List ℕ) → 0 < length (parameters text)
unfolding parameters
length-parameters [] = omega arith
length-parameters (c ∷ text) = divided-some-at (is_comma c && true) c (divided false text) (divided (if is_quote c then true else false) text)

-- parameters put together again with their commas
abbrev pub joined : List (List ℕ) → List ℕ
joined [] = []
joined (param ∷ []) = param
joined (param ∷ next ∷ more) = param ++ 44 ∷ joined (next ∷ more)

joined-empty : (texts : List (List ℕ)) → 0 < length texts → joined ([] ∷ texts) ≡ 44 ∷ joined texts
joined-empty [] some = absurd (omega (arith, some))
joined-empty (first ∷ more) some = refl

joined-put_front : (c : ℕ) (texts : List (List ℕ)) → 0 < length texts → joined (put_front c texts) ≡ c ∷ joined texts
joined-put_front c [] some = absurd (omega (arith, some))
joined-put_front c (first ∷ []) some = refl
joined-put_front c (first ∷ next ∷ more) some = refl

divided-some : (q : Bool) (text : List ℕ) → 0 < length (divided q text)
divided-some q [] = omega arith
divided-some q (c ∷ text) = divided-some-at (is_comma c && not q) c (divided false text) (divided (if is_quote c then not q else q) text)

joined-step : (b : Bool) (c : ℕ) (text : List ℕ) (behind texts : List (List ℕ)) → (b ≡ true → 44 ≡ c) → joined ([] ∷ behind) ≡ 44 ∷ text → joined (put_front c texts) ≡ c ∷ text → joined (if b then [] ∷ behind else put_front c texts) ≡ c ∷ text
joined-step true c text behind texts comma divides passes = divides ∙ ap (λ x. x ∷ text) (comma refl)
joined-step false c text behind texts comma divides passes = passes

is_a_comma : (c : ℕ) (q : Bool) → (is_comma c && not q) ≡ true → 44 ≡ c
is_a_comma c q is = let comma = (both_true (is_comma c) (not q) is).0 in grind (arith, nat_tests)

joined-divided : (q : Bool) (text : List ℕ) → joined (divided q text) ≡ text
joined-divided q [] = refl
joined-divided q (c ∷ text) =
    joined-step (is_comma c && not q) c text (divided false text) (divided (if is_quote c then not q else q) text)
    (is_a_comma c q)
    (joined-empty (divided false text) (divided-some false text) ∙ ap (λ x. 44 ∷ x) (joined-divided false text))
    (joined-put_front c (divided (if is_quote c then not q else q) text) (divided-some (if is_quote c then not q else q) text)
    ∙ ap (λ x. c ∷ x) (joined-divided (if is_quote c then not q else q) text))

-- nothing of a text is lost between its parameters
pub joined-parameters : (text : List ℕ) → joined (parameters text) ≡ text
unfolding parameters
joined-parameters text = joined-divided false text

-- octets that divide nothing
abbrev pub is_plain : ℕ → Bool
is_plain c = not (is_comma c) && not (is_quote c)

-- a piece that divides nothing belongs to the first parameter
pub divided-plain : (q : Bool) (piece rest : List ℕ) → list_all is_plain piece ≡ true → divided q (piece ++ rest) ≡ put_text piece (divided q rest)
divided-plain q [] rest plain = sym (put_text-empty q rest)
divided-plain q (c ∷ piece) rest plain =
    let parts = both_true (is_plain c) (list_all is_plain piece) plain in
    let each = both_true (not (is_comma c)) (not (is_quote c)) parts.0 in
    let no_comma : is_comma c ≡ false = not_true (is_comma c) each.0 in
    let no_quote : is_quote c ≡ false = not_true (is_quote c) each.1 in
    rw (no_comma, no_quote) (ap (put_front c) (divided-plain q piece rest parts.1) ∙ sym (put_text-cons c piece (divided q rest)))

both_false : (a b : Bool) → (a || b) ≡ false → (a ≡ false) × (b ≡ false)
both_false true b h = cc
both_false false b h = (refl, h)

divided-inside-at : (b : Bool) (c : ℕ) (piece rest : List ℕ) → is_quote c ≡ false → (if b && false then [] ∷ divided false (piece ++ rest) else put_front c (divided (if is_quote c then false else true) (piece ++ rest))) ≡ put_front c (divided true (piece ++ rest))
divided-inside-at true c piece rest no_quote = rw no_quote refl
divided-inside-at false c piece rest no_quote = rw no_quote refl

-- so does a piece without quotes, inside of quotes
pub divided-inside : (piece rest : List ℕ) → list_any is_quote piece ≡ false → divided true (piece ++ rest) ≡ put_text piece (divided true rest)
divided-inside [] rest plain = sym (put_text-empty true rest)
divided-inside (c ∷ piece) rest plain =
    let parts = both_false (is_quote c) (list_any is_quote piece) plain in
    divided-inside-at (is_comma c) c piece rest parts.0 ∙ ap (put_front c) (divided-inside piece rest parts.1) ∙ sym (put_text-cons c piece (divided true rest))

-- a quoted text is one piece
pub divided-quoted : (text rest : List ℕ) → list_any is_quote text ≡ false → divided false (34 ∷ (text ++ 34 ∷ rest)) ≡ put_text (34 ∷ (text ++ 34 ∷ [])) (divided false rest)
divided-quoted text rest plain =
    let behind = divided false rest in
    ap (put_front 34) (divided-inside text (34 ∷ rest) plain ∙ put_text-put_front text 34 behind)
    ∙ sym (put_text-cons 34 (text ++ 34 ∷ []) behind)

-- a piece that a comma ends is a parameter
pub put_text-ended : (piece : List ℕ) (texts : List (List ℕ)) → put_text piece ([] ∷ texts) ≡ piece ∷ texts
put_text-ended piece texts = ap (λ x. x ∷ texts) (append-nil piece)

-- a quoted text is a parameter of its own
pub parameters-quoted : (text : List ℕ) → list_any is_quote text ≡ false → divided false (in_quotes text) ≡ in_quotes text ∷ []
parameters-quoted text plain = divided-quoted text [] plain ∙ put_text-ended (in_quotes text) []
