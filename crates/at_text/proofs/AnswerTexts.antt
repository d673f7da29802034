-- Lines as one text: one more behind it, more lines behind it, a line at its place, and that texts and ends are told apart by lines.
use Rattle.std.specs.Prelude.{◌≡◌, ℕ, zero, suc, ◌+◌, ◌-◌, ◌<◌, ◌≤◌, ◌&&◌, nat_eq, Bool, true, false, if◌then◌else◌, List, [], ◌∷◌, ◌++◌, length, take, drop, map, slice_range, refl}
use Rattle.std.specs.Bool.{Decides}
use Rattle.std.specs.Str.{bytes_eq}
use Rattle.std.specs.Cmp.Lexicographic.{pointwise}
use Rattle.std.proofs.Common.{arith, ap, ap₂, sym, subst, ◌∙◌, get_or, le_of_suc-le-suc, drop_of_length-le}
use Rattle.std.proofs.lemmas.List.{take-append-le, drop-append-le, length-append, length-drop, length-take-le, take_all, take-append-drop}
use Rattle.std.proofs.lemmas.List.Folds.{drop_split}
use Rattle.std.proofs.lemmas.Slice.Eq.{bytes_eq-Decides, slice_eq-Decides}
use Rattle.std.proofs.lemmas.Bool.Decides.{same_from_decides, Decides-and}
use Rattle.std.proofs.Math.Seq.{drop-append-add}
use Rattle.at_text.specs.declared.answer.AnswerLine.{AnswerLine}
use Rattle.at_text.specs.AnswerParts.{line_of, lines_ended, Fill}

-- ## Places

-- what is left to be filled begins within the text
pub fill_within : (start : ℕ) (ends : List ℕ) (len : ℕ) → Fill start ends len → start ≤ len
fill_within start [] len f = omega (arith, f)
fill_within start (end ∷ ends) len f = let first = f.0 in let rest = fill_within end ends len f.1 in omega (arith, first, rest)

-- each line ends within it
pub end_within : (start : ℕ) (ends : List ℕ) (len i : ℕ) → Fill start ends len → i < length ends → get_or ends i 0 ≤ len
end_within start [] len i f inside = absurd (omega (arith, inside))
end_within start (end ∷ ends) len zero f inside = fill_within end ends len f.1
end_within start (end ∷ ends) len (suc i) f inside = end_within end ends len i f.1 (le_of_suc-le-suc inside)

-- each line ends behind its start
pub start_before : (start : ℕ) (ends : List ℕ) (len i : ℕ) → Fill start ends len → i < length ends → get_or (start ∷ ends) i 0 ≤ get_or ends i 0
start_before start [] len i f inside = absurd (omega (arith, inside))
start_before start (end ∷ ends) len zero f inside = f.0
start_before start (end ∷ ends) len (suc i) f inside = start_before end ends len i f.1 (le_of_suc-le-suc inside)

-- ## Lines

-- there are as many lines as ends
pub count_ended : (start : ℕ) (ends text : List ℕ) → length (lines_ended start ends text) ≡ length ends
count_ended start [] text = refl
count_ended start (end ∷ ends) text = ap suc (count_ended end ends text)

-- the line at a place
pub line_at : (start : ℕ) (ends text : List ℕ) (i : ℕ) (d : AnswerLine) → i < length ends
    → get_or (lines_ended start ends text) i d ≡ line_of (slice_range text (get_or (start ∷ ends) i 0) (get_or ends i 0))
line_at start [] text i d inside = absurd (omega (arith, inside))
line_at start (end ∷ ends) text zero d inside = refl
line_at start (end ∷ ends) text (suc i) d inside = line_at end ends text i d (le_of_suc-le-suc inside)

-- ## More behind a text

range_front : (text more : List ℕ) (a b : ℕ) → a ≤ b → b ≤ length text → slice_range (text ++ more) a b ≡ slice_range text a b
range_front text more a b ordered within =
    ap (take (b - a)) (drop-append-le a text more (omega (arith, ordered, within)))
    ∙ take-append-le (b - a) (drop a text) more (let left = length-drop a text in omega (arith, ordered, within, left))

range_behind : (text more : List ℕ) (a b : ℕ) → slice_range (text ++ more) (length text + a) (length text + b) ≡ slice_range more a b
range_behind text more a b =
    ap₂ take (omega arith) (drop-append-add text more a)

-- lines of what stands behind a text
ended_behind : (start : ℕ) (ends text more : List ℕ) → lines_ended (length text + start) (map (λ end. length text + end) ends) (text ++ more) ≡ lines_ended start ends more
ended_behind start [] text more = refl
ended_behind start (end ∷ ends) text more =
    ap₂ (λ (octets : List ℕ) (lines : List AnswerLine). line_of octets ∷ lines) (range_behind text more start end) (ended_behind end ends text more)

from_end : (start : ℕ) (ends text more : List ℕ) → start ≡ length text → lines_ended start (map (λ end. length text + end) ends) (text ++ more) ≡ lines_ended 0 ends more
from_end start ends text more is =
    ap (λ (n : ℕ). lines_ended n (map (λ end. length text + end) ends) (text ++ more)) (omega (arith, is)) ∙ ended_behind 0 ends text more

-- the lines of a text, and those of what stands behind it
pub ended_both : (start : ℕ) (ends more_ends text more : List ℕ) → Fill start ends (length text)
    → lines_ended start (ends ++ map (λ end. length text + end) more_ends) (text ++ more) ≡ lines_ended start ends text ++ lines_ended 0 more_ends more
ended_both start [] more_ends text more f = from_end start more_ends text more f
ended_both start (end ∷ ends) more_ends text more f =
    ap₂ (λ (octets : List ℕ) (lines : List AnswerLine). line_of octets ∷ lines)
    (range_front text more start end f.0 (fill_within end ends (length text) f.1))
    (ended_both end ends more_ends text more f.1)

-- they fill both
fill_behind : (start : ℕ) (ends : List ℕ) (n m : ℕ) → Fill start ends m → Fill (n + start) (map (λ end. n + end) ends) (n + m)
fill_behind start [] n m f = ap (λ (k : ℕ). n + k) f
fill_behind start (end ∷ ends) n m f = (let first = f.0 in omega (arith, first), fill_behind end ends n m f.1)

-- and all their ends fill both texts
pub fill_both : (start : ℕ) (ends more_ends : List ℕ) (n m : ℕ) → Fill start ends n → Fill 0 more_ends m
    → Fill start (ends ++ map (λ end. n + end) more_ends) (n + m)
fill_both start [] more_ends n m f g = subst (λ (k : ℕ). Fill k (map (λ end. n + end) more_ends) (n + m)) (omega (arith, f)) (fill_behind 0 more_ends n m g)
fill_both start (end ∷ ends) more_ends n m f g = (f.0, fill_both end ends more_ends n m f.1 g)

-- ## One line more

-- a line behind the others, with its end, is one line more
pub ended_more : (ends text line : List ℕ) → Fill 0 ends (length text)
    → lines_ended 0 (ends ++ (length text + length line) ∷ []) (text ++ line) ≡ lines_ended 0 ends text ++ line_of line ∷ []
ended_more ends text line f =
    ended_both 0 ends (length line ∷ []) text line f
    ∙ ap (λ (octets : List ℕ). lines_ended 0 ends text ++ line_of octets ∷ []) (take_all (length line - 0) line (omega arith))

-- and the ends with its own fill the text with it
pub fill_more : (ends : List ℕ) (n m : ℕ) → Fill 0 ends n → Fill 0 (ends ++ (n + m) ∷ []) (n + m)
fill_more ends n m f = fill_both 0 ends (m ∷ []) n m f (omega arith, refl)

-- ## The first lines of a text

ends_rise : (start : ℕ) (ends : List ℕ) (len count : ℕ) → Fill start ends len → count < length ends + 1 → start ≤ get_or (start ∷ ends) count 0
ends_rise start ends len zero f inside = omega arith
ends_rise start [] len (suc count) f inside = absurd (omega (arith, inside))
ends_rise start (end ∷ ends) len (suc count) f inside =
    let first = f.0 in let rest = ends_rise end ends len count f.1 (omega (arith, inside)) in omega (arith, first, rest)

end_placed : (start : ℕ) (ends : List ℕ) (len count : ℕ) → Fill start ends len → count < length ends → get_or (start ∷ ends) count 0 ≤ len
end_placed start ends len count f inside =
    let before = start_before start ends len count f inside in let within = end_within start ends len count f inside in omega (arith, before, within)

range_taken : (text : List ℕ) (a b e : ℕ) → a ≤ b → b ≤ e → e ≤ length text → slice_range (take e text) a b ≡ slice_range text a b
range_taken text a b e ordered below within =
    sym (range_front (take e text) (drop e text) a b ordered (rw (length-take-le e text within) below))
    ∙ ap (λ (xs : List ℕ). slice_range xs a b) (take-append-drop e text)

-- the first of some ends fill the text up to the last of them
pub fill_first : (start : ℕ) (ends : List ℕ) (len count : ℕ) → Fill start ends len → count < length ends → Fill start (take count ends) (get_or (start ∷ ends) count 0)
fill_first start ends len zero f inside = refl
fill_first start [] len (suc count) f inside = absurd (omega (arith, inside))
fill_first start (end ∷ ends) len (suc count) f inside = (f.0, fill_first end ends len count f.1 (omega (arith, inside)))

-- and the text up to there has just those lines
pub ended_first : (start : ℕ) (ends text : List ℕ) (count : ℕ) → Fill start ends (length text) → count < length ends
    → lines_ended start (take count ends) (take (get_or (start ∷ ends) count 0) text) ≡ take count (lines_ended start ends text)
ended_first start ends text zero f inside = refl
ended_first start [] text (suc count) f inside = absurd (omega (arith, inside))
ended_first start (end ∷ ends) text (suc count) f inside =
    let later : count < length ends = omega (arith, inside) in
    ap₂ (λ (octets : List ℕ) (lines : List AnswerLine). line_of octets ∷ lines)
    (range_taken text start end (get_or (end ∷ ends) count 0) f.0 (ends_rise end ends (length text) count f.1 (omega (arith, later))) (end_placed end ends (length text) count f.1 later))
    (ended_first end ends text count f.1 later)

-- what is left of lines
pub first_fill : (ends octets new_ends new_octets : List ℕ) (count end : ℕ) → Fill 0 ends (length octets) → count < length ends → end ≡ get_or (0 ∷ ends) count 0
    → new_octets ≡ take end octets → new_ends ≡ take count ends → Fill 0 new_ends (length new_octets)
first_fill ends octets new_ends new_octets count end f inside end_is octets_are ends_are =
    let within = end_placed 0 ends (length octets) count f inside in
    rw (ends_are, octets_are, end_is, length-take-le (get_or (0 ∷ ends) count 0) octets within) (fill_first 0 ends (length octets) count f inside)

-- and shows the first lines
pub first_show : (lines : List AnswerLine) (ends octets new_ends new_octets : List ℕ) (count end : ℕ) → Fill 0 ends (length octets) → lines_ended 0 ends octets ≡ lines
    → count < length ends → end ≡ get_or (0 ∷ ends) count 0 → new_octets ≡ take end octets → new_ends ≡ take count ends
    → lines_ended 0 new_ends new_octets ≡ take count lines
first_show lines ends octets new_ends new_octets count end f shows inside end_is octets_are ends_are =
    ap₂ (lines_ended 0) ends_are (octets_are ∙ ap (λ (n : ℕ). take n octets) end_is)
    ∙ ended_first 0 ends octets count f inside
    ∙ ap (take count) shows

-- ## What lines tell of their text

abbrev joined : List AnswerLine → List ℕ
joined [] = []
joined (line ∷ lines) = line.text ++ joined lines

abbrev ends_of : ℕ → List AnswerLine → List ℕ
ends_of start [] = []
ends_of start (line ∷ lines) = (start + length line.text) ∷ ends_of (start + length line.text) lines

range_len : (text : List ℕ) (a b : ℕ) → a ≤ b → b ≤ length text → a + length (slice_range text a b) ≡ b
range_len text a b ordered within =
    let left = length-drop a text in
    let taken = length-take-le (b - a) (drop a text) (omega (arith, ordered, within, left)) in
    omega (arith, ordered, taken)

ends_told : (start : ℕ) (ends text : List ℕ) → Fill start ends (length text) → ends_of start (lines_ended start ends text) ≡ ends
ends_told start [] text f = refl
ends_told start (end ∷ ends) text f =
    let here = range_len text start end f.0 (fill_within end ends (length text) f.1) in
    ap₂ (λ (e : ℕ) (es : List ℕ). e ∷ es) here
    (ap (λ (n : ℕ). ends_of n (lines_ended end ends text)) here ∙ ends_told end ends text f.1)

text_told : (start : ℕ) (ends text : List ℕ) → Fill start ends (length text) → joined (lines_ended start ends text) ≡ drop start text
text_told start [] text f = sym (drop_of_length-le text (omega (arith, f)))
text_told start (end ∷ ends) text f =
    ap (λ (octets : List ℕ). slice_range text start end ++ octets) (text_told end ends text f.1) ∙ sym (drop_split text start end f.0)

line_decides : (x y : AnswerLine) → Decides (bytes_eq x.text y.text) (x ≡ y)
line_decides x y = (λ e. ap line_of ((bytes_eq-Decides x.text y.text).0 e), λ e. (bytes_eq-Decides x.text y.text).1 (ap (λ (l : AnswerLine). l.text) e))

-- two are the same lines exactly where their ends and their texts are the same
pub told_apart : (ends text others other : List ℕ) → Fill 0 ends (length text) → Fill 0 others (length other)
    → (pointwise nat_eq ends others && pointwise nat_eq text other)
    ≡ pointwise (λ (x y : AnswerLine). bytes_eq x.text y.text) (lines_ended 0 ends text) (lines_ended 0 others other)
told_apart ends text others other f g =
    let lines = slice_eq-Decides line_decides (lines_ended 0 ends text) (lines_ended 0 others other) _ refl in
    same_from_decides (pointwise nat_eq ends others && pointwise nat_eq text other) (pointwise (λ (x y : AnswerLine). bytes_eq x.text y.text) (lines_ended 0 ends text) (lines_ended 0 others other))
    (Decides-and (pointwise nat_eq ends others) (pointwise nat_eq text other) (bytes_eq-Decides ends others) (bytes_eq-Decides text other)) (
      λ e. (
        sym (ends_told 0 ends text f) ∙ ap (ends_of 0) (lines.0 e) ∙ ends_told 0 others other g,
        sym (text_told 0 ends text f) ∙ ap joined (lines.0 e) ∙ text_told 0 others other g,
      ),
      λ e. lines.1 (ap₂ (lines_ended 0) e.0 e.1),
    )

-- ## What a value shows

-- a place among the lines is one among the ends
pub among_ends : (lines : List AnswerLine) (ends text : List ℕ) (i : ℕ) → lines_ended 0 ends text ≡ lines → i < length lines → i < length ends
among_ends lines ends text i shows inside =
    let count = sym (ap length shows) ∙ count_ended 0 ends text in omega (arith, count, inside)

-- the octets between a line's start and its end are the line at its place
pub shown_at : (lines : List AnswerLine) (ends text line : List ℕ) (i : ℕ) → lines_ended 0 ends text ≡ lines → i < length lines
    → line ≡ slice_range text (get_or (0 ∷ ends) i 0) (get_or ends i 0) → line_of line ≡ get_or lines i (line_of line)
shown_at lines ends text line i shows inside is =
    ap line_of is
    ∙ sym (line_at 0 ends text i (line_of line) (among_ends lines ends text i shows inside))
    ∙ ap (λ (ls : List AnswerLine). get_or ls i (line_of line)) shows

-- a line put behind the others
pub pushed_fills : (ends octets new_ends new_octets line : List ℕ) (end : ℕ) → new_octets ≡ octets ++ line → end ≡ length new_octets → new_ends ≡ ends ++ end ∷ []
    → Fill 0 ends (length octets) → Fill 0 new_ends (length new_octets)
pushed_fills ends octets new_ends new_octets line end octets_are end_is ends_are f =
    let len : length new_octets ≡ length octets + length line = ap length octets_are ∙ length-append octets line in
    rw (ends_are, end_is, len) (fill_more ends (length octets) (length line) f)

-- shows as one line more
pub pushed_shows : (lines : List AnswerLine) (ends octets new_ends new_octets line : List ℕ) (end : ℕ) → new_octets ≡ octets ++ line → end ≡ length new_octets → new_ends ≡ ends ++ end ∷ []
    → Fill 0 ends (length octets) → lines_ended 0 ends octets ≡ lines → lines_ended 0 new_ends new_octets ≡ lines ++ line_of line ∷ []
pushed_shows lines ends octets new_ends new_octets line end octets_are end_is ends_are f shows =
    let len : length new_octets ≡ length octets + length line = ap length octets_are ∙ length-append octets line in
    ap₂ (lines_ended 0) (ends_are ∙ ap (λ (n : ℕ). ends ++ n ∷ []) (end_is ∙ len)) octets_are
    ∙ ended_more ends octets line f
    ∙ ap (λ (ls : List AnswerLine). ls ++ line_of line ∷ []) shows

-- what a call left that succeeded
pub when_well : (ok : Bool) (items good bad : List ℕ) → ok ≡ true → items ≡ (if ok then good else bad) → items ≡ good
when_well ok items good bad is items_are = items_are ∙ rw is refl

-- ## Equality

-- two values are equal, ends and texts, just where their lines are
pub shown_apart : (lines others : List AnswerLine) (ends text more_ends more : List ℕ) → lines_ended 0 ends text ≡ lines → lines_ended 0 more_ends more ≡ others
    → Fill 0 ends (length text) → Fill 0 more_ends (length more)
    → (pointwise nat_eq ends more_ends && pointwise nat_eq text more) ≡ pointwise (λ (x y : AnswerLine). bytes_eq x.text y.text) lines others
shown_apart lines others ends text more_ends more shows others_show f g =
    told_apart ends text more_ends more f g ∙ ap₂ (λ (ls ms : List AnswerLine). pointwise (λ (x y : AnswerLine). bytes_eq x.text y.text) ls ms) shows others_show

-- where the ends are equal, the texts decide
pub both_hold : (a b r : Bool) → a ≡ true → r ≡ b → r ≡ (a && b)
both_hold a b r is e = rw is e

-- where they aren't, the values are unequal
pub first_fails : (a b r : Bool) → a ≡ false → r ≡ false → r ≡ (a && b)
first_fails a b r is e = rw is e
