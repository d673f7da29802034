-- Octets and lines at places of a room.
use Rattle.std.proofs.Common.{ap, sym, ◌∙◌, subst, arith, add-one}
use Rattle.std.specs.Prelude.{◌≡◌, ℕ, suc, ◌+◌, ◌<◌, ◌≤◌, List, [], ◌∷◌, ◌++◌, length, map, take, drop, get_or, slice_set, slice_index_or}
use Rattle.std.specs.List.{flat_map}
use Rattle.std.proofs.lemmas.List.{append_assoc, append-nil, drop-drop, length-append, length-map, length-take-le, map_more, take-append-drop}
use Rattle.std.proofs.lemmas.Grind.{flat_map-append}
use Rattle.std.proofs.Math.Seq.{drop-append_seam, take-append_seam, take-suc, drop-cons, set-append_seam}
use Rattle.at_text.specs.declared.answer.AnswerLine.{AnswerLine}
use Rattle.modem_desk.specs.declared.request.Request.{Request}
use Rattle.modem_c.specs.Texts.{line_text}

-- octets over the front of what stands behind a place
pub put_at : (p n : ℕ) (room octets : List ℕ) → take p room ++ (octets ++ drop n (drop p room)) ≡ take p room ++ (octets ++ drop (p + n) room)
put_at p n room octets = ap (λ (xs : List ℕ). take p room ++ (octets ++ xs)) (drop-drop n p room)

past : (n : ℕ) (xs ys : List ℕ) → length xs ≡ n → drop n (xs ++ ys) ≡ ys
past n xs ys e = subst (λ (m : ℕ). drop m (xs ++ ys) ≡ ys) e (drop-append_seam xs ys)

upto : (n : ℕ) (xs ys : List ℕ) → length xs ≡ n → take n (xs ++ ys) ≡ xs
upto n xs ys e = subst (λ (m : ℕ). take m (xs ++ ys) ≡ xs) e (take-append_seam xs ys)

-- octets at a place, and more behind them
pub put_both : (p n m : ℕ) (room text more one both : List ℕ) → p ≤ length room → n ≡ p + length text → m ≡ n + length more
    → one ≡ take p room ++ (text ++ drop n room) → both ≡ take n one ++ (more ++ drop m one)
    → both ≡ take p room ++ ((text ++ more) ++ drop m room)
put_both p n m room text more one both inside n_is m_is one_is both_is =
    let front = take p room in
    let k = length more in
    let front_len : length front ≡ p = length-take-le p room inside in
    let head_len : length (front ++ text) ≡ n = omega (arith, length-append front text, front_len, n_is) in
    let one_as : one ≡ (front ++ text) ++ drop n room = one_is ∙ sym (append_assoc front text (drop n room)) in
    let taken : take n one ≡ front ++ text = ap (take n) one_as ∙ upto n (front ++ text) (drop n room) head_len in
    let dropped : drop (n + k) one ≡ drop (n + k) room =
    sym (drop-drop k n one) ∙ (ap (λ (xs : List ℕ). drop k (drop n xs)) one_as ∙ (ap (drop k) (past n (front ++ text) (drop n room) head_len) ∙ drop-drop k n room)) in
    let behind : drop m one ≡ drop m room = subst (λ (z : ℕ). drop z one ≡ drop z room) (sym m_is) dropped in
    both_is
    ∙ (ap (λ (xs : List ℕ). xs ++ (more ++ drop m one)) taken
    ∙ (ap (λ (xs : List ℕ). (front ++ text) ++ (more ++ xs)) behind
    ∙ (append_assoc front text (more ++ drop m room)
    ∙ ap (λ (xs : List ℕ). front ++ xs) (sym (append_assoc text more (drop m room))))))

-- octets behind those at the front
pub put_after : (p m : ℕ) (init before octets room new : List ℕ) → room ≡ before ++ drop p init → p ≡ length before
    → m ≡ p + length octets → new ≡ take p room ++ (octets ++ drop m room) → new ≡ (before ++ octets) ++ drop m init
put_after p m init before octets room new room_is p_is m_is new_is =
    let k = length octets in
    let taken : take p room ≡ before = ap (take p) room_is ∙ upto p before (drop p init) (sym p_is) in
    let dropped : drop (p + k) room ≡ drop (p + k) init =
    sym (drop-drop k p room) ∙ (ap (λ (xs : List ℕ). drop k (drop p xs)) room_is ∙ (ap (drop k) (past p before (drop p init) (sym p_is)) ∙ drop-drop k p init)) in
    let behind : drop m room ≡ drop m init = subst (λ (z : ℕ). drop z room ≡ drop z init) (sym m_is) dropped in
    new_is
    ∙ (ap (λ (xs : List ℕ). xs ++ (octets ++ drop m room)) taken
    ∙ (ap (λ (xs : List ℕ). before ++ (octets ++ xs)) behind
    ∙ sym (append_assoc before octets (drop m init))))

split_at : (lines : List AnswerLine) (i : ℕ) (line : AnswerLine) → i < length lines → line ≡ get_or lines i line → take (i + 1) lines ≡ take i lines ++ line ∷ []
split_at lines i line inside is = rw add-one (take-suc lines i line inside ∙ ap (λ x. take i lines ++ x ∷ []) (sym is))

-- one line more
pub one_more : (lines : List AnswerLine) (i : ℕ) (line : AnswerLine) → i < length lines → line ≡ get_or lines i line
    → flat_map line_text (take (i + 1) lines) ≡ flat_map line_text (take i lines) ++ line_text line
one_more lines i line inside is =
    ap (flat_map line_text) (split_at lines i line inside is)
    ∙ (flat_map-append line_text (take i lines) (line ∷ [])
    ∙ ap (λ (xs : List ℕ). flat_map line_text (take i lines) ++ xs) (append-nil (line_text line)))

-- where all lines have room, one has room behind those before it
pub room_for_one : (lines : List AnswerLine) (i : ℕ) (line : AnswerLine) → i < length lines → line ≡ get_or lines i line
    → length (flat_map line_text (take i lines)) + length (line_text line) ≤ length (flat_map line_text lines)
room_for_one lines i line inside is =
    let rest = flat_map line_text (drop (i + 1) lines) in
    let whole : flat_map line_text lines ≡ flat_map line_text (take (i + 1) lines) ++ rest =
    ap (flat_map line_text) (sym (take-append-drop (i + 1) lines)) ∙ flat_map-append line_text (take (i + 1) lines) (drop (i + 1) lines) in
    let more = one_more lines i line inside is in
    let a = ap (λ (xs : List ℕ). length xs) whole in
    let b = ap (λ (xs : List ℕ). length xs) more in
    omega (arith, a, b, length-append (flat_map line_text (take (i + 1) lines)) rest, length-append (flat_map line_text (take i lines)) (line_text line))

-- one number behind those at the front
pub put_number : (n : ℕ) (requests : List Request) (room init : List ℕ) (x : Request) → n < length requests → n < length init
    → room ≡ map (λ (q : Request). q.number) (take n requests) ++ drop n init
    → slice_set room n (slice_index_or requests n x).number ≡ map (λ (q : Request). q.number) (take (n + 1) requests) ++ drop (n + 1) init
put_number n requests room init x inside fits room_is =
    let number : Request → ℕ = λ q. q.number in
    let before = map number (take n requests) in
    let y = get_or init n 0 in
    let z = (get_or requests n x).number in
    let len : length before ≡ n = length-map (take n requests) number ∙ length-take-le n requests (omega (arith, inside)) in
    let split : room ≡ before ++ y ∷ drop (suc n) init = room_is ∙ ap (λ (xs : List ℕ). before ++ xs) (drop-cons init n 0 fits) in
    let stored : slice_set room n z ≡ before ++ z ∷ drop (suc n) init =
    ap (λ (xs : List ℕ). slice_set xs n z) split ∙ subst (λ (k : ℕ). slice_set (before ++ y ∷ drop (suc n) init) k z ≡ before ++ z ∷ drop (suc n) init) len (set-append_seam before y (drop (suc n) init) z) in
    stored
    ∙ (sym (append_assoc before (z ∷ []) (drop (suc n) init))
    ∙ (ap (λ (xs : List ℕ). xs ++ drop (suc n) init) (sym (map_more number requests n x inside))
    ∙ ap (λ (k : ℕ). map number (take (n + 1) requests) ++ drop k init) (sym (add-one n))))
