-- Which commands octets that go out make whole.
use Rattle.std.specs.Prelude.{◌≡◌, ℕ, zero, suc, ◌+◌, ◌<◌, ◌≤◌, List, [], ◌∷◌, ◌++◌, length, take, drop, map, refl}
use Rattle.std.specs.List.{concat}
use Rattle.std.proofs.Common.{ap, ◌∙◌, arith}
use Rattle.at_text.specs.Windows.{Mark, Begun}
use Rattle.modem_desk.specs.declared.request.Request.{Request}
use Rattle.modem_history.specs.Information.{line_of, texts}
use Rattle.modem_history.specs.Placing.{whole_in, reached_in, whole_after}
use Rattle.modem_history.proofs.commands.TextCounts.{texts_filled, whole_front, whole_none, whole_one, reached_front, reached_one}
use Rattle.modem_core.specs.SentTexts.{text_of}

-- the commands of a list that octets from n to m make whole
abbrev pub begun_in : List Request → ℕ → ℕ → List Mark
begun_in qs n m = map (λ (q : Request). Begun (line_of q)) (drop (whole_in n (texts qs)) (whole_after m qs))

-- the texts of joined requests are the joined texts
pub texts_both : (qs rs : List Request) → texts (qs ++ rs) ≡ texts qs ++ texts rs
texts_both [] rs = refl
texts_both (q ∷ qs) rs = ap (λ (v : List (List ℕ)). text_of q ∷ v) (texts_both qs rs)

-- each request has one text
pub length_texts : (qs : List Request) → length (texts qs) ≡ length qs
length_texts [] = refl
length_texts (q ∷ qs) = ap suc (length_texts qs)

-- the octets of the commands before this one
abbrev pub out_of : List Request → ℕ
out_of before = length (concat (texts before))

-- some octets of it leave it unfinished, or all of them make it whole
pub whole_part : (before later : List Request) (c : Request) (k : ℕ) → k < length (text_of c) → whole_in (out_of before + k) (texts (before ++ c ∷ later)) ≡ length before
whole_part before later c k h =
    ap (λ (v : List (List ℕ)). whole_in (out_of before + k) v) (texts_both before (c ∷ later))
    ∙ (whole_front (texts before) (texts (c ∷ later)) k
    ∙ let none : whole_in k (text_of c ∷ texts later) ≡ 0 = whole_none (text_of c) (texts later) k h in
    let many : length (texts before) ≡ length before = length_texts before in
    omega arith)

-- all octets of a command make it whole, and none behind it
pub whole_all : (before later : List Request) (c : Request) → whole_in (out_of before + length (text_of c)) (texts (before ++ c ∷ later)) ≡ suc (length before)
whole_all before later c =
    ap (λ (v : List (List ℕ)). whole_in (out_of before + length (text_of c)) v) (texts_both before (c ∷ later))
    ∙ (whole_front (texts before) (texts (c ∷ later)) (length (text_of c))
    ∙ let one : whole_in (length (text_of c)) (text_of c ∷ texts later) ≡ 1 = whole_one (text_of c) (texts later) (texts_filled later) in
    let many : length (texts before) ≡ length before = length_texts before in
    omega arith)

-- some octets of a command, or all, reach into it and no further
pub reached_part : (before later : List Request) (c : Request) (k : ℕ) → 0 < k → k ≤ length (text_of c) → reached_in (out_of before + k) (texts (before ++ c ∷ later)) ≡ length before + 1
reached_part before later c k h l =
    ap (λ (v : List (List ℕ)). reached_in (out_of before + k) v) (texts_both before (c ∷ later))
    ∙ (reached_front (texts before) (texts (c ∷ later)) k h
    ∙ let one : reached_in k (text_of c ∷ texts later) ≡ 1 = reached_one (text_of c) (texts later) k h l in
    let many : length (texts before) ≡ length before = length_texts before in
    omega arith)

none_between : (n : ℕ) (qs : List Request) → drop n (take n qs) ≡ []
none_between zero qs = refl
none_between (suc n) [] = refl
none_between (suc n) (q ∷ qs) = none_between n qs

one_between : (before later : List Request) (c : Request) → drop (length before) (take (suc (length before)) (before ++ c ∷ later)) ≡ c ∷ []
one_between [] later c = refl
one_between (q ∷ before) later c = one_between before later c

-- what a frame begins
pub begun_none : (before later : List Request) (c : Request) (n m : ℕ) → n < length (text_of c) → m < length (text_of c) → begun_in (before ++ c ∷ later) (out_of before + n) (out_of before + m) ≡ []
begun_none before later c n m h l =
    let qs = before ++ c ∷ later in
    ap (λ (w : ℕ). map (λ (q : Request). Begun (line_of q)) (drop w (whole_after (out_of before + m) qs))) (whole_part before later c n h)
    ∙ (ap (λ (w : ℕ). map (λ (q : Request). Begun (line_of q)) (drop (length before) (take w qs))) (whole_part before later c m l)
    ∙ ap (λ (v : List Request). map (λ (q : Request). Begun (line_of q)) v) (none_between (length before) qs))

-- octets of a command up to its last begin it
pub begun_one : (before later : List Request) (c : Request) (n : ℕ) → n < length (text_of c) → begun_in (before ++ c ∷ later) (out_of before + n) (out_of before + length (text_of c)) ≡ Begun (line_of c) ∷ []
begun_one before later c n h =
    let qs = before ++ c ∷ later in
    ap (λ (w : ℕ). map (λ (q : Request). Begun (line_of q)) (drop w (whole_after (out_of before + length (text_of c)) qs))) (whole_part before later c n h)
    ∙ (ap (λ (w : ℕ). map (λ (q : Request). Begun (line_of q)) (drop (length before) (take w qs))) (whole_all before later c)
    ∙ ap (λ (v : List Request). map (λ (q : Request). Begun (line_of q)) v) (one_between before later c))

-- this much of a command has left
