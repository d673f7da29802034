-- What waits on a connection is the rest of the first command whose answer isn't whole.
use Rattle.std.specs.Prelude.{◌≡◌, ℕ, suc, ◌+◌, ◌-◌, ◌<◌, ◌≤◌, nat_le, nat_eq, Bool, true, false, List, [], ◌∷◌, ◌++◌, length, take, drop, min, refl, if◌then◌else◌, None}
use Rattle.std.specs.List.{concat, starts_with}
use Rattle.std.proofs.Common.{ap, sym, ◌∙◌, arith, append-nil, append_assoc, length-append, leb-true}
use Rattle.std.proofs.Math.Seq.{take-append-add}
use Rattle.std.proofs.lemmas.Bool.Decides.{nat_tests}
use Rattle.std.proofs.lemmas.List.{take-append-drop, length-take, length-take-le, length-map}
use Rattle.std.proofs.lemmas.List.Folds.{concat-append}
use Rattle.at_text.specs.Dialects.{Dialect}
use Rattle.at_text.specs.Windows.{Mark, Begun, answered, open_window}
use Rattle.modem_desk.specs.declared.request.Request.{Request}
use Rattle.modem_history.specs.Information.{line_of, texts}
use Rattle.modem_history.specs.Placing.{whole_in, reached_in, whole_after}
use Rattle.modem_core.specs.SentTexts.{text_of}
use Rattle.modem_history.specs.Begun.{begun_count}
use Rattle.modem_core.proofs.commands.SentTexts.{begun_in as begun_between}
use Rattle.modem_history.proofs.commands.TextCounts.{begins_with}
use Rattle.modem_history.proofs.commands.WholeTexts.{whole_few}
use Rattle.modem_history.proofs.commands.CommandOrder.{counts}
use Rattle.modem_history.proofs.commands.BegunCommands.{KeptCommands, begun_counted, no_open_window}
use Rattle.modem_core.proofs.commands.SentTexts.{texts_both, length_texts, out_of, whole_part, reached_part, begun_none, begun_one}

-- ## Counts

-- where texts are whole, their octets are there
least_by : (b : Bool) (n t l r : ℕ) → nat_le t n ≡ b → suc l ≤ (if b then r + 1 else 0) → (t ≤ n) × (l ≤ r)
least_by true n t l r e h = (leb-true t n e, omega (arith, h))
least_by false n t l r e h = absurd (let g : suc l ≤ 0 = h in omega (arith, g))

-- where the first texts are whole in n octets, n is at least their length
pub whole_least : (n : ℕ) (xs ys : List (List ℕ)) → length xs ≤ whole_in n (xs ++ ys) → length (concat xs) ≤ n
whole_least n [] ys h = omega arith
whole_least n (x ∷ xs) ys h =
    let p = least_by (nat_le (length x) n) n (length x) (length xs) (whole_in (n - length x) (xs ++ ys)) refl h in
    let more = whole_least (n - length x) xs ys p.1 in
    let here = p.0 in
    let joined : length (x ++ concat xs) ≡ length x + length (concat xs) = length-append x (concat xs) in
    omega (arith, more, here, joined)

short_by : (l n a k : ℕ) → (l ≤ n → a < k) → (if nat_le l n then a + 1 else 0) < suc k
short_by l n a k h = by_test (nat_le l n) refl
  where
    by_test : (b : Bool) → nat_le l n ≡ b → (if b then a + 1 else 0) < suc k
    by_test true e = let g = h (leb-true l n e) in omega (arith, g)
    by_test false e = omega arith

-- where octets lack, not all texts are whole
whole_short : (n : ℕ) (ts : List (List ℕ)) → n < length (concat ts) → whole_in n ts < length ts
whole_short n [] h = absurd (let g : n < 0 = h in omega (arith, g))
whole_short n (t ∷ ts) h =
    let joined : length (t ++ concat ts) ≡ length t + length (concat ts) = length-append t (concat ts) in
    short_by (length t) n (whole_in (n - length t) ts) (length ts) (λ l. whole_short (n - length t) ts (omega (arith, h, joined, l)))

-- ## The command that is under way

pub record NextIs (dialect : Dialect) (before cmds : List Request) (ms : List Mark) (out w : List ℕ) : Type 0 where
  pub first : Request
  pub rest : List Request
  pub split : cmds ≡ first ∷ rest
  pub idle : open_window dialect ms ≡ None
  -- so many octets of it left, and the others wait
  pub front : ℕ
  pub out_is : length out ≡ out_of before + front
  pub all_is : front + length w ≡ length (text_of first)
  pub joins : out ++ w ≡ concat (texts before) ++ text_of first

-- the commands that began are those wholly sent
pub began : (dialect : Dialect) (ms : List Mark) (out : List ℕ) (qs : List Request) → KeptCommands dialect ms out qs → begun_count ms ≡ whole_in (length out) (texts qs)
began dialect ms out qs k =
    let few : whole_in (length out) (texts qs) ≤ length qs = let f = whole_few (length out) (texts qs) in let l = length_texts qs in omega (arith, f, l) in
    sym (begun_counted ms) ∙ (ap length k.first ∙ (length-map (whole_after (length out) qs) line_of ∙ length-take-le (whole_in (length out) (texts qs)) qs few))

-- those before and one more are those and the next
pub take_one : (before rest : List Request) (c : Request) → take (length before + 1) (before ++ c ∷ rest) ≡ before ++ c ∷ []
take_one before rest c = take-append-add before (c ∷ rest) 1

-- and where none follows, those before are all
pub take_all : (before : List Request) → take (length before + 1) (before ++ []) ≡ before
take_all before = take-append-add before [] 1 ∙ append-nil before

-- octets that wait are the rest of the first command whose answer isn't whole, and no window is open
pub next_is : (dialect : Dialect) (before cmds : List Request) (ms : List Mark) (out w : List ℕ) → KeptCommands dialect ms out (before ++ cmds) → answered dialect ms ≡ length before
    → out ++ w ≡ concat (texts (take (answered dialect ms + 1) (before ++ cmds))) → 0 < length w → NextIs dialect before cmds ms out w
next_is dialect before [] ms out w k a e l =
    absurd (
    let same : out ++ w ≡ concat (texts before) = e ∙ (ap (λ (n : ℕ). concat (texts (take (n + 1) (before ++ [])))) a ∙ ap (λ (qs : List Request). concat (texts qs)) (take_all before)) in
    let long : length out + length w ≡ length (concat (texts before)) = sym (length-append out w) ∙ ap length same in
    let short = whole_short (length out) (texts before) (omega (arith, long, l)) in
    let size = length_texts before in
    let all = counts dialect ms k.turns.order in
    let some : begun_count ms ≡ whole_in (length out) (texts before) = began dialect ms out (before ++ []) k ∙ ap (λ (qs : List Request). whole_in (length out) (texts qs)) (append-nil before) in
    omega (arith, short, size, all, some, a))
next_is dialect before (c ∷ rest) ms out w k a e l =
    let same : out ++ w ≡ concat (texts before) ++ text_of c
    = e ∙ (ap (λ (n : ℕ). concat (texts (take (n + 1) (before ++ c ∷ rest)))) a
    ∙ (ap (λ (qs : List Request). concat (texts qs)) (take_one before rest c)
    ∙ (ap concat (texts_both before (c ∷ [])) ∙ (concat-append (texts before) (text_of c ∷ []) ∙ ap (λ (v : List ℕ). concat (texts before) ++ v) (append-nil (text_of c)))))) in
    let long : length out + length w ≡ out_of before + length (text_of c) = sym (length-append out w) ∙ (ap length same ∙ length-append (concat (texts before)) (text_of c)) in
    let all = counts dialect ms k.turns.order in
    let some = began dialect ms out (before ++ c ∷ rest) k in
    let size = length_texts before in
    let apart : whole_in (length out) (texts (before ++ c ∷ rest)) ≡ whole_in (length out) (texts before ++ texts (c ∷ rest)) = ap (whole_in (length out)) (texts_both before (c ∷ rest)) in
    let least : out_of before ≤ length out = whole_least (length out) (texts before) (texts (c ∷ rest)) (omega (arith, all, some, size, a, apart)) in
    let front = length out - out_of before in
    let out_is : length out ≡ out_of before + front = omega (arith, least) in
    let all_is : front + length w ≡ length (text_of c) = omega (arith, least, long) in
    let part : whole_in (out_of before + front) (texts (before ++ c ∷ rest)) ≡ length before = whole_part before rest c front (omega (arith, all_is, l)) in
    let here : whole_in (length out) (texts (before ++ c ∷ rest)) ≡ length before = ap (λ (n : ℕ). whole_in n (texts (before ++ c ∷ rest))) out_is ∙ part in
    record {
      first = c;
      rest = rest;
      split = refl;
      idle = no_open_window (open_window dialect ms) (omega (arith, all, some, here, a));
      front = front;
      out_is = out_is;
      all_is = all_is;
      joins = same;
    }

-- ## Some octets of it leave

-- with the last ones it is whole
abbrev pub begins_at : Bool → Request → List Mark
begins_at true c = Begun (line_of c) ∷ []
begins_at false c = []

pub record Leaves (before rest : List Request) (c : Request) (ms : List Mark) (out w : List ℕ) (n1 : ℕ) : Type 0 where
  pub begun : begun_between (before ++ c ∷ rest) (length out) (length out + length (take n1 w)) ≡ begins_at (nat_le (length w) n1) c
  pub once : starts_with nat_eq (concat (texts (before ++ c ∷ rest))) (out ++ take n1 w) ≡ true
  pub in_turn : reached_in (length (out ++ take n1 w)) (texts (before ++ c ∷ rest)) ≡ length before + 1

-- of the octets that wait N1 at most leave: the command begins where none is left, and no later one is reached
pub leaves : (before rest : List Request) (c : Request) (ms : List Mark) (out w : List ℕ) (n1 front : ℕ) → length out ≡ out_of before + front → front + length w ≡ length (text_of c)
    → out ++ w ≡ concat (texts before) ++ text_of c → 0 < length w → 1 ≤ n1 → Leaves before rest c ms out w n1
leaves before rest c ms out w n1 front o a j l h =
    let qs = before ++ c ∷ rest in
    let size : length (take n1 w) ≡ min n1 (length w) = length-take n1 w in
    record {
      begun =
          ap (λ (n : ℕ). begun_between qs n (n + length (take n1 w))) o
          ∙ by_test (nat_le (length w) n1) refl;
      once =
          let all : concat (texts qs) ≡ (out ++ take n1 w) ++ (drop n1 w ++ concat (texts rest))
          = ap concat (texts_both before (c ∷ rest)) ∙ (concat-append (texts before) (texts (c ∷ rest))
          ∙ (sym (append_assoc (concat (texts before)) (text_of c) (concat (texts rest)))
          ∙ (ap (λ (v : List ℕ). v ++ concat (texts rest)) (sym j ∙ ap (λ (v : List ℕ). out ++ v) (sym (take-append-drop n1 w)))
          ∙ (ap (λ (v : List ℕ). v ++ concat (texts rest)) (sym (append_assoc out (take n1 w) (drop n1 w)))
          ∙ append_assoc (out ++ take n1 w) (drop n1 w) (concat (texts rest)))))) in
          ap (λ (v : List ℕ). starts_with nat_eq v (out ++ take n1 w)) all ∙ begins_with (out ++ take n1 w) (drop n1 w ++ concat (texts rest));
      in_turn =
          let n : length (out ++ take n1 w) ≡ out_of before + (front + length (take n1 w)) = let x = length-append out (take n1 w) in omega (arith, x, o) in
          ap (λ (m : ℕ). reached_in m (texts qs)) n ∙ reached_part before rest c (front + length (take n1 w)) (omega (arith, size, l, h)) (omega (arith, size, a));
    }
  where
    by_test : (b : Bool) → nat_le (length w) n1 ≡ b → begun_between (before ++ c ∷ rest) (out_of before + front) ((out_of before + front) + length (take n1 w)) ≡ begins_at b c
    by_test true e =
        let few = leb-true (length w) n1 e in
        let size : length (take n1 w) ≡ min n1 (length w) = length-take n1 w in
        let whole : (out_of before + front) + length (take n1 w) ≡ out_of before + length (text_of c) = omega (arith, few, size, a) in
        ap (λ (m : ℕ). begun_between (before ++ c ∷ rest) (out_of before + front) m) whole ∙ begun_one before rest c front (omega (arith, a, l))
    by_test false e =
        let many : n1 < length w = grind (arith, nat_tests) in
        let size : length (take n1 w) ≡ min n1 (length w) = length-take n1 w in
        let part : (out_of before + front) + length (take n1 w) ≡ out_of before + (front + length (take n1 w)) = omega arith in
        ap (λ (m : ℕ). begun_between (before ++ c ∷ rest) (out_of before + front) m) part
        ∙ begun_none before rest c front (front + length (take n1 w)) (omega (arith, a, l)) (omega (arith, a, many, size))
