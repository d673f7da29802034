-- What leaves of the octets that wait goes on with the accepted commands, and reaches into no later one.
use Rattle.std.specs.Prelude.{◌≡◌, ℕ, suc, ◌+◌, ◌-◌, ◌<◌, ◌≤◌, nat_lt, nat_eq, true, List, [], ◌∷◌, ◌++◌, length, take, drop, min, refl, if◌then◌else◌}
use Rattle.std.specs.List.{concat, starts_with}
use Rattle.std.proofs.Common.{ap, sym, ◌∙◌, arith}
use Rattle.std.proofs.lemmas.Bool.Decides.{nat_tests}
use Rattle.std.proofs.lemmas.List.{append_assoc, length-append, length-take, length-drop, map-append, take-append-drop, take-append-le, take_at}
use Rattle.modem_desk.specs.declared.request.Request.{Request}
use Rattle.modem_history.specs.Information.{line_of, texts}
use Rattle.modem_history.specs.Placing.{reached_in}
use Rattle.modem_history.specs.Wholes.{IsPrefixOf}
use Rattle.modem_history.proofs.commands.BegunCommands.{texts_counted}
use Rattle.modem_history.proofs.commands.SentPrefixes.{more_text}
use Rattle.modem_history.proofs.commands.TextCounts.{begins_with, reached_none}

one_reached : (n a k : ℕ) → a ≤ k → (if nat_lt 0 n then a + 1 else 0) ≤ suc k
one_reached n a k h = grind (arith, nat_tests)

-- as many octets as some texts have reach into no text behind them
reached_few : (n : ℕ) (xs ys : List (List ℕ)) → n ≤ length (concat xs) → reached_in n (xs ++ ys) ≤ length xs
reached_few n [] ys h =
    let none : n ≡ 0 = omega (arith, h) in
    let same : reached_in n ys ≡ 0 = ap (λ (m : ℕ). reached_in m ys) none ∙ reached_none ys in
    omega (arith, same)
reached_few n (x ∷ xs) ys h =
    let joined : length (x ++ concat xs) ≡ length x + length (concat xs) = length-append x (concat xs) in
    let less : n - length x ≤ length (concat xs) = omega (arith, h, joined) in
    one_reached n (reached_in (n - length x) (xs ++ ys)) (length xs) (reached_few (n - length x) xs ys less)

-- a chunk goes on with the texts, of which it reaches into the first so many at most
pub record GoesOn (qs : List Request) (out chunk : List ℕ) (count : ℕ) : Type 0 where
  pub once : starts_with nat_eq (concat (texts qs)) (out ++ chunk) ≡ true
  pub few : reached_in (length (out ++ chunk)) (texts qs) ≤ count

-- the octets of the first texts that haven't left
abbrev pub octets_left : List Request → (out : List ℕ) → (count : ℕ) → List ℕ
octets_left qs out count = drop (length out) (concat (texts (take count qs)))

-- the first of these, however many, go on so with what left already, where some wait
pub goes_on : (qs : List Request) (out : List ℕ) (count n : ℕ) → IsPrefixOf out (concat (texts qs)) → 0 < length (octets_left qs out count) → GoesOn qs out (take n (octets_left qs out count)) count
goes_on qs out count n p some =
    let first = take count qs in
    let may = concat (texts first) in
    let rest = concat (texts (drop count qs)) in
    let w = octets_left qs out count in
    let chunk = take n w in
    let all : concat (texts qs) ≡ may ++ rest = ap (λ (v : List Request). concat (texts v)) (sym (take-append-drop count qs)) ∙ more_text first (drop count qs) in
    let left : length w ≡ length may - length out = length-drop (length out) may in
    let within : length out ≤ length may = omega (arith, left, some) in
    let front : take (length out) may ≡ out =
    sym (take-append-le (length out) may rest within) ∙ (ap (λ (v : List ℕ). take (length out) v) (sym all ∙ sym p.joins) ∙ take_at out p.rest (length out) refl) in
    let joined : out ++ w ≡ may = ap (λ (v : List ℕ). v ++ w) (sym front) ∙ take-append-drop (length out) may in
    let parts : (out ++ chunk) ++ drop n w ≡ may = append_assoc out chunk (drop n w) ∙ (ap (λ (v : List ℕ). out ++ v) (take-append-drop n w) ∙ joined) in
    let whole : concat (texts qs) ≡ (out ++ chunk) ++ (drop n w ++ rest) = all ∙ (ap (λ (v : List ℕ). v ++ rest) (sym parts) ∙ append_assoc (out ++ chunk) (drop n w) rest) in
    let size : length (out ++ chunk) + length (drop n w) ≡ length may = sym (length-append (out ++ chunk) (drop n w)) ∙ ap length parts in
    let split : texts qs ≡ texts first ++ texts (drop count qs) = ap (λ (v : List Request). texts v) (sym (take-append-drop count qs)) ∙ map-append (λ (q : Request). line_of q ++ 13 ∷ []) first (drop count qs) in
    let same : reached_in (length (out ++ chunk)) (texts qs) ≡ reached_in (length (out ++ chunk)) (texts first ++ texts (drop count qs)) = ap (reached_in (length (out ++ chunk))) split in
    let reach : reached_in (length (out ++ chunk)) (texts first ++ texts (drop count qs)) ≤ length (texts first) = reached_few (length (out ++ chunk)) (texts first) (texts (drop count qs)) (omega (arith, size)) in
    let counted : length (texts first) ≡ length first = texts_counted first in
    let taken : length first ≡ min count (length qs) = length-take count qs in
    record {
      once = ap (λ (v : List ℕ). starts_with nat_eq v (out ++ chunk)) whole ∙ begins_with (out ++ chunk) (drop n w ++ rest);
      few = omega (arith, same, reach, counted, taken);
    }
