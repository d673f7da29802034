-- Requests that are numbered one after the other: the first of them are so too, and one more with the next number.
use Rattle.std.proofs.Common.{◌≡◌, ℕ, zero, suc, ◌+◌, List, [], ◌∷◌, ◌++◌, length, map, drop, ◌==◌, sym, refl, ap, ◌∙◌, subst, length-append, arith}
use Rattle.std.proofs.lemmas.List.{map-append}
use Rattle.std.proofs.lemmas.List.Elements.{filter-append}
use Rattle.modem_desk.specs.declared.request.Request.{Request}
use Rattle.modem_desk.specs.Ends.{IsNumbered, count_from}
use Rattle.modem_desk.specs.Rule.{AreNumbered, IsCounted, of_caller}

-- as many as there are, from the first one on
from_first : (first n : ℕ) → count_from first (suc n) ≡ first ∷ count_from (suc first) n
from_first first zero = let own : first + 0 ≡ first = omega arith in ap (λ (k : ℕ). k ∷ []) own
from_first first (suc n) =
    let last : first + suc n ≡ suc first + n = omega arith in
    ap (λ (xs : List ℕ). xs ++ (first + suc n) ∷ []) (from_first first n) ∙ ap (λ (k : ℕ). first ∷ (count_from (suc first) n ++ k ∷ [])) last

head_or : List ℕ → ℕ
head_or [] = 0
head_or (z ∷ zs) = z

first_of : (a b : ℕ) (xs ys : List ℕ) → a ∷ xs ≡ b ∷ ys → a ≡ b
unfolding head_or
first_of a b xs ys e = ap head_or e

front_numbered : (first : ℕ) (xs ys : List Request) → IsNumbered first (xs ++ ys) → IsNumbered first xs
front_numbered first [] ys h = refl
front_numbered first (x ∷ xs) ys h =
    let rest = map (λ (r : Request). r.number) (xs ++ ys) in
    let whole : x.number ∷ rest ≡ first ∷ count_from (suc first) (length (xs ++ ys)) = h ∙ from_first first (length (xs ++ ys)) in
    let tail : IsNumbered (suc first) xs = front_numbered (suc first) xs ys (ap (drop 1) whole) in
    ap (λ (k : ℕ). k ∷ map (λ (r : Request). r.number) xs) (first_of x.number first rest (count_from (suc first) (length (xs ++ ys))) whole)
    ∙ (ap (λ (ks : List ℕ). first ∷ ks) tail ∙ sym (from_first first (length xs)))

-- the first of requests that are numbered one after the other are so too
pub front_counted : (xs ys : List Request) → IsCounted (xs ++ ys) → IsCounted xs
front_counted xs ys h = record { first = h.first; numbered = front_numbered h.first xs ys h.numbered }

-- so are those of each caller among the first
pub fronts_numbered : (xs ys : List Request) → AreNumbered (xs ++ ys) → AreNumbered xs
fronts_numbered xs ys h n =
    front_counted (of_caller n xs) (of_caller n ys) (subst IsCounted (filter-append (λ r. r.caller == n) xs ys) (h n))

-- where no caller has a request, all are numbered so
pub none_numbered : AreNumbered []
none_numbered n = record { first = 0; numbered = refl }

-- a request more, with the next number, leaves them numbered so
pub one_more : (first : ℕ) (xs : List Request) (x : Request) → IsNumbered first xs → x.number ≡ first + length xs → IsCounted (xs ++ x ∷ [])
one_more first xs x h e =
    let grown : length (xs ++ x ∷ []) ≡ suc (length xs) = length-append xs (x ∷ []) ∙ (let s : length xs + 1 ≡ suc (length xs) = omega arith in s) in
    record {
      first = first;
      numbered =
          map-append (λ (r : Request). r.number) xs (x ∷ [])
          ∙ (ap (λ (ks : List ℕ). ks ++ x.number ∷ []) h
          ∙ (ap (λ (k : ℕ). count_from first (length xs) ++ k ∷ []) e
          ∙ sym (ap (count_from first) grown)));
    }
