-- How much there is in all, as one of the lists grows.
use Rattle.std.proofs.Common.{arith}
use Rattle.std.proofs.lemmas.List.{length-append}
use Rattle.std.specs.Prelude.{◌≡◌, ℕ, zero, suc, ◌+◌, ◌≤◌, List, [], ◌∷◌, length, flat_map}
use Rattle.modem_history.specs.Sessions.{at_place}
use Rattle.modem_history.specs.Turns.{amount}

amount_first : {X : Type 0} (xs : List X) (xss : List (List X)) → amount (xs ∷ xss) ≡ length xs + amount xss
amount_first xs xss = length-append xs (flat_map (λ ys. ys) xss)

none_in : {X : Type 0} (xss : List (List X)) → ((k : ℕ) → length (at_place k xss) ≤ 0) → amount xss ≤ 0
none_in [] h = omega arith
none_in (xs ∷ xss) h = let first = h zero in let rest = none_in xss (λ k. h (suc k)) in let all = amount_first xs xss in omega arith

-- where no list is shorter, there is no less in all
pub amount_grows : {X : Type 0} (xss yss : List (List X)) → ((k : ℕ) → length (at_place k xss) ≤ length (at_place k yss)) → amount xss ≤ amount yss
amount_grows [] yss h = omega arith
amount_grows (xs ∷ xss) [] h = let none = none_in (xs ∷ xss) h in omega arith
amount_grows (xs ∷ xss) (ys ∷ yss) h =
    let first = h zero in
    let rest = amount_grows xss yss (λ k. h (suc k)) in
    let one = amount_first xs xss in
    let other = amount_first ys yss in
    omega arith

-- and where one is longer, there is more
pub amount_more : {X : Type 0} (j : ℕ) (xss yss : List (List X)) → ((k : ℕ) → length (at_place k xss) ≤ length (at_place k yss)) → length (at_place j xss) + 1 ≤ length (at_place j yss) → amount xss + 1 ≤ amount yss
amount_more j xss [] h more = let none = h j in omega arith
amount_more zero [] (ys ∷ yss) h more = let other = amount_first ys yss in omega arith
amount_more (suc j) [] (ys ∷ yss) h more = let other = amount_first ys yss in let rest = amount_more j [] yss (λ k. omega arith) more in omega arith
amount_more zero (xs ∷ xss) (ys ∷ yss) h more =
    let rest = amount_grows xss yss (λ k. h (suc k)) in
    let one = amount_first xs xss in
    let other = amount_first ys yss in
    omega arith
amount_more (suc j) (xs ∷ xss) (ys ∷ yss) h more =
    let first = h zero in
    let rest = amount_more j xss yss (λ k. h (suc k)) more in
    let one = amount_first xs xss in
    let other = amount_first ys yss in
    omega arith
