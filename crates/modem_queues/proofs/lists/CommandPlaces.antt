-- The places before which no command of a connection stands, as requests come and go.
use Rattle.std.specs.Prelude.{◌≡◌, ◌≢◌, ◌⊎◌, ◌≤◌, ◌<◌, ℕ, zero, suc, ◌+◌, ◌-◌, ◌||◌, Bool, true, false, nat_lt, List, [], ◌∷◌, ◌++◌, length, take, drop, find, map, refl, if◌then◌else◌, Option, Some, None, remove, replicate, slice_index_or, slice_set}
use Rattle.std.specs.List.{list_any}
use Rattle.std.specs.Vec.{vec_capacity, vec_len}
use Rattle.std.specs.Global.{Vec}
use Rattle.std.proofs.lemmas.List.{get_or-set_same, get_or-set_other, length-map, length-set, length-append, length-replicate, take-append-le, get_or-replicate, get_or_past}
use Rattle.std.proofs.lemmas.List.Edits.{length-remove}
use Rattle.std.proofs.lemmas.List.Folds.{find-append}
use Rattle.std.specs.Option.{option_or}
use Rattle.std.proofs.Common.{ap, sym, subst, ◌∙◌, arith, inl, inr}
use Rattle.std.proofs.lemmas.Bool.{cases_eq, ltb-true, ltb-false}
use Rattle.std.proofs.Math.ListN.{get_or-map}
use Rattle.modem_desk.specs.declared.request.Request.{Request}
use Rattle.modem_history.specs.Requests.{commands_on}
use Rattle.modem_queues.specs.Stops.{is_stop}
use Rattle.modem_queues.specs.Hands.{AreStarts, HandIsKept, moved_up}

abbrev start_of : List ℕ → ℕ → ℕ
start_of starts d = slice_index_or starts d 0

-- ## A place is noted

-- a place before which no command of d stands may be noted
pub noted : (starts : List ℕ) (qs : List Request) (d n : ℕ) → AreStarts starts qs → d < length starts → n ≤ length qs → list_any (commands_on d) (take n qs) ≡ false → AreStarts (slice_set starts d n) qs
noted starts qs d n are inside within none = record {
  all = length-set starts d n ∙ are.all;
  within = λ e. by_place e (cases_eq e d);
  none = λ e. none_at e (cases_eq e d);
}
  where
    by_place : (e : ℕ) → (e ≡ d) ⊎ (e ≢ d) → start_of (slice_set starts d n) e ≤ length qs
    by_place e (inl same) = subst (λ (m : ℕ). m ≤ length qs) (sym (ap (start_of (slice_set starts d n)) same ∙ get_or-set_same starts d n 0 inside)) within
    by_place e (inr ne) = subst (λ (m : ℕ). m ≤ length qs) (sym (get_or-set_other starts d e n 0 ne)) (are.within e)

    none_at : (e : ℕ) → (e ≡ d) ⊎ (e ≢ d) → list_any (commands_on e) (take (start_of (slice_set starts d n) e) qs) ≡ false
    none_at e (inl same) =
        ap (λ (m : ℕ). list_any (commands_on m) (take (start_of (slice_set starts d n) m) qs)) same
        ∙ (ap (λ (m : ℕ). list_any (commands_on d) (take m qs)) (get_or-set_same starts d n 0 inside) ∙ none)
    none_at e (inr ne) = ap (λ (m : ℕ). list_any (commands_on e) (take m qs)) (get_or-set_other starts d e n 0 ne) ∙ are.none e

-- ## A request comes

-- a request that comes last changes no place
pub came_last : (starts : List ℕ) (qs : List Request) (q : Request) → AreStarts starts qs → AreStarts starts (qs ++ q ∷ [])
came_last starts qs q are = record {
  all = are.all;
  within = λ d. let long = length-append qs (q ∷ []) in let few = are.within d in omega (arith, long, few);
  none = λ d. ap (list_any (commands_on d)) (take-append-le (start_of starts d) qs (q ∷ []) (are.within d)) ∙ are.none d;
}

-- where no Stop is noted once a request came last, none is there
pub no_stop_last : (qs : List Request) (q : Request) (was now : Bool) → (was ≡ false → find is_stop qs ≡ None) → now ≡ (was || is_stop q) → now ≡ false → find is_stop (qs ++ q ∷ []) ≡ None
no_stop_last qs q true now none is off = absurd (let x : true ≡ false = sym is ∙ off in cc)
no_stop_last qs q false now none is off = find-append is_stop qs (q ∷ []) ∙ (ap (λ (o : Option Request). option_or o (find is_stop (q ∷ []))) (none refl) ∙ ap (λ (b : Bool). if b then Some q else None) (sym is ∙ off))

-- ## A request goes

kept_take : (test : Request → Bool) (qs : List Request) (p n : ℕ) → n ≤ p → list_any test (take n qs) ≡ false → list_any test (take n (remove qs p)) ≡ false
kept_take test qs p zero l h = refl
kept_take test qs zero (suc n) l h = let x : ⊥ = omega (arith, l) in absurd x
kept_take test [] (suc p) (suc n) l h = refl
kept_take test (q ∷ qs) (suc p) (suc n) l h = by_test (test q) h (kept_take test qs p n (omega (arith, l)))
  where
    by_test : (b : Bool) → (b || list_any test (take n qs)) ≡ false → (list_any test (take n qs) ≡ false → list_any test (take n (remove qs p)) ≡ false) → (b || list_any test (take n (remove qs p))) ≡ false
    by_test true h f = cc
    by_test false h f = f h

less_take : (test : Request → Bool) (qs : List Request) (p m : ℕ) → p ≤ m → list_any test (take (suc m) qs) ≡ false → list_any test (take m (remove qs p)) ≡ false
less_take test [] p zero l h = refl
less_take test [] zero (suc m) l h = refl
less_take test [] (suc p) (suc m) l h = refl
less_take test (q ∷ qs) zero m l h = by_test (test q) h
  where
    by_test : (b : Bool) → (b || list_any test (take m qs)) ≡ false → list_any test (take m qs) ≡ false
    by_test true h = cc
    by_test false h = h
less_take test (q ∷ qs) (suc p) zero l h = let x : ⊥ = omega (arith, l) in absurd x
less_take test (q ∷ qs) (suc p) (suc m) l h = by_test (test q) h (less_take test qs p m (omega (arith, l)))
  where
    by_test : (b : Bool) → (b || list_any test (take (suc m) qs)) ≡ false → (list_any test (take (suc m) qs) ≡ false → list_any test (take m (remove qs p)) ≡ false) → (b || list_any test (take m (remove qs p))) ≡ false
    by_test true h f = cc
    by_test false h f = f h

none_moved : (test : Request → Bool) (qs : List Request) (p n : ℕ) (b : Bool) → nat_lt p n ≡ b → list_any test (take n qs) ≡ false → list_any test (take (if b then n - 1 else n) (remove qs p)) ≡ false
none_moved test qs p zero b e h = by_test b
  where
    by_test : (x : Bool) → list_any test (take (if x then 0 - 1 else 0) (remove qs p)) ≡ false
    by_test true = refl
    by_test false = refl
none_moved test qs p (suc m) true e h =
    let l = ltb-true p (suc m) e in
    let less : suc m - 1 ≡ m = omega arith in
    ap (λ (n : ℕ). list_any test (take n (remove qs p))) less ∙ less_take test qs p m (omega (arith, l)) h
none_moved test qs p (suc m) false e h = kept_take test qs p (suc m) (ltb-false p (suc m) e) h

few_moved : (n p long : ℕ) (b : Bool) → nat_lt p n ≡ b → n ≤ long + 1 → p ≤ long → (if b then n - 1 else n) ≤ long
few_moved n p long true e within less = omega (arith, within)
few_moved n p long false e within less = let l = ltb-false p n e in omega (arith, l, less)

zero_moved : (p : ℕ) → moved_up p 0 ≡ 0
zero_moved p = by_test (nat_lt p 0)
  where
    by_test : (b : Bool) → (if b then 0 - 1 else 0) ≡ 0
    by_test true = refl
    by_test false = refl

start_moved : (starts : List ℕ) (p d : ℕ) → start_of (map (moved_up p) starts) d ≡ moved_up p (start_of starts d)
start_moved starts p d = ap (λ (z : ℕ). slice_index_or (map (moved_up p) starts) d z) (sym (zero_moved p)) ∙ get_or-map (moved_up p) starts d 0

-- once a request goes, the places behind it move up
pub went_out : (starts : List ℕ) (qs : List Request) (p : ℕ) → AreStarts starts qs → p < length qs → AreStarts (map (moved_up p) starts) (remove qs p)
went_out starts qs p are inside = record {
  all = length-map starts (moved_up p) ∙ are.all;
  within = λ d.
      let fewer = length-remove qs p inside in
      let few = are.within d in
      subst (λ (n : ℕ). n ≤ length (remove qs p)) (sym (start_moved starts p d))
      (few_moved (start_of starts d) p (length (remove qs p)) (nat_lt p (start_of starts d)) refl (omega (arith, fewer, few)) (omega (arith, fewer, inside)));
  none = λ d.
      ap (λ (n : ℕ). list_any (commands_on d) (take n (remove qs p))) (start_moved starts p d)
      ∙ none_moved (commands_on d) qs p (start_of starts d) (nat_lt p (start_of starts d)) refl (are.none d);
}

no_first : (qs : List Request) (p : ℕ) → find is_stop qs ≡ None → find is_stop (remove qs p) ≡ None
no_first [] zero h = refl
no_first [] (suc p) h = refl
no_first (q ∷ qs) zero h = by_test (is_stop q) h
  where
    by_test : (b : Bool) → (if b then Some q else find is_stop qs) ≡ None → find is_stop qs ≡ None
    by_test true h = cc
    by_test false h = h
no_first (q ∷ qs) (suc p) h = by_test (is_stop q) h (no_first qs p)
  where
    by_test : (b : Bool) → (if b then Some q else find is_stop qs) ≡ None → (find is_stop qs ≡ None → find is_stop (remove qs p) ≡ None) → (if b then Some q else find is_stop (remove qs p)) ≡ None
    by_test true h f = cc
    by_test false h f = f h

-- and where no Stop is noted, none is there
pub no_stop_left : (qs : List Request) (p : ℕ) (may : Bool) → (may ≡ false → find is_stop qs ≡ None) → may ≡ false → find is_stop (remove qs p) ≡ None
no_stop_left qs p may none off = no_first qs p (none off)

-- ## No requests

-- where there are no requests, all places are 0
pub none_noted : (qs : List Request) → qs ≡ [] → AreStarts (replicate 64 0) qs
none_noted qs is = subst (AreStarts (replicate 64 0)) (sym is) (record { all = length-replicate {A = ℕ} 64 0; within = λ d. let z = zeros d in omega (arith, z); none = λ d. ap (λ (n : ℕ). list_any (commands_on d) (take n [])) (zeros d) })
  where
    zeros : (d : ℕ) → start_of (replicate 64 0) d ≡ 0
    zeros d = by_place (nat_lt d 64) refl
      where
        by_place : (b : Bool) → nat_lt d 64 ≡ b → start_of (replicate 64 0) d ≡ 0
        by_place true h = get_or-replicate 64 d 0 0 (ltb-true d 64 h)
        by_place false h = get_or_past (replicate 64 0) d 0 (let more : 64 ≤ d = ltb-false d 64 h in let z = length-replicate {A = ℕ} 64 0 in omega (arith, z, more))

-- ## The hand

-- with a request more the hand is kept as it should be
pub kept_last : (old new : Vec Request) (before gone : ℕ) (starts : List ℕ) (was now : Bool) (q : Request) → HandIsKept old before starts was → gone ≤ vec_len new → vec_len new ≤ gone + 128 → vec_len new ≤ 192 → 192 ≤ vec_capacity new
    → drop gone new.items ≡ drop before old.items ++ q ∷ [] → now ≡ (was || is_stop q) → HandIsKept new gone starts now
kept_last old new before gone starts was now q are within few all room items is = record {
  within = within;
  few = few;
  all = all;
  room = room;
  starts_are = subst (AreStarts starts) (sym items) (came_last starts (drop before old.items) q are.starts_are);
  no_stop = λ off. ap (find is_stop) items ∙ no_stop_last (drop before old.items) q was now are.no_stop is off;
}

-- with a request fewer, the places moved up
pub kept_out : (old new : Vec Request) (before gone : ℕ) (starts later : List ℕ) (may : Bool) (p : ℕ) → HandIsKept old before starts may → gone ≤ vec_len new → vec_len new ≤ gone + 128 → vec_len new ≤ 192 → 192 ≤ vec_capacity new
    → p < length (drop before old.items) → drop gone new.items ≡ remove (drop before old.items) p → later ≡ map (moved_up p) starts → HandIsKept new gone later may
kept_out old new before gone starts later may p are within few all room inside items moved = record {
  within = within;
  few = few;
  all = all;
  room = room;
  starts_are = subst (λ (ns : List ℕ). AreStarts ns (drop gone new.items)) (sym moved) (subst (AreStarts (map (moved_up p) starts)) (sym items) (went_out starts (drop before old.items) p are.starts_are inside));
  no_stop = λ off. ap (find is_stop) items ∙ no_stop_left (drop before old.items) p may are.no_stop off;
}

-- without any request
pub kept_none : (new : Vec Request) → vec_len new ≤ 0 → 192 ≤ vec_capacity new → new.items ≡ [] → HandIsKept new 0 (replicate 64 0) false
kept_none new few room items = record {
  within = omega arith;
  few = omega (arith, few);
  all = omega (arith, few);
  room = room;
  starts_are = none_noted new.items items;
  no_stop = λ off. ap (find is_stop) items;
}

-- and with another place noted for d
pub kept_noted : (qs : Vec Request) (gone : ℕ) (starts : List ℕ) (may : Bool) (d n : ℕ) → HandIsKept qs gone starts may → d < 62 → n ≤ length (drop gone qs.items) → list_any (commands_on d) (take n (drop gone qs.items)) ≡ false → HandIsKept qs gone (slice_set starts d n) may
kept_noted qs gone starts may d n are small within none = record {
  within = are.within;
  few = are.few;
  all = are.all;
  room = are.room;
  starts_are = let long = are.starts_are.all in noted starts (drop gone qs.items) d n are.starts_are (omega (arith, long, small)) within none;
  no_stop = are.no_stop;
}

-- the request at a place behind those that have left
pub removed_behind : (n p k : ℕ) (qs : List Request) → k ≡ n + p → drop n (remove qs k) ≡ remove (drop n qs) p
removed_behind zero p k qs e = ap (remove qs) (let f : k ≡ p = omega (arith, e) in f)
removed_behind (suc n) p zero qs e = let x : ⊥ = omega (arith, e) in absurd x
removed_behind (suc n) zero (suc k) [] e = refl
removed_behind (suc n) (suc p) (suc k) [] e = refl
removed_behind (suc n) p (suc k) (q ∷ qs) e = removed_behind n p k qs (omega (arith, e))

-- once another stands in the place of the first that is left, those behind it are left
pub first_left : (n m : ℕ) (x : Request) (qs : List Request) → m ≡ n + 1 → n < length qs → drop m (slice_set qs n x) ≡ remove (drop n qs) 0
first_left n m x qs e inside = ap (λ (k : ℕ). drop k (slice_set qs n x)) (let f : m ≡ suc n = omega (arith, e) in f) ∙ at n qs inside
  where
    at : (n : ℕ) (qs : List Request) → n < length qs → drop (suc n) (slice_set qs n x) ≡ remove (drop n qs) 0
    at zero [] l = let y : ⊥ = omega (arith, l) in absurd y
    at (suc n) [] l = let y : ⊥ = omega (arith, l) in absurd y
    at zero (q ∷ qs) l = refl
    at (suc n) (q ∷ qs) l = at n qs (omega (arith, l))

-- the one at a place alone
one_there : (xs : List Request) (p : ℕ) (d : Request) → p < length xs → drop p (take (suc p) xs) ≡ slice_index_or xs p d ∷ []
one_there [] p d l = let x : ⊥ = omega (arith, l) in absurd x
one_there (x ∷ xs) zero d l = refl
one_there (x ∷ xs) (suc p) d l = one_there xs p d (omega (arith, l))

before_it : (xs : List Request) (p : ℕ) → take p (take (suc p) xs) ≡ take p xs
before_it [] zero = refl
before_it [] (suc p) = refl
before_it (x ∷ xs) zero = refl
before_it (x ∷ xs) (suc p) = ap (λ (ys : List Request). x ∷ ys) (before_it xs p)

-- the one at a place comes before the others once those up to it are turned by one
pub brought_front : (xs : List Request) (p n : ℕ) (d : Request) → p < length xs → n ≡ p + 1 → (drop p (take n xs) ++ take p (take n xs)) ++ drop n xs ≡ slice_index_or xs p d ∷ remove xs p
brought_front xs p n d l e =
    let is : n ≡ suc p = omega (arith, e) in
    ap (λ (m : ℕ). (drop p (take m xs) ++ take p (take m xs)) ++ drop m xs) is
    ∙ (ap (λ (ys : List Request). (ys ++ take p (take (suc p) xs)) ++ drop (suc p) xs) (one_there xs p d l)
    ∙ ap (λ (ys : List Request). slice_index_or xs p d ∷ (ys ++ drop (suc p) xs)) (before_it xs p))

-- the first of those behind so many stands before the others
pub is_in_front : (xs : List Request) (n : ℕ) (d : Request) → n < length xs → drop n xs ≡ slice_index_or (drop n xs) 0 d ∷ remove (drop n xs) 0
is_in_front [] n d l = let x : ⊥ = omega (arith, l) in absurd x
is_in_front (x ∷ xs) zero d l = refl
is_in_front (x ∷ xs) (suc n) d l = is_in_front xs n d (omega (arith, l))

-- ## All places, one after the other

-- once the place at i is changed too, changing the rest comes to the same
pub moved_next : (f : ℕ → ℕ) (xs : List ℕ) (i n : ℕ) → i < length xs → n ≡ suc i → take n (slice_set xs i (f (slice_index_or xs i 0))) ++ map f (drop n (slice_set xs i (f (slice_index_or xs i 0)))) ≡ take i xs ++ map f (drop i xs)
moved_next f xs i n inside is = subst (λ (m : ℕ). take m (slice_set xs i (f (slice_index_or xs i 0))) ++ map f (drop m (slice_set xs i (f (slice_index_or xs i 0)))) ≡ take i xs ++ map f (drop i xs)) (sym is) (next xs i inside)
  where
    next : (ys : List ℕ) (j : ℕ) → j < length ys → take (suc j) (slice_set ys j (f (slice_index_or ys j 0))) ++ map f (drop (suc j) (slice_set ys j (f (slice_index_or ys j 0)))) ≡ take j ys ++ map f (drop j ys)
    next [] j inside = let x : ⊥ = omega (arith, inside) in absurd x
    next (y ∷ ys) zero inside = refl
    next (y ∷ ys) (suc j) inside = ap (λ (zs : List ℕ). y ∷ zs) (next ys j (omega (arith, inside)))

-- once all are changed there is no rest
pub moved_all : (f : ℕ → ℕ) (i : ℕ) (xs : List ℕ) → length xs ≤ i → take i xs ++ map f (drop i xs) ≡ xs
moved_all f zero [] all = refl
moved_all f zero (x ∷ xs) all = let e : ⊥ = omega (arith, all) in absurd e
moved_all f (suc i) [] all = refl
moved_all f (suc i) (x ∷ xs) all = ap (λ (ys : List ℕ). x ∷ ys) (moved_all f i xs (omega (arith, all)))
