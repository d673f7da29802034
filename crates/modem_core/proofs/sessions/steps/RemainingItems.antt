-- Some stay of what waited, in their order.
use Rattle.std.proofs.Common.{ap, sym, ◌∙◌, arith, inl, inr, subst, ⊎_elim}
use Rattle.std.proofs.lemmas.Bool.{eqb-true, eq-eqb, ne_eqb}
use Rattle.std.proofs.lemmas.Bool.Decides.{eqb_tells}
use Rattle.std.proofs.lemmas.List.{append-nil, append_cancel_right, length-append}
use Rattle.std.proofs.lemmas.List.Elements.{filter-append}
use Rattle.std.specs.Prelude.{◌≡◌, ◌≢◌, ℕ, ◌≤◌, ◌==◌, ◌⊎◌, Bool, true, false, List, [], ◌∷◌, ◌++◌, length, refl, if◌then◌else◌}
use Rattle.modem_core.specs.Placing.{Stay, stays_none, goes_first, stays_first}
use Rattle.modem_queues.specs.LineQueues.{of_key}

-- ## Those of a key

-- two numbers are the same in either order
pub swapped : (a b : ℕ) → (a == b) ≡ (b == a)
swapped a b = ⊎_elim (λ (y : (a == b) ≡ true × a ≡ b). y.0 ∙ sym (eq-eqb b a (sym y.1))) (λ (y : (a == b) ≡ false × a ≢ b). y.0 ∙ sym (ne_eqb b a (λ e. y.1 (sym e)))) (eqb_tells a b)

-- an element of the key comes before the others of it
pub own_first : {X : Type 0} (key : X → ℕ) (n : ℕ) (x : X) (xs : List X) → (key x == n) ≡ true → of_key key n (x ∷ xs) ≡ x ∷ of_key key n xs
own_first key n x xs e = ap (λ (c : Bool). if c then x ∷ of_key key n xs else of_key key n xs) e

-- one of another key is none of it
pub other : {X : Type 0} (key : X → ℕ) (n : ℕ) (x : X) (xs : List X) → (key x == n) ≡ false → of_key key n (x ∷ xs) ≡ of_key key n xs
other key n x xs e = ap (λ (c : Bool). if c then x ∷ of_key key n xs else of_key key n xs) e

-- nor is it one between two parts
pub other_of : {X : Type 0} (key : X → ℕ) (n : ℕ) (stay rest : List X) (x : X) → (key x == n) ≡ false → of_key key n (stay ++ x ∷ rest) ≡ of_key key n (stay ++ rest)
other_of {X} key n stay rest x e =
    filter-append (λ y. key y == n) stay (x ∷ rest)
    ∙ (ap (λ (ys : List X). of_key key n stay ++ ys) (other key n x rest e)
    ∙ sym (filter-append (λ y. key y == n) stay rest))

-- none of a key is in a list
record NoneIn {X : Type 0} (key : X → ℕ) (n : ℕ) (x : X) (xs : List X) : Type 0 where
  not_first : (key x == n) ≡ false
  not_later : of_key key n xs ≡ []

none_in : {X : Type 0} (key : X → ℕ) (n : ℕ) (x : X) (xs : List X) → of_key key n (x ∷ xs) ≡ [] → NoneIn key n x xs
none_in {X} key n x xs h = by_test (key x == n) refl h
  where
    by_test : (c : Bool) → (key x == n) ≡ c → (if c then x ∷ of_key key n xs else of_key key n xs) ≡ [] → NoneIn key n x xs
    by_test false e h = record { not_first = e; not_later = h }
    by_test true e h = cc

-- ## All stay, and then one less

-- before anything goes all stay
pub stay_all : {X : Type 0} (key : X → ℕ) (xs : List X) → Stay key xs xs
stay_all key [] = stays_none
stay_all key (x ∷ xs) = stays_first x xs xs refl (stay_all key xs)

-- the first of its key goes
pub stay_without : {X : Type 0} (key : X → ℕ) (waited stay rest : List X) (x : X) → of_key key (key x) stay ≡ [] → Stay key waited (stay ++ x ∷ rest) → Stay key waited (stay ++ rest)
stay_without key [] [] rest x none h = elim h [ ]
stay_without key [] (z ∷ stay) rest x none h = elim h [ ]
stay_without key (y ∷ ys) [] rest x none (goes_first _ _ _ h) = goes_first y ys rest (stay_without key ys [] rest x none h)
stay_without key (y ∷ ys) [] rest x none (stays_first _ _ _ e h) = goes_first y ys rest h
stay_without key (y ∷ ys) (z ∷ stay) rest x none (goes_first _ _ _ h) = goes_first y ys (z ∷ stay ++ rest) (stay_without key ys (z ∷ stay) rest x none h)
stay_without key (y ∷ ys) (z ∷ stay) rest x none (stays_first _ _ _ e h) =
    let n = none_in key (key x) z stay none in
    stays_first z ys (stay ++ rest) (e ∙ other_of key (key z) stay rest x (swapped (key x) (key z) ∙ n.not_first)) (stay_without key ys stay rest x n.not_later h)

-- ## By the last

pub record LastStays {X : Type 0} (key : X → ℕ) (xs ys : List X) (x : X) : Type 0 where
  pub front : List X
  pub are : ys ≡ front ++ x ∷ []
  pub stay : Stay key xs front

pub record LastGoes {X : Type 0} (key : X → ℕ) (xs ys : List X) (x : X) : Type 0 where
  pub stay : Stay key xs ys
  pub none : of_key key (key x) ys ≡ []

last_of : {X : Type 0} (key : X → ℕ) (n : ℕ) (xs : List X) (x : X) → (key x == n) ≡ true → of_key key n (xs ++ x ∷ []) ≡ of_key key n xs ++ x ∷ []
last_of {X} key n xs x e = filter-append (λ y. key y == n) xs (x ∷ []) ∙ ap (λ (ys : List X). of_key key n xs ++ ys) (own_first key n x [] e)

-- the same stays of two lists where the last of both is taken away
both_without : {X : Type 0} (key : X → ℕ) (n : ℕ) (xs ys : List X) (x : X) → of_key key n (xs ++ x ∷ []) ≡ of_key key n (ys ++ x ∷ []) → of_key key n xs ≡ of_key key n ys
both_without key n xs ys x e =
    append_cancel_right (of_key key n xs) (of_key key n ys) (of_key key n (x ∷ [])) (sym (filter-append (λ y. key y == n) xs (x ∷ [])) ∙ (e ∙ filter-append (λ y. key y == n) ys (x ∷ [])))

-- the last stays, or goes, and then none of its key stays
pub stay_last : {X : Type 0} (key : X → ℕ) (xs ys : List X) (x : X) → Stay key (xs ++ x ∷ []) ys → LastStays key xs ys x ⊎ LastGoes key xs ys x
stay_last key [] ys x (goes_first _ _ _ stays_none) = inr (record { stay = stays_none; none = refl })
stay_last key [] ys x (stays_first _ _ _ e stays_none) = inl (record { front = []; are = refl; stay = stays_none })
stay_last {X} key (z ∷ zs) ys x (goes_first _ _ _ h) =
    ⊎_elim
    (λ (l : LastStays key zs ys x). inl (record { front = l.front; are = l.are; stay = goes_first z zs l.front l.stay }))
    (λ (g : LastGoes key zs ys x). inr (record { stay = goes_first z zs ys g.stay; none = g.none }))
    (stay_last key zs ys x h)
stay_last {X} key (z ∷ zs) (_ ∷ ys) x (stays_first _ _ _ e h) = ⊎_elim by_stays (λ (g : LastGoes key zs ys x). by_goes g (key z == key x) refl) (stay_last key zs ys x h)
  where
    by_stays : LastStays key zs ys x → LastStays key (z ∷ zs) (z ∷ ys) x ⊎ LastGoes key (z ∷ zs) (z ∷ ys) x
    by_stays l = inl (record {
      front = z ∷ l.front;
      are = ap (λ (vs : List X). z ∷ vs) l.are;
      stay = stays_first z zs l.front (both_without key (key z) zs l.front x (e ∙ ap (of_key key (key z)) l.are)) l.stay;
    })

    by_goes : LastGoes key zs ys x → (c : Bool) → (key z == key x) ≡ c → LastStays key (z ∷ zs) (z ∷ ys) x ⊎ LastGoes key (z ∷ zs) (z ∷ ys) x
    by_goes g false t = inr (record {
      stay = stays_first z zs ys (sym (other_of key (key z) zs [] x (swapped (key x) (key z) ∙ t) ∙ ap (of_key key (key z)) (append-nil zs)) ∙ e) g.stay;
      none = other key (key x) z ys t ∙ g.none;
    })
    by_goes g true t =
        let gone : of_key key (key z) ys ≡ [] = subst (λ (n : ℕ). of_key key n ys ≡ []) (sym (eqb-true (key z) (key x) t)) g.none in
        let size = ap length (sym (last_of key (key z) zs x (swapped (key x) (key z) ∙ t)) ∙ (e ∙ gone)) in
        let long = length-append (of_key key (key z) zs) (x ∷ []) in
        absurd (omega arith)

-- of each key no more stay than waited
pub stay_count : {X : Type 0} (key : X → ℕ) (n : ℕ) (xs ys : List X) → Stay key xs ys → length (of_key key n ys) ≤ length (of_key key n xs)
stay_count key n [] [] stays_none = omega arith
stay_count key n [] (y ∷ ys) h = elim h [ ]
stay_count {X} key n (x ∷ xs) ys (goes_first _ _ _ h) = by_test (key x == n) (stay_count key n xs ys h)
  where
    by_test : (c : Bool) → length (of_key key n ys) ≤ length (of_key key n xs) → length (of_key key n ys) ≤ length (if c then x ∷ of_key key n xs else of_key key n xs)
    by_test true few = omega arith
    by_test false few = few
stay_count {X} key n (x ∷ xs) (_ ∷ ys) (stays_first _ _ _ e h) = by_test (key x == n) (stay_count key n xs ys h)
  where
    by_test : (c : Bool) → length (of_key key n ys) ≤ length (of_key key n xs) → length (if c then x ∷ of_key key n ys else of_key key n ys) ≤ length (if c then x ∷ of_key key n xs else of_key key n xs)
    by_test true few = omega arith
    by_test false few = few
