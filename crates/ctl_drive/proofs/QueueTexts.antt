-- What waits on each connection.
use Rattle.std.specs.Prelude.{◌≡◌, ℕ, zero, suc, ◌-◌, ◌<◌, ◌==◌, ◌||◌, Bool, true, false, List, [], ◌∷◌, ◌++◌, Option, None, Some, MatchOption, drop, get_or, length, map, refl, replicate, set, slice_index_or, if◌then◌else◌}
use Rattle.std.specs.Option.{option_to_list}
use Rattle.std.specs.List.{list_all, list_any}
use Rattle.std.proofs.lemmas.Bool.{and_parts}
use Rattle.std.proofs.Common.{ap, append-nil, arith, sym, subst, ◌∙◌}
use Rattle.std.proofs.lemmas.List.{get_or-map, get_or-set_other, get_or-set_same, length-drop, map-set, length-map}
use Rattle.ctl_drive.specs.Asking.{waits_at}
use Rattle.ctl_drive.proofs.Aparts.{equal, unequal}

module _ {Q : Type 0} (texts : Q → List (List ℕ)) where
  -- ## None waits

  -- so many queues, none of which has a text, are seen as so many empty lists
  pub none_made : (qs : List Q) (n : ℕ) → length qs ≡ n → ((i : ℕ) (q : Q) → i < n → texts (slice_index_or qs i q) ≡ []) → map texts qs ≡ replicate n []
  none_made [] zero long h = refl
  none_made [] (suc n) long h = absurd (omega (arith, long))
  none_made (q ∷ qs) zero long h = absurd (omega (arith, long))
  none_made (q ∷ qs) (suc n) long h =
      let first : texts q ≡ [] = h 0 q (omega arith) in
      let rest : map texts qs ≡ replicate n [] = none_made qs n (omega (arith, long)) (λ i r few. h (suc i) r (omega (arith, few))) in
      λ k. first k ∷ rest k

  -- ## One connection's queue changes

  -- the texts of a connection's queue are those that wait there
  pub waits_here : (qs : List Q) (d : ℕ) (q : Q) → d < length qs → q ≡ get_or qs d q → waits_at (map texts qs) d ≡ texts q
  waits_here qs d q within is = get_or-map texts qs d q [] within ∙ ap texts (sym is)

  waits_set : (qs : List Q) (d : ℕ) (r : Q) → d < length qs → (e : ℕ) (b : Bool) → (d == e) ≡ b → waits_at (map texts (set qs d r)) e ≡ (if b then texts r else waits_at (map texts qs) e)
  waits_set qs d r within e true is =
      subst (λ (n : ℕ). waits_at (map texts (set qs d r)) n ≡ texts r) (equal d e is)
      (ap (λ (l : List (List (List ℕ))). waits_at l d) (map-set texts qs d r)
      ∙ get_or-set_same (map texts qs) d (texts r) [] (subst (λ (n : ℕ). d < n) (sym (length-map qs texts)) within))
  waits_set qs d r within e false is =
      ap (λ (l : List (List (List ℕ))). waits_at l e) (map-set texts qs d r) ∙ get_or-set_other (map texts qs) d e (texts r) [] (unequal d e is)

  -- one more behind the others
  pub pushed : (qs : List Q) (d : ℕ) (q r : Q) (text : List ℕ) → d < length qs → q ≡ get_or qs d q → texts r ≡ texts q ++ text ∷ [] → (e : ℕ)
      → waits_at (map texts (set qs d r)) e ≡ waits_at (map texts qs) e ++ (if d == e then text ∷ [] else [])
  pushed qs d q r text within is more e = by_test (d == e) refl
    where
      by_test : (b : Bool) → (d == e) ≡ b → waits_at (map texts (set qs d r)) e ≡ waits_at (map texts qs) e ++ (if b then text ∷ [] else [])
      by_test true same =
          waits_set qs d r within e true same ∙ more
          ∙ ap (λ (l : List (List ℕ)). l ++ text ∷ []) (sym (waits_here qs d q within is) ∙ ap (waits_at (map texts qs)) (equal d e same))
      by_test false same = waits_set qs d r within e false same ∙ sym (append-nil (waits_at (map texts qs) e))

  -- the first was taken
  taken_first : (qs : List Q) (d : ℕ) (q r : Q) (text : List ℕ) → d < length qs → q ≡ get_or qs d q → texts q ≡ text ∷ texts r → (e : ℕ)
      → waits_at (map texts qs) e ≡ (if d == e then text ∷ [] else []) ++ waits_at (map texts (set qs d r)) e
  taken_first qs d q r text within is first e = by_test (d == e) refl
    where
      by_test : (b : Bool) → (d == e) ≡ b → waits_at (map texts qs) e ≡ (if b then text ∷ [] else []) ++ waits_at (map texts (set qs d r)) e
      by_test true same =
          ap (waits_at (map texts qs)) (sym (equal d e same)) ∙ waits_here qs d q within is ∙ first
          ∙ ap (λ (l : List (List ℕ)). text ∷ l) (sym (waits_set qs d r within e true same))
      by_test false same = sym (waits_set qs d r within e false same)

  -- or none was there
  pub taken : (qs : List Q) (d : ℕ) (q r : Q) (o : Option (List ℕ)) → d < length qs → q ≡ get_or qs d q → texts q ≡ option_to_list o ++ texts r → texts r ≡ drop 1 (texts q)
      → MatchOption o (length (waits_at (map texts qs) d) ≡ 0) (λ text. (e : ℕ) → waits_at (map texts qs) e ≡ (if d == e then text ∷ [] else []) ++ waits_at (map texts (set qs d r)) e)
  taken qs d q r None within is items rest =
      let here : length (waits_at (map texts qs) d) ≡ length (texts q) = ap (length {A = List ℕ}) (waits_here qs d q within is) in
      let same : length (texts q) ≡ length (texts r) = ap (length {A = List ℕ}) items in
      let fewer : length (texts r) ≡ length (texts q) - 1 = ap (length {A = List ℕ}) rest ∙ length-drop 1 (texts q) in
      omega (arith, here, same, fewer)
  taken qs d q r (Some text) within is items rest = taken_first qs d q r text within is items

  -- the same, of what was seen before
  pub taken_of : (qs : List Q) (w : List (List (List ℕ))) (n d : ℕ) (q r : Q) (o : Option (List ℕ)) → map texts qs ≡ w → n ≡ d → n < length qs → q ≡ get_or qs n q → texts (get_or qs n q) ≡ option_to_list o ++ texts r → texts r ≡ drop 1 (texts (get_or qs n q))
      → MatchOption o (length (waits_at w d) ≡ 0) (λ text. (e : ℕ) → waits_at w e ≡ (if d == e then text ∷ [] else []) ++ waits_at (map texts (set qs n r)) e)
  taken_of qs w n d q r o was same within is items rest =
      subst (λ (x : List (List (List ℕ)) × ℕ). MatchOption o (length (waits_at x.0 x.1) ≡ 0) (λ text. (e : ℕ) → waits_at x.0 e ≡ (if x.1 == e then text ∷ [] else []) ++ waits_at (map texts (set qs n r)) e))
      (λ i. (was i, same i)) (taken qs n (get_or qs n q) r o within (ap (get_or qs n) is) items rest)

  -- one text more in a queue waits behind those that were seen there before, and elsewhere nothing changes
  pub pushed_of : (qs : List Q) (w : List (List (List ℕ))) (n d : ℕ) (q r : Q) (text : List ℕ) → map texts qs ≡ w → n ≡ d → n < length qs → q ≡ get_or qs n q → texts r ≡ texts (get_or qs n q) ++ text ∷ [] → (e : ℕ)
      → waits_at (map texts (set qs n r)) e ≡ waits_at w e ++ (if d == e then text ∷ [] else [])
  pushed_of qs w n d q r text was same within is more e =
      subst (λ (x : List (List (List ℕ)) × ℕ). waits_at (map texts (set qs n r)) e ≡ waits_at x.0 e ++ (if x.1 == e then text ∷ [] else [])) (λ i. (was i, same i))
      (pushed qs n (get_or qs n q) r text within (ap (get_or qs n) is) more e)

  -- all queues are empty
  pub all_empty : (test : Q → Bool) → ((q : Q) → test q ≡ true → texts q ≡ []) → (qs : List Q) → list_all test qs ≡ true → (d : ℕ) → waits_at (map texts qs) d ≡ []
  all_empty test h [] e zero = refl
  all_empty test h [] e (suc d) = refl
  all_empty test h (q ∷ qs) e zero = h q (and_parts (test q) (list_all test qs) e).0
  all_empty test h (q ∷ qs) e (suc d) = all_empty test h qs (and_parts (test q) (list_all test qs) e).1 d

  -- a test of each by its texts
  pub any_same : (test : Q → Bool) (p : List (List ℕ) → Bool) → ((q : Q) → test q ≡ p (texts q)) → (qs : List Q) → list_any test qs ≡ list_any p (map texts qs)
  any_same test p h [] = refl
  any_same test p h (q ∷ qs) = λ i. h q i || any_same test p h qs i
