-- One ring of the driver's is pushed to.
use Rattle.std.proofs.Common.{◌≡◌, ℕ, zero, suc, ◌<◌, List, [], ◌∷◌, ◌++◌, length, map, set, get_or, sym, ap, ◌∙◌, subst}
use mathlib.Core.Option.{some, some-injective, some-ne-none}
use lib.ListN.{get_elem?}
use Rattle.std.proofs.lemmas.List.{map-set, get_or-map, length-map, get_or-set_same, get_or-set_other}
use Rattle.std.proofs.Math.Seq.{map-set_same}
use Rattle.std.specs.declared.alloc.Global.{Global}
use Rattle.rtrb.specs.Ring.{sent, known_free, SameProducer, IsPair}
use Rattle.rtrb.specs.declared.producer.Producer.{Producer}
use Rattle.rtrb.specs.declared.consumer.Consumer.{Consumer}
use Rattle.modem_desk.specs.declared.request.Outcome.{Outcome}
use Rattle.modem_desk.specs.declared.request.Urc.{Urc}
use Rattle.modem_desk.specs.Ends.{Appends, Changes, DriverView}
use Rattle.ring_id.specs.Rings.{RingId, ring_of_producer, ring_of_consumer}
use Rattle.modem_desk.proofs.queue_rule.CallerPasses.{below_length}

module _ {T P : Type 0} where
  -- a producer that is still the same is of the same ring
  pub same_ring : (p q : Producer T Global P) → SameProducer p q → ring_of_producer q ≡ ring_of_producer p
  same_ring p q s = let r = s.0 in λ i. record { words = r.0 i; slots = r.1 i; names = r.2 i; heap = r.3 i }

  -- where a producer that is still the same is put back, the rings are as before
  pub same_rings : (ps : List (Producer T Global P)) (i : ℕ) (p q : Producer T Global P) → p ≡ get_or ps i p → SameProducer p q
      → map (ring_of_producer {T = T} {P = P}) (set ps i q) ≡ map (ring_of_producer {T = T} {P = P}) ps
  same_rings ps i p q at s = map-set_same (ring_of_producer {T = T} {P = P}) ps i q p (same_ring p q s ∙ ap (ring_of_producer {T = T} {P = P}) at)

  sent_more : (ps : List (Producer T Global P)) (i : ℕ) (p q : Producer T Global P) (x : T) → i < length ps → p ≡ get_or ps i p → sent q ≡ sent p ++ x ∷ []
      → map (sent {T = T} {A = Global} {P = P}) (set ps i q) ≡ set (map (sent {T = T} {A = Global} {P = P}) ps) i (get_or (map (sent {T = T} {A = Global} {P = P}) ps) i [] ++ x ∷ [])
  sent_more ps i p q x lt at more =
      map-set (sent {T = T} {A = Global} {P = P}) ps i q ∙ ap (set (map (sent {T = T} {A = Global} {P = P}) ps) i)
      (more ∙ ap (λ (l : List T). l ++ x ∷ []) (ap (sent {T = T} {A = Global} {P = P}) at ∙ sym (get_or-map (sent {T = T} {A = Global} {P = P}) ps i p [] lt)))

  -- the list of the ring that was pushed to has the item more
  pub sent_appends : (ps : List (Producer T Global P)) (i : ℕ) (p q : Producer T Global P) (x : T) (old : List (List T)) → i < length ps → p ≡ get_or ps i p → sent q ≡ sent p ++ x ∷ []
      → map (sent {T = T} {A = Global} {P = P}) ps ≡ old → Appends i x old (map (sent {T = T} {A = Global} {P = P}) (set ps i q))
  sent_appends ps i p q x old lt at more was =
      let e : map (sent {T = T} {A = Global} {P = P}) (set ps i q) ≡ set old i (get_or old i [] ++ x ∷ []) = sent_more ps i p q x lt at more ∙ ap (λ (l : List (List T)). set l i (get_or l i [] ++ x ∷ [])) was in
      let within : i < length old = subst (λ (l : List (List T)). i < length l) was (subst (λ n. i < n) (sym (length-map ps (sent {T = T} {A = Global} {P = P}))) lt) in
      record {
        here = ap (λ (l : List (List T)). get_or l i []) e ∙ get_or-set_same old i (get_or old i [] ++ x ∷ []) [] within;
        others = λ k apart. ap (λ (l : List (List T)). get_or l k []) e ∙ get_or-set_other old i k (get_or old i [] ++ x ∷ []) [] apart;
      }

  -- where nothing more was pushed to a ring, what was pushed to each one is as before
  pub sent_same : (ps : List (Producer T Global P)) (i : ℕ) (p q : Producer T Global P) → p ≡ get_or ps i p → sent q ≡ sent p
      → map (sent {T = T} {A = Global} {P = P}) (set ps i q) ≡ map (sent {T = T} {A = Global} {P = P}) ps
  sent_same ps i p q at same = map-set_same (sent {T = T} {A = Global} {P = P}) ps i q p (same ∙ ap (sent {T = T} {A = Global} {P = P}) at)

  ring_at : (ps : List (Producer T Global P)) (i : ℕ) (r : RingId) (p : Producer T Global P) → get_elem? (map (ring_of_producer {T = T} {P = P}) ps) i ≡ some r → p ≡ get_or ps i p → ring_of_producer p ≡ r
  ring_at [] i r p e at = absurd (some-ne-none r (sym e))
  ring_at (q ∷ qs) zero r p e at = ap (ring_of_producer {T = T} {P = P}) at ∙ some-injective (ring_of_producer q) r e
  ring_at (q ∷ qs) (suc i) r p e at = ring_at qs i r p e at

  -- the ring at a place is that of the place's consumer
  pub pair_at : (ps : List (Producer T Global P)) (i : ℕ) (c : Consumer T Global P) (p : Producer T Global P) → get_elem? (map (ring_of_producer {T = T} {P = P}) ps) i ≡ some (ring_of_consumer c) → p ≡ get_or ps i p → IsPair p c
  pair_at ps i c p e at = let r = sym (ring_at ps i (ring_of_consumer c) p e at) in ((λ k. (r k).words), (λ k. (r k).slots), (λ k. (r k).names), (λ k. (r k).heap))

  -- a place at which a ring is found is below the number of producers
  pub place_below : (ps : List (Producer T Global P)) (i : ℕ) (r : RingId) → get_elem? (map (ring_of_producer {T = T} {P = P}) ps) i ≡ some r → i < length ps
  place_below ps i r e = let h : i < length (map (ring_of_producer {T = T} {P = P}) ps) = below_length (map (ring_of_producer {T = T} {P = P}) ps) i r e in subst (λ n. i < n) (length-map ps (ring_of_producer {T = T} {P = P})) h

  -- where a producer of the same ring is put at a place, the rings of all places are as before
  pub ring_kept : (ps : List (Producer T Global P)) (i : ℕ) (p q : Producer T Global P) → p ≡ get_or ps i p → ring_of_producer q ≡ ring_of_producer p
      → map (ring_of_producer {T = T} {P = P}) (set ps i q) ≡ map (ring_of_producer {T = T} {P = P}) ps
  ring_kept ps i p q at s = map-set_same (ring_of_producer {T = T} {P = P}) ps i q p (s ∙ ap (ring_of_producer {T = T} {P = P}) at)

  -- what was pushed to the ring at a place is the list at that place
  pub sent_at : (ps : List (Producer T Global P)) (i : ℕ) (p : Producer T Global P) → i < length ps → p ≡ get_or ps i p → sent p ≡ get_or (map (sent {T = T} {A = Global} {P = P}) ps) i []
  sent_at ps i p lt at = ap (sent {T = T} {A = Global} {P = P}) at ∙ sym (get_or-map (sent {T = T} {A = Global} {P = P}) ps i p [] lt)

  -- how many places of the ring at a place are known to be free
  pub free_at : (ps : List (Producer T Global P)) (i : ℕ) (p : Producer T Global P) (old : List ℕ) → i < length ps → p ≡ get_or ps i p
      → map (known_free {T = T} {A = Global} {P = P}) ps ≡ old → known_free p ≡ get_or old i 0
  free_at ps i p old lt at was =
      ap (known_free {T = T} {A = Global} {P = P}) at ∙ sym (get_or-map (known_free {T = T} {A = Global} {P = P}) ps i p 0 lt) ∙ ap (λ (l : List ℕ). get_or l i 0) was

  -- the count of the ring that was pushed to changed, and no other
  pub free_changes : (ps : List (Producer T Global P)) (i : ℕ) (p q : Producer T Global P) (place : ℕ → Type 0) (how : ℕ → ℕ → Type 0) (old : List ℕ) → i < length ps → p ≡ get_or ps i p
      → map (known_free {T = T} {A = Global} {P = P}) ps ≡ old → ((k : ℕ) → place k → k ≡ i) → place i → how (known_free p) (known_free q)
      → Changes place how old (map (known_free {T = T} {A = Global} {P = P}) (set ps i q))
  free_changes ps i p q place how old lt at was one here changed =
      let e : map (known_free {T = T} {A = Global} {P = P}) (set ps i q) ≡ set old i (known_free q) = map-set (known_free {T = T} {A = Global} {P = P}) ps i q ∙ ap (λ (l : List ℕ). set l i (known_free q)) was in
      let within : i < length old = subst (λ (l : List ℕ). i < length l) was (subst (λ n. i < n) (sym (length-map ps (known_free {T = T} {A = Global} {P = P}))) lt) in
      let after : get_or (map (known_free {T = T} {A = Global} {P = P}) (set ps i q)) i 0 ≡ known_free q = ap (λ (l : List ℕ). get_or l i 0) e ∙ get_or-set_same old i (known_free q) 0 within in
      record {
        here = λ k mine. subst (λ (j : ℕ). how (get_or old j 0) (get_or (map (known_free {T = T} {A = Global} {P = P}) (set ps i q)) j 0)) (sym (one k mine))
            (subst (λ (x : ℕ × ℕ). how x.0 x.1) (λ j. (free_at ps i p old lt at was j, sym after j)) changed);
        others = λ k apart. ap (λ (l : List ℕ). get_or l k 0) e ∙ get_or-set_other old i k (known_free q) 0 (λ same. apart (subst place (sym same) here));
      }

-- Where the callers' rings are the same ones, the driver's end is as before, but for what is told.
pub rings_told : (old was : DriverView) (rings : List RingId) (told : List (List Outcome)) (free back : List ℕ) → was ≡ old → rings ≡ was.desk.rings
    → record was { desk = record was.desk { rings = rings }; told = told; free = free; told_back = back } ≡ record old { told = told; free = free; told_back = back }
rings_told old was rings told free back same e =
    ap (λ (l : List RingId). record was { desk = record was.desk { rings = l }; told = told; free = free; told_back = back }) e ∙ ap (λ (v : DriverView). record v { told = told; free = free; told_back = back }) same

-- The same of the listeners' rings and of what is announced.
pub rings_announced : (old was : DriverView) (rings : List RingId) (announced : List (List Urc)) (free back : List ℕ) → was ≡ old → rings ≡ was.desk.line_rings
    → record was { desk = record was.desk { line_rings = rings }; announced = announced; free_lines = free; announced_back = back }
    ≡ record old { announced = announced; free_lines = free; announced_back = back }
rings_announced old was rings announced free back same e =
    ap (λ (l : List RingId). record was { desk = record was.desk { line_rings = l }; announced = announced; free_lines = free; announced_back = back }) e
    ∙ ap (λ (v : DriverView). record v { announced = announced; free_lines = free; announced_back = back }) same

-- The same where nothing more is announced.
pub rings_looked_at : (old was : DriverView) (rings : List RingId) (announced : List (List Urc)) (free back : List ℕ) → was ≡ old → rings ≡ was.desk.line_rings → announced ≡ was.announced
    → record was { desk = record was.desk { line_rings = rings }; announced = announced; free_lines = free; announced_back = back } ≡ record old { free_lines = free; announced_back = back }
rings_looked_at old was rings announced free back same e a =
    rings_announced old was rings announced free back same e ∙ ap (λ (l : List (List Urc)). record old { announced = l; free_lines = free; announced_back = back }) (a ∙ ap (λ (v : DriverView). v.announced) same)
