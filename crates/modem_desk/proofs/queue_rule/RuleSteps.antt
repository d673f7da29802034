-- Each step keeps the rule.
use Rattle.modem_desk.proofs.queue_rule.CallerNumbers.{fronts_numbered, none_numbered}
use Rattle.std.proofs.Common.{◌≡◌, ◌≢◌, ℕ, zero, suc, ◌+◌, ◌<◌, ◌≤◌, true, false, true≢false, List, [], ◌∷◌, ◌++◌, length, set, Option, Some, None, sym, refl, ap, ◌∙◌, subst, ⊎_elim, append_assoc, lt_of_not-le, length-append, arith}
use mathlib.Core.Option.{some, some-ne-none}
use mathlib.Core.Logic.{dite}
use native.Mathlib.Decide.{dec_le}
use lib.ListN.{get_elem?}
use Rattle.crossbeam_queue.specs.Fifo.{Pushes, Pops, Forks, Merges, Learns}
use Rattle.crossbeam_queue.proofs.Lists.{at_set, at_snoc}
use Rattle.modem_desk.specs.declared.request.Request.{Request}
use Rattle.modem_desk.specs.declared.rule.Known.{Known}
use Rattle.modem_desk.specs.declared.rule.View.{View}
use Rattle.modem_desk.specs.Rule.{IsCounted, AreNumbered, of_caller, known, driver, draining, caller, returned_view, Shared, FitsPass, RuleKept, AllLeft, DrainsOne, IsDrained}
use Rattle.modem_desk.proofs.queue_rule.CallerPasses.{with_pass, with_pass-here, with_pass-else, at_number, of_more_same, of_more_other, not_none, at_end, below_length, all_set}

false≢true : false ≢ true
false≢true e = true≢false (sym e)

has_pass : (o : Option ℕ) (pass : ℕ) → o ≡ Some pass → o ≡ None → ⊥
has_pass o pass e f = cc

one_pass : (pass_of : ℕ → Option ℕ) (m n p q : ℕ) → pass_of m ≡ Some p → pass_of n ≡ Some q → m ≡ n → p ≡ q
one_pass pass_of m n p q e f i = cc

zero_of : (j : ℕ) (u : View) → get_elem? (driver 0 [] [] ∷ []) j ≡ some u → j ≡ 0
zero_of zero u e = refl
zero_of (suc j) u e = absurd (some-ne-none u (sym e))

-- a new queue keeps it, with a driver that knows nothing yet
pub begins : RuleKept [] (driver 0 [] [] ∷ [])
begins =
    let d : Shared = record { reader = 0; pass_of = λ _. None; given = 0; taken = []; known = []; all = [] } in
    record {
      desk = d;
      whole = refl;
      room = omega arith;
      numbered = none_numbered;
      later = λ n h. (refl, refl);
      left = λ i k e. absurd (some-ne-none k (sym e));
      each = all_set (FitsPass d []) (driver 0 [] [] ∷ []) 0 (driver 0 [] [])
          ((λ _. record { here = refl; given = refl; taken = refl; known = refl; counted = λ e. absurd (false≢true e) }), λ e. absurd (false≢true e))
          (λ j u other e. absurd (other (zero_of j u e)));
    }

-- a caller submits a request, with its next number
pub submits : (n pass : ℕ) (v : View) (x : Request) → n ≡ 64 → v.submits ≡ true → x.caller ≡ v.number → IsCounted (v.submitted ++ x ∷ [])
    → Pushes RuleKept n pass v x (λ w. w ≡ caller v.number (v.submitted ++ x ∷ []) v.got (v.got_before ++ v.got ∷ []))
submits n pass v x size may same next items views short h at =
    let d = h.desk in
    let mine = (h.each pass v at).1 may in
    let w : View = caller v.number (v.submitted ++ x ∷ []) v.got (v.got_before ++ v.got ∷ []) in
    let d' : Shared = record d { all = d.all ++ x ∷ [] } in
    let e : v.number ≡ x.caller = sym same in
    let apart = λ (m : ℕ) (q : d.pass_of m ≡ None) (i : m ≡ x.caller). has_pass (d.pass_of v.number) pass mine.here (ap d.pass_of (e ∙ sym i) ∙ q) in (
      w,
      record {
        desk = d';
        whole = ap (λ l. l ++ x ∷ []) h.whole ∙ append_assoc d.taken items (x ∷ []);
        room = omega (arith, length-append items (x ∷ []));
        numbered = λ m. at_number m x.caller
            (λ i. subst IsCounted (sym (of_more_same m d.all x (sym i) ∙ ap (λ l. l ++ x ∷ []) (ap (λ k. of_caller k d.all) (i ∙ same) ∙ mine.submitted))) next)
            (λ i. subst IsCounted (sym (of_more_other m d.all x i)) (h.numbered m));
        later = λ m le. ((h.later m le).0, of_more_other m d.all x (apart m (h.later m le).0) ∙ (h.later m le).1);
        left = λ i k q. ((h.left i k q).0, (h.left i k q).1, of_more_other k.number d.all x (apart k.number (h.left i k q).1) ∙ (h.left i k q).2);
        each = all_set (FitsPass d' (items ++ x ∷ [])) views pass w
            ((λ r. absurd (false≢true r)), λ r. record { here = mine.here; below = mine.below; submitted = of_more_same v.number d.all x same ∙ ap (λ l. l ++ x ∷ []) mine.submitted })
            (λ j u other q.
            let old = h.each j u q in (
              (λ r. let o = old.0 r in record { here = o.here; given = o.given; taken = o.taken; known = o.known; counted = λ c. absurd (has_pass (d.pass_of v.number) pass mine.here ((o.counted c).1 v.number)) }),
              (λ r. let o = old.1 r in record {
                here = o.here;
                below = o.below;
                submitted = of_more_other u.number d.all x (λ i. other (one_pass d.pass_of u.number v.number j pass o.here mine.here (i ∙ same))) ∙ o.submitted;
              }),
            ));
      },
      refl,
    )

at_least : (n m : ℕ) → (m ≤ n → ⊥) → n < m
at_least n m h = lt_of_not-le h

by_given : {P : Type 0} (n g : ℕ) {v : ℕ} → (n < v → P) → v ≡ g → (g ≤ n → P) → P
by_given n g below e above = dite (dec_le g n) above (λ no. below (let h = lt_of_not-le no in omega arith))

-- the request at the front has a number that was given out
front_below : (d : Shared) (x : Request) (items : List Request) → d.all ≡ d.taken ++ x ∷ items → ((n : ℕ) → d.given ≤ n → (d.pass_of n ≡ None) × (of_caller n d.all ≡ [])) → x.caller < d.given
front_below d x items whole later =
    at_least x.caller d.given (λ le. not_none d.taken items x (ap (of_caller x.caller) (sym whole) ∙ (later x.caller le).1))

-- the driver takes the first request, which a caller of the desk submitted
pub takes : (pass : ℕ) (v : View) → v.drives ≡ true → v.counted ≡ false
    → Pops RuleKept pass v (λ x w. (w ≡ driver v.given (v.taken ++ x ∷ []) v.known) × (x.caller < v.given) × AreNumbered (v.taken ++ x ∷ []))
takes pass v may idle x items views h at =
    let d = h.desk in
    let mine = (h.each pass v at).0 may in
    let w : View = driver v.given (v.taken ++ x ∷ []) v.known in
    let d' : Shared = record d { taken = d.taken ++ x ∷ [] } in
    let below : x.caller < d.given = front_below d x items h.whole h.later in (
      w,
      record {
        desk = d';
        whole = h.whole ∙ sym (append_assoc d.taken (x ∷ []) items);
        room = let r : length (x ∷ items) ≤ 64 = h.room in omega arith;
        numbered = h.numbered;
        later = h.later;
        left = h.left;
        each = all_set (FitsPass d' items) views pass w
            ((λ r. record { here = mine.here; given = mine.given; taken = ap (λ l. l ++ x ∷ []) mine.taken; known = mine.known; counted = λ c. absurd (false≢true c) }), λ r. absurd (false≢true r))
            (λ j u other q.
            let old = h.each j u q in (
              (λ r. absurd (other ((old.0 r).here ∙ sym mine.here))),
              (λ r. let o = old.1 r in record { here = o.here; below = o.below; submitted = o.submitted }),
            ));
      },
      (refl, subst (λ g. x.caller < g) (sym mine.given) below, subst AreNumbered (ap (λ l. l ++ x ∷ []) (sym mine.taken)) (fronts_numbered (d.taken ++ x ∷ []) items (subst AreNumbered (h.whole ∙ sym (append_assoc d.taken (x ∷ []) items)) h.numbered))),
    )

-- at a settlement, when all callers have left, the driver takes it, and knows what waits behind it
pub drains : (pass : ℕ) (v : View) → v.drives ≡ true → AllLeft v → Pops RuleKept pass v (DrainsOne v)
drains pass v may gone x items views h at =
    let d = h.desk in
    let mine = (h.each pass v at).0 may in
    let w : View = draining v.given (v.taken ++ x ∷ []) v.known items in
    let d' : Shared = record d { taken = d.taken ++ x ∷ [] } in
    let below : x.caller < d.given = front_below d x items h.whole h.later in
    let r : length (x ∷ items) ≤ 64 = h.room in
    let closed = λ (n : ℕ). by_given n d.given
    (λ (lt : n < v.given). let g = gone n lt in
    ap d.pass_of (sym g.3) ∙ (h.left g.0 g.1 (ap (λ l. get_elem? l g.0) (sym mine.known) ∙ g.2)).1)
    mine.given
    (λ le. (h.later n le).0) in (
      w,
      record {
        desk = d';
        whole = h.whole ∙ sym (append_assoc d.taken (x ∷ []) items);
        room = omega arith;
        numbered = h.numbered;
        later = h.later;
        left = h.left;
        each = all_set (FitsPass d' items) views pass w
            ((λ _. record { here = mine.here; given = mine.given; taken = ap (λ l. l ++ x ∷ []) mine.taken; known = mine.known; counted = λ _. (refl, closed) }), λ r. absurd (false≢true r))
            (λ j u other q.
            let old = h.each j u q in (
              (λ r. absurd (other ((old.0 r).here ∙ sym mine.here))),
              (λ r. let o = old.1 r in record { here = o.here; below = o.below; submitted = o.submitted }),
            ));
      },
      (items, refl, subst (λ g. x.caller < g) (sym mine.given) below, omega arith, λ c. (mine.counted c).0),
    )

-- the driver learns that the requests of each caller that has left are those that it submitted
pub ends : (pass : ℕ) (v : View) → v.drives ≡ true → Learns RuleKept pass v (IsDrained v)
ends pass v may items views h at =
    let d = h.desk in
    let mine = (h.each pass v at).0 may in
    let all : v.taken ++ items ≡ d.all = ap (λ l. l ++ items) mine.taken ∙ sym h.whole in (
      (λ i k e. ap (of_caller k.number) all ∙ (h.left i k (ap (λ l. get_elem? l i) (sym mine.known) ∙ e)).2),
      (λ c. (mine.counted c).0),
    )

-- the driver gives out the next number, to a caller that has submitted nothing
pub adds_caller : (pass : ℕ) (v : View) → v.drives ≡ true → v.counted ≡ false → Forks RuleKept pass v (driver (v.given + 1) v.taken v.known) (caller v.given [] 0 [])
adds_caller pass v may idle items views h at =
    let d = h.desk in
    let mine = (h.each pass v at).0 may in
    let l : View = driver (v.given + 1) v.taken v.known in
    let r : View = caller v.given [] 0 [] in
    let vs : List View = set views pass l in
    let d' : Shared = record d { given = v.given + 1; pass_of = with_pass d.pass_of v.given (Some (length vs)) } in
    let g : v.given ≡ d.given = mine.given in
    let kept = λ (m : ℕ) (lt : m ≢ v.given). with_pass-else d.pass_of v.given m (Some (length vs)) lt in
    let old = all_set (λ j u. (j < length vs → FitsPass d' items j u)) views pass l
    (λ _. ((λ _. record { here = mine.here; given = refl; taken = mine.taken; known = mine.known; counted = λ c. absurd (false≢true c) }), λ c. absurd (false≢true c)))
    (λ j u other q _.
    let was = h.each j u q in (
      (λ c. absurd (other ((was.0 c).here ∙ sym mine.here))),
      (λ c. let o = was.1 c in let lt : u.number < d.given = o.below in
          record { here = kept u.number (λ i. omega arith) ∙ o.here; below = omega arith; submitted = o.submitted }),
    )) in
    record {
      desk = d';
      whole = h.whole;
      room = h.room;
      numbered = h.numbered;
      later = λ n le. (kept n (λ i. omega arith) ∙ (h.later n (omega arith)).0, (h.later n (omega arith)).1);
      left = λ i k e. let b : k.number < d.given = (h.left i k e).0 in ((omega arith), kept k.number (λ q. omega arith) ∙ (h.left i k e).1, (h.left i k e).2);
      each = λ j u e. ⊎_elim (λ q. old j u q (below_length vs j u q))
          (λ q. subst (λ (y : ℕ × View). FitsPass d' items y.0 y.1) (λ i. (sym q.0 i, q.1 i))
          ((λ c. absurd (false≢true c)), λ _. record { here = with_pass-here d.pass_of v.given (Some (length vs)); below = omega arith; submitted = (h.later v.given (omega arith)).1 }))
          (at_end vs r u j e);
    }

-- a caller gets an outcome more
pub gets : (pass : ℕ) (v : View) → v.submits ≡ true → Forks RuleKept pass v (caller v.number v.submitted (v.got + 1) v.got_before) returned_view
gets pass v may items views h at =
    let d = h.desk in
    let mine = (h.each pass v at).1 may in
    let l : View = caller v.number v.submitted (v.got + 1) v.got_before in
    let vs : List View = set views pass l in
    let old = all_set (FitsPass d items) views pass l
    ((λ c. absurd (false≢true c)), λ _. record { here = mine.here; below = mine.below; submitted = mine.submitted })
    (λ j u other q. h.each j u q) in
    record {
      desk = d;
      whole = h.whole;
      room = h.room;
      numbered = h.numbered;
      later = h.later;
      left = h.left;
      each = λ j u e. ⊎_elim (λ q. old j u q)
          (λ q. subst (λ (y : ℕ × View). FitsPass d items y.0 y.1) (λ i. (sym q.0 i, q.1 i)) ((λ c. absurd (false≢true c)), λ c. absurd (false≢true c)))
          (at_end vs returned_view u j e);
    }

-- a caller leaves, and the driver knows what it had submitted
pub leaves : (pass : ℕ) (v : View) (other : ℕ) (u : View) → v.drives ≡ true → v.counted ≡ false → u.submits ≡ true
    → Merges RuleKept pass v other u (driver v.given v.taken (v.known ++ known u.number u.submitted ∷ [])) returned_view
leaves pass v other u may idle theirs items views h at two at' =
    let d = h.desk in
    let mine = (h.each pass v at).0 may in
    let both : View = driver v.given v.taken (v.known ++ known u.number u.submitted ∷ []) in
    let vs : List View = set views pass both in
    let was : get_elem? views other ≡ some u = ⊎_elim (λ x. absurd (two x.0)) (λ x. x.1) (at_set views pass other both u at') in
    let gone = (h.each other u was).1 theirs in
    let d' : Shared = record d { known = v.known ++ known u.number u.submitted ∷ []; pass_of = with_pass d.pass_of u.number None } in
    let closed = λ (n : ℕ) (q : d.pass_of n ≡ None). at_number n u.number (λ i. ap (with_pass d.pass_of u.number None) i ∙ with_pass-here d.pass_of u.number None) (λ i. with_pass-else d.pass_of u.number n None i ∙ q) in
    let now = all_set (λ j y. j ≢ other → FitsPass d' items j y) views pass both
    (λ _. ((λ _. record { here = mine.here; given = mine.given; taken = mine.taken; known = refl; counted = λ c. absurd (false≢true c) }), λ c. absurd (false≢true c)))
    (λ j y apart q far.
    let old = h.each j y q in (
      (λ c. absurd (apart ((old.0 c).here ∙ sym mine.here))),
      (λ c. let o = old.1 c in
          record { here = with_pass-else d.pass_of u.number y.number None (λ i. far (one_pass d.pass_of y.number u.number j other o.here gone.here i)) ∙ o.here; below = o.below; submitted = o.submitted }),
    )) in
    record {
      desk = d';
      whole = h.whole;
      room = h.room;
      numbered = h.numbered;
      later = λ n le. (closed n (h.later n le).0, (h.later n le).1);
      left = λ i k e. ⊎_elim
          (λ q. let o = h.left i k (ap (λ l. get_elem? l i) (sym mine.known) ∙ q) in (o.0, closed k.number o.1, o.2))
          (λ q. subst (λ (y : Known). (y.number < d.given) × (with_pass d.pass_of u.number None y.number ≡ None) × (of_caller y.number d.all ≡ y.submitted)) q
          (gone.below, with_pass-here d.pass_of u.number None, gone.submitted))
          (at_snoc v.known (known u.number u.submitted) k i e);
      each = all_set (FitsPass d' items) vs other returned_view ((λ c. absurd (false≢true c)), λ c. absurd (false≢true c)) (λ j y apart e. now j y e apart);
    }
