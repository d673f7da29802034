-- The requests in hand are told one after the other.
use Rattle.std.specs.Prelude.{suc, ◌≡◌, ℕ, ◌+◌, ◌-◌, ◌<◌, ◌≤◌, List, [], ◌∷◌, ◌++◌, length, refl, Option, Some, None, is_none, remove, slice_index_or, if◌then◌else◌}
use Rattle.std.proofs.Common.{ap, sym, ◌∙◌, subst, arith, append_assoc, append-nil, length-append}
use Rattle.modem_desk.specs.declared.request.Ask.{Ask}
use Rattle.modem_desk.specs.declared.request.Request.{Request}
use Rattle.modem_desk.specs.declared.request.Answer.{Answer}
use Rattle.modem_history.specs.declared.act.Act.{Act}
use Rattle.modem_history.specs.declared.act.Act.TheVariants as act
use Rattle.modem_core.specs.ActLists.{ActList}
use Rattle.modem_core.specs.Telling.{said_to, told_to, left_by, Telling}

-- what a request is told, by what it asks, if anything
abbrev pub Words : Type 0
Words = Ask → Option Answer

-- before the first is looked at, with room for an act for each
pub begins : (says : Words) (hand : List Request) (acts : ActList) → length hand ≤ acts.left → Telling says 0 hand hand acts acts
begins says hand acts h = record { front = []; back = hand; split = refl; place_is = refl; left_same = refl; acts_same = refl; room = h }

-- the request at the place
pub record There (says : Words) (place : ℕ) (hand hand0 : List Request) (acts acts0 : ActList) : Type 0 where
  pub front : List Request
  pub request : Request
  pub back : List Request
  pub split : hand ≡ front ++ request ∷ back
  pub place_is : place ≡ length front
  pub left_same : front ++ left_by says (request ∷ back) ≡ left_by says hand0
  pub acts_same : acts.acts ++ told_to says (request ∷ back) ≡ acts0.acts ++ told_to says hand0
  pub room : suc (length back) ≤ acts.left

-- while the place isn't behind the last, a request stands there
pub there : (says : Words) (place : ℕ) (hand hand0 : List Request) (acts acts0 : ActList) → Telling says place hand hand0 acts acts0 → place < length hand → There says place hand hand0 acts acts0
there says place hand hand0 acts acts0 t l = by_back t.back refl
  where
    by_back : (back : List Request) → t.back ≡ back → There says place hand hand0 acts acts0
    by_back [] e = absurd (let n : length hand ≡ length t.front = ap length (t.split ∙ (ap (λ (v : List Request). t.front ++ v) e ∙ append-nil t.front)) in let p = t.place_is in omega (arith, l, n, p))
    by_back (r ∷ back) e = record {
      front = t.front;
      request = r;
      back = back;
      split = t.split ∙ ap (λ (v : List Request). t.front ++ v) e;
      place_is = t.place_is;
      left_same = ap (λ (v : List Request). t.front ++ left_by says v) (sym e) ∙ t.left_same;
      acts_same = ap (λ (v : List Request). acts.acts ++ told_to says v) (sym e) ∙ t.acts_same;
      room = subst (λ (v : List Request). length v ≤ acts.left) e t.room;
    }

-- behind the first part stands the request that follows it
pub at_length : (xs ys : List Request) (r d : Request) → slice_index_or (xs ++ r ∷ ys) (length xs) d ≡ r
at_length [] ys r d = refl
at_length (x ∷ xs) ys r d = at_length xs ys r d

-- without it both parts are joined
pub removed : (xs ys : List Request) (r : Request) → remove (xs ++ r ∷ ys) (length xs) ≡ xs ++ ys
removed [] ys r = refl
removed (x ∷ xs) ys r = ap (λ (v : List Request). x ∷ v) (removed xs ys r)

-- it is the one that is read at the place
pub is_there : (says : Words) (place : ℕ) (hand hand0 : List Request) (acts acts0 : ActList) (t : There says place hand hand0 acts acts0) (d : Request) → slice_index_or hand place d ≡ t.request
is_there says place hand hand0 acts acts0 t d =
    ap (λ (v : List Request). slice_index_or v place d) t.split ∙ (ap (λ (n : ℕ). slice_index_or (t.front ++ t.request ∷ t.back) n d) t.place_is ∙ at_length t.front t.back t.request d)

-- it is told nothing
pub waits_on : (says : Words) (place : ℕ) (hand hand0 : List Request) (acts acts0 : ActList) → Telling says place hand hand0 acts acts0 → place < length hand
    → (d : Request) → says (slice_index_or hand place d).ask ≡ None → Telling says (place + 1) hand hand0 acts acts0
waits_on says place hand hand0 acts acts0 h l d none =
    let t = there says place hand hand0 acts acts0 h l in
    let n : says t.request.ask ≡ None = ap (λ (r : Request). says r.ask) (sym (is_there says place hand hand0 acts acts0 t d)) ∙ none in
    record {
      front = t.front ++ t.request ∷ [];
      back = t.back;
      split = t.split ∙ sym (append_assoc t.front (t.request ∷ []) t.back);
      place_is = let p = t.place_is in let a = length-append t.front (t.request ∷ []) in omega (arith, p, a);
      left_same =
          append_assoc t.front (t.request ∷ []) (left_by says t.back)
          ∙ (ap (λ (o : Option Answer). t.front ++ (if is_none o then t.request ∷ left_by says t.back else left_by says t.back)) (sym n) ∙ t.left_same);
      acts_same = ap (λ (o : Option Answer). acts.acts ++ (said_to t.request o ++ told_to says t.back)) (sym n) ∙ t.acts_same;
      room = let r = t.room in omega (arith, r);
    }

-- it is told this: q was looked at, and r taken out
pub told_on : (says : Words) (place : ℕ) (hand hand0 : List Request) (acts acts0 : ActList) → Telling says place hand hand0 acts acts0 → place < length hand
    → (q r : Request) (answer : Answer) (left : List Request) (more : ActList) → q ≡ slice_index_or hand place q → says q.ask ≡ Some answer → r ≡ slice_index_or hand place r → left ≡ remove hand place
    → more ≡ record { acts = acts.acts ++ act.Told (record { caller = r.caller; number = r.number; answer = answer }) ∷ []; left = acts.left - 1 }
    → Telling says place left hand0 more acts0
told_on says place hand hand0 acts acts0 h l q r answer left more looked some taken rest e =
    let t = there says place hand hand0 acts acts0 h l in
    let seen : q ≡ t.request = looked ∙ is_there says place hand hand0 acts acts0 t q in
    let same : r ≡ t.request = taken ∙ is_there says place hand hand0 acts acts0 t r in
    let n : says t.request.ask ≡ Some answer = ap (λ (w : Request). says w.ask) (sym seen) ∙ some in
    let more_is : more.acts ≡ acts.acts ++ said_to t.request (Some answer) = ap (λ (v : ActList). v.acts) e ∙ ap (λ (w : Request). acts.acts ++ said_to w (Some answer)) same in
    record {
      front = t.front;
      back = t.back;
      split = rest ∙ (ap (λ (v : List Request). remove v place) t.split ∙ (ap (remove (t.front ++ t.request ∷ t.back)) t.place_is ∙ removed t.front t.back t.request));
      place_is = t.place_is;
      left_same = ap (λ (o : Option Answer). t.front ++ (if is_none o then t.request ∷ left_by says t.back else left_by says t.back)) (sym n) ∙ t.left_same;
      acts_same =
          ap (λ (v : List Act). v ++ told_to says t.back) more_is
          ∙ (append_assoc acts.acts (said_to t.request (Some answer)) (told_to says t.back)
          ∙ (ap (λ (o : Option Answer). acts.acts ++ (said_to t.request o ++ told_to says t.back)) (sym n) ∙ t.acts_same));
      room = let r = t.room in let m = ap (λ (v : ActList). v.left) e in omega (arith, r, m);
    }

-- all were told
pub record AllTold (says : Words) (hand hand0 : List Request) (acts acts0 : ActList) : Type 0 where
  pub left_is : hand ≡ left_by says hand0
  pub acts_are : acts.acts ≡ acts0.acts ++ told_to says hand0

-- behind the last all were told
pub told_to_the_end : (says : Words) (place : ℕ) (hand hand0 : List Request) (acts acts0 : ActList) → Telling says place hand hand0 acts acts0 → length hand ≤ place → AllTold says hand hand0 acts acts0
told_to_the_end says place hand hand0 acts acts0 t l = by_back t.back refl
  where
    by_back : (back : List Request) → t.back ≡ back → AllTold says hand hand0 acts acts0
    by_back [] e = record {
      left_is = t.split ∙ (ap (λ (v : List Request). t.front ++ v) e ∙ (ap (λ (v : List Request). t.front ++ left_by says v) (sym e) ∙ t.left_same));
      acts_are = sym (append-nil acts.acts) ∙ (ap (λ (v : List Request). acts.acts ++ told_to says v) (sym e) ∙ t.acts_same);
    }
    by_back (r ∷ back) e = absurd (
        let n : length hand ≡ length t.front + suc (length back) = ap length (t.split ∙ ap (λ (v : List Request). t.front ++ v) e) ∙ length-append t.front (r ∷ back) in
        let p = t.place_is in
        omega (arith, l, n, p))
