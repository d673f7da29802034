-- Callers that go out, work and come back.
use Rattle.std.specs.Prelude.{◌≡◌, ℕ, ◌+◌, ◌<◌, List, [], ◌∷◌, ◌++◌, length, map, refl, vec_items, Result, Ok, Err, IfOk, OnOk, slice_index_or, slice_set}
use Rattle.std.proofs.Common.{ap, ◌∙◌, sym, arith, subst}
use Rattle.std.specs.declared.vec.Vec.{Vec}
use Rattle.std.specs.declared.alloc.Global.{Global}
use Rattle.modem_desk.specs.declared.request.Ask.{Ask}
use Rattle.modem_desk.specs.declared.request.Outcome.{Outcome}
use Rattle.modem_desk.specs.Ends.{CallerView, Place, place_of}
use Rattle.modem_bench.specs.Asks.{asks_for}
use Rattle.modem_bench.specs.Calling.{OpensAll, Stops, Works}
use Rattle.modem_bench.specs.Running.{AllWork, AreBack, AreCalled, AreOut, ComesBack, GoesOut, IsBack, IsOut, OpensFirst, StopsFirst, Work}
use Rattle.modem_bench.specs.declared.calling.Worked.{Worked}
use Rattle.modem_bench.specs.declared.signals.Fault.{Fault}
use Rattle.modem_bench.specs.declared.submission.Submission.{Submission}

-- no caller is out yet
pub out_none : (all : List Submission) (n : ℕ) → AreOut all n [] []
unfolding AreOut
out_none all n = tt

-- one more is out, behind the others
pub out_more : (all : List Submission) (n : ℕ) (cs : List CallerView) (hs : List Work) (c : CallerView) (h : Work) → AreOut all n cs hs → IsOut all (n + length cs) c h → AreOut all n (cs ++ c ∷ []) (hs ++ h ∷ [])
unfolding AreOut
out_more all n [] [] c h out is = let e : n + 0 ≡ n = omega arith in (subst (λ m. IsOut all m c h) e is, tt)
out_more all n [] (k ∷ hs) c h out is = absurd out
out_more all n (d ∷ cs) [] c h out is = absurd out
out_more all n (d ∷ cs) (k ∷ hs) c h out is =
    let e : n + length (d ∷ cs) ≡ n + 1 + length cs = omega arith in
    (out.0, out_more all (n + 1) cs hs c h out.1 (subst (λ m. IsOut all m c h) e is))

-- one more goes out, with what the submissions ask of it
pub out_next : (all : List Submission) (n : ℕ) (cs : List CallerView) (hs ks : List Work) (c : CallerView) (asks : List Ask) → AreOut all n cs hs → asks ≡ asks_for (n + length cs) all → GoesOut c asks hs ks → AreOut all n (cs ++ c ∷ []) ks
out_next all n cs hs ks c asks out same goes =
    subst (AreOut all n (cs ++ c ∷ [])) (sym goes.items)
    (out_more all n cs hs c goes.handle out (record { was = goes.was; asks = goes.asks_are ∙ same }))

-- no caller is back yet
pub back_none : AreBack [] []
unfolding AreBack
back_none = tt

-- one more is back, behind the others
pub back_more : (hs : List Work) (ws : List Worked) (h : Work) (w : Worked) → AreBack hs ws → IsBack h w → AreBack (hs ++ h ∷ []) (ws ++ w ∷ [])
unfolding AreBack
back_more [] [] h w back is = (is, tt)
back_more [] (v ∷ ws) h w back is = absurd back
back_more (k ∷ hs) [] h w back is = absurd back
back_more (k ∷ hs) (v ∷ ws) h w back is = (back.0, back_more hs ws h w back.1 is)

-- the same, where nothing failed so far
pub back_next : (end : Result (Unit {0}) Fault) (hs : List Work) (ws vs : List Worked) (h : Work) → OnOk end (AreBack hs ws) → ComesBack h ws vs → OnOk end (AreBack (hs ++ h ∷ []) vs)
back_next (Ok x) hs ws vs h back comes = subst (AreBack (hs ++ h ∷ [])) (sym comes.items) (back_more hs ws h comes.worked back comes.is_back)
back_next (Err e) hs ws vs h back comes = tt

-- callers that were out and are back have worked on what was asked of them
pub all_work : (all : List Submission) (n : ℕ) (cs : List CallerView) (hs : List Work) (ws : List Worked) → AreOut all n cs hs → AreBack hs ws → AllWork all n cs ws
unfolding AreOut AreBack AllWork
all_work all n [] [] [] out back = tt
all_work all n [] [] (w ∷ ws) out back = absurd back
all_work all n [] (h ∷ hs) ws out back = absurd out
all_work all n (c ∷ cs) [] ws out back = absurd out
all_work all n (c ∷ cs) (h ∷ hs) [] out back = absurd back
all_work all n (c ∷ cs) (h ∷ hs) (w ∷ ws) out back = (
  subst (λ (x : CallerView × List Ask). Works x.0 w.caller x.1 w.outcomes.items) (λ i. (out.0.was i, out.0.asks i)) back.0,
  all_work all (n + 1) cs hs ws out.1 back.1,
)

-- when caller 0 has opened the connections there are as many callers as before
pub opened_long : (all : List Submission) (old new : List CallerView) → OpensFirst all old new → length new ≡ length old
unfolding OpensFirst
opened_long all [] new h = absurd h
opened_long all (c ∷ cs) [] h = absurd h
opened_long all (c ∷ cs) (d ∷ ds) h = ap (λ (l : List CallerView). length (c ∷ l)) h.1

-- as many have worked as there are callers
pub back_long : (all : List Submission) (n : ℕ) (cs : List CallerView) (ws : List Worked) → AllWork all n cs ws → length ws ≡ length cs
unfolding AllWork
back_long all n [] [] h = refl
back_long all n [] (w ∷ ws) h = absurd h
back_long all n (c ∷ cs) [] h = absurd h
back_long all n (c ∷ cs) (w ∷ ws) h = let later = back_long all (n + 1) cs ws h.1 in omega (arith, later)

-- caller 0 opened the connections, all worked, and caller 0 stopped: so they were called
pub are_called : (all : List Submission) (cs ds : List CallerView) (ws vs : List Worked) → OpensFirst all cs ds → AllWork all 0 ds ws → StopsFirst ws vs → AreCalled all cs vs
unfolding OpensFirst AllWork StopsFirst AreCalled
are_called all [] ds ws vs o h s = absurd o
are_called all (c ∷ cs) [] ws vs o h s = absurd o
are_called all (c ∷ cs) (d ∷ ds) [] vs o h s = absurd h
are_called all (c ∷ cs) (d ∷ ds) (w ∷ ws) [] o h s = absurd s
are_called all (c ∷ cs) (d ∷ ds) (w ∷ ws) (v ∷ vs) o h s = (
  record {
    first = d;
    later = w.caller;
    opens = o.0;
    works = subst (λ (x : Vec Outcome Global). Works d w.caller (asks_for 0 all) (vec_items x)) (sym s.1) h.0;
    stops = s.0;
  },
  subst (λ (x : List CallerView × List Worked). AllWork all 1 x.0 x.1) (λ i. (o.1 i, sym s.2 i)) h.1,
)

works_places : (all : List Submission) (n : ℕ) (cs : List CallerView) (ws : List Worked) → AllWork all n cs ws → map (λ (w : Worked). w.caller.place) ws ≡ map place_of cs
unfolding AllWork
works_places all n [] [] h = refl
works_places all n [] (w ∷ ws) h = absurd h
works_places all n (c ∷ cs) [] h = absurd h
works_places all n (c ∷ cs) (w ∷ ws) h = let later = works_places all (n + 1) cs ws h.1 in λ i. h.0.place i ∷ later i

-- each caller keeps its place at the desk
pub called_places : (all : List Submission) (cs : List CallerView) (ws : List Worked) → AreCalled all cs ws → map (λ (w : Worked). w.caller.place) ws ≡ map place_of cs
unfolding AreCalled
called_places all [] ws h = absurd h
called_places all (c ∷ cs) [] h = absurd h
called_places all (c ∷ cs) (w ∷ ws) h =
    let place : w.caller.place ≡ c.place = h.0.stops.place ∙ h.0.works.place ∙ h.0.opens.opens.place in
    let later = works_places all 1 cs ws h.1 in
    λ i. place i ∷ later i

-- as many were called as there are callers
pub called_long : (all : List Submission) (cs : List CallerView) (ws : List Worked) → AreCalled all cs ws → length ws ≡ length cs
unfolding AreCalled
called_long all [] ws h = absurd h
called_long all (c ∷ cs) [] h = absurd h
called_long all (c ∷ cs) (w ∷ ws) h = let later = back_long all 1 cs ws h.1 in omega (arith, later)

-- the callers, taken out of what they came back with, have their places
pub maps_through : (ws : List Worked) (cs : List CallerView) → cs ≡ map (λ (w : Worked). w.caller) ws → map place_of cs ≡ map (λ (w : Worked). w.caller.place) ws
maps_through [] cs e = ap (map place_of) e
maps_through (w ∷ ws) cs e = ap (map place_of) e ∙ ap (λ (l : List Place). w.caller.place ∷ l) (maps_through ws (map (λ (w : Worked). w.caller) ws) refl)

-- and so it is of their outcomes
pub lists_through : (ws : List Worked) (vs : List (Vec Outcome Global)) → vs ≡ map (λ (w : Worked). w.outcomes) ws → map vec_items vs ≡ map (λ (w : Worked). w.outcomes.items) ws
lists_through [] vs e = ap (map vec_items) e
lists_through (w ∷ ws) vs e = ap (map vec_items) e ∙ ap (λ (l : List (List Outcome)). w.outcomes.items ∷ l) (lists_through ws (map (λ (w : Worked). w.outcomes) ws) refl)

-- caller 0, back in its place, opened the connections, and the others stay
pub opens_first : (all : List Submission) (cs : List CallerView) (c d : CallerView) → 0 < length cs → c ≡ slice_index_or cs 0 c → OpensAll all 62 c d → OpensFirst all cs (slice_set cs 0 d)
unfolding OpensFirst
opens_first all [] c d lt e h = absurd (omega (arith, lt))
opens_first all (x ∷ cs) c d lt e h = (subst (λ (y : CallerView). OpensAll all 62 y d) e h, refl)

-- caller 0, back in its place, stopped, and the others stay
pub stops_first : (ws : List Worked) (w : Worked) (d : CallerView) → 0 < length ws → w ≡ slice_index_or ws 0 w → Stops w.caller d → StopsFirst ws (slice_set ws 0 (record { caller = d; outcomes = w.outcomes }))
unfolding StopsFirst
stops_first [] w d lt e h = absurd (omega (arith, lt))
stops_first (x ∷ ws) w d lt e h = (subst (λ (y : Worked). Stops y.caller d) e h, ap (λ (y : Worked). y.outcomes) e, refl)

-- what follows from two things that are told of the value of an Ok, and one that holds then, is told of it too
pub ok_three : {A E : Type 0} (P : A → Type 0) (O : Type 0) (Q R : A → Type 0) (r : Result A E) → ((x : A) → P x → O → Q x → R x) → IfOk r P → OnOk r O → IfOk r Q → IfOk r R
ok_three P O Q R (Ok x) f p o q = f x p o q
ok_three P O Q R (Err e) f p o q = tt

-- what was kept is handed back where nothing failed
pub kept_ok : {A E : Type 0} (P : A → Type 0) (ended : Result (Unit {0}) E) (r : Result A E) (x : A) → OnOk ended (P x) → IfOk r (λ _. ended ≡ Ok tt) → IfOk r (λ y. y ≡ x) → IfOk r P
kept_ok {A} {E} P ended (Ok y) x h done same = subst P (sym same) (subst (λ (s : Result (Unit {0}) E). OnOk s (P x)) done h)
kept_ok P ended (Err e) x h done same = tt

-- what ended well was handed on
pub on_given : {A E : Type 0} (P : Type 0) (ended r s : Result A E) → OnOk ended P → IfOk r (λ v. ended ≡ Ok v) → s ≡ r → OnOk s P
on_given {A} {E} P ended (Ok v) s h is same = subst (λ (t : Result A E). OnOk t P) (sym same) (subst (λ (t : Result A E). OnOk t P) is h)
on_given {A} {E} P ended (Err e) s h is same = subst (λ (t : Result A E). OnOk t P) (sym same) tt

-- what follows from what holds where something ended well holds there too
pub on_ok : {A E : Type 0} {P Q : Type 0} (r : Result A E) → OnOk r P → (P → Q) → OnOk r Q
on_ok (Ok v) p f = f p
on_ok (Err e) p f = tt
