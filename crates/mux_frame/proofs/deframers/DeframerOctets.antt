-- The octets of a deframer.
use Rattle.std.proofs.Common.{◌≡◌, ◌≢◌, ℕ, zero, suc, ◌+◌, ◌≤◌, ◌==◌, Bool, true, false, List, [], ◌∷◌, ◌++◌, Option, None, Some, length, drop, refl, if◌then◌else◌, sym, ap, subst, ◌∙◌, arith, append_assoc}
use Rattle.std.specs.Prelude.{unwrap_or, slice_get}
use mir.Val.{bool_byte}
use Rattle.std.proofs.lemmas.Bool.{eqb-true}
use Rattle.std.proofs.lemmas.List.{drop_all, drop-append-le, append-nil, drop-drop, length-drop}
use Rattle.memchr.specs.Find.{IsFirstByte, is_byte}
use Rattle.mux_frame.specs.Spelling.{flag}
use Rattle.mux_frame.specs.Reading.{after_flag}
use Rattle.mux_frame.specs.Places.{from_flag}
use Rattle.mux_frame.specs.Judging.{Header, Verdict, unfinished, refused, fits, by_header, verdict_on, IsRefused, Means}
use Rattle.mux_frame.specs.Deframing.{decision_on, SameReading}
use Rattle.mux_frame.specs.Judged.{IsAtHand, IsCandidate, IsPassed, Settles, SettlesFrom}
use Rattle.mux_frame.specs.Laws.{AreOctets}
use Rattle.mux_frame.proofs.candidates.Verdicts.{verdict_means}
use Rattle.mux_frame.proofs.readings.ComputedReadings.{refused_reads}
use Rattle.mux_frame.proofs.Flags.{found_none, found_some}
use Rattle.mux_frame.proofs.readings.LaterTexts.{after_flag-some, same_after}
use Rattle.mux_frame.proofs.readings.TextReadings.{some_same}

from_flag-some-at : (b : Bool) (x : ℕ) (xs t : List ℕ) → (x == flag) ≡ b → (if b then Some xs else after_flag xs) ≡ Some t → (after_flag xs ≡ Some t → from_flag xs ≡ flag ∷ t) → (if b then x ∷ xs else from_flag xs) ≡ flag ∷ t
from_flag-some-at true x xs t e a h = let same = eqb-true x flag e in let k = some_same xs t a in cc
from_flag-some-at false x xs t e a h = h a

-- from the first flag on stand the flag and what comes after it
pub from_flag-some : (xs t : List ℕ) → after_flag xs ≡ Some t → from_flag xs ≡ flag ∷ t
from_flag-some [] t e = cc
from_flag-some (x ∷ xs) t e = from_flag-some-at (x == flag) x xs t refl e (from_flag-some xs t)

from_flag-none-at : (b : Bool) (x : ℕ) (xs : List ℕ) → (if b then Some xs else after_flag xs) ≡ None → (after_flag xs ≡ None → from_flag xs ≡ []) → (if b then x ∷ xs else from_flag xs) ≡ []
from_flag-none-at true x xs a h = cc
from_flag-none-at false x xs a h = h a

-- and nothing, where there is no flag
pub from_flag-none : (xs : List ℕ) → after_flag xs ≡ None → from_flag xs ≡ []
from_flag-none [] e = refl
from_flag-none (x ∷ xs) e = from_flag-none-at (x == flag) x xs e (from_flag-none xs)

-- the first flag of two lists stands in the first
pub flag_in_front : (xs ys s : List ℕ) (k : ℕ) → xs ++ ys ≡ s → IsFirstByte (is_byte flag) xs (Some k) → drop k s ≡ from_flag s
flag_in_front xs ys s k e h =
    let f = found_some xs k h in
    let l = f.within in
    let d : drop k (xs ++ ys) ≡ drop k xs ++ ys = drop-append-le k xs ys (omega (arith, l)) in
    let a = after_flag-some xs ys (drop (k + 1) xs) f.after in
    subst (λ z. drop k z ≡ from_flag z) e (d ∙ ap (λ z. z ++ ys) f.here ∙ sym (from_flag-some (xs ++ ys) (drop (k + 1) xs ++ ys) a))

-- Decisions.

some_octet : (x y : ℕ) → Some x ≡ Some y → x ≡ y
some_octet x y e = cc

two_flags : (n1 : ℕ) (s : List ℕ) → refused ≡ decision_on n1 (flag ∷ flag ∷ s)
unfolding verdict_on by_header
two_flags n1 s = refl

-- with a flag behind a flag, no frame begins
pub decision_flags : (n1 x y : ℕ) (u t : List ℕ) → u ≡ x ∷ t → x ≡ flag → Some y ≡ slice_get t 0 → y ≡ flag → refused ≡ decision_on n1 u
decision_flags n1 x y u [] e h g k = cc
decision_flags n1 x y u (z ∷ s) e h g k =
    let same : u ≡ flag ∷ flag ∷ s = cc in
    rw same (two_flags n1 s)

-- behind a flag, the decision is the verdict
pub decision_behind : (n1 x : ℕ) (u t : List ℕ) (v : Verdict) → u ≡ x ∷ t → x ≡ flag → v ≡ verdict_on n1 t → v ≡ decision_on n1 u
decision_behind n1 x u t v e h g =
    let same : u ≡ flag ∷ t = cc in
    rw same g

refused_more : (n1 : ℕ) (t y : List ℕ) → IsRefused n1 t → IsRefused n1 (t ++ y)
refused_more n1 t y r b x z f s e = r b x (y ++ z) f s (e ∙ append_assoc t y z)

-- the same is read, with the octets before the first flag or without them
after_from_flag-at : (b : Bool) (x : ℕ) (xs y : List ℕ) → (x == flag) ≡ b → after_flag (from_flag xs ++ y) ≡ after_flag (xs ++ y) → after_flag ((if b then x ∷ xs else from_flag xs) ++ y) ≡ (if b then Some (xs ++ y) else after_flag (xs ++ y))
after_from_flag-at true x xs y e h = rw e refl
after_from_flag-at false x xs y e h = h

after_from_flag : (xs y : List ℕ) → after_flag (from_flag xs ++ y) ≡ after_flag (xs ++ y)
after_from_flag [] y = refl
after_from_flag (x ∷ xs) y = after_from_flag-at (x == flag) x xs y refl (after_from_flag xs y)

-- of what begins no frame, the first octet goes
refused_drop-at : (n1 x : ℕ) (t : List ℕ) (b : Bool) → (x == flag) ≡ b → (if b then verdict_on n1 t else refused) ≡ refused → AreOctets t → SameReading n1 (x ∷ t) t
refused_drop-at n1 x t true e v o = record {
  reads = λ y gs rest r.
      let after : after_flag ((x ∷ t) ++ y) ≡ Some (t ++ y) = rw e refl in
      refused_reads n1 ((x ∷ t) ++ y) (t ++ y) gs rest after (refused_more n1 t y (subst (Means n1 t) v (verdict_means n1 t o))) r;
}
refused_drop-at n1 x t false e v o = record {
  reads = λ y gs rest r.
      let after : after_flag ((x ∷ t) ++ y) ≡ after_flag (t ++ y) = rw e refl in
      same_after n1 (t ++ y) ((x ∷ t) ++ y) gs rest after r;
}

no_refused : unfinished ≡ refused → ⊥
no_refused e = cc

-- where octets are refused, the same is read without the first of them
pub refused_drop : (n1 : ℕ) (u : List ℕ) → refused ≡ decision_on n1 u → AreOctets u → SameReading n1 u (drop 1 u)
refused_drop n1 [] v o = absurd (no_refused (sym v))
refused_drop n1 (x ∷ t) v o = refused_drop-at n1 x t (x == flag) refl (sym v) (λ i. o (suc i))

-- what is refused is some octet
refused_long : (n1 : ℕ) (u : List ℕ) → refused ≡ decision_on n1 u → 1 ≤ length u
refused_long n1 [] v = absurd (no_refused (sym v))
refused_long n1 (x ∷ t) v = omega arith

-- so where they are refused at a place, an octet stands there
pub refused_some : (n1 start : ℕ) (s : List ℕ) → refused ≡ decision_on n1 (drop start s) → start + 1 ≤ length s
refused_some n1 start s e = let k = refused_long n1 (drop start s) e in let i = length-drop start s in omega (arith, k, i)

-- what stands before the first flag goes
pub flag_reads : (n1 : ℕ) (t : List ℕ) → SameReading n1 t (from_flag t)
flag_reads n1 t = record { reads = λ y gs rest r. same_after n1 (from_flag t ++ y) (t ++ y) gs rest (sym (after_from_flag t y)) r }

-- octets but the first so many are octets
pub octets-drop : (n : ℕ) (xs : List ℕ) → AreOctets xs → AreOctets (drop n xs)
octets-drop zero xs o = o
octets-drop (suc n) [] o = o
octets-drop (suc n) (x ∷ xs) o = octets-drop n xs (λ i. o (suc i))

-- octets are read as themselves
pub same_reading_none : (n1 : ℕ) (u : List ℕ) → SameReading n1 u u
same_reading_none n1 u = record { reads = λ x gs rest r. r }

-- where octets are read as others, and these as third ones, the first are read as the third
pub same_reading_then : (n1 : ℕ) (u v w : List ℕ) → SameReading n1 u v → SameReading n1 v w → SameReading n1 u w
same_reading_then n1 u v w h k = record { reads = λ x gs rest r. h.reads x gs rest (k.reads x gs rest r) }

-- What begins no frame is passed.

-- nothing is passed at first
pub passed_none : (n1 : ℕ) (s : List ℕ) → IsPassed n1 s 0
passed_none n1 s = record { within = omega arith; reads = same_reading_none n1 s; kept = λ h. refl }

-- where octets are refused behind what is passed, their first is passed too
pub passed_one : (n1 start : ℕ) (s : List ℕ) → AreOctets s → IsPassed n1 s start → refused ≡ decision_on n1 (drop start s) → IsPassed n1 s (start + 1)
passed_one n1 start s o p e =
    let one : drop 1 (drop start s) ≡ drop (start + 1) s = drop-drop 1 start s in
    let r = same_reading_then n1 s (drop start s) (drop 1 (drop start s)) p.reads (refused_drop n1 (drop start s) e (octets-drop start s o)) in
    record {
      within = refused_some n1 start s e;
      reads = subst (SameReading n1 s) one r;
      kept = λ k. absurd (k (sym (e ∙ ap (decision_on n1) (p.kept k))));
    }

-- what is read the same without them goes too
pub passed_on : (n1 start place : ℕ) (s : List ℕ)
    → AreOctets s
    → IsPassed n1 s start
    → refused ≡ decision_on n1 (drop start s)
    → place ≤ length (drop (start + 1) s)
    → SameReading n1 (drop (start + 1) s) (drop place (drop (start + 1) s))
    → IsPassed n1 s (start + (1 + place))
passed_on n1 start place s o p e l r =
    let q = passed_one n1 start s o p e in
    let sum : start + 1 + place ≡ start + (1 + place) = omega arith in
    let t : drop place (drop (start + 1) s) ≡ drop (start + (1 + place)) s = drop-drop place (start + 1) s ∙ ap (λ i. drop i s) sum in
    let w = q.within in
    let j = length-drop (start + 1) s in
    record {
      within = omega (arith, w, j, l);
      reads = subst (SameReading n1 s) t (same_reading_then n1 s (drop (start + 1) s) (drop place (drop (start + 1) s)) q.reads r);
      kept = λ k. absurd (k (sym (e ∙ ap (decision_on n1) (p.kept k))));
    }

-- what stands before the next flag goes too
pub passed_more : (n1 start place : ℕ) (s : List ℕ)
    → AreOctets s
    → IsPassed n1 s start
    → refused ≡ decision_on n1 (drop start s)
    → place ≤ length (drop (start + 1) s)
    → drop place (drop (start + 1) s) ≡ from_flag (drop (start + 1) s)
    → IsPassed n1 s (start + (1 + place))
passed_more n1 start place s o p e l d =
    passed_on n1 start place s o p e l (subst (SameReading n1 (drop (start + 1) s)) (sym d) (flag_reads n1 (drop (start + 1) s)))

-- what is passed behind what was passed
pub passed_then : (n1 a b : ℕ) (s : List ℕ) → IsPassed n1 s a → IsPassed n1 (drop a s) b → IsPassed n1 s (a + b)
passed_then n1 a b s p q =
    let v = p.within in
    let w = q.within in
    let j = length-drop a s in
    let t : drop b (drop a s) ≡ drop (a + b) s = drop-drop b a s in
    record {
      within = omega (arith, v, w, j);
      reads = subst (SameReading n1 s) t (same_reading_then n1 s (drop a s) (drop b (drop a s)) p.reads q.reads);
      kept = λ k.
          let e = p.kept k in
          sym t ∙ q.kept (subst (λ z. decision_on n1 z ≢ refused) (sym e) k) ∙ e;
    }

-- Candidates.

-- of a candidate behind two flags the first flag is passed, of one behind a single flag none
pub candidate_passed : (n1 start : ℕ) (s text : List ℕ) (b : Bool) → start ≡ bool_byte b → IsCandidate s b text → AreOctets s → IsPassed n1 s start
candidate_passed n1 start s text true e h o = rw (e, h) (passed_one n1 0 (flag ∷ flag ∷ text) (subst AreOctets h o) (passed_none n1 (flag ∷ flag ∷ text)) (two_flags n1 text))
candidate_passed n1 start s text false e h o = rw e (passed_none n1 s)

candidate_behind : (start : ℕ) (s text : List ℕ) (b : Bool) → start ≡ bool_byte b → IsCandidate s b text → drop start s ≡ flag ∷ text
candidate_behind start s text true e h = rw (e, h) refl
candidate_behind start s text false e h = rw (e, h) refl

-- the verdict on the octets behind its flag is the decision
pub candidate_decision : (n1 start : ℕ) (s text : List ℕ) (b : Bool) (v : Verdict) → start ≡ bool_byte b → IsCandidate s b text → v ≡ verdict_on n1 text → v ≡ decision_on n1 (drop start s)
candidate_decision n1 start s text b v e h k = decision_behind n1 flag (drop start s) text v (candidate_behind start s text b e h) refl k

-- what is unfinished isn't refused
pub unfinished_stays : (n1 : ℕ) (u : List ℕ) → unfinished ≡ decision_on n1 u → decision_on n1 u ≢ refused
unfinished_stays n1 u e k = no_refused (e ∙ k)

no_fitting : (h : Header) → fits h ≡ refused → ⊥
no_fitting h e = cc

-- nor is what fits
pub fits_stays : (n1 : ℕ) (u : List ℕ) (h : Header) → fits h ≡ decision_on n1 u → decision_on n1 u ≢ refused
fits_stays n1 u h e k = no_fitting h (e ∙ k)

-- the first flag in one slice
pub flag_in_slice : (xs : List ℕ) (r : Option ℕ) (n : ℕ) → IsFirstByte (is_byte flag) xs r → n ≡ unwrap_or r (length xs) → drop n xs ≡ from_flag xs
flag_in_slice xs None n h e = ap (λ i. drop i xs) e ∙ drop_all (length xs) xs (omega arith) ∙ sym (from_flag-none xs (found_none xs h))
flag_in_slice xs (Some k) n h e = ap (λ i. drop i xs) e ∙ (flag_in_front xs [] xs k (append-nil xs) h)

-- what is passed is dropped
pub settles : (n1 start : ℕ) (old : List ℕ) (o : Option ℕ)
    → AreOctets old
    → IsPassed n1 old start
    → decision_on n1 (drop start old) ≢ refused
    → IsAtHand n1 (drop start old) o
    → Settles n1 old (drop start old) o
settles n1 start old o a p d h = record {
  decided = d;
  reads = p.reads;
  kept = p.kept;
  octets = octets-drop start old a;
  shorter = let l = length-drop start old in omega (arith, l);
  at_hand = h;
}

-- what stands before a place that is passed is dropped before
pub settles_then : (n1 start : ℕ) (old new : List ℕ) (o : Option ℕ)
    → IsPassed n1 old start
    → Settles n1 (drop start old) new o
    → Settles n1 old new o
settles_then n1 start old new o p s =
    let l = length-drop start old in
    let m = s.shorter in
    record {
      decided = s.decided;
      reads = same_reading_then n1 old (drop start old) new p.reads s.reads;
      kept = λ k.
          let e = p.kept k in
          s.kept (subst (λ z. decision_on n1 z ≢ refused) (sym e) k) ∙ e;
      octets = s.octets;
      shorter = omega (arith, l, m);
      at_hand = s.at_hand;
    }

-- What is done with is dropped.

-- so it is behind so many octets
pub settles_from : (n1 passed start : ℕ) (s : List ℕ) (o : Option ℕ)
    → AreOctets s
    → passed ≤ length s
    → IsPassed n1 (drop passed s) start
    → decision_on n1 (drop start (drop passed s)) ≢ refused
    → IsAtHand n1 (drop start (drop passed s)) o
    → SettlesFrom n1 s passed (passed + start) o
settles_from n1 passed start s o a w p d h =
    let l = length-drop passed s in
    let k = p.within in
    record {
      within = omega (arith, w, l, k);
      settles = subst (λ z. Settles n1 (drop passed s) z o) (drop-drop start passed s) (settles n1 start (drop passed s) o (octets-drop passed s a) p d h);
    }

-- and what is passed behind them is dropped before
pub settles_from_then : (n1 passed start place : ℕ) (s : List ℕ) (o : Option ℕ)
    → IsPassed n1 (drop passed s) start
    → SettlesFrom n1 s (passed + start) place o
    → SettlesFrom n1 s passed place o
settles_from_then n1 passed start place s o p q = record {
  within = q.within;
  settles = settles_then n1 start (drop passed s) (drop place s) o p (subst (λ z. Settles n1 z (drop place s) o) (sym (drop-drop start passed s)) q.settles);
}
