-- Octets that were searched.
use Rattle.std.proofs.Common.{◌≡◌, ◌≢◌, ℕ, ◌+◌, ◌≤◌, ◌==◌, Bool, true, List, [], ◌∷◌, ◌++◌, Option, None, Some, length, drop, sym, ap, subst, ◌∙◌, arith, append_assoc, length-append, refl}
use Rattle.std.specs.Prelude.{is_some}
use mir.Val.{bool_byte}
use Rattle.std.proofs.lemmas.Bool.{eqb-true}
use Rattle.std.proofs.lemmas.List.{drop-append-le, drop-drop, length-drop}
use Rattle.mux_frame.specs.Reading.{Reads}
use Rattle.mux_frame.specs.Judging.{Header, Verdict, unfinished, refused, fits, by_header, verdict_on}
use Rattle.mux_frame.specs.Deframing.{decision_on, SameReading}
use Rattle.mux_frame.specs.Judged.{IsAtPlace, IsCandidate, IsPassed, IsSearched, IsWholeTo, Settles, SettlesFrom, len_to_check}
use Rattle.mux_frame.specs.Laws.{AreOctets}
use Rattle.mux_frame.specs.Places.{from_flag}
use Rattle.mux_frame.specs.Spelling.{flag}
use Rattle.mux_frame.proofs.candidates.LaterOctets.{decision_later}
use Rattle.mux_frame.proofs.candidates.ShortOctets.{short_open}
use Rattle.mux_frame.proofs.deframers.DeframerOctets.{candidate_decision, candidate_passed, fits_stays, octets-drop, passed_more, passed_none, passed_then, refused_some, settles, settles_from, settles_from_then, unfinished_stays}
use Rattle.mux_frame.proofs.deframers.DeframerPasts.{at_place, next_of}

-- a frame is whole at this place
pub searched_fits : (n1 start place : ℕ) (s : List ℕ) (h : Header) → AreOctets s → IsPassed n1 s start → fits h ≡ decision_on n1 (drop start s) → place ≡ h.size + h.info_len → IsSearched n1 s start (Some place)
searched_fits n1 start place s h o p e q = record {
  passed = p;
  decided = fits_stays n1 (drop start s) h e;
  at_hand = at_place n1 place (drop start s) h (octets-drop start s o) e q;
}

-- a frame can still become whole there
pub searched_unfinished : (n1 start : ℕ) (s : List ℕ) → IsPassed n1 s start → unfinished ≡ decision_on n1 (drop start s) → IsSearched n1 s start None
searched_unfinished n1 start s p e = record {
  passed = p;
  decided = unfinished_stays n1 (drop start s) e;
  at_hand = sym (next_of n1 (drop start s) unfinished e);
}

-- What was searched stands before other octets.

reads_later : (n1 start : ℕ) (s t : List ℕ) → start ≤ length s → SameReading n1 s (drop start s) → SameReading n1 (s ++ t) (drop start (s ++ t))
reads_later n1 start s t l h = record {
  reads = λ x gs rest r.
      let d : drop start (s ++ t) ++ x ≡ drop start s ++ (t ++ x) = ap (λ z. z ++ x) (drop-append-le start s t l) ∙ append_assoc (drop start s) t x in
      let q : Reads n1 (drop start s ++ (t ++ x)) gs rest = subst (λ z. Reads n1 z gs rest) d r in
      subst (λ z. Reads n1 z gs rest) (sym (append_assoc s t x)) (h.reads (t ++ x) gs rest q);
}

refused_finished : refused ≢ unfinished
refused_finished e = cc

-- what is passed is passed with other octets behind too
pub passed_later : (n1 start : ℕ) (s t : List ℕ) → IsPassed n1 s start → IsPassed n1 (s ++ t) start
passed_later n1 start s t p =
    let w = p.within in
    let l = length-append s t in
    record {
      within = omega (arith, w, l);
      reads = reads_later n1 start s t p.within p.reads;
      kept = λ k.
          let q : decision_on n1 s ≢ refused = λ e. k (sym (decision_later n1 s t refused (sym e) refused_finished)) in
          drop-append-le start s t p.within ∙ ap (λ z. z ++ t) (p.kept q);
    }

fits_finished : (h : Header) → fits h ≢ unfinished
fits_finished h e = cc

-- a frame that was found stays the frame that is found
pub searched_later : (n1 start place : ℕ) (s t : List ℕ) → AreOctets (s ++ t) → IsSearched n1 s start (Some place) → IsSearched n1 (s ++ t) start (Some place)
searched_later n1 start place s t o q =
    let a : IsAtPlace n1 (drop start s) place = q.at_hand in
    let e = decision_later n1 (drop start s) t (fits a.header) a.decision (fits_finished a.header) in
    let d : drop start s ++ t ≡ drop start (s ++ t) = sym (drop-append-le start s t q.passed.within) in
    searched_fits n1 start place (s ++ t) a.header o (passed_later n1 start s t q.passed) (e ∙ ap (decision_on n1) d) a.place_is

-- with other octets behind, the search says the same where a frame was found
pub some_found : (n1 start : ℕ) (s t : List ℕ) (o : Option ℕ) → AreOctets (s ++ t) → true ≡ is_some o → IsSearched n1 s start o → IsSearched n1 (s ++ t) start o
some_found n1 start s t None a e q = cc
some_found n1 start s t (Some place) a e q = searched_later n1 start place s t a q

flag_open : (n1 : ℕ) → unfinished ≡ decision_on n1 (flag ∷ [])
unfolding verdict_on by_header
flag_open n1 = refl

-- a flag alone may begin a frame
pub settles_flag : (n1 passed : ℕ) (s : List ℕ) → AreOctets s → passed ≤ length s → drop passed s ≡ flag ∷ [] → SettlesFrom n1 s passed passed None
settles_flag n1 passed s o l e =
    let z : passed + 0 ≡ passed = omega arith in
    let x : unfinished ≡ decision_on n1 (drop passed s) = flag_open n1 ∙ ap (decision_on n1) (sym e) in
    subst (λ i. SettlesFrom n1 s passed i None) z
    (settles_from n1 passed 0 s None o l (passed_none n1 (drop passed s)) (unfinished_stays n1 (drop passed s) x) (sym (next_of n1 (drop passed s) unfinished x)))

-- octets that aren't refused are taken in with more, and the check octet hasn't come
pub settles_short : (n1 : ℕ) (old more : List ℕ) → AreOctets (old ++ more) → decision_on n1 old ≢ refused → length (old ++ more) ≤ len_to_check old → Settles n1 (old ++ more) (old ++ more) None
settles_short n1 old more o d short =
    let x : unfinished ≡ decision_on n1 (old ++ more) = short_open n1 old more d short in
    settles n1 0 (old ++ more) None o (passed_none n1 (old ++ more)) (unfinished_stays n1 (old ++ more) x) (sym (next_of n1 (old ++ more) unfinished x))

-- octets are searched before they are taken in
pub settles_searched : (n1 start : ℕ) (s : List ℕ) (o : Option ℕ) → AreOctets s → IsSearched n1 s start o → Settles n1 s (drop start s) o
settles_searched n1 start s o a q = settles n1 start s o a q.passed q.decided q.at_hand

-- where all begin no frame, none are taken in
pub settles_nothing : (n1 start : ℕ) (s left gone : List ℕ) (o : Option ℕ) → AreOctets s → IsSearched n1 s start o → left ≡ drop start s → true ≡ (length left == 0) → gone ≡ [] → Settles n1 s gone o
settles_nothing n1 start s [] gone o a q e z g = subst (λ u. Settles n1 s u o) (sym e ∙ sym g) (settles_searched n1 start s o a q)
settles_nothing n1 start s (x ∷ t) gone o a q e z g = let y = eqb-true (length (x ∷ t)) 0 (sym z) in absurd (omega (arith, y))

-- what is taken in settles where no others are left
pub settles_first : (n1 : ℕ) (gone more new : List ℕ) (o : Option ℕ) → gone ≡ [] → Settles n1 more new o → Settles n1 (gone ++ more) new o
settles_first n1 [] more new o e q = q
settles_first n1 (x ∷ t) more new o e q = cc

-- behind the frame at hand, what settles in the octets settles in those that weren't done with
pub settles_advanced : (n1 passed place until : ℕ) (both s : List ℕ) (r : Option ℕ) → both ≡ s → SettlesFrom n1 both (passed + place + 2) until r → Settles n1 (drop (place + 2) (drop passed s)) (drop until s) r
settles_advanced n1 passed place until both s r e q =
    let i : passed + place + 2 ≡ passed + (place + 2) = omega arith in
    let d : drop (passed + place + 2) both ≡ drop (place + 2) (drop passed s) = ap (λ j. drop j both) i ∙ ap (drop (passed + (place + 2))) e ∙ sym (drop-drop (place + 2) passed s) in
    subst (λ z. Settles n1 z (drop until s) r) d (subst (λ z. Settles n1 (drop (passed + place + 2) both) (drop until z) r) e q.settles)

-- so it is with octets that are searched behind so many
pub settles_from_searched : (n1 passed start : ℕ) (s left : List ℕ) (o : Option ℕ) → AreOctets s → passed ≤ length s → left ≡ drop passed s → IsSearched n1 left start o → SettlesFrom n1 s passed (passed + start) o
settles_from_searched n1 passed start s left o a w e q =
    let r : IsSearched n1 (drop passed s) start o = subst (λ z. IsSearched n1 z start o) e q in
    settles_from n1 passed start s o a w r.passed r.decided r.at_hand

-- A candidate behind one flag or two, where so many octets are done with.
module _ (n1 passed start : ℕ) (s text : List ℕ) (b : Bool) (o : AreOctets s) (l : passed ≤ length s) (k : IsCandidate (drop passed s) b text) (e : start ≡ passed + bool_byte b) where
  abbrev left : List ℕ
  left = drop passed s

  flag_passed : IsPassed n1 left (bool_byte b)
  flag_passed = candidate_passed n1 (bool_byte b) left text b refl k (octets-drop passed s o)

  -- a verdict on it is the decision
  decision_is : (v : Verdict) → v ≡ verdict_on n1 text → v ≡ decision_on n1 (drop (bool_byte b) left)
  decision_is v h = candidate_decision n1 (bool_byte b) left text b v refl k h

  -- it is whole
  pub settles_fits : (place : ℕ) → IsWholeTo n1 text place → SettlesFrom n1 s passed start (Some place)
  settles_fits place w =
      let h = w.header in
      let x = decision_is (fits h) w.fits_so in
      subst (λ i. SettlesFrom n1 s passed i (Some place)) (sym e)
      (settles_from n1 passed (bool_byte b) s (Some place) o l flag_passed
      (fits_stays n1 (drop (bool_byte b) left) h x)
      (at_place n1 place (drop (bool_byte b) left) h (octets-drop (bool_byte b) left (octets-drop passed s o)) x w.place_is))

  -- it can become a frame
  pub settles_unfinished : unfinished ≡ verdict_on n1 text → SettlesFrom n1 s passed start None
  settles_unfinished v =
      let x = decision_is unfinished v in
      subst (λ i. SettlesFrom n1 s passed i None) (sym e)
      (settles_from n1 passed (bool_byte b) s None o l flag_passed
      (unfinished_stays n1 (drop (bool_byte b) left) x)
      (sym (next_of n1 (drop (bool_byte b) left) unfinished x)))

  -- it fails
  pub fails : refused ≡ verdict_on n1 text → refused ≡ decision_on n1 (drop start s)
  fails v = decision_is refused v ∙ ap (decision_on n1) (drop-drop (bool_byte b) passed s ∙ ap (λ i. drop i s) (sym e))

  -- then only a flag before it is passed
  pub settles_open : (place : ℕ) (r : Option ℕ) → SettlesFrom n1 s start place r → SettlesFrom n1 s passed place r
  settles_open place r t = settles_from_then n1 passed (bool_byte b) place s r flag_passed (subst (λ i. SettlesFrom n1 s i place r) e t)

-- A candidate behind one flag or two, from a place on before which nothing begins a frame.
module _ (n1 place start : ℕ) (s text : List ℕ) (b : Bool) (o : AreOctets s) (p : IsPassed n1 s place) (k : IsCandidate (drop place s) b text) (e : start ≡ place + bool_byte b) where
  -- the flag that closes another frame goes
  pub second_passed : IsPassed n1 s start
  second_passed = subst (IsPassed n1 s) (sym e) (passed_then n1 place (bool_byte b) s p (candidate_passed n1 (bool_byte b) (drop place s) text b refl k (octets-drop place s o)))

  -- a verdict on it is the decision
  pub verdict_decides : (v : Verdict) → v ≡ verdict_on n1 text → v ≡ decision_on n1 (drop start s)
  verdict_decides v h =
      let d : drop (bool_byte b) (drop place s) ≡ drop start s = drop-drop (bool_byte b) place s ∙ ap (λ i. drop i s) (sym e) in
      candidate_decision n1 (bool_byte b) (drop place s) text b v refl k h ∙ ap (decision_on n1) d

  -- it is whole
  pub sought_whole : (check_place : ℕ) → IsWholeTo n1 text check_place → IsSearched n1 s start (Some check_place)
  sought_whole check_place w = searched_fits n1 start check_place s w.header o second_passed (verdict_decides (fits w.header) w.fits_so) w.place_is

-- A candidate has failed, and so many octets stand between its flag and the next.
module _ (n1 failed place start : ℕ) (s text left : List ℕ) (o : AreOctets s) (k : text ≡ drop (failed + 1) s) (w : place ≤ length text) (d : left ≡ drop (failed + 1 + place) s) (h : drop place text ≡ from_flag text) (e : refused ≡ decision_on n1 (drop failed s)) where
  -- they stand within the octets
  pub begin_within : failed + 1 + place ≤ length s
  begin_within =
      let f = refused_some n1 failed s e in
      let m = length-drop (failed + 1) s in
      let t = ap length k in
      omega (arith, f, w, m, t)

  -- what is left behind them is of octets
  pub behind_octets : AreOctets left
  behind_octets = subst AreOctets (sym d) (octets-drop (failed + 1 + place) s o)

  goes_behind : text ≡ drop 1 (drop failed s)
  goes_behind = k ∙ sym (drop-drop 1 failed s)

  behind_passed : IsPassed n1 (drop failed s) (1 + place)
  behind_passed =
      let r : drop place (drop 1 (drop failed s)) ≡ from_flag (drop 1 (drop failed s)) = subst (λ z. drop place z ≡ from_flag z) goes_behind h in
      let m : place ≤ length (drop 1 (drop failed s)) = subst (λ z. place ≤ length z) goes_behind w in
      let z : 0 + (1 + place) ≡ 1 + place = omega arith in
      subst (IsPassed n1 (drop failed s)) z (passed_more n1 0 place (drop failed s) (octets-drop failed s o) (passed_none n1 (drop failed s)) e m r)

  settles_behind : (until : ℕ) (r : Option ℕ) → SettlesFrom n1 s (failed + 1 + place) until r → SettlesFrom n1 s failed until r
  settles_behind until r t =
      let i : failed + 1 + place ≡ failed + (1 + place) = omega arith in
      settles_from_then n1 failed (1 + place) until s r behind_passed (subst (λ j. SettlesFrom n1 s j until r) i t)

  -- a whole frame was found behind the failed candidate
  pub found_behind : (check_place : ℕ) → IsSearched n1 left start (Some check_place) → SettlesFrom n1 s failed (failed + 1 + place + start) (Some check_place)
  found_behind check_place q = settles_behind (failed + 1 + place + start) (Some check_place) (settles_from_searched n1 (failed + 1 + place) start s left (Some check_place) o begin_within d q)

  -- up to a later place no frame begins behind it either, and what settles from there on settles all
  pub on_behind : (until : ℕ) (r : Option ℕ) → IsPassed n1 left start → SettlesFrom n1 s (failed + 1 + place + start) until r → SettlesFrom n1 s failed until r
  on_behind until r p t = settles_behind until r (settles_from_then n1 (failed + 1 + place) start until s r (subst (λ z. IsPassed n1 z start) d p) t)

  -- the later place is within the octets
  pub behind_within : IsPassed n1 left start → failed + 1 + place + start ≤ length s
  behind_within p =
      let m = length-drop (failed + 1 + place) s in
      let t = ap length d in
      let b = begin_within in
      let v = p.within in
      omega (arith, m, t, b, v)
