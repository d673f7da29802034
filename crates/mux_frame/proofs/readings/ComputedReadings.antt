-- The reading of octets, computed.
use Rattle.std.proofs.Common.{◌≡◌, ℕ, zero, suc, ◌+◌, ◌<◌, ◌≤◌, ◌==◌, Bool, true, false, List, [], ◌∷◌, ◌++◌, Option, None, Some, map, length, drop, refl, if◌then◌else◌, sym, ap, subst, ◌∙◌, arith, lit<, append_assoc, length-drop, get_or-drop}
use Rattle.std.proofs.lemmas.Bool.{eqb-true, eqb-false}
use Rattle.std.proofs.lemmas.List.{append-nil, map-append}
use Rattle.std.proofs.Math.Seq.{drop-append_seam}
use Rattle.mux_frame.specs.Frames.{Frame, kept_frame}
use Rattle.mux_frame.specs.declared.frame.FrameBuf.{FrameBuf}
use Rattle.mux_frame.specs.Spelling.{flag}
use Rattle.mux_frame.specs.Reading.{after_flag, IsFill, HasFrame, IsCutShort, Reads, no_flag, fill, frame, cut_short, other}
use Rattle.mux_frame.specs.Judging.{Header, Verdict, unfinished, refused, fits, verdict_on, frame_at, IsRefused, IsWhole, Means}
use Rattle.mux_frame.specs.Laws.{AreOctets, GoesOn, Reading}
use Rattle.mux_frame.proofs.candidates.Verdicts.{verdict_means}
use Rattle.mux_frame.proofs.Spellings.{head_same}
use Rattle.mux_frame.proofs.readings.TextReadings.{some_same, one_reading}
use Rattle.mux_frame.proofs.readings.LaterTexts.{reads_on}

-- frames, and a rest
pub record Found : Type 0 where
  pub frames : List Frame
  pub rest : List ℕ

abbrev found_at : List ℕ → (List ℕ → Found) → Verdict → Found
found_at t go unfinished = record { frames = []; rest = flag ∷ t }
found_at t go refused = go t
found_at t go (fits h) = let r = go (drop (h.size + h.info_len + 1) t) in record { frames = frame_at h t ∷ r.frames; rest = r.rest }

abbrev found_after : ℕ → (List ℕ → Found) → Option (List ℕ) → Found
found_after n1 go None = record { frames = []; rest = [] }
found_after n1 go (Some t) = found_at t go (verdict_on n1 t)

-- what at most n flags make of a text
abbrev pub found_in : ℕ → ℕ → List ℕ → Found
found_in n1 zero s = record { frames = []; rest = [] }
found_in n1 (suc n) s = found_after n1 (found_in n1 n) (after_flag s)

-- the text after a flag is shorter, and of octets
after_shorter-at : (b : Bool) (xs t : List ℕ) → (if b then Some xs else after_flag xs) ≡ Some t → (after_flag xs ≡ Some t → length t < length xs) → length t ≤ length xs
after_shorter-at true xs t e h = let k = ap length (some_same xs t e) in omega (arith, k)
after_shorter-at false xs t e h = let k = h e in omega (arith, k)

-- what stands after the first flag is shorter than all
pub after_shorter : (s t : List ℕ) → after_flag s ≡ Some t → length t < length s
after_shorter [] t e = cc
after_shorter (x ∷ xs) t e = let k = after_shorter-at (x == flag) xs t e (after_shorter xs t) in omega (arith, k)

none_is_not : (t : List ℕ) → None ≡ Some t → ⊥
none_is_not t e = cc

after_octets-at : (b : Bool) (xs t : List ℕ) → (if b then Some xs else after_flag xs) ≡ Some t → AreOctets xs → (after_flag xs ≡ Some t → AreOctets t) → AreOctets t
after_octets-at true xs t e o h = subst AreOctets (some_same xs t e) o
after_octets-at false xs t e o h = h e

-- and of octets, where all is
pub after_octets : (s t : List ℕ) → after_flag s ≡ Some t → AreOctets s → AreOctets t
after_octets [] t e o = absurd (none_is_not t e)
after_octets (x ∷ xs) t e o = after_octets-at (x == flag) xs t e (λ i. o (suc i)) (λ h. after_octets xs t h (λ i. o (suc i)))

-- octets joined are octets
pub octets_both : (xs ys : List ℕ) → AreOctets xs → AreOctets ys → AreOctets (xs ++ ys)
octets_both [] ys o p i = p i
octets_both (x ∷ xs) ys o p zero = o 0
octets_both (x ∷ xs) ys o p (suc i) = octets_both xs ys (λ j. o (suc j)) p i

-- of joined octets the second are octets
pub octets_right : (xs ys : List ℕ) → AreOctets (xs ++ ys) → AreOctets ys
octets_right [] ys o i = o i
octets_right (x ∷ xs) ys o i = octets_right xs ys (λ j. o (suc j)) i

-- and so are the first
pub octets_left : (xs ys : List ℕ) → AreOctets (xs ++ ys) → AreOctets xs
octets_left [] ys o i = lit< tt
octets_left (x ∷ xs) ys o zero = o 0
octets_left (x ∷ xs) ys o (suc i) = octets_left xs ys (λ j. o (suc j)) i

drop_octets : (n : ℕ) (t : List ℕ) → AreOctets t → AreOctets (drop n t)
drop_octets n t o i = let k = o (n + i) in rw (get_or-drop) k

-- a text that is refused has no frame and is no beginning of one
pub refused_frame : (n1 : ℕ) (t : List ℕ) → IsRefused n1 t → ¬ HasFrame n1 t
refused_frame n1 t r h = r h.octets h.later [] h.frame h.spells (sym h.text ∙ sym (append-nil t))

-- and is no proper beginning of one
pub refused_cut : (n1 : ℕ) (t : List ℕ) → IsRefused n1 t → ¬ IsCutShort n1 t
refused_cut n1 t r h = r h.octets [] h.missing h.frame h.spells h.text

-- a text that is refused is read on in
refused_reads-at : (n1 x : ℕ) (s t : List ℕ) (fs : List Frame) (rest : List ℕ) (b : Bool) → (x == flag) ≡ b → after_flag s ≡ Some (x ∷ t) → IsRefused n1 (x ∷ t) → Reads n1 (x ∷ t) fs rest → Reads n1 s fs rest
refused_reads-at n1 x s t fs rest true e h r q =
    let same : x ≡ flag = eqb-true x flag e in
    fill s t fs rest (h ∙ ap (λ y. Some (y ∷ t)) same) (subst (λ y. Reads n1 (y ∷ t) fs rest) same q)
refused_reads-at n1 x s t fs rest false e h r q = other s (x ∷ t) fs rest h (λ f. eqb-false x flag e (head_same x flag t f.later f.text)) (refused_frame n1 (x ∷ t) r) (refused_cut n1 (x ∷ t) r) q

no_fill : IsFill [] → ⊥
no_fill f = let e = f.text in cc

-- where the text after the first flag is refused, what is read in it is what is read in all
pub refused_reads : (n1 : ℕ) (s t : List ℕ) (fs : List Frame) (rest : List ℕ) → after_flag s ≡ Some t → IsRefused n1 t → Reads n1 t fs rest → Reads n1 s fs rest
refused_reads n1 s [] fs rest h r q = other s [] fs rest h no_fill (refused_frame n1 [] r) (refused_cut n1 [] r) q
refused_reads n1 s (x ∷ t) fs rest h r q = refused_reads-at n1 x s t fs rest (x == flag) refl h r q

-- a whole frame is read, and reading goes on at its closing flag
pub whole_later : (n1 : ℕ) (t : List ℕ) (h : Header) (w : IsWhole n1 t h) → drop (h.size + h.info_len + 1) t ≡ flag ∷ w.later
whole_later n1 t h w = rw (← w.size) (ap (drop (length w.octets)) w.text ∙ drop-append_seam w.octets (flag ∷ w.later))

-- where one stands after the first flag, it is read before those that are read from its closing flag on
pub whole_reads : (n1 : ℕ) (s t : List ℕ) (h : Header) (fs : List Frame) (rest : List ℕ) → after_flag s ≡ Some t → IsWhole n1 t h → Reads n1 (drop (h.size + h.info_len + 1) t) fs rest → Reads n1 s (frame_at h t ∷ fs) rest
whole_reads n1 s t h fs rest e w q = frame s w.octets w.later (frame_at h t) fs rest (e ∙ ap Some w.text) w.spells (subst (λ z. Reads n1 z fs rest) (whole_later n1 t h w) q)

found_at_reads : (n1 n : ℕ) (s t : List ℕ) (v : Verdict) → after_flag s ≡ Some t → length t ≤ n → AreOctets t → Means n1 t v → ((u : List ℕ) → length u ≤ n → AreOctets u → Reads n1 u (found_in n1 n u).frames (found_in n1 n u).rest) → Reads n1 s (found_at t (found_in n1 n) v).frames (found_at t (found_in n1 n) v).rest
found_at_reads n1 n s t unfinished e l o m go = cut_short s t e m
found_at_reads n1 n s t refused e l o m go = refused_reads n1 s t _ _ e m (go t l o)
found_at_reads n1 n s t (fits h) e l o m go =
    let k = h.size + h.info_len + 1 in
    let d : length (drop k t) ≤ length t = omega (arith, length-drop k t) in
    whole_reads n1 s t h _ _ e m (go (drop k t) (omega (arith, d)) (drop_octets k t o))

found_after_reads : (n1 n : ℕ) (s : List ℕ) (o : Option (List ℕ)) → after_flag s ≡ o → length s ≤ suc n → AreOctets s → ((u : List ℕ) → length u ≤ n → AreOctets u → Reads n1 u (found_in n1 n u).frames (found_in n1 n u).rest) → Reads n1 s (found_after n1 (found_in n1 n) o).frames (found_after n1 (found_in n1 n) o).rest
found_after_reads n1 n s None e l o go = no_flag s e
found_after_reads n1 n s (Some t) e l o go =
    let k = after_shorter s t e in
    let q = after_octets s t e o in
    found_at_reads n1 n s t (verdict_on n1 t) e (omega (arith, k)) q (verdict_means n1 t q) go

-- the computed frames and rest are those of the reading
pub found_reads : (n1 n : ℕ) (s : List ℕ) → length s ≤ n → AreOctets s → Reads n1 s (found_in n1 n s).frames (found_in n1 n s).rest
found_reads n1 zero [] l o = no_flag [] refl
found_reads n1 zero (x ∷ s) l o = absurd (omega arith)
found_reads n1 (suc n) s l o = found_after_reads n1 n s (after_flag s) refl l o (found_reads n1 n)

-- all octets have a reading
pub total_reading : (n1 : ℕ) (s : List ℕ) → AreOctets s → Reading n1 s
total_reading n1 s o = record { frames = (found_in n1 (length s) s).frames; rest = (found_in n1 (length s) s).rest; reads = found_reads n1 (length s) s (omega arith) o }

-- Of s these frames are read, and then what is read of left.
pub record ReadsSoFar (n1 : ℕ) (s : List ℕ) (fs : List Frame) (left : List ℕ) : Type 0 where
  pub going_on : (gs : List Frame) (rest : List ℕ) → Reads n1 left gs rest → Reads n1 s (fs ++ gs) rest

-- at first no frame is read, and all is left
pub so_far_none : (n1 : ℕ) (s : List ℕ) → ReadsSoFar n1 s [] s
so_far_none n1 s = record { going_on = λ gs rest r. r }

-- where the text after the first flag is refused, no frame is read, and the text is left
pub so_far_refused : (n1 : ℕ) (s left t : List ℕ) (fs : List Frame) → ReadsSoFar n1 s fs left → after_flag left ≡ Some t → IsRefused n1 t → ReadsSoFar n1 s fs t
so_far_refused n1 s left t fs h e r = record { going_on = λ gs rest q. h.going_on gs rest (refused_reads n1 left t gs rest e r q) }

-- where it begins with a whole frame, that is read, and what is left begins with its closing flag
pub so_far_whole : (n1 : ℕ) (s left t : List ℕ) (fs : List Frame) (h : Header) → ReadsSoFar n1 s fs left → after_flag left ≡ Some t → IsWhole n1 t h → ReadsSoFar n1 s (fs ++ frame_at h t ∷ []) (drop (h.size + h.info_len + 1) t)
so_far_whole n1 s left t fs h k e w = record {
  going_on = λ gs rest q. rw (append_assoc fs (frame_at h t ∷ []) gs) (k.going_on (frame_at h t ∷ gs) rest (whole_reads n1 left t h gs rest e w q));
}

-- where no flag is left, these are all frames, and there is no rest
pub so_far_end : (n1 : ℕ) (s left : List ℕ) (fs : List Frame) → ReadsSoFar n1 s fs left → after_flag left ≡ None → Reads n1 s fs []
so_far_end n1 s left fs h e = subst (λ gs. Reads n1 s gs []) (append-nil fs) (h.going_on [] [] (no_flag left e))

-- where the text after the first flag is a proper beginning of a frame, these are all, and the rest is flag and text
pub so_far_cut : (n1 : ℕ) (s left t : List ℕ) (fs : List Frame) → ReadsSoFar n1 s fs left → after_flag left ≡ Some t → IsCutShort n1 t → Reads n1 s fs (flag ∷ t)
so_far_cut n1 s left t fs h e c = subst (λ gs. Reads n1 s gs (flag ∷ t)) (append-nil fs) (h.going_on [] (flag ∷ t) (cut_short left t e c))

-- one more frame that is kept
pub kept_more : (xs : List FrameBuf) (x : FrameBuf) (f : Frame) → kept_frame x ≡ f → map kept_frame (xs ++ x ∷ []) ≡ map kept_frame xs ++ f ∷ []
kept_more xs x f e = rw (map-append kept_frame xs (x ∷ []), e) refl

-- the rest of octets is of octets
pub rest_octets : (n1 : ℕ) (s : List ℕ) (fs : List Frame) (rest : List ℕ) → AreOctets s → Reads n1 s fs rest → AreOctets rest
rest_octets n1 s _ _ o (no_flag _ e) i = lit< tt
rest_octets n1 s _ _ o (fill _ t fs rest e r) i = rest_octets n1 (flag ∷ t) fs rest (after_octets s (flag ∷ t) e o) r i
rest_octets n1 s _ _ o (frame _ b x f fs rest e k r) i = rest_octets n1 (flag ∷ x) fs rest (octets_right b (flag ∷ x) (after_octets s (b ++ flag ∷ x) e o)) r i
rest_octets n1 s _ _ o (cut_short _ t e c) zero = lit< tt
rest_octets n1 s _ _ o (cut_short _ t e c) (suc i) = after_octets s t e o i
rest_octets n1 s _ _ o (other _ t fs rest e nf nh nc r) i = rest_octets n1 t fs rest (after_octets s t e o) r i

-- what is read of a beginning is the beginning of what is read
pub reads_beginning : (n1 : ℕ) (s x : List ℕ) (fs gs : List Frame) (rest last : List ℕ) → AreOctets (s ++ x) → Reads n1 s fs rest → Reads n1 (s ++ x) gs last → GoesOn fs gs
reads_beginning n1 s x fs gs rest last o r q =
    let p : AreOctets (rest ++ x) = octets_both rest x (rest_octets n1 s fs rest (octets_left s x o) r) (octets_right s x o) in
    let t = total_reading n1 (rest ++ x) p in
    record { later = t.frames; frames = sym (one_reading n1 (s ++ x) (fs ++ t.frames) gs t.rest last (reads_on n1 s x fs t.frames rest t.rest r t.reads) q).0 }
