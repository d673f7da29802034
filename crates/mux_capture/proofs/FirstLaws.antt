-- Laws of the first frame of a text.
use Rattle.std.specs.Prelude.{◌≡◌, ℕ, List, [], ◌∷◌, ◌++◌, Some, refl}
use Rattle.std.proofs.Common.{inl, inr, ap, sym, ◌∙◌, subst, append_assoc}
use Rattle.mux_frame.specs.Frames.{Frame}
use Rattle.mux_frame.specs.Reading.{after_flag, IsFill, HasFrame, IsCutShort, Reads}
use Rattle.mux_frame.specs.Reading as reading
use Rattle.mux_frame.specs.Spelling.{flag, Spells}
use Rattle.mux_frame.proofs.Spellings.{head_same, one_spelling, tail_same}
use Rattle.mux_frame.proofs.readings.TextReadings.{fill_frame, some_same}
use Rattle.mux_frame.proofs.readings.LaterTexts.{after_flag-some, beginnings, cut_none}
use Rattle.mux_capture.specs.FirstFrame.{FirstIsRead, FirstStays, OneFirst, ReadsFirst, fill, first, other}

filled : (t : List ℕ) → IsFill (flag ∷ t)
filled t = record { later = t; text = refl }

framed : (n1 : ℕ) (b x : List ℕ) (f : Frame) → Spells n1 b f → HasFrame n1 (b ++ flag ∷ x)
framed n1 b x f spells = record { frame = f; octets = b; later = x; text = refl; spells = spells }

same_text : (s t u : List ℕ) → after_flag s ≡ Some t → after_flag s ≡ Some u → t ≡ u
same_text s t u a b = some_same t u (sym a ∙ b)

-- a text has one first frame at most, and tells what stands behind it
pub one_first : OneFirst
one_first n1 s _ _ _ _ (fill _ t x f e r) (fill _ u y g h q) =
    one_first n1 (flag ∷ t) x y f g r (subst (λ (l : List ℕ). ReadsFirst n1 l g y) (sym (same_text s (flag ∷ t) (flag ∷ u) e h)) q)
one_first n1 s _ _ _ _ (fill _ t x f e r) (first _ b y g h k) =
    absurd (fill_frame n1 (flag ∷ t) (filled t) (subst (HasFrame n1) (sym (same_text s (flag ∷ t) (b ++ flag ∷ y) e h)) (framed n1 b y g k)))
one_first n1 s _ _ _ _ (fill _ t x f e r) (other _ u y g h nf nh nc q) =
    absurd (nf (subst IsFill (same_text s (flag ∷ t) u e h) (filled t)))
one_first n1 s _ _ _ _ (first _ b x f e k) (fill _ u y g h q) =
    absurd (fill_frame n1 (b ++ flag ∷ x) (subst IsFill (sym (same_text s (b ++ flag ∷ x) (flag ∷ u) e h)) (filled u)) (framed n1 b x f k))
one_first n1 s _ _ _ _ (first _ b x f e k) (first _ c y g h l) =
    let same = one_spelling n1 n1 b c (flag ∷ x) (flag ∷ y) f g k l (same_text s (b ++ flag ∷ x) (c ++ flag ∷ y) e h) in
    (same.1, tail_same flag flag x y same.2)
one_first n1 s _ _ _ _ (first _ b x f e k) (other _ u y g h nf nh nc q) =
    absurd (nh (subst (HasFrame n1) (same_text s (b ++ flag ∷ x) u e h) (framed n1 b x f k)))
one_first n1 s _ _ _ _ (other _ t x f e nf nh nc r) (fill _ u y g h q) =
    absurd (nf (subst IsFill (sym (same_text s t (flag ∷ u) e h)) (filled u)))
one_first n1 s _ _ _ _ (other _ t x f e nf nh nc r) (first _ b y g h k) =
    absurd (nh (subst (HasFrame n1) (sym (same_text s t (b ++ flag ∷ y) e h)) (framed n1 b y g k)))
one_first n1 s _ _ _ _ (other _ t x f e nf nh nc r) (other _ u y g h mf mh mc q) =
    one_first n1 t x y f g r (subst (λ (l : List ℕ). ReadsFirst n1 l g y) (sym (same_text s t u e h)) q)

-- reading goes on from the frame's closing flag
pub first_is_read : FirstIsRead
first_is_read n1 s _ _ fs rest (fill _ t x f e r) reads = reading.fill s t (f ∷ fs) rest e (first_is_read n1 (flag ∷ t) x f fs rest r reads)
first_is_read n1 s _ _ fs rest (first _ b x f e k) reads = reading.frame s b x f fs rest e k reads
first_is_read n1 s _ _ fs rest (other _ t x f e nf nh nc r) reads = reading.other s t (f ∷ fs) rest e nf nh nc (first_is_read n1 t x f fs rest r reads)

-- with more behind it a text begins no frame, where it begins none and is no beginning of one
no_frame_later : (n1 : ℕ) (t z : List ℕ) → ¬ HasFrame n1 t → ¬ IsCutShort n1 t → ¬ HasFrame n1 (t ++ z)
no_frame_later n1 t z nh nc h =
    let q = h.octets ++ flag ∷ [] in
    let e : t ++ z ≡ q ++ h.later = h.text ∙ sym (append_assoc h.octets (flag ∷ []) h.later) in
    elim (beginnings t z q h.later e) [
      | inl l ↦ nh (record { frame = h.frame; octets = h.octets; later = l.later; text = l.text ∙ append_assoc h.octets (flag ∷ []) l.later; spells = h.spells })
      | inr s ↦ nc (record { frame = h.frame; octets = h.octets; missing = s.missing; text = s.text; proper = s.proper; spells = h.spells })
    ]

no_nil_right : (xs ys : List ℕ) → (ys ≡ [] → ⊥) → xs ++ ys ≡ [] → ⊥
no_nil_right [] ys h e = h e
no_nil_right (x ∷ xs) ys h e = cc

no_cut_later : (n1 : ℕ) (t z : List ℕ) → ¬ IsCutShort n1 t → ¬ IsCutShort n1 (t ++ z)
no_cut_later n1 t z nc h = nc (record { frame = h.frame; octets = h.octets; missing = z ++ h.missing; text = h.text ∙ append_assoc t z h.missing; proper = no_nil_right z h.missing h.proper; spells = h.spells })

no_fill_later : (n1 : ℕ) (t z : List ℕ) → ¬ IsFill t → ¬ IsCutShort n1 t → ¬ IsFill (t ++ z)
no_fill_later n1 [] z nf nc h = nc (cut_none n1)
no_fill_later n1 (a ∷ t) z nf nc h = nf (record { later = t; text = ap (λ b. b ∷ t) (head_same a flag (t ++ z) h.later h.text) })

-- more octets change neither the frame nor where it ends
pub first_stays : FirstStays
first_stays n1 s _ z _ (fill _ t x f e r) = fill (s ++ z) (t ++ z) (x ++ z) f (after_flag-some s z (flag ∷ t) e) (first_stays n1 (flag ∷ t) x z f r)
first_stays n1 s _ z _ (first _ b x f e k) = first (s ++ z) b (x ++ z) f (after_flag-some s z (b ++ flag ∷ x) e ∙ ap Some (append_assoc b (flag ∷ x) z)) k
first_stays n1 s _ z _ (other _ t x f e nf nh nc r) =
    other (s ++ z) (t ++ z) (x ++ z) f (after_flag-some s z t e) (no_fill_later n1 t z nf nc) (no_frame_later n1 t z nh nc) (no_cut_later n1 t z nc) (first_stays n1 t x z f r)
