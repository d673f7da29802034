-- Readings.
use Rattle.std.proofs.Common.{◌≡◌, ℕ, ◌+◌, ◌*◌, ◌<◌, Bool, true, false, List, [], ◌∷◌, ◌++◌, None, Some, refl, if◌then◌else◌, sym, ap, subst, ◌∙◌, arith, append_assoc}
use Rattle.mux_frame.specs.Frames.{Frame}
use Rattle.mux_frame.specs.Spelling.{flag, Spells}
use Rattle.mux_frame.specs.Reading.{after_flag, IsFill, HasFrame, IsCutShort, Reads, no_flag, fill, frame, cut_short, other}
use Rattle.mux_frame.proofs.Spellings.{one_spelling, head_same, tail_same}

-- given as the same, two texts are the same
pub some_same : (xs ys : List ℕ) → Some xs ≡ Some ys → xs ≡ ys
some_same xs ys e = cc

address_no_flag : (c : Bool) (d : ℕ) → d < 62 → 1 + (if c then 2 else 0) + 4 * d ≡ flag → ⊥
address_no_flag true d h e = omega arith
address_no_flag false d h e = omega arith

-- no frame begins with a flag
starts : (n1 : ℕ) (b x y : List ℕ) (f : Frame) → Spells n1 b f → b ++ x ≡ flag ∷ y → ⊥
starts n1 b x y f s e =
    let k = sym (ap (λ z. z ++ x) s.octets) ∙ e in
    address_no_flag f.cr f.dlci s.dlci (head_same _ flag _ y k)

nil_right : (xs ys : List ℕ) → [] ≡ xs ++ ys → ys ≡ []
nil_right [] ys e = sym e
nil_right (x ∷ xs) ys e = cc

-- a text that begins with a flag begins with no frame
pub fill_frame : (n1 : ℕ) (t : List ℕ) → IsFill t → HasFrame n1 t → ⊥
fill_frame n1 t h k = starts n1 k.octets (flag ∷ k.later) h.later k.frame k.spells (sym k.text ∙ h.text)

-- nor is it a proper beginning of one
pub fill_cut : (n1 : ℕ) (t : List ℕ) → IsFill t → IsCutShort n1 t → ⊥
fill_cut n1 t h k = starts n1 k.octets (flag ∷ []) (h.later ++ k.missing) k.frame k.spells (k.text ∙ ap (λ z. z ++ k.missing) h.text)

-- and no text that begins with a frame and its flag is a proper beginning of one
pub frame_cut : (n1 : ℕ) (t : List ℕ) → HasFrame n1 t → IsCutShort n1 t → ⊥
frame_cut n1 t h k =
    let e : k.octets ++ flag ∷ [] ≡ h.octets ++ (flag ∷ (h.later ++ k.missing)) = k.text ∙ ap (λ z. z ++ k.missing) h.text ∙ append_assoc h.octets (flag ∷ h.later) k.missing in
    let u = one_spelling n1 n1 k.octets h.octets (flag ∷ []) (flag ∷ (h.later ++ k.missing)) k.frame h.frame k.spells h.spells e in
    k.proper (nil_right h.later k.missing (tail_same flag flag [] (h.later ++ k.missing) u.2))

none_some : (s t : List ℕ) → after_flag s ≡ None → after_flag s ≡ Some t → ⊥
none_some s t e h = cc

same_text : (n1 : ℕ) (s t : List ℕ) (fs : List Frame) (rest : List ℕ) → s ≡ t → Reads n1 s fs rest → Reads n1 t fs rest
same_text n1 s t fs rest e r = subst (λ z. Reads n1 z fs rest) e r

both_same : (f g : Frame) (fs gs : List Frame) → f ≡ g → fs ≡ gs → f ∷ fs ≡ g ∷ gs
both_same f g fs gs e h = cc

-- a text has one reading
pub one_reading : (n1 : ℕ) (s : List ℕ) (fs gs : List Frame) (rest last : List ℕ) → Reads n1 s fs rest → Reads n1 s gs last → (fs ≡ gs) × (rest ≡ last)
one_reading n1 s _ _ _ _ (no_flag _ e1) (no_flag _ e2) = (refl, refl)
one_reading n1 s _ _ _ _ (no_flag _ e1) (fill _ t2 _ _ e2 r2) = absurd (none_some s _ e1 e2)
one_reading n1 s _ _ _ _ (no_flag _ e1) (frame _ b2 x2 f2 fs2 _ e2 s2 r2) = absurd (none_some s _ e1 e2)
one_reading n1 s _ _ _ _ (no_flag _ e1) (cut_short _ t2 e2 c2) = absurd (none_some s _ e1 e2)
one_reading n1 s _ _ _ _ (no_flag _ e1) (other _ t2 _ _ e2 nf2 nh2 nc2 r2) = absurd (none_some s _ e1 e2)
one_reading n1 s _ _ _ _ (fill _ t1 _ _ e1 r1) (no_flag _ e2) = absurd (none_some s _ e2 e1)
one_reading n1 s _ _ _ _ (fill _ t1 _ _ e1 r1) (fill _ t2 _ _ e2 r2) = one_reading n1 (flag ∷ t1) _ _ _ _ r1 (same_text n1 (flag ∷ t2) (flag ∷ t1) _ _ (sym (some_same (flag ∷ t1) (flag ∷ t2) (sym e1 ∙ e2))) r2)
one_reading n1 s _ _ _ _ (fill _ t1 _ _ e1 r1) (frame _ b2 x2 f2 fs2 _ e2 s2 r2) = absurd (fill_frame n1 (flag ∷ t1) (record { later = t1; text = refl }) (subst (HasFrame n1) (sym (some_same (flag ∷ t1) (b2 ++ flag ∷ x2) (sym e1 ∙ e2))) (record { frame = f2; octets = b2; later = x2; text = refl; spells = s2 })))
one_reading n1 s _ _ _ _ (fill _ t1 _ _ e1 r1) (cut_short _ t2 e2 c2) = absurd (fill_cut n1 (flag ∷ t1) (record { later = t1; text = refl }) (subst (IsCutShort n1) (sym (some_same (flag ∷ t1) t2 (sym e1 ∙ e2))) c2))
one_reading n1 s _ _ _ _ (fill _ t1 _ _ e1 r1) (other _ t2 _ _ e2 nf2 nh2 nc2 r2) = absurd (nf2 (subst IsFill (some_same (flag ∷ t1) t2 (sym e1 ∙ e2)) (record { later = t1; text = refl })))
one_reading n1 s _ _ _ _ (frame _ b1 x1 f1 fs1 _ e1 s1 r1) (no_flag _ e2) = absurd (none_some s _ e2 e1)
one_reading n1 s _ _ _ _ (frame _ b1 x1 f1 fs1 _ e1 s1 r1) (fill _ t2 _ _ e2 r2) = absurd (fill_frame n1 (b1 ++ flag ∷ x1) (subst IsFill (sym (some_same (b1 ++ flag ∷ x1) (flag ∷ t2) (sym e1 ∙ e2))) (record { later = t2; text = refl })) (record { frame = f1; octets = b1; later = x1; text = refl; spells = s1 }))
one_reading n1 s _ _ _ _ (frame _ b1 x1 f1 fs1 _ e1 s1 r1) (frame _ b2 x2 f2 fs2 _ e2 s2 r2) =
    let u = one_spelling n1 n1 b1 b2 (flag ∷ x1) (flag ∷ x2) f1 f2 s1 s2 (some_same (b1 ++ flag ∷ x1) (b2 ++ flag ∷ x2) (sym e1 ∙ e2)) in
    let r = one_reading n1 (flag ∷ x1) _ _ _ _ r1 (same_text n1 (flag ∷ x2) (flag ∷ x1) _ _ (sym u.2) r2) in
    (both_same f1 f2 fs1 fs2 u.1 r.0, r.1)
one_reading n1 s _ _ _ _ (frame _ b1 x1 f1 fs1 _ e1 s1 r1) (cut_short _ t2 e2 c2) = absurd (frame_cut n1 (b1 ++ flag ∷ x1) (record { frame = f1; octets = b1; later = x1; text = refl; spells = s1 }) (subst (IsCutShort n1) (sym (some_same (b1 ++ flag ∷ x1) t2 (sym e1 ∙ e2))) c2))
one_reading n1 s _ _ _ _ (frame _ b1 x1 f1 fs1 _ e1 s1 r1) (other _ t2 _ _ e2 nf2 nh2 nc2 r2) = absurd (nh2 (subst (HasFrame n1) (some_same (b1 ++ flag ∷ x1) t2 (sym e1 ∙ e2)) (record { frame = f1; octets = b1; later = x1; text = refl; spells = s1 })))
one_reading n1 s _ _ _ _ (cut_short _ t1 e1 c1) (no_flag _ e2) = absurd (none_some s _ e2 e1)
one_reading n1 s _ _ _ _ (cut_short _ t1 e1 c1) (fill _ t2 _ _ e2 r2) = absurd (fill_cut n1 t1 (subst IsFill (sym (some_same t1 (flag ∷ t2) (sym e1 ∙ e2))) (record { later = t2; text = refl })) c1)
one_reading n1 s _ _ _ _ (cut_short _ t1 e1 c1) (frame _ b2 x2 f2 fs2 _ e2 s2 r2) = absurd (frame_cut n1 t1 (subst (HasFrame n1) (sym (some_same t1 (b2 ++ flag ∷ x2) (sym e1 ∙ e2))) (record { frame = f2; octets = b2; later = x2; text = refl; spells = s2 })) c1)
one_reading n1 s _ _ _ _ (cut_short _ t1 e1 c1) (cut_short _ t2 e2 c2) = (refl, ap (λ t. flag ∷ t) (some_same t1 t2 (sym e1 ∙ e2)))
one_reading n1 s _ _ _ _ (cut_short _ t1 e1 c1) (other _ t2 _ _ e2 nf2 nh2 nc2 r2) = absurd (nc2 (subst (IsCutShort n1) (some_same t1 t2 (sym e1 ∙ e2)) c1))
one_reading n1 s _ _ _ _ (other _ t1 _ _ e1 nf1 nh1 nc1 r1) (no_flag _ e2) = absurd (none_some s _ e2 e1)
one_reading n1 s _ _ _ _ (other _ t1 _ _ e1 nf1 nh1 nc1 r1) (fill _ t2 _ _ e2 r2) = absurd (nf1 (subst IsFill (sym (some_same t1 (flag ∷ t2) (sym e1 ∙ e2))) (record { later = t2; text = refl })))
one_reading n1 s _ _ _ _ (other _ t1 _ _ e1 nf1 nh1 nc1 r1) (frame _ b2 x2 f2 fs2 _ e2 s2 r2) = absurd (nh1 (subst (HasFrame n1) (sym (some_same t1 (b2 ++ flag ∷ x2) (sym e1 ∙ e2))) (record { frame = f2; octets = b2; later = x2; text = refl; spells = s2 })))
one_reading n1 s _ _ _ _ (other _ t1 _ _ e1 nf1 nh1 nc1 r1) (cut_short _ t2 e2 c2) = absurd (nc1 (subst (IsCutShort n1) (sym (some_same t1 t2 (sym e1 ∙ e2))) c2))
one_reading n1 s _ _ _ _ (other _ t1 _ _ e1 nf1 nh1 nc1 r1) (other _ t2 _ _ e2 nf2 nh2 nc2 r2) = one_reading n1 t1 _ _ _ _ r1 (same_text n1 t2 t1 _ _ (sym (some_same t1 t2 (sym e1 ∙ e2))) r2)
