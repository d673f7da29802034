-- Reading on.
use Rattle.std.proofs.Common.{◌≡◌, ◌≢◌, ◌⊎◌, inl, inr, ℕ, ◌==◌, Bool, true, false, List, [], ◌∷◌, ◌++◌, None, Some, refl, if◌then◌else◌, sym, subst, ap, ◌∙◌, arith, append_assoc}
use Rattle.std.proofs.lemmas.List.Elements.{All-head, All-tail}
use Rattle.mux_frame.specs.Frames.{Frame}
use Rattle.mux_frame.specs.Spelling.{flag, body_of, Spells, spelled}
use Rattle.mux_frame.specs.Laws.{HasSpelling, last_flag}
use Rattle.std.specs.Prelude.{flat_map, All}
use Rattle.mux_frame.specs.Reading.{after_flag, IsFill, HasFrame, IsCutShort, Reads, no_flag, fill, frame, cut_short, other}
use Rattle.mux_frame.proofs.Spellings.{head_same, tail_same, spells_body, spells_shortest}
use Rattle.mux_frame.specs.declared.frame.Kind.TheVariants.{Sabm}
use Rattle.mux_frame.proofs.readings.TextReadings.{some_same}

-- only what stands after the first flag matters
pub same_after : (n1 : ℕ) (s t : List ℕ) (fs : List Frame) (rest : List ℕ) → after_flag t ≡ after_flag s → Reads n1 s fs rest → Reads n1 t fs rest
same_after n1 _ t _ _ h (no_flag _ e) = no_flag t (h ∙ e)
same_after n1 _ t _ _ h (fill _ u fs rest e r) = fill t u fs rest (h ∙ e) r
same_after n1 _ t _ _ h (frame _ b x f fs rest e s r) = frame t b x f fs rest (h ∙ e) s r
same_after n1 _ t _ _ h (cut_short _ u e c) = cut_short t u (h ∙ e) c
same_after n1 _ t _ _ h (other _ u fs rest e nf nh nc r) = other t u fs rest (h ∙ e) nf nh nc r

after_flag-none-at : (b : Bool) (xs ys : List ℕ) → (if b then Some xs else after_flag xs) ≡ None → (after_flag xs ≡ None → after_flag (xs ++ ys) ≡ after_flag ys) → (if b then Some (xs ++ ys) else after_flag (xs ++ ys)) ≡ after_flag ys
after_flag-none-at true xs ys e h = cc
after_flag-none-at false xs ys e h = h e

-- where the first text has no flag, the first flag is that of the second
pub after_flag-none : (xs ys : List ℕ) → after_flag xs ≡ None → after_flag (xs ++ ys) ≡ after_flag ys
after_flag-none [] ys e = refl
after_flag-none (x ∷ xs) ys e = after_flag-none-at (x == flag) xs ys e (after_flag-none xs ys)

after_flag-some-at : (b : Bool) (xs ys t : List ℕ) → (if b then Some xs else after_flag xs) ≡ Some t → (after_flag xs ≡ Some t → after_flag (xs ++ ys) ≡ Some (t ++ ys)) → (if b then Some (xs ++ ys) else after_flag (xs ++ ys)) ≡ Some (t ++ ys)
after_flag-some-at true xs ys t e h = ap (λ z. Some (z ++ ys)) (some_same xs t e)
after_flag-some-at false xs ys t e h = h e

-- and where it has one, what follows it goes on with the second
pub after_flag-some : (xs ys t : List ℕ) → after_flag xs ≡ Some t → after_flag (xs ++ ys) ≡ Some (t ++ ys)
after_flag-some [] ys t e = cc
after_flag-some (x ∷ xs) ys t e = after_flag-some-at (x == flag) xs ys t e (after_flag-some xs ys t)

-- of two beginnings of one text, the second is a beginning of the first, or the first a proper one of the second
pub record Longer (t q : List ℕ) : Type 0 where
  pub later : List ℕ
  pub text : t ≡ q ++ later

pub record Shorter (t q : List ℕ) : Type 0 where
  pub missing : List ℕ
  pub text : q ≡ t ++ missing
  pub proper : missing ≢ []

no_nil : (x : ℕ) (xs : List ℕ) → (x ∷ xs) ≢ []
no_nil x xs e = cc

beginnings_next : (x y : ℕ) (t q : List ℕ) → x ≡ y → Longer t q ⊎ Shorter t q → Longer (x ∷ t) (y ∷ q) ⊎ Shorter (x ∷ t) (y ∷ q)
beginnings_next x y t q e (inl l) = inl (record { later = l.later; text = let h = l.text in cc })
beginnings_next x y t q e (inr s) = inr (record { missing = s.missing; text = let h = s.text in cc; proper = s.proper })

-- so it is of all beginnings of one text
pub beginnings : (t x q y : List ℕ) → t ++ x ≡ q ++ y → Longer t q ⊎ Shorter t q
beginnings [] x [] y e = inl (record { later = []; text = refl })
beginnings [] x (b ∷ q) y e = inr (record { missing = b ∷ q; text = refl; proper = no_nil b q })
beginnings (a ∷ t) x [] y e = inl (record { later = a ∷ t; text = refl })
beginnings (a ∷ t) x (b ∷ q) y e = beginnings_next a b t q (head_same a b (t ++ x) (q ++ y) e) (beginnings t x q y (tail_same a b (t ++ x) (q ++ y) e))

-- a text with more behind it has no frame, where it has none and is no beginning of one
no_frame-append : (n1 : ℕ) (t x : List ℕ) → ¬ HasFrame n1 t → ¬ IsCutShort n1 t → ¬ HasFrame n1 (t ++ x)
no_frame-append n1 t x nh nc h =
    let q = h.octets ++ flag ∷ [] in
    let e : t ++ x ≡ q ++ h.later = h.text ∙ sym (append_assoc h.octets (flag ∷ []) h.later) in
    elim (beginnings t x q h.later e) [
      | inl l ↦ nh (record { frame = h.frame; octets = h.octets; later = l.later; text = l.text ∙ append_assoc h.octets (flag ∷ []) l.later; spells = h.spells })
      | inr s ↦ nc (record { frame = h.frame; octets = h.octets; missing = s.missing; text = s.text; proper = s.proper; spells = h.spells })
    ]

no_nil_right : (xs ys : List ℕ) → ys ≢ [] → (xs ++ ys) ≢ []
no_nil_right [] ys h e = h e
no_nil_right (x ∷ xs) ys h e = cc

no_cut-append : (n1 : ℕ) (t x : List ℕ) → ¬ IsCutShort n1 t → ¬ IsCutShort n1 (t ++ x)
no_cut-append n1 t x nc h = nc (record { frame = h.frame; octets = h.octets; missing = x ++ h.missing; text = h.text ∙ append_assoc t x h.missing; proper = no_nil_right x h.missing h.proper; spells = h.spells })

no_fill-append : (n1 : ℕ) (t x : List ℕ) → IsCutShort n1 [] → ¬ IsFill t → ¬ IsCutShort n1 t → ¬ IsFill (t ++ x)
no_fill-append n1 [] x c nf nc h = nc c
no_fill-append n1 (a ∷ t) x c nf nc h = nf (record { later = t; text = ap (λ b. b ∷ t) (head_same a flag (t ++ x) h.later h.text) })

-- nothing is a beginning of a frame
pub cut_none : (n1 : ℕ) → IsCutShort n1 []
cut_none n1 =
    let f : Frame = record { dlci = 0; kind = Sabm; cr = true; pf = true; info = [] } in
    record { frame = f; octets = body_of f; missing = body_of f ++ flag ∷ []; text = refl; proper = no_nil_right (body_of f) (flag ∷ []) (no_nil flag []); spells = spells_body n1 f (omega arith) (omega arith) (omega arith) }

-- reading on from the rest
pub reads_on : (n1 : ℕ) (s x : List ℕ) (fs gs : List Frame) (rest last : List ℕ) → Reads n1 s fs rest → Reads n1 (rest ++ x) gs last → Reads n1 (s ++ x) (fs ++ gs) last
reads_on n1 s x _ gs _ last (no_flag _ e) r = same_after n1 x (s ++ x) gs last (after_flag-none s x e) r
reads_on n1 s x _ gs _ last (fill _ t fs rest e q) r = fill (s ++ x) (t ++ x) (fs ++ gs) last (after_flag-some s x (flag ∷ t) e) (reads_on n1 (flag ∷ t) x fs gs rest last q r)
reads_on n1 s x _ gs _ last (frame _ b y f fs rest e k q) r = frame (s ++ x) b (y ++ x) f (fs ++ gs) last (after_flag-some s x (b ++ flag ∷ y) e ∙ ap Some (append_assoc b (flag ∷ y) x)) k (reads_on n1 (flag ∷ y) x fs gs rest last q r)
reads_on n1 s x _ gs _ last (cut_short _ t e c) r = same_after n1 ((flag ∷ t) ++ x) (s ++ x) gs last (after_flag-some s x t e) r
reads_on n1 s x _ gs _ last (other _ t fs rest e nf nh nc q) r = other (s ++ x) (t ++ x) (fs ++ gs) last (after_flag-some s x t e) (no_fill-append n1 t x (cut_none n1) nf nc) (no_frame-append n1 t x nh nc) (no_cut-append n1 t x nc) (reads_on n1 t x fs gs rest last q r)

-- a frame between its flags is read, whatever follows
pub reads_written : (n1 : ℕ) (b x : List ℕ) (f : Frame) (fs : List Frame) (rest : List ℕ) → Spells n1 b f → Reads n1 (flag ∷ x) fs rest → Reads n1 (flag ∷ b ++ flag ∷ x) (f ∷ fs) rest
reads_written n1 b x f fs rest s r = frame (flag ∷ b ++ flag ∷ x) b x f fs rest refl s r

-- a frame that has a spelling is written in a spelling
body_spells : (n1 : ℕ) (f : Frame) → HasSpelling n1 f → Spells n1 (body_of f) f
body_spells n1 f h = (spells_shortest n1 h.octets f h.spells).0

reads_flag : (n1 : ℕ) (s : List ℕ) (fs : List Frame) (rest : List ℕ) → Reads n1 (flag ∷ s) fs rest → Reads n1 (flag ∷ flag ∷ s) fs rest
reads_flag n1 s fs rest r = fill (flag ∷ flag ∷ s) s fs rest refl r

-- frames after a flag
after_a_flag : (n1 : ℕ) (fs : List Frame) → All (HasSpelling n1) fs → Reads n1 (flag ∷ flat_map spelled fs) fs (flag ∷ [])
after_a_flag n1 [] h = cut_short (flag ∷ []) [] refl (cut_none n1)
after_a_flag n1 (f ∷ fs) h =
    let r = reads_written n1 (body_of f) (flat_map spelled fs) f fs (flag ∷ []) (body_spells n1 f (All-head (HasSpelling n1) f fs h)) (after_a_flag n1 fs (All-tail (HasSpelling n1) f fs h)) in
    let e : (flag ∷ body_of f ++ flag ∷ flat_map spelled fs) ≡ (flag ∷ body_of f ++ flag ∷ []) ++ flat_map spelled fs = sym (append_assoc (flag ∷ body_of f) (flag ∷ []) (flat_map spelled fs)) in
    reads_flag n1 _ (f ∷ fs) (flag ∷ []) (subst (λ z. Reads n1 z (f ∷ fs) (flag ∷ [])) e r)

-- frames that are written one after the other are read as those frames
pub reads_spelled : (n1 : ℕ) (fs : List Frame) → All (HasSpelling n1) fs → Reads n1 (flat_map spelled fs) fs (last_flag fs)
reads_spelled n1 [] h = no_flag [] refl
reads_spelled n1 (f ∷ fs) h =
    let r = reads_written n1 (body_of f) (flat_map spelled fs) f fs (flag ∷ []) (body_spells n1 f (All-head (HasSpelling n1) f fs h)) (after_a_flag n1 fs (All-tail (HasSpelling n1) f fs h)) in
    let e : (flag ∷ body_of f ++ flag ∷ flat_map spelled fs) ≡ (flag ∷ body_of f ++ flag ∷ []) ++ flat_map spelled fs = sym (append_assoc (flag ∷ body_of f) (flag ∷ []) (flat_map spelled fs)) in
    subst (λ z. Reads n1 z (f ∷ fs) (flag ∷ [])) e r
