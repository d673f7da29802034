-- What a deframer has taken and handed out.
use Rattle.std.proofs.Common.{◌≡◌, ◌≢◌, ℕ, zero, suc, ◌+◌, ◌≤◌, ◌==◌, Bool, true, false, List, [], ◌∷◌, ◌++◌, Option, None, Some, length, take, drop, refl, if◌then◌else◌, sym, ap, subst, ◌∙◌, arith, append_assoc, length-append, lit<}
use Rattle.std.proofs.lemmas.Bool.{eqb-true}
use Rattle.std.proofs.lemmas.List.{append-nil}
use Rattle.mux_frame.specs.Frames.{Frame}
use Rattle.mux_frame.specs.Spelling.{flag, Indicates, short, long, most_info, Spells}
use Rattle.mux_frame.specs.Reading.{IsCutShort, Reads, no_flag, frame, cut_short}
use Rattle.mux_frame.specs.Judging.{Header, Verdict, unfinished, refused, fits, verdict_on, frame_at, Means}
use Rattle.mux_frame.specs.Deframing.{Deframing, decision_on, frame_in, next_in, IsNext, IsFront, AtHand, SameReading, Deframes, ReadsNext}
use Rattle.mux_frame.specs.Laws.{AreOctets}
use Rattle.mux_frame.specs.declared.frame.Kind.{Kind}
use Rattle.mux_frame.specs.declared.frame.Kind.TheVariants.{Sabm, Ua, Dm, Disc, Uih}
use Rattle.mux_frame.proofs.candidates.Verdicts.{verdict_means}
use Rattle.mux_frame.proofs.readings.TextReadings.{frame_cut}
use Rattle.mux_frame.proofs.readings.ComputedReadings.{refused_frame, total_reading, whole_later, octets_right}
use Rattle.mux_frame.proofs.Spellings.{one_spelling}
use Rattle.mux_frame.specs.Judged.{IsAtPlace}

-- The frame at hand.

at_hand-verdict : (n1 x : ℕ) (t : List ℕ) (v : Verdict) → x ≡ flag → Means n1 t v → v ≢ refused → AtHand n1 (x ∷ t) (frame_in (x ∷ t) v)
at_hand-verdict n1 x t unfinished e m d =
    let q : Reads n1 (flag ∷ t) [] (flag ∷ t) = cut_short (flag ∷ t) t refl m in
    subst (λ y. Reads n1 (y ∷ t) [] (y ∷ t)) (sym e) q
at_hand-verdict n1 x t refused e m d = absurd (d refl)
at_hand-verdict n1 x t (fits h) e m d = record { octets = m.octets; later = m.later; text = ap (λ y. y ∷ t) e ∙ ap (λ z. flag ∷ z) m.text; spells = m.spells }

at_hand-at : (n1 x : ℕ) (t : List ℕ) (b : Bool) → (x == flag) ≡ b → AreOctets t → (if b then verdict_on n1 t else refused) ≢ refused → AtHand n1 (x ∷ t) (frame_in (x ∷ t) (if b then verdict_on n1 t else refused))
at_hand-at n1 x t true e o d = at_hand-verdict n1 x t (verdict_on n1 t) (eqb-true x flag e) (verdict_means n1 t o) d
at_hand-at n1 x t false e o d = absurd (d refl)

-- what is decided has the frame at hand, or is all rest
pub at_hand : (n1 : ℕ) (u : List ℕ) → AreOctets u → decision_on n1 u ≢ refused → AtHand n1 u (next_in n1 u)
unfolding next_in
at_hand n1 [] o d = no_flag [] refl
at_hand n1 (x ∷ t) o d = at_hand-at n1 x t (x == flag) refl (λ i. o (suc i)) d

-- a text that begins with a frame between its flags has it at hand
pub record IsDecided (n1 : ℕ) (u : List ℕ) (f : Frame) : Type 0 where
  pub next : next_in n1 u ≡ Some f
  pub decided : decision_on n1 u ≢ refused

no_refusal : (h : Header) → fits h ≢ refused
no_refusal h e = cc

decided-verdict : (n1 : ℕ) (b later : List ℕ) (f : Frame) (v : Verdict) → Spells n1 b f → Means n1 (b ++ flag ∷ later) v → (frame_in (flag ∷ b ++ flag ∷ later) v ≡ Some f) × (v ≢ refused)
decided-verdict n1 b later f unfinished s m = absurd (frame_cut n1 (b ++ flag ∷ later) (record { frame = f; octets = b; later = later; text = refl; spells = s }) m)
decided-verdict n1 b later f refused s m = absurd (refused_frame n1 (b ++ flag ∷ later) m (record { frame = f; octets = b; later = later; text = refl; spells = s }))
decided-verdict n1 b later f (fits h) s m =
    let u = one_spelling n1 n1 m.octets b (flag ∷ m.later) (flag ∷ later) (frame_at h (b ++ flag ∷ later)) f m.spells s (sym m.text) in
    (ap Some u.1, no_refusal h)

-- so it is of every such text of octets
pub decided_next : (n1 : ℕ) (u : List ℕ) (f : Frame) → AreOctets u → IsNext n1 u f → IsDecided n1 u f
unfolding next_in
decided_next n1 u f o k =
    let w : List ℕ = flag ∷ k.octets ++ flag ∷ k.later in
    let p : AreOctets w = subst AreOctets k.text o in
    let r = decided-verdict n1 k.octets k.later f (verdict_on n1 (k.octets ++ flag ∷ k.later)) k.spells (verdict_means n1 (k.octets ++ flag ∷ k.later) (λ i. p (suc i))) in
    let d : IsDecided n1 w f = record { next = r.0; decided = r.1 } in
    subst (λ z. IsDecided n1 z f) (sym k.text) d

-- and the frame is the next with more octets behind the text too
pub is_next-append : (n1 : ℕ) (u x : List ℕ) (f : Frame) → IsNext n1 u f → IsNext n1 (u ++ x) f
is_next-append n1 u x f k = record { octets = k.octets; later = k.later ++ x; text = ap (λ z. z ++ x) k.text ∙ append_assoc (flag ∷ k.octets) (flag ∷ k.later) x; spells = k.spells }

none_some : (f : Frame) → None ≡ Some f → ⊥
none_some f e = cc

some_frame : (f g : Frame) → Some f ≡ Some g → f ≡ g
some_frame f g e = cc

at_hand_next : (n1 : ℕ) (u : List ℕ) (o : Option Frame) (f : Frame) → AtHand n1 u o → o ≡ Some f → IsNext n1 u f
at_hand_next n1 u None f h e = absurd (none_some f e)
at_hand_next n1 u (Some g) f h e = subst (IsNext n1 u) (some_frame g f e) h

-- more octets leave the frame at hand
pub next_stays : (n1 : ℕ) (u x : List ℕ) (f : Frame) → AreOctets u → AreOctets (u ++ x) → decision_on n1 u ≢ refused → next_in n1 u ≡ Some f → IsDecided n1 (u ++ x) f
next_stays n1 u x f o p d e = decided_next n1 (u ++ x) f p (is_next-append n1 u x f (at_hand_next n1 u (next_in n1 u) f (at_hand n1 u o d) e))

-- How many octets are undecided.

indicator_short : (xs : List ℕ) (n : ℕ) → Indicates xs n → length xs ≤ 2
indicator_short _ n (short _ h) = omega arith
indicator_short _ n (long _ h) = omega arith

most_info_le : (n1 : ℕ) (k : Kind) → most_info n1 k ≤ n1
most_info_le n1 Sabm = omega arith
most_info_le n1 Ua = omega arith
most_info_le n1 Dm = omega arith
most_info_le n1 Disc = omega arith
most_info_le n1 Uih = omega arith

-- a frame without its flags has N1 + 5 octets at most
pub spelling_short : (n1 : ℕ) (b : List ℕ) (f : Frame) → Spells n1 b f → length b ≤ n1 + 5
spelling_short n1 b f s =
    let e = simp length-append at (ap length s.octets) in
    let i = indicator_short s.indicator (length f.info) s.indicates in
    let m = most_info_le n1 f.kind in
    let r = s.room in
    omega (arith, e, i, m, r)

not_nil_long : (xs : List ℕ) → xs ≢ [] → 1 ≤ length xs
not_nil_long [] h = absurd (h refl)
not_nil_long (x ∷ xs) h = omega arith

cut_length : (n1 : ℕ) (t : List ℕ) → IsCutShort n1 t → length t ≤ n1 + 5
cut_length n1 t c =
    let e = simp length-append at (ap length c.text) in
    let l = spelling_short n1 c.octets c.frame c.spells in
    let m = not_nil_long c.missing c.proper in
    omega (arith, e, l, m)

undecided-verdict : (n1 x : ℕ) (t : List ℕ) (v : Verdict) → Means n1 t v → v ≢ refused → frame_in (x ∷ t) v ≡ None → length (x ∷ t) ≤ n1 + 6
undecided-verdict n1 x t unfinished m d e = let l = cut_length n1 t m in omega (arith, l)
undecided-verdict n1 x t refused m d e = absurd (d refl)
undecided-verdict n1 x t (fits h) m d e = absurd (none_some (frame_at h (drop 1 (x ∷ t))) (sym e))

undecided-at : (n1 x : ℕ) (t : List ℕ) (b : Bool) → AreOctets t → (if b then verdict_on n1 t else refused) ≢ refused → frame_in (x ∷ t) (if b then verdict_on n1 t else refused) ≡ None → length (x ∷ t) ≤ n1 + 6
undecided-at n1 x t true o d e = undecided-verdict n1 x t (verdict_on n1 t) (verdict_means n1 t o) d e
undecided-at n1 x t false o d e = absurd (d refl)

-- where no frame is at hand, a ring of N1 + 7 octets has room
pub undecided_short : (n1 : ℕ) (u : List ℕ) → AreOctets u → decision_on n1 u ≢ refused → next_in n1 u ≡ None → length u ≤ n1 + 6
unfolding next_in
undecided_short n1 [] o d e = omega arith
undecided_short n1 (x ∷ t) o d e = undecided-at n1 x t (x == flag) (λ i. o (suc i)) d e

-- Whole frames at the front.

front-at : (n1 x : ℕ) (t : List ℕ) (h : Header) (b : Bool) → (x == flag) ≡ b → AreOctets t → fits h ≡ (if b then verdict_on n1 t else refused) → IsFront n1 (x ∷ t) h
front-at n1 x t h true e o d = record { starts = ap (λ y. y ∷ t) (eqb-true x flag e); whole = subst (Means n1 t) (sym d) (verdict_means n1 t o) }
front-at n1 x t h false e o d = absurd (no_refusal h d)

no_unfinished : (h : Header) → fits h ≢ unfinished
no_unfinished h e = cc

-- octets that fit begin with a flag and the frame of their header
pub front_is : (n1 : ℕ) (u : List ℕ) (h : Header) → AreOctets u → fits h ≡ decision_on n1 u → IsFront n1 u h
front_is n1 [] h o d = absurd (no_unfinished h d)
front_is n1 (x ∷ t) h o d = front-at n1 x t h (x == flag) refl (λ i. o (suc i)) d

-- they are as many as that frame with both its flags has, or more
pub front_long : (n1 : ℕ) (u : List ℕ) (h : Header) → IsFront n1 u h → h.size + h.info_len + 3 ≤ length u
front_long n1 u h k =
    let a = ap length k.starts in
    let e = simp length-append at (ap length k.whole.text) in
    let l = k.whole.size in
    omega (arith, a, e, l)

-- and that frame is the next one
pub front_next : (n1 : ℕ) (u : List ℕ) (h : Header) → IsFront n1 u h → IsNext n1 u (frame_at h (drop 1 u))
front_next n1 u h k = record { octets = k.whole.octets; later = k.whole.later; text = k.starts ∙ ap (λ z. flag ∷ z) k.whole.text; spells = k.whole.spells }

-- what stands behind the frame, from its closing flag on
pub front_later : (n1 : ℕ) (u : List ℕ) (h : Header) (k : IsFront n1 u h) → drop (h.size + h.info_len + 2) u ≡ flag ∷ k.whole.later
front_later n1 u h k =
    let n : h.size + h.info_len + 2 ≡ suc (h.size + h.info_len + 1) = omega arith in
    ap (λ z. drop (h.size + h.info_len + 2) z) k.starts ∙ ap (λ i. drop i (flag ∷ drop 1 u)) n ∙ whole_later n1 (drop 1 u) h k.whole

-- the frame of a decision on octets is the one at hand in them
pub next_of : (n1 : ℕ) (u : List ℕ) (v : Verdict) → v ≡ decision_on n1 u → frame_in u v ≡ next_in n1 u
unfolding next_in
next_of n1 u v e = ap (frame_in u) e

-- Pasts.

-- nothing is taken yet
pub past_none : (n1 : ℕ) → Deframes [] [] (record { n1 = n1; undecided = []; next = None })
past_none n1 = record { reads = λ x gs rest r. r; at_hand = no_flag [] refl; octets = λ i. lit< tt }

-- octets are taken
pub past_fed : (n1 : ℕ) (taken x u v : List ℕ) (handed : List Frame) (o : Option Frame) → Deframes taken handed (record { n1 = n1; undecided = u; next = o }) → SameReading n1 (u ++ x) v → AreOctets v → decision_on n1 v ≢ refused → Deframes (taken ++ x) handed (record { n1 = n1; undecided = v; next = next_in n1 v })
past_fed n1 taken x u v handed o p s q d = record {
  reads = λ y gs rest r. subst (λ z. Reads n1 z (handed ++ gs) rest) (sym (append_assoc taken x y)) (p.reads (x ++ y) gs rest (subst (λ z. Reads n1 z gs rest) (append_assoc u x y) (s.reads y gs rest r)));
  at_hand = at_hand n1 v q d;
  octets = q;
}

-- the frame at hand is handed out
next_reads : (n1 : ℕ) (u y : List ℕ) (f : Frame) (gs : List Frame) (rest : List ℕ) (k : IsNext n1 u f) → Reads n1 ((flag ∷ k.later) ++ y) gs rest → Reads n1 (u ++ y) (f ∷ gs) rest
next_reads n1 u y f gs rest k r =
    let e : u ++ y ≡ flag ∷ (k.octets ++ flag ∷ (k.later ++ y)) = ap (λ z. z ++ y) k.text ∙ append_assoc (flag ∷ k.octets) (flag ∷ k.later) y in
    subst (λ z. Reads n1 z (f ∷ gs) rest) (sym e) (frame (flag ∷ (k.octets ++ flag ∷ (k.later ++ y))) k.octets (k.later ++ y) f gs rest refl k.spells r)

-- so it is where what is kept is read as its closing flag and what follows are
pub past_advanced : (n1 : ℕ) (taken u v : List ℕ) (handed : List Frame) (f : Frame) → Deframes taken handed (record { n1 = n1; undecided = u; next = Some f }) → (k : IsNext n1 u f) → SameReading n1 (flag ∷ k.later) v → AreOctets v → decision_on n1 v ≢ refused → Deframes taken (handed ++ f ∷ []) (record { n1 = n1; undecided = v; next = next_in n1 v })
past_advanced n1 taken u v handed f p k s q d = record {
  reads = λ y gs rest r. subst (λ z. Reads n1 (taken ++ y) z rest) (sym (append_assoc handed (f ∷ []) gs)) (p.reads y (f ∷ gs) rest (next_reads n1 u y f gs rest k (s.reads y gs rest r)));
  at_hand = at_hand n1 v q d;
  octets = q;
}

-- Octets of octets.

-- the first so many of octets are octets
pub octets-take : (n : ℕ) (xs : List ℕ) → AreOctets xs → AreOctets (take n xs)
octets-take zero xs o i = lit< tt
octets-take (suc n) [] o i = lit< tt
octets-take (suc n) (x ∷ xs) o zero = o 0
octets-take (suc n) (x ∷ xs) o (suc i) = octets-take n xs (λ j. o (suc j)) i

-- the frame of a header is handed out
pub past_taken : (n1 n : ℕ) (taken u v : List ℕ) (handed : List Frame) (h : Header) (f : Frame) → Deframes taken handed (record { n1 = n1; undecided = u; next = next_in n1 u }) → IsFront n1 u h → Some (frame_at h (drop 1 u)) ≡ next_in n1 u → next_in n1 u ≡ Some f → n ≡ h.size + h.info_len → SameReading n1 (drop (n + 2) u) v → AreOctets v → decision_on n1 v ≢ refused → Deframes taken (handed ++ f ∷ []) (record { n1 = n1; undecided = v; next = next_in n1 v })
unfolding front_next
past_taken n1 n taken u v handed h f p k e g m s o d =
    let q : Deframes taken handed (record { n1 = n1; undecided = u; next = Some (frame_at h (drop 1 u)) }) = subst (λ z. Deframes taken handed (record { n1 = n1; undecided = u; next = z })) (sym e) p in
    let r : SameReading n1 (flag ∷ k.whole.later) v = subst (λ z. SameReading n1 z v) (ap (λ i. drop (i + 2) u) m ∙ front_later n1 u h k) s in
    let same : frame_at h (drop 1 u) ≡ f = some_frame (frame_at h (drop 1 u)) f (e ∙ g) in
    subst (λ z. Deframes taken (handed ++ z ∷ []) (record { n1 = n1; undecided = v; next = next_in n1 v })) same (past_advanced n1 taken u v handed (frame_at h (drop 1 u)) q (front_next n1 u h k) r o d)

-- What is promised of every past.

at_hand_none : (n1 : ℕ) (u : List ℕ) (o : Option Frame) → AtHand n1 u o → o ≡ None → Reads n1 u [] u
at_hand_none n1 u None h e = h
at_hand_none n1 u (Some f) h e = absurd (none_some f (sym e))

-- where no frame is at hand, what was handed out is all that is read, and the undecided octets are the rest
pub past_all : (taken : List ℕ) (handed : List Frame) (d : Deframing) → Deframes taken handed d → d.next ≡ None → Reads d.n1 taken handed d.undecided
past_all taken handed d p e =
    let u : Reads d.n1 (d.undecided ++ []) [] d.undecided = subst (λ z. Reads d.n1 z [] d.undecided) (sym (append-nil d.undecided)) (at_hand_none d.n1 d.undecided d.next p.at_hand e) in
    subst (λ z. Reads d.n1 z handed d.undecided) (append-nil taken) (subst (λ z. Reads d.n1 (taken ++ []) z d.undecided) (append-nil handed) (p.reads [] [] d.undecided u))

-- the frame at hand is read after those that were handed out, and then more
pub past_next : (taken : List ℕ) (handed : List Frame) (d : Deframing) (f : Frame) → Deframes taken handed d → d.next ≡ Some f → ReadsNext d.n1 taken handed f
past_next taken handed d f p e =
    let k = at_hand_next d.n1 d.undecided d.next f p.at_hand e in
    let o : AreOctets (flag ∷ k.octets ++ flag ∷ k.later) = subst AreOctets k.text p.octets in
    let t = total_reading d.n1 (flag ∷ k.later) (octets_right (flag ∷ k.octets) (flag ∷ k.later) o) in
    let r : Reads d.n1 ((flag ∷ k.later) ++ []) t.frames t.rest = subst (λ z. Reads d.n1 z t.frames t.rest) (sym (append-nil (flag ∷ k.later))) t.reads in
    let all = p.reads [] (f ∷ t.frames) t.rest (next_reads d.n1 d.undecided [] f t.frames t.rest k r) in
    record { later = t.frames; rest = t.rest; reads = subst (λ z. Reads d.n1 z (handed ++ f ∷ t.frames) t.rest) (append-nil taken) all }

-- a frame that is whole at the front has its check octet at this place
pub at_place : (n1 place : ℕ) (u : List ℕ) (h : Header) → AreOctets u → fits h ≡ decision_on n1 u → place ≡ h.size + h.info_len → IsAtPlace n1 u place
at_place n1 place u h o e p =
    let k = front_is n1 u h o e in
    let l = front_long n1 u h k in
    record { header = h; decision = e; front = k; frame = next_of n1 u (fits h) e; place_is = p; within = omega (arith, p, l) }
