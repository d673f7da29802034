-- Where the first frame of a text stands.
use Rattle.std.specs.Prelude.{◌≡◌, ◌≢◌, ℕ, zero, suc, ◌+◌, ◌-◌, ◌<◌, ◌≤◌, ◌==◌, nat_le, ◌⊎◌, Bool, true, false, List, [], ◌∷◌, ◌++◌, Some, take, drop, length, refl, if◌then◌else◌}
use Rattle.std.proofs.Common.{inl, inr, arith, ap, sym, ◌∙◌, append_assoc, length-append, subst}
use Rattle.std.proofs.lemmas.Bool.{eqb-true, eqb-false}
use Rattle.std.proofs.lemmas.Bool.Decides.{nat_tests}
use Rattle.std.proofs.lemmas.List.{length-take-le, nil_from_length, take-append-drop, take_all}
use Rattle.mux_frame.specs.Frames.{Frame}
use Rattle.mux_frame.specs.Laws.{AreOctets}
use Rattle.mux_frame.specs.Reading.{after_flag, IsFill, IsCutShort, Reads, no_flag, fill, frame, cut_short, other}
use Rattle.mux_frame.specs.CheckOctet.{check_octet_of}
use Rattle.mux_frame.specs.Spelling.{flag, Indicates, Spells, header, long, short}
use Rattle.mux_frame.specs.Judging.{Header, Verdict, unfinished, refused, fits, verdict_on, frame_at, IsRefused, IsWhole, Means}
use Rattle.mux_frame.proofs.Spellings.{head_same, tail_same}
use Rattle.mux_frame.proofs.candidates.Verdicts.{verdict_means}
use Rattle.mux_frame.proofs.readings.TextReadings.{fill_cut, frame_cut, one_reading, some_same}
use Rattle.mux_frame.proofs.readings.LaterTexts.{cut_none, same_after}
use Rattle.mux_frame.proofs.readings.ComputedReadings.{after_shorter, refused_cut, refused_frame, refused_reads, total_reading}
use Rattle.mux_capture.specs.FirstFrame as first_frame
use Rattle.mux_capture.specs.FirstFrame.{ReadsFirst}
use Rattle.mux_capture.specs.declared.finding.Front.{Front}
use Rattle.mux_capture.specs.declared.finding.Front.TheVariants as the_front
use Rattle.mux_capture.specs.FrontFrames.{IsFrameText, IsFront, PassesOver, can_fill}

-- ## Lengths

-- the rest is no longer than the text
rest_short : (n1 : ℕ) (s : List ℕ) (fs : List Frame) (rest : List ℕ) → Reads n1 s fs rest → length rest ≤ length s
rest_short n1 s _ _ (no_flag _ e) = omega arith
rest_short n1 s _ _ (fill _ t fs rest e r) =
    let less = after_shorter s (flag ∷ t) e in let more = rest_short n1 (flag ∷ t) fs rest r in omega (arith, less, more)
rest_short n1 s _ _ (frame _ b x f fs rest e k r) =
    let less = after_shorter s (b ++ flag ∷ x) e in
    let more = rest_short n1 (flag ∷ x) fs rest r in
    let part : length (b ++ flag ∷ x) ≡ length b + length (flag ∷ x) = length-append b (flag ∷ x) in
    omega (arith, less, more, part)
rest_short n1 s _ _ (cut_short _ t e c) = let less = after_shorter s t e in omega (arith, less)
rest_short n1 s _ _ (other _ t fs rest e nf nh nc r) =
    let less = after_shorter s t e in let more = rest_short n1 t fs rest r in omega (arith, less, more)

-- a beginning of a frame behind a flag
record IsBegun (n1 : ℕ) (s : List ℕ) : Type 0 where
  text : List ℕ
  is : s ≡ flag ∷ text
  cut : IsCutShort n1 text

-- the text behind the first flag is all but one octet
flag_first-at : (x : ℕ) (xs t : List ℕ) (b : Bool) → (x == flag) ≡ b → (if b then Some xs else after_flag xs) ≡ Some t → suc (length t) ≡ length (x ∷ xs) → x ∷ xs ≡ flag ∷ t
flag_first-at x xs t true is e size = ap (λ y. y ∷ xs) (eqb-true x flag is) ∙ ap (λ l. flag ∷ l) (some_same xs t e)
flag_first-at x xs t false is e size = absurd (let less = after_shorter xs t e in omega (arith, less, size))

flag_first : (s t : List ℕ) → after_flag s ≡ Some t → suc (length t) ≡ length s → s ≡ flag ∷ t
flag_first [] t e size = absurd (omega (arith, size))
flag_first (x ∷ xs) t e size = flag_first-at x xs t (x == flag) refl e size

-- all of the text is its rest
all_rest : (n1 : ℕ) (s : List ℕ) (fs : List Frame) (rest : List ℕ) → Reads n1 s fs rest → length rest ≡ length s → (s ≡ []) ⊎ IsBegun n1 s
all_rest n1 s _ _ (no_flag _ e) size = inl (nil_from_length s (omega (arith, size)))
all_rest n1 s _ _ (fill _ t fs rest e r) size =
    absurd (let less = after_shorter s (flag ∷ t) e in let more = rest_short n1 (flag ∷ t) fs rest r in omega (arith, less, more, size))
all_rest n1 s _ _ (frame _ b x f fs rest e k r) size =
    absurd (let less = after_shorter s (b ++ flag ∷ x) e in
    let more = rest_short n1 (flag ∷ x) fs rest r in
    let part : length (b ++ flag ∷ x) ≡ length b + length (flag ∷ x) = length-append b (flag ∷ x) in
    omega (arith, less, more, part, size))
all_rest n1 s _ _ (cut_short _ t e c) size = inr (record { text = t; is = flag_first s t e (omega (arith, size)); cut = c })
all_rest n1 s _ _ (other _ t fs rest e nf nh nc r) size =
    absurd (let less = after_shorter s t e in let more = rest_short n1 t fs rest r in omega (arith, less, more, size))

-- a text of which nothing is decided
undecided : (n1 : ℕ) (s : List ℕ) → Reads n1 s [] s → (s ≡ []) ⊎ IsBegun n1 s
undecided n1 s reads = all_rest n1 s [] s reads refl

-- where a text is read so that all of it is left it can become a frame
pub begins : (n1 : ℕ) (s : List ℕ) (fs : List Frame) (rest : List ℕ) → Reads n1 s fs rest → length rest ≡ length s → Reads n1 s [] s
begins n1 s fs rest reads size = by_case (all_rest n1 s fs rest reads size)
  where
    by_case : (s ≡ []) ⊎ IsBegun n1 s → Reads n1 s [] s
    by_case (inl none) = subst (λ (l : List ℕ). Reads n1 l [] l) (sym none) (no_flag [] refl)
    by_case (inr begun) = subst (λ (l : List ℕ). Reads n1 l [] l) (sym begun.is) (cut_short (flag ∷ begun.text) begun.text refl begun.cut)

-- a length takes one octet or two
indicator_size : (indicator : List ℕ) (n : ℕ) → Indicates indicator n → (1 ≤ length indicator) × (length indicator ≤ 2)
indicator_size _ _ (short n small) = (omega arith, omega arith)
indicator_size _ _ (long n small) = (omega arith, omega arith)

-- how many octets a frame has beside its information and its flags
pub spelled_size : (n1 : ℕ) (b : List ℕ) (f : Frame) → Spells n1 b f → (length f.info + 4 ≤ length b) × (length b ≤ length f.info + 5)
spelled_size n1 b f s =
    let check = check_octet_of (header f s.indicator) in
    let whole : length b ≡ length (header f s.indicator ++ f.info) + 1 = ap length s.octets ∙ length-append (header f s.indicator ++ f.info) (check ∷ []) in
    let front : length (header f s.indicator ++ f.info) ≡ length (header f s.indicator) + length f.info = length-append (header f s.indicator) f.info in
    let indicator = indicator_size s.indicator (length f.info) s.indicates in
    (omega (arith, whole, front, indicator.0), omega (arith, whole, front, indicator.1))

-- a frame that is read is within the text
first_size : (n1 : ℕ) (s : List ℕ) (f : Frame) (fs gs : List Frame) (rest : List ℕ) → gs ≡ f ∷ fs → Reads n1 s gs rest → length f.info + 6 ≤ length s
first_size n1 s f fs _ _ is (no_flag _ e) = absurd (cc)
first_size n1 s f fs _ _ is (fill _ t gs rest e r) =
    let less = after_shorter s (flag ∷ t) e in let more = first_size n1 (flag ∷ t) f fs gs rest is r in omega (arith, less, more)
first_size n1 s f fs _ _ is (frame _ b x g gs rest e k r) =
    let less = after_shorter s (b ++ flag ∷ x) e in
    let size = (spelled_size n1 b g k).0 in
    let same : length g.info ≡ length f.info = ap (λ (h : Frame). length h.info) (frame_same g f gs fs is) in
    let part : length (b ++ flag ∷ x) ≡ length b + length (flag ∷ x) = length-append b (flag ∷ x) in
    omega (arith, less, size, same, part)
  where
    frame_same : (g f : Frame) (gs fs : List Frame) → g ∷ gs ≡ f ∷ fs → g ≡ f
    frame_same g f gs fs e = cc
first_size n1 s f fs _ _ is (cut_short _ t e c) = absurd (cc)
first_size n1 s f fs _ _ is (other _ t gs rest e nf nh nc r) =
    let less = after_shorter s t e in let more = first_size n1 t f fs gs rest is r in omega (arith, less, more)

-- ## A text without its last octet

record Within (xs ys : List ℕ) (d : ℕ) : Type 0 where
  later : List ℕ
  is : xs ≡ ys ++ d ∷ later

nothing_joined : (c d : ℕ) (y : ℕ) (ys zs : List ℕ) → c ∷ [] ≡ y ∷ ys ++ d ∷ zs → ⊥
nothing_joined c d y ys zs e =
    let size : 1 ≡ length (y ∷ ys ++ d ∷ zs) = ap length e in
    let part = length-append ys (d ∷ zs) in
    omega (arith, size, part)

-- what stands behind an octet is nothing, or the octet stands in the text without its last one
last_cases : (xs ys zs : List ℕ) (c d : ℕ) → xs ++ c ∷ [] ≡ ys ++ d ∷ zs → (zs ≡ []) ⊎ Within xs ys d
last_cases [] [] zs c d e = inl (sym (tail_same c d [] zs e))
last_cases (x ∷ xs) [] zs c d e = inr (record { later = xs; is = ap (λ y. y ∷ xs) (head_same x d (xs ++ c ∷ []) zs e) })
last_cases [] (y ∷ ys) zs c d e = absurd (nothing_joined c d y ys zs e)
last_cases (x ∷ xs) (y ∷ ys) zs c d e = on (last_cases xs ys zs c d (tail_same x y (xs ++ c ∷ []) (ys ++ d ∷ zs) e))
  where
    on : (zs ≡ []) ⊎ Within xs ys d → (zs ≡ []) ⊎ Within (x ∷ xs) (y ∷ ys) d
    on (inl none) = inl none
    on (inr within) = inr (record { later = within.later; is = ap (λ z. z ∷ xs) (head_same x y (xs ++ c ∷ []) (ys ++ d ∷ zs) e) ∙ ap (λ l. y ∷ l) within.is })

no_octets : (b x : List ℕ) → [] ≡ b ++ flag ∷ x → ⊥
no_octets [] x e = cc
no_octets (y ∷ b) x e = cc

-- a frame in a text that was undecided before its last octet ends with that
ends_last : (n1 : ℕ) (front t : List ℕ) (c : ℕ) (h : Header) → front ++ c ∷ [] ≡ flag ∷ t → Reads n1 front [] front → (w : IsWhole n1 t h) → w.later ≡ []
ends_last n1 front t c h joins reads w = by_case (undecided n1 front reads)
  where
    by_front : (begun : IsBegun n1 front) → (w.later ≡ []) ⊎ Within begun.text w.octets flag → w.later ≡ []
    by_front begun (inl none) = none
    by_front begun (inr within) = absurd (frame_cut n1 begun.text (record { frame = frame_at h t; octets = w.octets; later = within.later; text = within.is; spells = w.spells }) begun.cut)

    by_case : (front ≡ []) ⊎ IsBegun n1 front → w.later ≡ []
    by_case (inl none) =
        let nothing : [] ≡ t = tail_same c flag [] t (sym (ap (λ (l : List ℕ). l ++ c ∷ []) none) ∙ joins) in
        absurd (no_octets w.octets w.later (nothing ∙ w.text))
    by_case (inr begun) =
        let text : begun.text ++ c ∷ [] ≡ t = tail_same flag flag (begun.text ++ c ∷ []) t (sym (ap (λ (l : List ℕ). l ++ c ∷ []) begun.is) ∙ joins) in
        by_front begun (last_cases begun.text w.octets w.later c flag (text ∙ w.text))

-- ## Octets that begin no frame

first_same_after : (n1 : ℕ) (s t x : List ℕ) (f : Frame) → after_flag t ≡ after_flag s → ReadsFirst n1 s f x → ReadsFirst n1 t f x
first_same_after n1 _ t _ _ h (first_frame.fill _ u x f e r) = first_frame.fill t u x f (h ∙ e) r
first_same_after n1 _ t _ _ h (first_frame.first _ b x f e k) = first_frame.first t b x f (h ∙ e) k
first_same_after n1 _ t _ _ h (first_frame.other _ u x f e nf nh nc r) = first_frame.other t u x f (h ∙ e) nf nh nc r

-- an octet that is no flag
no_flag_passes : (n1 x : ℕ) (t : List ℕ) → (x == flag) ≡ false → PassesOver n1 (x ∷ t) t
no_flag_passes n1 x t is = record {
  no_longer = omega arith;
  first = λ z y f reads. first_same_after n1 (t ++ z) (x ∷ (t ++ z)) y f (same z) reads;
  none = λ z rest reads. same_after n1 (t ++ z) (x ∷ (t ++ z)) [] rest (same z) reads;
}
  where
    same : (z : List ℕ) → after_flag (x ∷ (t ++ z)) ≡ after_flag (t ++ z)
    same z = ap (λ b. if b then Some (t ++ z) else after_flag (t ++ z)) is

refused_later : (n1 : ℕ) (t z : List ℕ) → IsRefused n1 t → IsRefused n1 (t ++ z)
refused_later n1 t z r b x y f spells e = r b x (z ++ y) f spells (e ∙ append_assoc t z y)

no_fill : IsFill [] → ⊥
no_fill f = let e = f.text in cc

refused_first-at : (n1 y : ℕ) (s t x : List ℕ) (f : Frame) (b : Bool) → (y == flag) ≡ b → after_flag s ≡ Some (y ∷ t) → IsRefused n1 (y ∷ t) → ReadsFirst n1 (y ∷ t) f x → ReadsFirst n1 s f x
refused_first-at n1 y s t x f true e h r q =
    let same : y ≡ flag = eqb-true y flag e in
    first_frame.fill s t x f (h ∙ ap (λ z. Some (z ∷ t)) same) (subst (λ z. ReadsFirst n1 (z ∷ t) f x) same q)
refused_first-at n1 y s t x f false e h r q =
    first_frame.other s (y ∷ t) x f h (λ g. eqb-false y flag e (head_same y flag t g.later g.text)) (refused_frame n1 (y ∷ t) r) (refused_cut n1 (y ∷ t) r) q

refused_first : (n1 : ℕ) (s t x : List ℕ) (f : Frame) → after_flag s ≡ Some t → IsRefused n1 t → ReadsFirst n1 t f x → ReadsFirst n1 s f x
refused_first n1 s [] x f h r q = first_frame.other s [] x f h no_fill (refused_frame n1 [] r) (refused_cut n1 [] r) q
refused_first n1 s (y ∷ t) x f h r q = refused_first-at n1 y s t x f (y == flag) refl h r q

-- a flag behind which no frame begins
refused_passes : (n1 : ℕ) (t : List ℕ) → IsRefused n1 t → PassesOver n1 (flag ∷ t) t
refused_passes n1 t r = record {
  no_longer = omega arith;
  first = λ z x f reads. refused_first n1 (flag ∷ (t ++ z)) (t ++ z) x f refl (refused_later n1 t z r) reads;
  none = λ z rest reads. refused_reads n1 (flag ∷ (t ++ z)) (t ++ z) [] rest refl (refused_later n1 t z r) reads;
}

-- ## What is judged

octets_tail : (x : ℕ) (t : List ℕ) → AreOctets (x ∷ t) → AreOctets t
octets_tail x t octets i = octets (suc i)

-- the frame of a text, and nothing behind it
whole_reads : (n1 : ℕ) (t : List ℕ) (h : Header) → (w : IsWhole n1 t h) → w.later ≡ [] → Reads n1 (flag ∷ t) (frame_at h t ∷ []) (flag ∷ [])
whole_reads n1 t h w none =
    frame (flag ∷ t) w.octets [] (frame_at h t) [] (flag ∷ []) (ap Some (w.text ∙ ap (λ l. w.octets ++ flag ∷ l) none)) w.spells (cut_short (flag ∷ []) [] refl (cut_none n1))

whole_size : (n1 : ℕ) (t : List ℕ) (h : Header) → (w : IsWhole n1 t h) → w.later ≡ [] → length (flag ∷ t) ≤ length (frame_at h t).info + 7
whole_size n1 t h w none =
    let size : length t ≡ length w.octets + 1 = ap length (w.text ∙ ap (λ l. w.octets ++ flag ∷ l) none) ∙ length-append w.octets (flag ∷ []) in
    let most = (spelled_size n1 w.octets (frame_at h t) w.spells).1 in
    omega (arith, size, most)

-- the first frame isn't as long as the text
abbrev IsLongerThan : List Frame → List ℕ → Type 0
IsLongerThan fs u = (f : Frame) (gs : List Frame) → fs ≡ f ∷ gs → length f.info + 7 < length u

other_flag : (n1 : ℕ) (front t : List ℕ) (c : ℕ) (fs : List Frame) (rest : List ℕ) (v : Verdict) → Means n1 t v → front ++ c ∷ [] ≡ flag ∷ t → Reads n1 front [] front → Reads n1 (flag ∷ t) fs rest → length rest ≢ length (flag ∷ t) → IsLongerThan fs (flag ∷ t) → PassesOver n1 (flag ∷ t) t
other_flag n1 front t c fs rest unfinished cut joins undecided reads size longer =
    absurd (size (ap length (one_reading n1 (flag ∷ t) fs [] rest (flag ∷ t) reads (cut_short (flag ∷ t) t refl cut)).1))
other_flag n1 front t c fs rest refused r joins undecided reads size longer = refused_passes n1 t r
other_flag n1 front t c fs rest (fits h) w joins undecided reads size longer =
    let none = ends_last n1 front t c h joins undecided w in
    let same = (one_reading n1 (flag ∷ t) fs (frame_at h t ∷ []) rest (flag ∷ []) reads (whole_reads n1 t h w none)).0 in
    let most = whole_size n1 t h w none in
    let more = longer (frame_at h t) [] same in
    absurd (omega (arith, most, more))

other_at : (n1 x : ℕ) (front t : List ℕ) (c : ℕ) (fs : List Frame) (rest : List ℕ) (b : Bool) → (x == flag) ≡ b → AreOctets (x ∷ t) → front ++ c ∷ [] ≡ x ∷ t → Reads n1 front [] front → Reads n1 (x ∷ t) fs rest → length rest ≢ length (x ∷ t) → IsLongerThan fs (x ∷ t) → PassesOver n1 (x ∷ t) t
other_at n1 x front t c fs rest false is octets joins undecided reads size longer = no_flag_passes n1 x t is
other_at n1 x front t c fs rest true is octets joins undecided reads size longer =
    let same : x ≡ flag = eqb-true x flag is in
    subst (λ (y : ℕ). PassesOver n1 (y ∷ t) t) (sym same)
    (other_flag n1 front t c fs rest (verdict_on n1 t) (verdict_means n1 t (octets_tail x t octets)) (joins ∙ ap (λ y. y ∷ t) same) undecided
    (subst (λ (y : ℕ). Reads n1 (y ∷ t) fs rest) same reads) size longer)

-- the last octet
record Last (xs : List ℕ) : Type 0 where
  front : List ℕ
  last : ℕ
  is : xs ≡ front ++ last ∷ []
  front_is : take (length xs - 1) xs ≡ front

last_of : (x : ℕ) (xs : List ℕ) → Last (x ∷ xs)
last_of x [] = record { front = []; last = x; is = refl; front_is = refl }
last_of x (y ∷ xs) =
    let on = last_of y xs in
    record {
      front = x ∷ on.front;
      last = on.last;
      is = ap (λ l. x ∷ l) on.is;
      front_is = let count : length (x ∷ y ∷ xs) - 1 ≡ suc (length (y ∷ xs) - 1) = omega arith in ap (λ n. take n (x ∷ y ∷ xs)) count ∙ ap (λ l. x ∷ l) on.front_is;
    }

-- where it could before its last octet, can't now, and its first frame is shorter, none begins with its first octet
pub passes : (n1 : ℕ) (u : List ℕ) (fs : List Frame) (rest : List ℕ) → AreOctets u → u ≢ [] → Reads n1 (take (length u - 1) u) [] (take (length u - 1) u) → Reads n1 u fs rest → length rest ≢ length u → ((f : Frame) (gs : List Frame) → fs ≡ f ∷ gs → length f.info + 7 < length u) → PassesOver n1 u (drop 1 u)
passes n1 [] fs rest octets some undecided reads size longer = absurd (some refl)
passes n1 (x ∷ t) fs rest octets some undecided reads size longer =
    let last = last_of x t in
    other_at n1 x last.front t last.last fs rest (x == flag) refl octets (sym last.is) (subst (λ (l : List ℕ). Reads n1 l [] l) last.front_is undecided) reads size longer

-- ## A frame

frame_none : (f : Frame) (gs : List Frame) → f ∷ gs ≡ [] → ⊥
frame_none f gs e = cc

-- behind an octet that begins no frame a frame is too short
short_behind : (n1 y : ℕ) (front t : List ℕ) (c : ℕ) (f : Frame) (gs : List Frame) (rest : List ℕ) (b : Bool) → (y == flag) ≡ b → front ++ c ∷ [] ≡ flag ∷ y ∷ t → Reads n1 front [] front → Reads n1 (y ∷ t) (f ∷ gs) rest → length f.info + 7 < length (flag ∷ y ∷ t)
short_behind n1 y front t c f gs rest false is joins before reads =
    let same : after_flag t ≡ after_flag (y ∷ t) = sym (ap (λ b. if b then Some t else after_flag t) is) in
    let size = first_size n1 t f gs (f ∷ gs) rest refl (same_after n1 (y ∷ t) t (f ∷ gs) rest same reads) in
    omega (arith, size)
short_behind n1 y front t c f gs rest true is joins before reads = absurd (by_case (undecided n1 front before))
  where
    by_text : (begun : IsBegun n1 front) (text : List ℕ) → begun.text ≡ text → text ++ c ∷ [] ≡ y ∷ t → ⊥
    by_text begun [] same e =
        let size = first_size n1 (y ∷ t) f gs (f ∷ gs) rest refl reads in
        let one : 1 ≡ length (y ∷ t) = ap length e in
        omega (arith, size, one)
    by_text begun (z ∷ text) same e =
        fill_cut n1 begun.text (record { later = text; text = same ∙ ap (λ x. x ∷ text) (head_same z y (text ++ c ∷ []) t e ∙ eqb-true y flag is) }) begun.cut

    by_case : (front ≡ []) ⊎ IsBegun n1 front → ⊥
    by_case (inl none) =
        let size : 1 ≡ length (flag ∷ y ∷ t) = ap length (sym (ap (λ (l : List ℕ). l ++ c ∷ []) none) ∙ joins) in omega (arith, size)
    by_case (inr begun) = by_text begun begun.text refl (tail_same flag flag (begun.text ++ c ∷ []) (y ∷ t) (sym (ap (λ (l : List ℕ). l ++ c ∷ []) begun.is) ∙ joins))

refused_long : (n1 : ℕ) (front t : List ℕ) (c : ℕ) (f : Frame) (gs : List Frame) (rest : List ℕ) → AreOctets t → IsRefused n1 t → front ++ c ∷ [] ≡ flag ∷ t → Reads n1 front [] front → Reads n1 (flag ∷ t) (f ∷ gs) rest → length f.info + 7 < length (flag ∷ t)
refused_long n1 front t c f gs rest octets r joins before reads = by_text t refl
  where
    behind : Reads n1 t (f ∷ gs) (total_reading n1 t octets).rest
    behind =
        let all = total_reading n1 t octets in
        subst (λ (l : List Frame). Reads n1 t l all.rest) (sym (one_reading n1 (flag ∷ t) (f ∷ gs) all.frames rest all.rest reads (refused_reads n1 (flag ∷ t) t all.frames all.rest refl r all.reads)).0) all.reads

    by_text : (u : List ℕ) → t ≡ u → length f.info + 7 < length (flag ∷ t)
    by_text [] is =
        let size = first_size n1 t f gs (f ∷ gs) (total_reading n1 t octets).rest refl behind in
        let none : length t ≡ 0 = ap length is in
        absurd (omega (arith, size, none))
    by_text (y ∷ u) is =
        let size = short_behind n1 y front u c f gs (total_reading n1 t octets).rest (y == flag) refl (joins ∙ ap (λ l. flag ∷ l) is) before (subst (λ (l : List ℕ). Reads n1 l (f ∷ gs) (total_reading n1 t octets).rest) is behind) in
        let same : length t ≡ length (y ∷ u) = ap length is in
        omega (arith, size, same)

text_flag : (n1 : ℕ) (front t : List ℕ) (c : ℕ) (f : Frame) (gs : List Frame) (rest : List ℕ) (v : Verdict) → Means n1 t v → AreOctets (flag ∷ t) → front ++ c ∷ [] ≡ flag ∷ t → Reads n1 front [] front → Reads n1 (flag ∷ t) (f ∷ gs) rest → length (flag ∷ t) ≤ length f.info + 7 → IsFrameText n1 (flag ∷ t)
text_flag n1 front t c f gs rest unfinished cut octets joins before reads most =
    absurd (frame_none f gs (one_reading n1 (flag ∷ t) (f ∷ gs) [] rest (flag ∷ t) reads (cut_short (flag ∷ t) t refl cut)).0)
text_flag n1 front t c f gs rest refused r octets joins before reads most =
    absurd (let long = refused_long n1 front t c f gs rest (octets_tail flag t octets) r joins before reads in omega (arith, long, most))
text_flag n1 front t c f gs rest (fits h) w octets joins before reads most =
    let none = ends_last n1 front t c h joins before w in
    record {
      frame = frame_at h t;
      octets = w.octets;
      text_is = ap (λ l. flag ∷ l) (w.text ∙ ap (λ l. w.octets ++ flag ∷ l) none);
      spells = w.spells;
      octets_are = octets;
    }

text_at : (n1 x : ℕ) (front t : List ℕ) (c : ℕ) (f : Frame) (gs : List Frame) (rest : List ℕ) (b : Bool) → (x == flag) ≡ b → AreOctets (x ∷ t) → front ++ c ∷ [] ≡ x ∷ t → Reads n1 front [] front → Reads n1 (x ∷ t) (f ∷ gs) rest → length (x ∷ t) ≤ length f.info + 7 → IsFrameText n1 (x ∷ t)
text_at n1 x front t c f gs rest false is octets joins before reads most = absurd (by_case (undecided n1 front before))
  where
    by_case : (front ≡ []) ⊎ IsBegun n1 front → ⊥
    by_case (inl none) =
        let size = first_size n1 (x ∷ t) f gs (f ∷ gs) rest refl reads in
        let one : 1 ≡ length (x ∷ t) = ap length (sym (ap (λ (l : List ℕ). l ++ c ∷ []) none) ∙ joins) in
        omega (arith, size, one)
    by_case (inr begun) = eqb-false x flag is (sym (head_same flag x (begun.text ++ c ∷ []) t (sym (ap (λ (l : List ℕ). l ++ c ∷ []) begun.is) ∙ joins)))
text_at n1 x front t c f gs rest true is octets joins before reads most =
    let same : x ≡ flag = eqb-true x flag is in
    subst (λ (y : ℕ). IsFrameText n1 (y ∷ t)) (sym same)
    (text_flag n1 front t c f gs rest (verdict_on n1 t) (verdict_means n1 t (octets_tail x t octets)) (subst (λ (y : ℕ). AreOctets (y ∷ t)) same octets) (joins ∙ ap (λ y. y ∷ t) same) before
    (subst (λ (y : ℕ). Reads n1 (y ∷ t) (f ∷ gs) rest) same reads) most)

-- where its first frame can be as long as it, such a text is that frame from flag to flag
pub is_frame_text : (n1 : ℕ) (u : List ℕ) (f : Frame) (fs gs : List Frame) (rest : List ℕ) → AreOctets u → u ≢ [] → Reads n1 (take (length u - 1) u) [] (take (length u - 1) u) → fs ≡ f ∷ gs → Reads n1 u fs rest → length u ≤ length f.info + 7 → IsFrameText n1 u
is_frame_text n1 [] f fs gs rest octets some before is reads most = absurd (some refl)
is_frame_text n1 (x ∷ t) f fs gs rest octets some before is reads most =
    let last = last_of x t in
    text_at n1 x last.front t last.last f gs rest (x == flag) refl octets (sym last.is) (subst (λ (l : List ℕ). Reads n1 l [] l) last.front_is before)
    (subst (λ (l : List Frame). Reads n1 (x ∷ t) l rest) is reads) most

-- ## On and on

-- nothing is passed over
pub passes_none : (n1 : ℕ) (s : List ℕ) → PassesOver n1 s s
passes_none n1 s = record { no_longer = omega arith; first = λ z x f reads. reads; none = λ z rest reads. reads }

-- and then more
pub passes_more : (n1 : ℕ) (s t u : List ℕ) → PassesOver n1 s t → PassesOver n1 t u → PassesOver n1 s u
passes_more n1 s t u p q = record {
  no_longer = let one = p.no_longer in let two = q.no_longer in omega (arith, one, two);
  first = λ z x f reads. p.first z x f (q.first z x f reads);
  none = λ z rest reads. p.none z rest (q.none z rest reads);
}

-- a front of a text is passed over with whatever follows it
pub passes_front : (n1 : ℕ) (s t z : List ℕ) → PassesOver n1 s t → PassesOver n1 (s ++ z) (t ++ z)
passes_front n1 s t z p = record {
  no_longer = let one = p.no_longer in omega (arith, one, length-append s z, length-append t z);
  first = λ y x f reads. subst (λ (l : List ℕ). ReadsFirst n1 l f x) (sym (append_assoc s z y)) (p.first (z ++ y) x f (subst (λ (l : List ℕ). ReadsFirst n1 l f x) (append_assoc t z y) reads));
  none = λ y rest reads. subst (λ (l : List ℕ). Reads n1 l [] rest) (sym (append_assoc s z y)) (p.none (z ++ y) rest (subst (λ (l : List ℕ). Reads n1 l [] rest) (append_assoc t z y) reads));
}

-- ## By the first of the frames

not_filled : (f : Frame) (n : ℕ) → nat_le n (length f.info + 7) ≡ false → length f.info + 7 < n
not_filled f n is = grind (arith, nat_tests, is)

filled : (f : Frame) (n : ℕ) → nat_le n (length f.info + 7) ≡ true → n ≤ length f.info + 7
filled f n is = grind (arith, nat_tests, is)

longer_by : (fs : List Frame) (u : List ℕ) → can_fill fs (length u) ≡ false → (f : Frame) (gs : List Frame) → fs ≡ f ∷ gs → length f.info + 7 < length u
longer_by fs u is f gs same = not_filled f (length u) (sym (ap (λ (l : List Frame). can_fill l (length u)) same) ∙ is)

-- where the first frame can't fill the text, none begins with its first octet
pub is_other : (n1 : ℕ) (u : List ℕ) (fs : List Frame) (rest : List ℕ) → AreOctets u → u ≢ [] → Reads n1 (take (length u - 1) u) [] (take (length u - 1) u) → Reads n1 u fs rest → length rest ≢ length u → can_fill fs (length u) ≡ false → PassesOver n1 u (drop 1 u)
is_other n1 u fs rest octets some before reads size is = passes n1 u fs rest octets some before reads size (longer_by fs u is)

-- where it can, the text is a frame
pub is_text : (n1 : ℕ) (u : List ℕ) (fs : List Frame) (rest : List ℕ) → AreOctets u → u ≢ [] → Reads n1 (take (length u - 1) u) [] (take (length u - 1) u) → Reads n1 u fs rest → can_fill fs (length u) ≡ true → IsFrameText n1 (take (length u) u)
is_text n1 u [] rest octets some before reads is = absurd (let bad : false ≡ true = is in cc)
is_text n1 u (f ∷ fs) rest octets some before reads is =
    subst (IsFrameText n1) (sym (take_all (length u) u (omega arith))) (is_frame_text n1 u f (f ∷ fs) fs rest octets some before refl reads (filled f (length u) is))

-- ## Of a front

take_take : (k n : ℕ) (xs : List ℕ) → k ≤ n → take k (take n xs) ≡ take k xs
take_take zero n xs most = refl
take_take (suc k) zero xs most = absurd (omega (arith, most))
take_take (suc k) (suc n) [] most = refl
take_take (suc k) (suc n) (x ∷ xs) most = ap (λ l. x ∷ l) (take_take k n xs (omega (arith, most)))

front_at : (n1 n : ℕ) (text : List ℕ) (front : Front) → n < length text → (front ≡ the_front.Begins → ⊥) → IsFront n1 (take (suc n) text) front → IsFront n1 text front
front_at n1 n text the_front.Begins within decided is = absurd (decided refl)
front_at n1 n text (the_front.Frame count) within decided is =
    let size : length (take (suc n) text) ≡ suc n = length-take-le (suc n) text (omega (arith, within)) in
    let most = is.0 in
    (omega (arith, within, size, most), subst (IsFrameText n1) (take_take count (suc n) text (omega (arith, size, most))) is.1)
front_at n1 n [] the_front.Other within decided is = absurd (omega (arith, within))
front_at n1 n (x ∷ t) the_front.Other within decided is =
    subst (λ (l : List ℕ). PassesOver n1 (x ∷ l) l) (take-append-drop n t) (passes_front n1 (x ∷ take n t) (take n t) (drop n t) is)

-- what is decided of a front of a text is so of the text, but that it can still become a frame
pub front_grows : (n1 n count : ℕ) (text : List ℕ) (front : Front) → count ≡ n + 1 → n < length text → (front ≡ the_front.Begins → ⊥) → IsFront n1 (take count text) front → IsFront n1 text front
front_grows n1 n count text front same within decided is =
    let next : count ≡ suc n = omega (arith, same) in
    front_at n1 n text front within decided (subst (λ (k : ℕ). IsFront n1 (take k text) front) next is)
