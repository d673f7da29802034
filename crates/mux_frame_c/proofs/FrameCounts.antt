-- Frames that are counted as they are taken out.
use Rattle.std.specs.Prelude.{◌≡◌, ℕ, ◌+◌, ◌%◌, ◌^◌, ◌<◌, ◌≤◌, List, [], ◌∷◌, ◌++◌, Option, Some, None, length, min, take, drop, refl}
use Rattle.std.proofs.Common.{sym, subst, ◌∙◌, ap, arith}
use Rattle.std.proofs.lemmas.List.{take-append-drop, append_assoc, append-nil, length-append, length-take, take-take}
use Rattle.std.proofs.lemmas.List.Sums.{sum_by-cons, sum_by-append, sum_by_push}
use Rattle.std.proofs.Math.Nat.{mod-eq_of_lt, mod-add-mod}
use Rattle.std.proofs.Math.Nat.{add-zero}
use Rattle.mux_frame.specs.Frames.{Frame}
use Rattle.mux_frame.specs.CheckOctet.{check_octet_of}
use Rattle.mux_frame.specs.Spelling.{flag, header, Spells}
use Rattle.mux_frame.specs.Reading.{Reads, no_flag, fill, frame, cut_short, other}
use Rattle.mux_frame.specs.Deframing.{Deframing, Deframes, AtHand}
use Rattle.mux_frame.proofs.readings.ComputedReadings.{after_shorter}
use Rattle.mux_frame_c.specs.declared.counts.Counts.{Counts}
use Rattle.mux_frame_c.specs.Counting.{information_of, IsCountOf, CountsOn}

-- a sum of words of 64 bits goes on
word_more : (a b c d k : ℕ) → b ≡ (a + c) % 2 ^ 64 → d ≡ (b + k) % 2 ^ 64 → d ≡ (a + (c + k)) % 2 ^ 64
word_more a b c d k p q = rw (q, p, mod-add-mod (a + c) (2 ^ 64) k) (ap (λ x. x % 2 ^ 64) (omega arith))

word_none : (a : ℕ) → a < 2 ^ 64 → a ≡ (a + 0) % 2 ^ 64
word_none a l = rw (add-zero a) (sym (mod-eq_of_lt l))

-- nothing is taken out yet
pub counts_none : (d : Deframing) (k : Counts) → k.frames < 2 ^ 64 → k.information < 2 ^ 64 → CountsOn d k d k
counts_none d k l m = record {
  more = [];
  n1 = refl;
  past = λ taken handed p. rw (append-nil handed) p;
  frames = word_none k.frames l;
  information = word_none k.information m;
}

-- one more frame is taken out, that was looked at before
pub counts_more : (a b looked c : Deframing) (before between after : Counts) (f : Frame)
    → CountsOn a before b between
    → looked ≡ b
    → b.next ≡ Some f
    → c.n1 ≡ looked.n1
    → ((taken : List ℕ) (handed : List Frame) (g : Frame) → looked.next ≡ Some g → Deframes taken handed looked → Deframes taken (handed ++ g ∷ []) c)
    → after.frames ≡ (between.frames + 1) % 2 ^ 64
    → after.information ≡ (between.information + length f.info) % 2 ^ 64
    → CountsOn a before c after
counts_more a b looked c before between after f h same e n p q r = record {
  more = h.more ++ f ∷ [];
  n1 = n ∙ (rw same h.n1);
  past = λ taken handed d. rw (sym (append_assoc handed h.more (f ∷ []))) (p taken (handed ++ h.more) f (rw same e) (rw same (h.past taken handed d)));
  frames = rw (length-append h.more (f ∷ [])) (word_more before.frames between.frames (length h.more) after.frames 1 h.frames q);
  information = rw (sum_by_push (λ (g : Frame). length g.info) h.more f) (word_more before.information between.information (information_of h.more) after.information (length f.info) h.information r);
}

-- all octets but those left are taken, and the frames that were handed out are counted
pub record AreCounted (bound : ℕ) (octets left : List ℕ) (counts : Counts) (d : Deframing) : Type 0 where
  pub taken : List ℕ
  pub handed : List Frame
  pub split : octets ≡ taken ++ left
  pub past : Deframes taken handed d
  pub none : d.next ≡ None
  pub n1 : d.n1 ≡ bound
  pub frames : counts.frames ≡ length handed % 2 ^ 64
  pub information : counts.information ≡ information_of handed % 2 ^ 64

-- nothing is taken yet
pub counted_none : (bound : ℕ) (octets : List ℕ) (counts : Counts) (d : Deframing) → Deframes [] [] d → d.next ≡ None → d.n1 ≡ bound → counts.frames ≡ 0 → counts.information ≡ 0 → AreCounted bound octets octets counts d
counted_none bound octets counts d p e n a b = record { taken = []; handed = []; split = refl; past = p; none = e; n1 = n; frames = a; information = b }

-- what is fed of a piece is what is fed of the octets that it begins
pub fed_piece : (count size room : ℕ) (xs : List ℕ) → count ≡ min (length (take size xs)) room → take count (take size xs) ≡ take count xs
fed_piece count size room xs e =
    let k = length-take size xs in
    take-take count size xs (omega (arith, e, k))

-- a piece is fed, and what is at hand then is taken out and counted
pub counted_more : (bound : ℕ) (octets left piece later : List ℕ) (count : ℕ) (before after : Counts) (d fed out : Deframing)
    → AreCounted bound octets left before d
    → fed.n1 ≡ d.n1
    → ((taken : List ℕ) (handed : List Frame) → Deframes taken handed d → Deframes (taken ++ take count piece) handed fed)
    → take count piece ≡ take count left
    → later ≡ drop count left
    → CountsOn fed before out after
    → out.next ≡ None
    → AreCounted bound octets later after out
counted_more bound octets left piece later count before after d fed out a n p q e h none = record {
  taken = a.taken ++ take count left;
  handed = a.handed ++ h.more;
  split = rw (e, append_assoc a.taken (take count left) (drop count left), take-append-drop count left) a.split;
  past = rw (sym q) (h.past _ a.handed (p a.taken a.handed a.past));
  none = none;
  n1 = h.n1 ∙ n ∙ a.n1;
  frames = rw (length-append a.handed h.more) (rw (h.frames, a.frames) (mod-add-mod (length a.handed) (2 ^ 64) (length h.more)));
  information = rw (sum_by-append (λ (g : Frame). length g.info) a.handed h.more) (rw (h.information, a.information) (mod-add-mod (information_of a.handed) (2 ^ 64) (information_of h.more)));
}

-- a frame has more octets than its information
spelled_long : (n1 : ℕ) (b : List ℕ) (f : Frame) → Spells n1 b f → length f.info + 1 ≤ length b
spelled_long n1 b f s =
    let k = length-append (header f s.indicator ++ f.info) (check_octet_of (header f s.indicator) ∷ []) in
    let l = length-append (header f s.indicator) f.info in
    rw s.octets (omega (arith, k, l))

-- octets are not fewer than the frames in them and their information
reads_bound : (n1 : ℕ) (s : List ℕ) (fs : List Frame) (rest : List ℕ) → Reads n1 s fs rest → length fs + information_of fs ≤ length s
reads_bound n1 s _ _ (no_flag _ e) = omega arith
reads_bound n1 s _ _ (fill _ t fs rest e r) =
    let h = reads_bound n1 (flag ∷ t) fs rest r in
    let k = after_shorter s (flag ∷ t) e in
    omega (arith, h, k)
reads_bound n1 s _ _ (frame _ b x f fs rest e p r) =
    let h = reads_bound n1 (flag ∷ x) fs rest r in
    let k = after_shorter s (b ++ flag ∷ x) e in
    let l = length-append b (flag ∷ x) in
    let m = spelled_long n1 b f p in
    let i = sum_by-cons (λ (g : Frame). length g.info) f fs in
    omega (arith, h, k, l, m, i)
reads_bound n1 s _ _ (cut_short _ t e c) = omega arith
reads_bound n1 s _ _ (other _ t fs rest e nf nh nc r) =
    let h = reads_bound n1 t fs rest r in
    let k = after_shorter s t e in
    omega (arith, h, k)

nothing_left : (xs : List ℕ) → length xs ≡ 0 → xs ≡ []
nothing_left [] e = refl
nothing_left (x ∷ xs) e = cc

-- once nothing is left, the counts are those of all octets
pub counted_all : (bound : ℕ) (octets left : List ℕ) (counts : Counts) (d : Deframing) → length octets < 2 ^ 64 → AreCounted bound octets left counts d → length left ≡ 0 → IsCountOf bound octets counts
counted_all bound octets left counts d small a e =
    let same : octets ≡ a.taken ++ [] = rw (sym (nothing_left left e)) a.split in
    let hand : AtHand d.n1 d.undecided None = subst (λ (o : Option Frame). AtHand d.n1 d.undecided o) a.none a.past.at_hand in
    let all : Reads d.n1 (a.taken ++ []) (a.handed ++ []) d.undecided = a.past.reads [] [] d.undecided (rw (append-nil d.undecided) hand) in
    let reads : Reads bound octets a.handed d.undecided = rw (same, sym (append-nil a.handed), sym a.n1) all in
    let fits = reads_bound bound octets a.handed d.undecided reads in
    record {
      read = a.handed;
      rest = d.undecided;
      reads = reads;
      frames = a.frames ∙ mod-eq_of_lt (omega (arith, fits, small));
      information = a.information ∙ mod-eq_of_lt (omega (arith, fits, small));
    }
