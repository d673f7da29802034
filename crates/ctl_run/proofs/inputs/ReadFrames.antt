-- Frames that are taken out of a deframer, piece by piece.
use Rattle.std.specs.Prelude.{◌≡◌, ℕ, List, [], ◌∷◌, ◌++◌, Some, None, length, take, drop, refl, Option}
use Rattle.std.proofs.Common.{sym, subst, ◌∙◌}
use Rattle.std.proofs.lemmas.List.{take-append-drop, append_assoc, append-nil}
use Rattle.mux_frame.specs.Frames.{Frame}
use Rattle.mux_frame.specs.Reading.{Reads}
use Rattle.mux_frame.specs.Deframing.{Deframing, Deframes, AtHand}
use Rattle.ctl_run.specs.Framing.{HandsAll, AreTaken}

-- one more frame is taken out, that was looked at before
pub hands_more : (a b looked c : Deframing) (before between after : List Frame) (f : Frame)
    → HandsAll a before b between
    → looked ≡ b
    → b.next ≡ Some f
    → c.n1 ≡ looked.n1
    → ((taken : List ℕ) (handed : List Frame) (g : Frame) → looked.next ≡ Some g → Deframes taken handed looked → Deframes taken (handed ++ g ∷ []) c)
    → after ≡ between ++ f ∷ []
    → HandsAll a before c after
hands_more a b looked c before between after f h same e n p q = rw q record {
  n1 = n ∙ (rw same h.n1);
  past = λ taken d. p taken between f (rw same e) (rw same (h.past taken d));
}

-- nothing is taken yet
pub taken_none : (bound : ℕ) (octets : List ℕ) (d : Deframing) → Deframes [] [] d → d.next ≡ None → d.n1 ≡ bound → AreTaken bound octets octets [] d
taken_none bound octets d p e n = record { taken = []; split = refl; past = p; none = e; n1 = n }

-- a piece is fed, and what is at hand then is taken out
pub taken_more : (bound : ℕ) (octets left later : List ℕ) (count : ℕ) (frames more : List Frame) (d fed out : Deframing)
    → AreTaken bound octets left frames d
    → fed.n1 ≡ d.n1
    → ((taken : List ℕ) (handed : List Frame) → Deframes taken handed d → Deframes (taken ++ take count left) handed fed)
    → later ≡ drop count left
    → HandsAll fed frames out more
    → out.next ≡ None
    → AreTaken bound octets later more out
taken_more bound octets left later count frames more d fed out a n p e h none = record {
  taken = a.taken ++ take count left;
  split = rw (e, append_assoc a.taken (take count left) (drop count left), take-append-drop count left) a.split;
  past = h.past _ (p a.taken frames a.past);
  none = none;
  n1 = h.n1 ∙ n ∙ a.n1;
}

-- octets none of which are left are none
pub nothing_left : (xs : List ℕ) → length xs ≡ 0 → xs ≡ []
nothing_left [] e = refl
nothing_left (x ∷ xs) e = cc

-- once nothing is left, all octets are read as these frames, and the undecided ones are the rest
pub read_all : (bound : ℕ) (octets left : List ℕ) (frames : List Frame) (d : Deframing) → AreTaken bound octets left frames d → left ≡ [] → Reads bound octets frames d.undecided
read_all bound octets left frames d a e =
    let hand : AtHand d.n1 d.undecided None = subst (λ (o : Option Frame). AtHand d.n1 d.undecided o) a.none a.past.at_hand in
    let reads : Reads d.n1 (a.taken ++ []) (frames ++ []) d.undecided = a.past.reads [] [] d.undecided (rw (append-nil d.undecided) hand) in
    let all : octets ≡ a.taken ++ [] = rw (sym e) a.split in
    rw (all, sym (append-nil frames), sym a.n1) reads
