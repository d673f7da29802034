-- Frames and requests come one after the other.
use Rattle.std.specs.Prelude.{◌≡◌, ℕ, List, [], ◌∷◌, ◌++◌, length, take, drop, refl, None, Some}
use Rattle.std.proofs.Common.{ap, sym, ◌∙◌, subst, append_assoc, append-nil}
use Rattle.std.proofs.lemmas.List.{take-append-drop}
use Rattle.mux_frame.specs.Frames.{Frame}
use Rattle.mux_frame.specs.Deframing.{Deframing, Deframes, TakesIn, HandsOver}
use Rattle.modem_history.specs.Acts.{Got}
use Rattle.modem_core.specs.Running.{Running, Steps, StepAll, none_more, one_more, Hears}

-- one frame more comes
pub arrive_more : (fs : List Frame) (f : Frame) (a b c : Running) → StepAll fs a b → Steps (Got f) b c → StepAll (fs ++ f ∷ []) a c
arrive_more _ f _ _ c (none_more v) h = one_more f [] v c c h (none_more c)
arrive_more _ f _ _ c (one_more g fs old mid new first later) h = one_more g (fs ++ f ∷ []) old mid c first (arrive_more fs f mid new c later h)

arrive_both : (fs gs : List Frame) (a b c : Running) → StepAll fs a b → StepAll gs b c → StepAll (fs ++ gs) a c
arrive_both _ gs _ _ c (none_more v) h = h
arrive_both _ gs _ _ c (one_more f fs old mid new first later) h = one_more f (fs ++ gs) old mid c first (arrive_both fs gs mid new c later h)

-- ## Octets

-- no octets come
pub hears_none : (d : Deframing) (v : Running) → Hears [] d d v v
hears_none d v = record {
  frames = [];
  bound = refl;
  past = λ taken handed h. subst (λ (t : List ℕ). Deframes t (handed ++ []) d) (sym (append-nil taken)) (subst (λ (fs : List Frame). Deframes taken fs d) (sym (append-nil handed)) h);
  come = none_more v;
}

-- octets are fed
pub hears_fed : (x : List ℕ) (d fed : Deframing) (v : Running) → fed.n1 ≡ d.n1 → TakesIn d x fed → Hears x d fed v v
hears_fed x d fed v bound h = record {
  frames = [];
  bound = bound;
  past = λ taken handed p. subst (λ (fs : List Frame). Deframes (taken ++ x) fs fed) (sym (append-nil handed)) (h taken handed p);
  come = none_more v;
}

-- the frame at hand comes
pub hears_more : (x : List ℕ) (d between looked out : Deframing) (a b c : Running) (f : Frame)
    → Hears x d between a b → looked ≡ between → between.next ≡ Some f → out.n1 ≡ looked.n1 → HandsOver looked out → Steps (Got f) b c → Hears x d out a c
hears_more x d between looked out a b c f h same next bound hands come = record {
  frames = h.frames ++ f ∷ [];
  bound = bound ∙ (ap (λ (e : Deframing). e.n1) same ∙ h.bound);
  past = λ taken handed p.
      subst (λ (fs : List Frame). Deframes (taken ++ x) fs out) (append_assoc handed h.frames (f ∷ []))
      (hands (taken ++ x) (handed ++ h.frames) f (ap (λ (e : Deframing). e.next) same ∙ next) (subst (Deframes (taken ++ x) (handed ++ h.frames)) (sym same) (h.past taken handed p)));
  come = arrive_more h.frames f a b c h.come come;
}

-- octets come after octets
pub hears_both : (x y : List ℕ) (d mid last : Deframing) (a b c : Running) → Hears x d mid a b → Hears y mid last b c → Hears (x ++ y) d last a c
hears_both x y d mid last a b c h k = record {
  frames = h.frames ++ k.frames;
  bound = k.bound ∙ h.bound;
  past = λ taken handed p.
      subst (λ (t : List ℕ). Deframes t (handed ++ (h.frames ++ k.frames)) last) (append_assoc taken x y)
      (subst (λ (fs : List Frame). Deframes ((taken ++ x) ++ y) fs last) (append_assoc handed h.frames k.frames)
      (k.past (taken ++ x) (handed ++ h.frames) (h.past taken handed p)));
  come = arrive_both h.frames k.frames a b c h.come k.come;
}

-- a beginning of the octets has come, and these are left
pub record HeardSo (octets left : List ℕ) (d now : Deframing) (a b : Running) : Type 0 where
  pub before : List ℕ
  pub split : octets ≡ before ++ left
  pub hears : Hears before d now a b
  pub idle : now.next ≡ None

-- at first all are left
pub heard_none : (octets : List ℕ) (d : Deframing) (v : Running) → d.next ≡ None → HeardSo octets octets d d v v
heard_none octets d v idle = record { before = []; split = refl; hears = hears_none d v; idle = idle }

-- some of them more are fed, and the frames that they bring come
pub heard_more : (octets left later : List ℕ) (count : ℕ) (d now fed out : Deframing) (a b c : Running)
    → HeardSo octets left d now a b → fed.n1 ≡ now.n1 → TakesIn now (take count left) fed → later ≡ drop count left → Hears [] fed out b c → out.next ≡ None → HeardSo octets later d out a c
heard_more octets left later count d now fed out a b c h bound fits e k idle =
    let piece = take count left in
    let here : Hears (piece ++ []) now out b c = hears_both piece [] now fed out b b c (hears_fed piece now fed b bound fits) k in
    let came : Hears piece now out b c = subst (λ (t : List ℕ). Hears t now out b c) (append-nil piece) here in
    let rejoin : left ≡ piece ++ later = sym (take-append-drop count left) ∙ ap (λ (t : List ℕ). piece ++ t) (sym e) in
    record {
      before = h.before ++ piece;
      split = h.split ∙ (ap (λ (t : List ℕ). h.before ++ t) rejoin ∙ sym (append_assoc h.before piece later));
      hears = hears_both h.before piece d now out a b c h.hears came;
      idle = idle;
    }

-- once none is left all have come
pub heard_all : (octets left : List ℕ) (d now : Deframing) (a b : Running) → HeardSo octets left d now a b → length left ≡ 0 → Hears octets d now a b
heard_all octets [] d now a b h e = subst (λ (t : List ℕ). Hears t d now a b) (sym (h.split ∙ append-nil h.before)) h.hears
heard_all octets (x ∷ left) d now a b h e = cc
