-- What is left of octets behind a step stands at their end.
use Rattle.std.specs.Prelude.{◌≡◌, ℕ, ◌+◌, ◌-◌, List, [], ◌∷◌, ◌++◌, take, drop, refl}
use Rattle.std.proofs.Common.{ap, sym, ◌∙◌, append_assoc, append-nil, subst}
use Rattle.std.proofs.lemmas.List.{take-append-drop}
use Rattle.mux_frame.specs.Spelling.{flag}
use Rattle.modem_sim.specs.declared.state.ModemState.{ModemState}
use Rattle.modem_sim.specs.Sims.{SimState}
use Rattle.ctl_sim.specs.declared.server.Mode.{Mode}
use Rattle.ctl_sim.specs.declared.server.Setup.{Setup}
use Rattle.mux_capture.specs.FrontFrames.{IsFrameText}
use Rattle.ctl_sim.specs.HeldLine.{HeldState}
use Rattle.ctl_sim.specs.MuxStates.{MuxState}
use Rattle.ctl_sim.specs.Standing.{EndsWith, HandlesText, IsEntered, at_lines, enters, in_mux, undecided}

-- ## What is left stands at the end

-- octets end with themselves
pub ends_none : (all : List ℕ) → EndsWith all all
ends_none all = record { front = []; is = refl }

-- octets that end with others end with what those end with
pub ends_more : (a b c : List ℕ) → EndsWith a b → EndsWith b c → EndsWith a c
ends_more a b c p q = record { front = p.front ++ q.front; is = p.is ∙ ap (λ (l : List ℕ). p.front ++ l) q.is ∙ sym (append_assoc p.front q.front c) }

-- behind so many
pub ends_dropped : (n : ℕ) (octets behind : List ℕ) → behind ≡ drop n octets → EndsWith octets behind
ends_dropped n octets behind is = record { front = take n octets; is = sym (take-append-drop n octets) ∙ ap (λ (l : List ℕ). take n octets ++ l) (sym is) }

-- where the multiplexer begins, octets end with what isn't decided and what is left
pub ends_entered : (setup : Setup) (m : ModemState) (n1 : ℕ) (octets behind : List ℕ) (mode : Mode) → IsEntered setup m n1 mode → EndsWith octets behind → EndsWith octets (undecided mode ++ behind)
ends_entered setup m n1 octets behind _ (enters sim fits) ends = ends

ends_later : (octets front last : List ℕ) → octets ≡ front ++ last → EndsWith octets (drop 1 last)
ends_later octets front last is = record {
  front = front ++ take 1 last;
  is = is ∙ ap (λ (l : List ℕ). front ++ l) (sym (take-append-drop 1 last)) ∙ sym (append_assoc front (take 1 last) (drop 1 last));
}

-- without the flag in front, which is decided
ends_behind : (kept octets front last : List ℕ) → kept ++ octets ≡ front ++ last → EndsWith (drop 1 kept ++ octets) (drop 1 last)
ends_behind [] octets front last is = ends_later octets front last is
ends_behind (k ∷ kept) octets [] last is = record { front = []; is = ap (drop 1) is }
ends_behind (k ∷ kept) octets (f ∷ front) last is = ends_later (kept ++ octets) front last (ap (drop 1) is)

-- where octets are kept, all end with those, but for the flag in front
pub keeps_ends : (mux : MuxState) (sim : SimState HeldState) (n1 : ℕ) (kept octets text front rest new_kept left : List ℕ) → mux ≡ record { sim = sim; n1 = n1; kept = kept } → text ≡ kept ++ octets → new_kept ≡ rest → left ≡ []
    → text ≡ front ++ rest → EndsWith (drop 1 mux.kept ++ octets) (drop 1 new_kept ++ left)
keeps_ends mux sim n1 kept octets text front rest new_kept left is text_is kept_is none found =
    subst (λ (x : MuxState). EndsWith (drop 1 x.kept ++ octets) (drop 1 new_kept ++ left)) (sym is)
    (subst (λ (l : List ℕ). EndsWith (drop 1 kept ++ octets) (drop 1 new_kept ++ l)) (sym none)
    (subst (λ (l : List ℕ). EndsWith (drop 1 kept ++ octets) l) (sym (append-nil (drop 1 new_kept)))
    (subst (λ (l : List ℕ). EndsWith (drop 1 kept ++ octets) (drop 1 l)) (sym kept_is) (ends_behind kept octets front rest (sym text_is ∙ found)))))

ends_handled : (setup : Setup) (sim : SimState HeldState) (n1 : ℕ) (octets text behind before out : List ℕ) (mode : Mode) → HandlesText setup sim n1 text mode before out → EndsWith octets behind → EndsWith octets (undecided mode ++ behind)
ends_handled setup sim n1 octets text behind _ _ _ (in_mux new before out fed) ends = ends
ends_handled setup sim n1 octets text behind _ _ _ (at_lines new before out fed) ends = ends

frame_behind : (n1 : ℕ) (kept octets front text behind : List ℕ) → IsFrameText n1 text → kept ++ octets ≡ front ++ (text ++ behind) → EndsWith (drop 1 kept ++ octets) behind
frame_behind n1 kept octets front text behind is found =
    ends_more _ (drop 1 (text ++ behind)) behind (ends_behind kept octets front (text ++ behind) found)
    (record { front = is.octets ++ flag ∷ []; is = ap (λ (l : List ℕ). drop 1 (l ++ behind)) is.text_is })

-- behind a frame all end with what isn't decided and what is left
pub frame_ends : (setup : Setup) (mux : MuxState) (sim : SimState HeldState) (n1 : ℕ) (kept octets all front text behind left before out : List ℕ) (new : Mode) → mux ≡ record { sim = sim; n1 = n1; kept = kept } → all ≡ kept ++ octets → left ≡ behind
    → all ≡ front ++ (text ++ behind) → IsFrameText n1 text → HandlesText setup sim n1 text new before out → EndsWith (drop 1 mux.kept ++ octets) (undecided new ++ left)
frame_ends setup mux sim n1 kept octets all front text behind left before out new is all_is left_is found frame handles =
    subst (λ (x : MuxState). EndsWith (drop 1 x.kept ++ octets) (undecided new ++ left)) (sym is)
    (subst (λ (l : List ℕ). EndsWith (drop 1 kept ++ octets) (undecided new ++ l)) (sym left_is)
    (ends_handled setup sim n1 (drop 1 kept ++ octets) text behind before out new handles (frame_behind n1 kept octets front text behind frame (sym all_is ∙ found))))
