-- Connections that are wanted from the beginning.
use Rattle.std.specs.Prelude.{◌≡◌, ℕ, ◌+◌, ◌<◌, ◌≤◌, Bool, true, false, List, [], ◌∷◌, drop, length, refl, set, slice_index_or}
use Rattle.std.proofs.Common.{ap, arith, suc, zero, sym, ◌∙◌, subst, ⊎_elim}
use Rattle.std.proofs.lemmas.Bool.{false≢true}
use Rattle.std.proofs.lemmas.List.{length-set}
use Rattle.std.proofs.Math.Seq.{drop-cons}
use Rattle.mux_frame.specs.declared.dlci.Dlci.{Dlci}
use Rattle.ctl_drive.specs.Channels.{told_at, wanted_states}
use Rattle.ctl_drive.specs.declared.channels.ChannelState.{ChannelState}
use Rattle.ctl_drive.specs.declared.channels.ChannelState.TheVariants as state
use Rattle.ctl_drive.proofs.Orders.{told_set}

drop_all : (ds : List Dlci) (i : ℕ) → length ds ≤ i → drop i ds ≡ []
drop_all [] zero few = refl
drop_all [] (suc i) few = refl
drop_all (d ∷ ds) zero few = absurd (omega (arith, few))
drop_all (d ∷ ds) (suc i) few = drop_all ds i (omega (arith, few))

-- the next of them is wanted
pub wants_next : (all : List Dlci) (i : ℕ) (d : Dlci) (first states : List ChannelState) → i < length all → d ≡ slice_index_or all i d
    → wanted_states (drop i all) states ≡ wanted_states all first → wanted_states (drop (i + 1) all) (set states d.number state.Wanted) ≡ wanted_states all first
wants_next all i d first states there is e =
    let one : suc i ≡ i + 1 = omega (arith) in
    ap (λ (x : Dlci). wanted_states (drop (i + 1) all) (set states x.number state.Wanted)) is
    ∙ (ap (λ (k : ℕ). wanted_states (drop k all) (set states (slice_index_or all i d).number state.Wanted)) (sym one)
    ∙ (sym (ap (λ (ds : List Dlci). wanted_states ds states) (drop-cons all i d there)) ∙ e))

-- when all were taken, all of them are wanted
pub wants_all : (all : List Dlci) (i : ℕ) (first states : List ChannelState) → length all ≤ i
    → wanted_states (drop i all) states ≡ wanted_states all first → states ≡ wanted_states all first
wants_all all i first states few e = ap (λ (ds : List Dlci). wanted_states ds states) (sym (drop_all all i few)) ∙ e

-- there are as many states as before
pub long_states : (wanted : List Dlci) (states : List ChannelState) → length (wanted_states wanted states) ≡ length states
long_states [] states = refl
long_states (d ∷ wanted) states = long_states wanted (set states d.number state.Wanted) ∙ length-set states d.number state.Wanted

-- that none of them was told anything stays
pub none_told_more : (wanted : List Dlci) (states : List ChannelState) → length states ≡ 62 → ((e : ℕ) → told_at states e ≡ false)
    → (e : ℕ) → told_at (wanted_states wanted states) e ≡ false
none_told_more [] states long none e = none e
none_told_more (d ∷ wanted) states long none e =
    none_told_more wanted (set states d.number state.Wanted) (length-set states d.number state.Wanted ∙ long) (λ k. still k (told_at (set states d.number state.Wanted) k) refl) e
  where
    still : (k : ℕ) (b : Bool) → told_at (set states d.number state.Wanted) k ≡ b → b ≡ false
    still k false h = refl
    still k true h = ⊎_elim (λ (was : told_at states k ≡ true). absurd (false≢true (sym (none k) ∙ was))) (λ (now : (d.number ≡ k) × (false ≡ true)). absurd (false≢true now.1))
        (told_set states d.number k state.Wanted (subst (λ (n : ℕ). d.number < n) (sym long) d.in_range) h)
