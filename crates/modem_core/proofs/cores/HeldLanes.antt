-- Whether a connection is held.
use Rattle.std.proofs.Common.{ap, ◌∙◌}
use Rattle.std.proofs.lemmas.Bool.{or_parts}
use Rattle.std.proofs.lemmas.List.{length-replicate, length-set}
use Rattle.std.specs.Prelude.{◌≡◌, ℕ, zero, suc, Bool, false, slice_set, List, [], ◌∷◌, length, refl, replicate}
use Rattle.std.specs.List.{list_any}
use Rattle.modem_core.specs.Lanes.{Lane, AreLanes, lane_in, new_lane}

all_free : (n d : ℕ) → (lane_in (replicate n new_lane) d).held ≡ false
all_free zero d = refl
all_free (suc n) zero = refl
all_free (suc n) (suc d) = all_free n d

-- none is at first
pub no_lane_held : (ls : List Lane) → ls ≡ replicate 62 new_lane → AreLanes ls false
no_lane_held ls e = record {
  all = ap length e ∙ length-replicate 62 new_lane;
  free = λ h d. ap (λ (xs : List Lane). (lane_in xs d).held) e ∙ all_free 62 d;
}

-- none is where a look at each finds none
pub free_by : (ls : List Lane) → list_any (λ (l : Lane). l.held) ls ≡ false → (d : ℕ) → (lane_in ls d).held ≡ false
free_by [] h d = refl
free_by (l ∷ ls) h zero = (or_parts l.held (list_any (λ (x : Lane). x.held) ls) h).0
free_by (l ∷ ls) h (suc d) = free_by ls (or_parts l.held (list_any (λ (x : Lane). x.held) ls) h).1 d

-- where one stays held or not, none is that wasn't
pub held_as_before : (ls : List Lane) (d : ℕ) (l : Lane) (may_hold : Bool) → AreLanes ls may_hold → l.held ≡ (lane_in ls d).held → AreLanes (slice_set ls d l) may_hold
held_as_before ls d l may_hold are same = record {
  all = length-set ls d l ∙ are.all;
  free = λ h e. free_set ls d e l same (are.free h e);
}
  where
    free_set : (ls : List Lane) (d e : ℕ) (l : Lane) → l.held ≡ (lane_in ls d).held → (lane_in ls e).held ≡ false → (lane_in (slice_set ls d l) e).held ≡ false
    free_set [] d e l same free = free
    free_set (x ∷ ls) zero zero l same free = same ∙ free
    free_set (x ∷ ls) zero (suc e) l same free = free
    free_set (x ∷ ls) (suc d) zero l same free = free
    free_set (x ∷ ls) (suc d) (suc e) l same free = free_set ls d e l same free
