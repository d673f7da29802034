-- What is kept of an end goes on with its past.
use Rattle.std.specs.Prelude.{◌≡◌, ◌≢◌, ℕ, ◌+◌, ◌<◌, ◌≤◌, length, slice_set, ◌==◌, ◌&&◌, ◌||◌, not, Bool, true, false, List, [], ◌∷◌, replicate, Option, slice_index_or, refl}
use Rattle.std.proofs.Common.{ap, sym, ◌∙◌, subst, arith, below_more}
use Rattle.std.proofs.lemmas.List.{get_or-replicate, get_or-set_other, get_or_default}
use Rattle.std.proofs.lemmas.Grind.{get_or-set_at}
use Rattle.std.proofs.Math.ListN.{length-set}
use Rattle.mux_station.specs.declared.role.Role.{Role}
use Rattle.mux_station.specs.Acts.{Act}
use Rattle.mux_station.specs.Opening.{since, since_after, is_open, opens_now, belongs}
use Rattle.mux_station.specs.OpeningRule.{Standing, standing, standing_after}
use Rattle.mux_station.proofs.states.OpeningSteps.{stands_after}
use Rattle.mux_station.specs.Stopping.{last_said, got_says, is_stopped}
use Rattle.modem_show.specs.declared.place.Place.{Place}
use Rattle.modem_show.specs.Ends.{End, EndFits, PlacesAfter, place, place_at, place_of, place_after, says_at, shut_place, stop_after, is_open_at, is_stopped_at}

-- the stop after one more act
said_after : (o b : Bool) (say : Act → Option Bool) (a : Act) (rest : List Act)
    → last_said say (since_after o b a rest) ≡ stop_after o b (say a) (last_said say rest)
said_after true b say a rest = refl
said_after false true say a rest = refl
said_after false false say a rest = refl

-- what is kept of a connection is kept on by each act, with 0 as it stands before it
pub place_steps : (r : Role) (d : ℕ) (past : List Act) (a : Act)
    → place_of r d (a ∷ past) ≡ place_after r (place_of r 0 past).is_open d (place_of r d past) a
place_steps r d past a =
    ap (λ (s : Standing). place s (last_said (got_says (says_at d)) (since r d (a ∷ past)))) (stands_after r d past a)
    ∙ ap (λ (b : Bool). place (standing_after r (is_open r 0 past) d (standing r d past) a) b)
    (said_after (opens_now r d past a) (belongs r d past a) (got_says (says_at d)) a (since r d past))

-- an end goes on
pub end_goes_on : (e : End) (places : List Place) (past : List Act) (a : Act) → EndFits e past
    → PlacesAfter e.role (place_at e 0).is_open a e.places places
    → EndFits (record { role = e.role; places = places }) (a ∷ past)
end_goes_on e places past a fits after = record {
  each = λ d l.
      after.each d l
      ∙ (ap (λ (p : Place). place_after e.role p.is_open d (place_at e d) a) (fits.each 0 (omega arith))
      ∙ (ap (λ (p : Place). place_after e.role (place_of e.role 0 past).is_open d p a) (fits.each d l)
      ∙ sym (place_steps e.role d past a)));
}

-- of an end to which nothing happened, each connection is shut
pub new_end : (r : Role) → EndFits (record { role = r; places = replicate 62 shut_place }) []
new_end r = record { each = λ d l. get_or-replicate 62 d shut_place shut_place l ∙ none r d }
  where
    none : (r : Role) (d : ℕ) → shut_place ≡ place_of r d []
    none r d = refl

-- what is kept says what is open
pub open_fits : (e : End) (past : List Act) (d : ℕ) → EndFits e past → d < 62 → is_open_at e d ≡ is_open e.role d past
open_fits e past d fits l = ap (λ (p : Place). p.is_open) (fits.each d l)

stops_alike : (r : Role) (past : List Act) (d : ℕ) (z : Bool) → (d == 0) ≡ z
    → (not z && (((place_of r d past).is_open && (place_of r d past).is_stopped) || ((place_of r 0 past).is_open && (place_of r 0 past).is_stopped))) ≡ is_stopped r d past
stops_alike r past d true e = rw e refl
stops_alike r past d false e = rw e refl

-- and what is stopped
pub stopped_fits : (e : End) (past : List Act) (d : ℕ) → EndFits e past → d < 62 → is_stopped_at e d ≡ is_stopped e.role d past
stopped_fits e past d fits l =
    ap (λ (p : Place). not (d == 0) && ((p.is_open && p.is_stopped) || ((place_at e 0).is_open && (place_at e 0).is_stopped))) (fits.each d l)
    ∙ (ap (λ (p : Place). not (d == 0) && (((place_of e.role d past).is_open && (place_of e.role d past).is_stopped) || (p.is_open && p.is_stopped))) (fits.each 0 (omega arith))
    ∙ stops_alike e.role past d (d == 0) refl)

-- ## All places

-- the places below i are kept on, and the others as they were
pub record SoFar (f : ℕ → Place → Place) (old ps : List Place) (i : ℕ) : Type 0 where
  pub all : length ps ≡ 62
  pub done : (d : ℕ) → d < i → slice_index_or ps d shut_place ≡ f d (slice_index_or old d shut_place)
  pub left : (d : ℕ) → i ≤ d → slice_index_or ps d shut_place ≡ slice_index_or old d shut_place

-- with one place more kept on
pub one_more : (f : ℕ → Place → Place) (old ps : List Place) (i j k : ℕ) (p q : Place) → SoFar f old ps i → i < 62 → j ≡ i → k ≡ i
    → p ≡ slice_index_or ps j p → q ≡ f i p → SoFar f old (slice_set ps k q) (i + 1)
one_more f old ps i j k p q h l ej ek e g = record {
  all = length-set ps k q ∙ h.all;
  done = below_more (λ d. slice_index_or (slice_set ps k q) d shut_place ≡ f d (slice_index_or old d shut_place)) i
      (λ d b. let ne : d ≢ k = omega arith in get_or-set_other ps k d q shut_place ne ∙ h.done d b)
      (let w : k < length ps = omega (arith, h.all) in
      get_or-set_at ps k i q shut_place (sym ek) w
      ∙ (g ∙ ap (f i) (e ∙ (ap (λ (n : ℕ). slice_index_or ps n p) ej ∙ (get_or_default ps i p shut_place (omega (arith, h.all)) ∙ h.left i (omega arith))))));
  left = λ d b. let ne : d ≢ k = omega arith in get_or-set_other ps k d q shut_place ne ∙ h.left d (omega arith);
}

-- the place that was read at 0 is that of 0
pub zero_read : (ps : List Place) (p : Place) → length ps ≡ 62 → p ≡ slice_index_or ps 0 p → p ≡ slice_index_or ps 0 shut_place
zero_read ps p h e = e ∙ get_or_default ps 0 p shut_place (omega (arith, h))

-- where each place is kept on by an act, with 0 as it was read before, the end fits the past with it
pub end_acts : (r : Role) (old new : List Place) (p : Place) (past : List Act) (a : Act) → length old ≡ 62
    → p ≡ slice_index_or old 0 p
    → EndFits (record { role = r; places = old }) past
    → PlacesAfter r p.is_open a old new
    → EndFits (record { role = r; places = new }) (a ∷ past)
end_acts r old new p past a h e fits after =
    end_goes_on (record { role = r; places = old }) new past a fits
    (subst (λ (q : Place). PlacesAfter r q.is_open a old new) (zero_read old p h e) after)
