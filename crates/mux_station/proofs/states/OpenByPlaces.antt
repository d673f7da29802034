-- To be open is to have been opened and not ended since.
use Rattle.std.specs.Prelude.{◌≡◌, ℕ, ◌||◌, not, Bool, true, false, List, [], ◌∷◌, ◌++◌, refl}
use Rattle.std.proofs.Common.{ap, sym, ◌∙◌, subst}
use Rattle.std.proofs.lemmas.Bool.{and_parts, and_from}
use Rattle.mux_station.specs.declared.role.Role.{Role}
use Rattle.mux_station.specs.Acts.{Act}
use Rattle.mux_station.specs.Opening.{is_open, opens_now, belongs, ends}
use Rattle.mux_station.specs.OpeningRule.{NoneEnds, OpenedBefore, IsOpenByPlaces}
use Rattle.mux_station.proofs.states.OpeningSteps.{is_open_after}

not_true : (b : Bool) → not b ≡ true → b ≡ false
not_true false h = refl
not_true true h = cc

not_false : (b : Bool) → b ≡ false → not b ≡ true
not_false false h = refl
not_false true h = cc

or_left : (b c : Bool) → b ≡ true → (b || c) ≡ true
or_left true c h = refl
or_left false c h = cc

or_right : (b c : Bool) → c ≡ true → (b || c) ≡ true
or_right false c h = h
or_right true c h = refl

-- the act opened d, or d was open and stays so
place_by : (r : Role) (d : ℕ) (a : Act) (past : List Act) → (is_open r d past ≡ true → OpenedBefore r d past)
    → (o : Bool) → opens_now r d past a ≡ o → (o || belongs r d past a) ≡ true → OpenedBefore r d (a ∷ past)
place_by r d a past before true e h = record { newer = []; opening = a; older = past; joins = refl; opens = e; lasts = tt }
place_by r d a past before false e h =
    let parts = and_parts (is_open r d past) (not (ends (is_open r 0 past) d a)) h in
    let b = before parts.0 in
    let here : ends (is_open r 0 past) d a ≡ false = not_true (ends (is_open r 0 past) d a) parts.1 in
    let there : ends (is_open r 0 (b.newer ++ b.opening ∷ b.older)) d a ≡ false = subst (λ (p : List Act). ends (is_open r 0 p) d a ≡ false) (sym b.joins) here in
    record { newer = a ∷ b.newer; opening = b.opening; older = b.older; joins = ap (λ (v : List Act). a ∷ v) b.joins; opens = b.opens; lasts = (there, b.lasts) }

open_places : (r : Role) (d : ℕ) (past : List Act) → is_open r d past ≡ true → OpenedBefore r d past
open_places r d [] h = absurd (let e : false ≡ true = h in cc)
open_places r d (a ∷ past) h = place_by r d a past (open_places r d past) (opens_now r d past a) refl (sym (is_open_after r d past a) ∙ h)

stays_open : (r : Role) (d : ℕ) (opening : Act) (older newer : List Act) → opens_now r d older opening ≡ true → NoneEnds r d newer (opening ∷ older)
    → is_open r d (newer ++ opening ∷ older) ≡ true
stays_open r d opening older [] o l = is_open_after r d older opening ∙ or_left (opens_now r d older opening) (belongs r d older opening) o
stays_open r d opening older (a ∷ newer) o l =
    let past = newer ++ opening ∷ older in
    is_open_after r d past a
    ∙ or_right (opens_now r d past a) (belongs r d past a)
    (and_from (is_open r d past) (not (ends (is_open r 0 past) d a)) (stays_open r d opening older newer o l.1) (not_false (ends (is_open r 0 past) d a) l.0))

-- a connection is open just where some act opened it and no later one ended it
pub is_open_by_places : (r : Role) (d : ℕ) (past : List Act) → IsOpenByPlaces r d past
is_open_by_places r d past = record {
  place = open_places r d past;
  open_there = λ b. subst (λ (p : List Act). is_open r d p ≡ true) b.joins (stays_open r d b.opening b.older b.newer b.opens b.lasts);
}
