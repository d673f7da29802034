-- What was said of a stop since a connection opened, beside all that was said.
use Rattle.std.specs.Prelude.{◌≡◌, ℕ, ◌==◌, ◌&&◌, ◌||◌, Bool, true, false, List, [], ◌∷◌, Option, Some, None, refl, unwrap_or, if◌then◌else◌}
use Rattle.std.proofs.Common.{ap, sym, ◌∙◌}
use Rattle.std.proofs.lemmas.Bool.{and_parts}
use Rattle.mux_frame.specs.Frames.{Frame}
use Rattle.mux_frame.specs.declared.frame.Kind.{Kind}
use Rattle.mux_frame.specs.declared.frame.Kind.TheVariants.{Sabm, Ua, Dm, Disc, Uih}
use Rattle.mux_station.specs.declared.role.Role.{Role}
use Rattle.mux_station.specs.declared.role.Role.TheVariants.{Initiator, Responder}
use Rattle.mux_station.specs.Acts.{Act, Called, Got, Sent, Tick, Lost, Given}
use Rattle.mux_station.proofs.states.OpeningSteps.{is_open_after}
use Rattle.mux_station.specs.Messages.{message_of}
use Rattle.mux_station.specs.Opening.{ends, is_open, opens, opens_now, since, is_asked}
use Rattle.mux_station.specs.Stopping.{got_says, if_message, last_said}
use Rattle.mux_station.specs.Written.{is_kind, is_on}
use Rattle.mux_station.proofs.states.StatesAfterActs.{since_goes_on, since_opens}
use Rattle.modem_show.specs.Ends.{says_at}
use Rattle.modem_history.proofs.connections.InformationGrowth.{is_got, opens_none}
use Rattle.one_modem.proofs.two_ends.InitiatorFrames.{was_open}
use Rattle.show_laws.proofs.openings.ResponderCalls.{sabm_bare}
use Rattle.show_laws.proofs.stops.KeptStops.{kept_stop}
use Rattle.show_laws.proofs.stops.StopWords.{says_on}

-- d was open before an act that doesn't open it, where it is so behind it
pub open_before : (r : Role) (d : ℕ) (past : List Act) (a : Act) → opens_now r d past a ≡ false → is_open r d (a ∷ past) ≡ true → is_open r d past ≡ true
open_before r d past a o h = was_open (opens_now r d past a) (is_open r d past) (ends (is_open r 0 past) d a) o (sym (is_open_after r d past a) ∙ h)

-- what was said since it opened was said
pub since_said : (say : Act → Option Bool) (r : Role) (d : ℕ) (past : List Act) → is_open r d past ≡ true → last_said say (since r d past) ≡ true → last_said say past ≡ true
since_said say r d [] o h = cc
since_said say r d (a ∷ past) o h = by_opens (opens_now r d past a) refl (λ b k. since_said say r d past b k)
  where
    by_word : (w : Option Bool) → (last_said say (since r d past) ≡ true → last_said say past ≡ true) → unwrap_or w (last_said say (since r d past)) ≡ true → unwrap_or w (last_said say past) ≡ true
    by_word None rest k = rest k
    by_word (Some b) rest k = k

    by_opens : (x : Bool) → opens_now r d past a ≡ x → (is_open r d past ≡ true → last_said say (since r d past) ≡ true → last_said say past ≡ true) → unwrap_or (say a) (last_said say past) ≡ true
    by_opens true e rest = let t : false ≡ true = sym (ap (last_said say) (since_opens r d past a e)) ∙ h in cc
    by_opens false e rest =
        by_word (say a) (rest (open_before r d past a e o))
        (sym (ap (last_said say) (since_goes_on r d past a e o)) ∙ h)

-- ## What is kept

-- where d is opened nothing about its stop was kept before, and while it is open 0 is open
pub record IsFirst (r : Role) (d : ℕ) (past : List Act) (a : Act) : Type 0 where
  pub none : opens_now r d past a ≡ true → kept_stop r d past ≡ false
  pub below : is_open r d past ≡ true → is_open r 0 past ≡ true

-- so it is at each act of the past
abbrev pub OpensFirst : Role → ℕ → List Act → Type 0
OpensFirst r d [] = Unit {0}
OpensFirst r d (a ∷ past) = IsFirst r d past a × OpensFirst r d past

mode_bare : (k : Kind) (x y : Bool) → (is_kind k Ua && x) ≡ true → (is_kind k Uih && y) ≡ false
mode_bare Ua x y h = refl
mode_bare Sabm x y h = cc
mode_bare Dm x y h = cc
mode_bare Disc x y h = cc
mode_bare Uih x y h = cc

-- what opens brings no message
opening_bare : (r : Role) (z k : Bool) (d : ℕ) (f : Frame) → opens r z k d (Got f) ≡ true → is_on Uih 0 f ≡ false
opening_bare Initiator z k d f h = mode_bare f.kind (f.dlci == d) (f.dlci == 0) (and_parts (is_on Ua d f) k h).0
opening_bare Responder z k d f h = sabm_bare f.kind (f.dlci == d) (f.dlci == 0) (and_parts (is_on Sabm d f) ((d == 0) || z) h).0

never_opens : {P : Type 0} → (r : Role) (d : ℕ) (past : List Act) (a : Act) → is_got a ≡ false → opens_now r d past a ≡ true → P
never_opens r d past a other o = let t : true ≡ false = sym o ∙ opens_none r (is_open r 0 past) (is_asked r d past) d a other in cc

opened_kept : (r : Role) (d : ℕ) (past : List Act) (a : Act) → opens_now r d past a ≡ true → kept_stop r d past ≡ false → kept_stop r d (a ∷ past) ≡ false
opened_kept r d past (Got f) o k =
    let bare = opening_bare r (is_open r 0 past) (is_asked r d past) d f o in
    by_zero (is_open r 0 past) (ap (λ (b : Bool). if_message (says_at d) (if b then message_of f.info else None)) bare) ∙ k
  where
    by_zero : (z : Bool) → says_on d f ≡ None → unwrap_or (if z then says_on d f else None) (kept_stop r d past) ≡ kept_stop r d past
    by_zero true e = ap (λ (w : Option Bool). unwrap_or w (kept_stop r d past)) e
    by_zero false e = refl
opened_kept r d past (Sent f) o k = never_opens r d past (Sent f) refl o
opened_kept r d past (Called c) o k = never_opens r d past (Called c) refl o
opened_kept r d past Tick o k = never_opens r d past Tick refl o
opened_kept r d past Lost o k = never_opens r d past Lost refl o
opened_kept r d past Given o k = never_opens r d past Given refl o

-- an act since it opened, after which the last word isn't that it is stopped
goes_on : (r : Role) (d : ℕ) (past : List Act) (a : Act) → is_open r 0 past ≡ true → unwrap_or (got_says (says_at d) a) (last_said (got_says (says_at d)) (since r d past)) ≡ false
    → (last_said (got_says (says_at d)) (since r d past) ≡ false → kept_stop r d past ≡ false) → kept_stop r d (a ∷ past) ≡ false
goes_on r d past (Got f) zero_open h rest = ap (λ (z : Bool). unwrap_or (if z then says_on d f else None) (kept_stop r d past)) zero_open ∙ by_word (says_on d f) h
  where
    by_word : (w : Option Bool) → unwrap_or w (last_said (got_says (says_at d)) (since r d past)) ≡ false → unwrap_or w (kept_stop r d past) ≡ false
    by_word None k = rest k
    by_word (Some b) k = k
goes_on r d past (Sent f) zero_open h rest = rest h
goes_on r d past (Called c) zero_open h rest = rest h
goes_on r d past Tick zero_open h rest = rest h
goes_on r d past Lost zero_open h rest = rest h
goes_on r d past Given zero_open h rest = rest h

-- where it isn't stopped since it opened, it isn't by what is kept
pub kept_off : (r : Role) (d : ℕ) (past : List Act) → OpensFirst r d past → is_open r d past ≡ true → last_said (got_says (says_at d)) (since r d past) ≡ false → kept_stop r d past ≡ false
kept_off r d [] first o h = refl
kept_off r d (a ∷ past) first o h = by_opens (opens_now r d past a) refl (λ b k. kept_off r d past first.1 b k)
  where
    by_opens : (x : Bool) → opens_now r d past a ≡ x → (is_open r d past ≡ true → last_said (got_says (says_at d)) (since r d past) ≡ false → kept_stop r d past ≡ false) → kept_stop r d (a ∷ past) ≡ false
    by_opens true e rest = opened_kept r d past a e (first.0.none e)
    by_opens false e rest =
        let b = open_before r d past a e o in
        goes_on r d past a (first.0.below b) (sym (ap (last_said (got_says (says_at d))) (since_goes_on r d past a e o)) ∙ h) (rest b)
