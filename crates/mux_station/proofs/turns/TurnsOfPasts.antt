-- Whose data is next at a station is whose it is by each past that it fits.
use Rattle.std.specs.Prelude.{◌≡◌, ℕ, ◌+◌, ◌-◌, ◌<◌, ◌≤◌, ◌==◌, ◌&&◌, not, nat_lt, Bool, true, false, List, [], ◌∷◌, ◌++◌, length, refl, if◌then◌else◌, Option, Some}
use Rattle.std.specs.List.{find, range_with_len}
use Rattle.std.proofs.Common.{◌∙◌, ap, sym, arith, length-append}
use Rattle.std.proofs.lemmas.Bool.Decides.{nat_tests}
use Rattle.mux_frame.specs.Frames.{Frame}
use Rattle.mux_station.specs.Acts.{Act}
use Rattle.mux_station.specs.Opening.{is_open}
use Rattle.mux_station.specs.States.{is_opened}
use Rattle.mux_station.specs.Offering.{offered, data_out}
use Rattle.mux_station.specs.Stations.{Station, channel_at, stopped_in}
use Rattle.mux_station.specs.Fitting.{StationFits}
use Rattle.mux_station.specs.Giving.{is_ready, ready_from, else_first, next_turn, next_sender}
use Rattle.mux_station.specs.Senders.{has_data, turns_after, turn_of, where_none_waits, SeesTheTurn}
use Rattle.mux_station.proofs.turns.ReadyConnections.{first_is_found}
use Rattle.mux_station.proofs.states.StationPasts.{open_fits, stopped_fits}

-- ## What is ready

counted : (g w o : ℕ) → o ≡ g + w → not (w == 0) ≡ nat_lt g o
counted g w o e = grind (arith, nat_tests)

and_same : (a b : Bool) (x y : Bool) → (a ≡ true → x ≡ y) → (a && (b && x)) ≡ (a && (b && y))
and_same true true x y h = h refl
and_same true false x y h = refl
and_same false b x y h = refl

ready_fits : (v : Station) (past : List Act) (d : ℕ) → StationFits v past → d < 62 → is_ready v d ≡ has_data v.role past d
ready_fits v past d h l =
    let o = is_opened (channel_at v d).state in
    let w = (channel_at v d).waiting in
    let g = data_out v.role d past in
    let some : o ≡ true → not (length w == 0) ≡ nat_lt (length g) (length (offered v.role d past)) =
    λ e. counted (length g) (length w) (length (offered v.role d past)) (ap length ((h.channels_are d l).ring_is e) ∙ length-append g w) in
    and_same o (not (stopped_in v d)) (not (length w == 0)) (nat_lt (length g) (length (offered v.role d past))) some
    ∙ (ap (λ (b : Bool). b && (not (stopped_in v d) && nat_lt (length g) (length (offered v.role d past)))) (sym (open_fits v past d h l))
    ∙ ap (λ (b : Bool). is_open v.role d past && (not b && nat_lt (length g) (length (offered v.role d past)))) (stopped_fits v past d h l))

-- ## Turns

either_found : (p : ℕ → Bool) (xs ys : List ℕ) → else_first (find p xs) (find p ys) ≡ find p (xs ++ ys)
either_found p [] ys = refl
either_found p (x ∷ xs) ys = at (p x) (either_found p xs ys)
  where
    at : (b : Bool) → else_first (find p xs) (find p ys) ≡ find p (xs ++ ys) → else_first (if b then Some x else find p xs) (find p ys) ≡ (if b then Some x else find p (xs ++ ys))
    at true h = refl
    at false h = h

above : (n e : ℕ) → n + 1 ≤ e → e < (n + 1) + (62 - (n + 1)) → e < 62
above n e k l = omega (arith, k, l)

turn_fits : (v : Station) (past : List Act) → StationFits v past → next_turn v ≡ turn_of v.role past
turn_fits v past h =
    let p = has_data v.role past in
    let n = v.last in
    let shift : 62 - (n + 1) ≡ 61 - n = omega arith in
    let first : ready_from v (n + 1) ≡ find p (range_with_len (n + 1) (62 - (n + 1))) = first_is_found v p (n + 1) (62 - (n + 1)) (λ e k x. ready_fits v past e h (above n e k x)) in
    let again : ready_from v 1 ≡ find p (range_with_len 1 61) = first_is_found v p 1 61 (λ e k x. ready_fits v past e h (omega (arith, x))) in
    ap (λ (o : Option ℕ). else_first o (ready_from v 1)) (first ∙ ap (λ (m : ℕ). find p (range_with_len (n + 1) m)) shift)
    ∙ (ap (λ (o : Option ℕ). else_first (find p (range_with_len (n + 1) (61 - n))) o) again
    ∙ (either_found p (range_with_len (n + 1) (61 - n)) (range_with_len 1 61)
    ∙ ap (λ (m : ℕ). find p (turns_after m)) (sym h.last_is)))

by_queue : (v : Station) (fs : List Frame) (turn : Option ℕ) → next_turn v ≡ turn → next_sender v fs ≡ where_none_waits fs turn
by_queue v [] turn e = e
by_queue v (f ∷ fs) turn e = refl

-- the connection whose data is next at a station is what each past that it fits says
pub sees_the_turn : (v : Station) (past : List Act) → SeesTheTurn v past
unfolding SeesTheTurn
sees_the_turn v past h = by_queue v v.queue (turn_of v.role past) (turn_fits v past h) ∙ ap (λ (fs : List Frame). where_none_waits fs (turn_of v.role past)) (sym h.queue_is)
