-- Whose turn it is.
use Rattle.std.specs.Prelude.{zero, suc, ◌≡◌, ◌≢◌, ℕ, ◌+◌, ◌-◌, ◌<◌, ◌≤◌, ◌==◌, ◌&&◌, ◌||◌, not, List, [], ◌∷◌, length, drop, slice_get, option_map, Bool, true, false, Option, Some, None, refl, if◌then◌else◌}
use Rattle.std.specs.List.{find, range_with_len}
use Rattle.std.proofs.Common.{◌∙◌, ap, sym, subst, arith, eqb-true}
use Rattle.std.proofs.lemmas.Bool.{eqb-false}
use Rattle.std.proofs.lemmas.Bool.Decides.{nat_tests}
use Rattle.mux_station.specs.States.{is_opened}
use Rattle.mux_station.specs.Stations.{Station, channel_at, all_stopped_in}
use Rattle.mux_station.specs.Marks.{may_send, first_sender}
use Rattle.mux_station.proofs.turns.SenderMarks.{find_none}
use Rattle.mux_frame.specs.Frames.{Frame}
use Rattle.mux_station.specs.Giving.{is_ready, first_ready, ready_from, else_first, next_turn, turn_at, data_frame, data_given, next_given, station_after}
use Rattle.mux_station.specs.GivenFrames.{Control, Data, Outgoing, with_freshness}

-- ## Who is ready

ready_at : (zero opened stopped all some : Bool) → zero ≡ false → all ≡ false
    → (opened && (not (not zero && ((opened && stopped) || all)) && some)) ≡ (opened && (not stopped && some))
ready_at false true true false some z a = refl
ready_at false true false false some z a = refl
ready_at false false stopped false some z a = refl
ready_at true opened stopped all some z a = absurd (let h : true ≡ false = z in cc)
ready_at false opened stopped true some z a = absurd (let h : true ≡ false = a in cc)

none_at : (zero opened stopped all some : Bool) → zero ≡ false → all ≡ true
    → (opened && (not (not zero && ((opened && stopped) || all)) && some)) ≡ false
none_at false true true true some z a = refl
none_at false true false true some z a = refl
none_at false false stopped true some z a = refl
none_at true opened stopped all some z a = absurd (let h : true ≡ false = z in cc)
none_at false opened stopped false some z a = absurd (let h : false ≡ true = a in cc)

no_zero : (d : ℕ) → 1 ≤ d → (d == 0) ≡ false
no_zero d l = grind (arith, nat_tests)

-- without the stop of all, a connection is ready where it may send
ready_alone : (v : Station) (d : ℕ) → 1 ≤ d → all_stopped_in v ≡ false → is_ready v d ≡ may_send (channel_at v d)
ready_alone v d l a =
    let c = channel_at v d in
    ready_at (d == 0) (is_opened c.state) c.is_stopped (all_stopped_in v) (not (length c.waiting == 0)) (no_zero d l) a

-- under the stop of all none is ready
ready_never : (v : Station) (d : ℕ) → 1 ≤ d → all_stopped_in v ≡ true → is_ready v d ≡ false
ready_never v d l a =
    let c = channel_at v d in
    none_at (d == 0) (is_opened c.state) c.is_stopped (all_stopped_in v) (not (length c.waiting == 0)) (no_zero d l) a

-- the first that is ready is the first to pass a test, where the test says of each whether it is ready
pub first_is_found : (v : Station) (p : ℕ → Bool) (d count : ℕ) → ((e : ℕ) → d ≤ e → e < d + count → is_ready v e ≡ p e) → first_ready v d count ≡ find p (range_with_len d count)
first_is_found v p d zero h = refl
first_is_found v p d (suc count) h =
    ap (λ (b : Bool). if b then Some d else first_ready v (d + 1) count) (h d (omega arith) (omega arith))
    ∙ ap (λ (o : Option ℕ). if p d then Some d else o) (first_is_found v p (d + 1) count (λ e k x. h e (omega (arith, k)) (omega (arith, x))))

-- without the stop of all, the first that is ready is the first that may send
pub first_ready_alone : (v : Station) (d : ℕ) → 1 ≤ d → all_stopped_in v ≡ false → first_ready v d (62 - d) ≡ first_sender v.channels d
first_ready_alone v d l a = first_is_found v (λ e. may_send (channel_at v e)) d (62 - d) (λ e k x. ready_alone v e (omega (arith, k, l)) a)

-- under the stop of all there is none
pub first_ready_never : (v : Station) (d : ℕ) → 1 ≤ d → all_stopped_in v ≡ true → first_ready v d (62 - d) ≡ None
first_ready_never v d l a =
    first_is_found v (λ e. false) d (62 - d) (λ e k x. ready_never v e (omega (arith, k, l)) a)
    ∙ find_none (λ e. false) d (62 - d) (λ e k x. refl)

-- where none of these is ready, no one of them is
none_ready : (v : Station) (d count e : ℕ) → first_ready v d count ≡ None → d ≤ e → e < d + count → is_ready v e ≡ false
none_ready v d zero e h l m = absurd (omega (arith, l, m))
none_ready v d (suc count) e h l m = by_test (is_ready v d) refl h (λ k n. none_ready v (d + 1) count e k n (omega (arith, m)))
  where
    by_test : (b : Bool) → is_ready v d ≡ b → (if b then Some d else first_ready v (d + 1) count) ≡ None → (first_ready v (d + 1) count ≡ None → d + 1 ≤ e → is_ready v e ≡ false) → is_ready v e ≡ false
    by_test true r k f = cc
    by_test false r k f = by_place (d == e) refl
      where
        by_place : (b : Bool) → (d == e) ≡ b → is_ready v e ≡ false
        by_place true p = subst (λ (x : ℕ). is_ready v x ≡ false) (eqb-true d e p) r
        by_place false p = let n = eqb-false d e p in f k (omega (arith, l, n))

-- where none is ready at all, it is nobody's turn
pub none_at_all : (v : Station) → ready_from v 1 ≡ None → next_turn v ≡ None
none_at_all v h =
    ap (λ (o : Option ℕ). else_first o (ready_from v 1))
    (first_is_found v (λ e. false) (v.last + 1) (62 - (v.last + 1)) (λ e k x. none_ready v 1 61 e h (omega (arith, k)) (omega (arith, x, k)))
    ∙ find_none (λ e. false) (v.last + 1) (62 - (v.last + 1)) (λ e k x. refl))
    ∙ h

-- ## What is next

-- where a control frame is next, one waits
pub control_waits : (v : Station) (fs : List Frame) → turn_at v fs ≡ Some Control → fs ≢ []
control_waits v (f ∷ fs) h e = cc
control_waits v [] h e = none_of (next_turn v) h
  where
    none_of : (o : Option ℕ) → option_map Data o ≡ Some Control → ⊥
    none_of None h = cc
    none_of (Some d) h = cc

-- it is the first
pub control_next : (v : Station) (fs : List Frame) (o : Outgoing) → turn_at v fs ≡ Some Control → Some o ≡ option_map (with_freshness false) (slice_get fs 0)
    → Some o ≡ option_map (with_freshness (length fs == 0)) (next_given v fs)
control_next v [] o h e = absurd (control_waits v [] h refl)
control_next v (f ∷ fs) o h e = e ∙ ap (λ (b : Bool). Some (with_freshness b f)) (sym (no_zero (suc (length fs)) (omega arith)))

-- and then the station has the others
pub control_after : (v : Station) (fs : List Frame) → turn_at v fs ≡ Some Control → record v { queue = drop 1 fs } ≡ station_after v fs
control_after v [] h = absurd (control_waits v [] h refl)
control_after v (f ∷ fs) h = refl

-- data that is next is that of the connection whose turn it is
pub data_turn : (o : Option ℕ) (d : ℕ) → option_map Data o ≡ Some (Data d) → o ≡ Some d
data_turn None d h = cc
data_turn (Some e) d h = cc

-- where data is next, it is this frame
pub data_next : (v : Station) (fs : List Frame) (d : ℕ) (o : Outgoing) → turn_at v fs ≡ Some (Data d) → o ≡ with_freshness true (data_frame v d)
    → Some o ≡ option_map (with_freshness (length fs == 0)) (next_given v fs)
data_next v (f ∷ fs) d o h e = cc
data_next v [] d o h e = ap Some e ∙ ap (λ (t : Option ℕ). option_map (with_freshness true) (option_map (data_frame v) t)) (sym (data_turn (next_turn v) d h))

-- and then the station is that after data was given on
pub data_after : (v : Station) (fs : List Frame) (d : ℕ) → turn_at v fs ≡ Some (Data d) → data_given v (Some d) ≡ station_after v fs
data_after v (f ∷ fs) d h = cc
data_after v [] d h = ap (data_given v) (sym (data_turn (next_turn v) d h))

no_turn : (o : Option ℕ) → option_map Data o ≡ None → o ≡ None
no_turn None h = refl
no_turn (Some d) h = cc

-- where it is nobody's turn no frame is next
pub none_next : (v : Station) (fs : List Frame) → turn_at v fs ≡ None → next_given v fs ≡ None
none_next v (f ∷ fs) h = cc
none_next v [] h = ap (option_map (data_frame v)) (no_turn (next_turn v) h)

-- and the station stays
pub none_after : (v : Station) (fs : List Frame) → turn_at v fs ≡ None → station_after v fs ≡ v
none_after v (f ∷ fs) h = cc
none_after v [] h = ap (data_given v) (no_turn (next_turn v) h)
