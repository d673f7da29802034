-- A responder sends no UA on a connection before a SABM on it came.
use Rattle.std.specs.Prelude.{◌≡◌, ℕ, ◌+◌, ◌==◌, ◌≤◌, ◌&&◌, ◌||◌, Bool, true, false, List, [], ◌∷◌, ◌++◌, drop, is_none, refl, if◌then◌else◌}
use Rattle.std.proofs.Common.{ap, arith, sym, ◌∙◌, eqb-true}
use Rattle.mux_frame.specs.Frames.{Frame}
use Rattle.mux_frame.specs.declared.frame.Kind.{Kind}
use Rattle.mux_frame.specs.declared.frame.Kind.TheVariants.{Sabm, Ua, Dm, Disc, Uih}
use Rattle.mux_station.specs.declared.role.Role.TheVariants.{Responder}
use Rattle.mux_station.specs.Acts.{Act, Called, Got, Sent, Tick, Lost, Given}
use Rattle.mux_station.proofs.states.OpeningSteps.{is_open_after}
use Rattle.mux_station.specs.Opening.{ends, is_open}
use Rattle.mux_station.specs.Sending.{Sends, StationLawful, called_frames, owed_frames, refused, station_view}
use Rattle.mux_station.specs.States.{State, is_opened}
use Rattle.mux_station.specs.Tables.{by_frame, by_message, by_table, ua_or_dm}
use Rattle.mux_station.specs.Written.{is_data_frame, is_kind, is_on}
use Rattle.modem_show.specs.Asking.{is_mode_command}
use Rattle.modem_history.specs.TwoEnds.{frames_got, frames_sent}
use Rattle.modem_history.proofs.connections.InformationGrowth.{is_got}
use Rattle.one_modem.proofs.two_ends.ResponderFrames.{not_opening, still_shut}
use Rattle.show_laws.specs.Lines.{responding}
use Rattle.show_laws.proofs.counts.ManyFrames.{few_if, many, many_both, unit}
use Rattle.show_laws.proofs.counts.BalancedTables.{none_of_tick}
use Rattle.show_laws.proofs.counts.StationCounts.{station_asked, station_called}
use Rattle.show_laws.proofs.asks.AnswersCalled.{AnyProbe}
use Rattle.show_laws.proofs.openings.ModeAnswers.{messaged, modes_few, ua_balanced, ua_modes}

-- while no SABM on d came, d isn't open, and no UA on it was sent or is owed
pub record Shut (n1 d : ℕ) (past : List Act) : Type 0 where
  pub open_not : is_open Responder d past ≡ false
  pub sent_none : many (is_on Ua d) (frames_sent past) ≤ 0
  pub owed_none : many (is_on Ua d) (owed_frames (responding n1) past) ≤ 0

-- where none is counted the first doesn't pass
pub none_of : (t : Frame → Bool) (f : Frame) (n : ℕ) → unit (t f) + n ≤ 0 → t f ≡ false
none_of t f n h = by_test (t f) refl
  where
    by_test : (b : Bool) → t f ≡ b → b ≡ false
    by_test false e = refl
    by_test true e = let x : unit (t f) ≡ 1 = ap unit e in absurd (omega (arith, x, h))

-- an act that brings and sends nothing, and calls for no UA
plain : (n1 d : ℕ) (past : List Act) (a : Act) → is_got a ≡ false → many (is_on Ua d) (called_frames (responding n1) past a) ≤ 0 → Shut n1 d past
    → (is_open Responder d (a ∷ past) ≡ false) × (many (is_on Ua d) (owed_frames (responding n1) past ++ called_frames (responding n1) past a) ≤ 0)
plain n1 d past a other none h =
    let e = many_both (is_on Ua d) (owed_frames (responding n1) past) (called_frames (responding n1) past a) in
    let o = h.owed_none in
    (not_opening d past a other h.open_not, omega (arith, e, o, none))

table_none : (n d : ℕ) (channel own : State) (k : Kind) → (is_kind k Sabm && (n == d)) ≡ false → (n == d) ≡ true → is_opened own ≡ false → many (is_on Ua d) (by_table Responder n channel own k) ≤ 0
table_none n d channel own Sabm unasked here shut = absurd (let x : true ≡ false = sym here ∙ unasked in cc)
table_none n d channel own Disc unasked here shut =
    let e : many (is_on Ua d) (ua_or_dm Responder n (is_opened own) ∷ []) ≡ many (is_on Ua d) (ua_or_dm Responder n false ∷ []) = ap (λ (b : Bool). many (is_on Ua d) (ua_or_dm Responder n b ∷ [])) shut in
    omega (arith, e)
table_none n d channel own Ua unasked here shut = omega arith
table_none n d channel own Dm unasked here shut = omega arith
table_none n d channel own Uih unasked here shut = omega arith

off : (a b : Bool) → b ≡ false → unit (a && b) ≤ 0
off true true e = let x : true ≡ false = e in cc
off true false e = omega arith
off false b e = omega arith

-- no UA on d is called for by what isn't a SABM on d, where d isn't open
none_called : (d : ℕ) (state : ℕ → State) (f : Frame) → is_on Sabm d f ≡ false → ((f.dlci == d) ≡ true → is_opened (state f.dlci) ≡ false) → many (is_on Ua d) (by_frame Responder state f) ≤ 0
none_called d state f unasked shut = by_here (f.dlci == d) refl
  where
    by_here : (b : Bool) → (f.dlci == d) ≡ b → many (is_on Ua d) (by_frame Responder state f) ≤ 0
    by_here true e =
        few_if (is_on Ua d) 0 (is_on Uih 0 f) (by_message Responder (state 0) f) (by_table Responder f.dlci (state 0) (state f.dlci) f.kind)
        (messaged (is_on Ua d) (λ n. n == d) (ua_modes d) Responder (state 0) f) (table_none f.dlci d (state 0) (state f.dlci) f.kind unasked e (shut e))
    by_here false e =
        let few = modes_few (is_on Ua d) (λ n. n == d) (ua_modes d) Responder state f in
        let none = off (is_mode_command f) (f.dlci == d) e in
        omega (arith, few, none)

comes : (n1 d : ℕ) (past : List Act) (f : Frame) → is_on Sabm d f ≡ false → Shut n1 d past → Shut n1 d (Got f ∷ past)
comes n1 d past f unasked h =
    let view = station_view (responding n1) past in
    let closed : (f.dlci == d) ≡ true → is_opened (view.state f.dlci) ≡ false =
    λ here. (ap (λ n. is_open Responder n past) (eqb-true f.dlci d here) ∙ h.open_not) in
    let few = station_called (is_on Ua d) 0 (responding n1) past (Got f) (none_called d view.state f unasked closed) in
    let e = many_both (is_on Ua d) (owed_frames (responding n1) past) (called_frames (responding n1) past (Got f)) in
    let o = h.owed_none in
    record {
      open_not = is_open_after Responder d past (Got f) ∙ still_shut (is_on Sabm d f && ((d == 0) || is_open Responder 0 past)) (is_open Responder d past) (ends (is_open Responder 0 past) d (Got f)) (ap (λ (b : Bool). b && ((d == 0) || is_open Responder 0 past)) unasked) h.open_not;
      sent_none = h.sent_none;
      owed_none = omega (arith, e, few, o);
    }

-- while no SABM on d came to a lawful responder, d isn't open, and no UA on it was sent or is owed
pub shut : (n1 d : ℕ) (past : List Act) → StationLawful (responding n1) past → many (is_on Sabm d) (frames_got past) ≤ 0 → Shut n1 d past
unfolding StationLawful Sends
shut n1 d [] l none = record { open_not = refl; sent_none = omega arith; owed_none = omega arith }
shut n1 d (Called c ∷ past) l none =
    let h = shut n1 d past l none in
    let s = responding n1 in
    let few = station_asked AnyProbe s (is_on Ua d) (λ f. is_mode_command f && (f.dlci == d)) (ua_balanced n1 Responder d) (station_view s past) c (is_none (refused s (station_view s past) c)) refl in
    let p = plain n1 d past (Called c) refl (station_called (is_on Ua d) 0 s past (Called c) few) h in
    record { open_not = p.0; sent_none = h.sent_none; owed_none = p.1 }
shut n1 d (Tick ∷ past) l none =
    let h = shut n1 d past l none in
    let s = responding n1 in
    let v = station_view s past in
    let few = none_of_tick AnyProbe n1 Responder (is_on Ua d) (λ f. is_mode_command f && (f.dlci == d)) (ua_balanced n1 Responder d) n1 v.state v.queued 0 62 in
    let p = plain n1 d past Tick refl (station_called (is_on Ua d) 0 s past Tick few) h in
    record { open_not = p.0; sent_none = h.sent_none; owed_none = p.1 }
shut n1 d (Given ∷ past) l none =
    let h = shut n1 d past l none in
    let p = plain n1 d past Given refl (station_called (is_on Ua d) 0 (responding n1) past Given (omega arith)) h in
    record { open_not = p.0; sent_none = h.sent_none; owed_none = p.1 }
shut n1 d (Lost ∷ past) l none =
    let h = shut n1 d past l none in
    record { open_not = not_opening d past Lost refl h.open_not; sent_none = h.sent_none; owed_none = omega arith }
shut n1 d (Got f ∷ past) l none =
    comes n1 d past f (none_of (is_on Sabm d) f (many (is_on Sabm d) (frames_got past)) none) (shut n1 d past l (omega (arith, none)))
shut n1 d (Sent f ∷ past) l none = by_data (is_data_frame f) refl l.0 (shut n1 d past l.1 none)
  where
    by_data : (b : Bool) → is_data_frame f ≡ b → Sends (responding n1) past f b → Shut n1 d past → Shut n1 d (Sent f ∷ past)
    by_data true is g h =
        let e : unit (is_on Ua d f) ≡ 0 = ap unit ((ua_balanced n1 Responder d).plain f is g.fits) in
        let o : many (is_on Ua d) (owed_frames (responding n1) (Sent f ∷ past)) ≡ many (is_on Ua d) (owed_frames (responding n1) past) = ap (λ (b : Bool). many (is_on Ua d) (if b then owed_frames (responding n1) past else drop 1 (owed_frames (responding n1) past))) is in
        let x = h.sent_none in
        let y = h.owed_none in
        record { open_not = not_opening d past (Sent f) refl h.open_not; sent_none = omega (arith, e, x); owed_none = omega (arith, o, y) }
    by_data false is g h =
        let o : many (is_on Ua d) (owed_frames (responding n1) (Sent f ∷ past)) ≡ many (is_on Ua d) (drop 1 (owed_frames (responding n1) past)) = ap (λ (b : Bool). many (is_on Ua d) (if b then owed_frames (responding n1) past else drop 1 (owed_frames (responding n1) past))) is in
        let e : many (is_on Ua d) (owed_frames (responding n1) past) ≡ unit (is_on Ua d f) + many (is_on Ua d) g.later = ap (many (is_on Ua d)) g.is_next in
        let k : many (is_on Ua d) (drop 1 (owed_frames (responding n1) past)) ≡ many (is_on Ua d) g.later = ap (λ (fs : List Frame). many (is_on Ua d) (drop 1 fs)) g.is_next in
        let x = h.sent_none in
        let y = h.owed_none in
        record { open_not = not_opening d past (Sent f) refl h.open_not; sent_none = omega (arith, e, x, y); owed_none = omega (arith, o, k, e, y) }

-- so it sends no UA on d before that
pub ua_behind : (n1 d : ℕ) (past : List Act) → StationLawful (responding n1) past → many (is_on Sabm d) (frames_got past) ≤ 0 → many (is_on Ua d) (frames_sent past) ≤ 0
ua_behind n1 d past l none = (shut n1 d past l none).sent_none
