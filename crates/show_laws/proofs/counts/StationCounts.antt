-- A station sends no more frames of the first of two balanced tests than frames of the second came.
use Rattle.std.specs.Prelude.{◌≡◌, ℕ, ◌+◌, ◌*◌, ◌==◌, ◌≤◌, not, nat_le, Bool, true, false, List, [], ◌∷◌, ◌++◌, drop, length, Option, Some, None, refl, is_none, is_some, if◌then◌else◌}
use Rattle.std.specs.List.{list_any}
use Rattle.std.proofs.Common.{ap, arith}
use Rattle.mux_frame.specs.Frames.{Frame}
use Rattle.mux_frame.specs.declared.frame.Kind.TheVariants.{Sabm, Disc}
use Rattle.mux_station.specs.declared.error.StationError.{StationError}
use Rattle.mux_station.specs.declared.error.StationError.TheVariants.{NotOpen, Busy, TooLong}
use Rattle.mux_station.specs.Acts.{Call, Open, Close, Probe, Stop, Flow, Offer, Act, Called, Got, Sent, Tick, Lost, Given}
use Rattle.mux_station.specs.Messages.{cld, msc, test}
use Rattle.mux_station.specs.Sending.{Sends, StationLawful, StationSetting, StationView, called_frames, frames_asked, frames_seeing, if_no_room, is_loss, or_else, owed_frames, refused, station_view}
use Rattle.mux_station.specs.States.{is_opened}
use Rattle.mux_station.specs.Tables.{held_up, message_frame, msc_frame, ready}
use Rattle.mux_station.specs.Written.{is_data_frame, written}
use Rattle.modem_history.specs.TwoEnds.{frames_got, frames_sent}
use Rattle.show_laws.proofs.counts.ManyFrames.{few_if, many, many_both, none_one, unit}
use Rattle.show_laws.proofs.counts.BalancedTables.{Balanced, none_of_tick}

of_all : (P : List ℕ → Type 0) (s : StationSetting) (u t : Frame → Bool) → Balanced P s.n1 s.role u t → (go : Bool) → u (message_frame s.role (if go then 0xa3 else 0x63) []) ≡ false
of_all P s u t b true = b.command 0xa3 [] refl (omega arith)
of_all P s u t b false = b.command 0x63 [] refl (omega arith)

-- a probe that isn't refused is short
probe_short : (s : StationSetting) (v : StationView) (octets : List ℕ) → is_none (refused s v (Probe octets)) ≡ true → nat_le (length octets) 16 ≡ true
probe_short s v octets h = by_length (nat_le (length octets) 16) (if not (is_opened (v.state 0)) then Some NotOpen else if is_some v.probe then Some Busy else None) (if_no_room s v (Probe octets)) h
  where
    by_length : (b : Bool) (o p : Option StationError) → is_none (or_else (if not b then Some TooLong else o) p) ≡ true → b ≡ true
    by_length true o p h = refl
    by_length false o p h = cc

-- a call that isn't refused calls for no frame of the first test, nor does one that is
pub station_asked : (P : List ℕ → Type 0) (s : StationSetting) (u t : Frame → Bool) → Balanced P s.n1 s.role u t → (v : StationView) (c : Call) (b : Bool) → is_none (refused s v c) ≡ b → many u (if b then frames_asked s.role c else []) ≤ 0
station_asked P s u t k v c false e = omega arith
station_asked P s u t k v (Open d) true e = none_one u (written s.role Sabm d []) (k.sabm d)
station_asked P s u t k v (Close d) true e = none_one u (written s.role Disc d []) (k.disc d)
station_asked P s u t k v (Probe octets) true e = none_one u (message_frame s.role test octets) (k.probe octets (k.short octets (probe_short s v octets e)))
station_asked P s u t k v Stop true e = none_one u (message_frame s.role cld []) (k.command cld [] refl (omega arith))
station_asked P s u t k v (Flow d go) true e =
    few_if u 0 (d == 0) (message_frame s.role (if go then 0xa3 else 0x63) [] ∷ []) (msc_frame s.role d (if go then ready else held_up) ∷ [])
    (none_one u (message_frame s.role (if go then 0xa3 else 0x63) []) (of_all P s u t k go))
    (none_one u (msc_frame s.role d (if go then ready else held_up)) (k.command msc ((4 * d + 3) ∷ (if go then ready else held_up) ∷ []) refl (omega arith)))
station_asked P s u t k v (Offer d octets) true e = omega arith

-- what bounds the frames of an act by the tables bounds those that it calls for, though the line may be lost
pub station_called : (u : Frame → Bool) (n : ℕ) (s : StationSetting) (past : List Act) (a : Act) → many u (frames_seeing s (station_view s past) a) ≤ n → many u (called_frames s past a) ≤ n
station_called u n s past a h = few_if u n (list_any is_loss past) [] (frames_seeing s (station_view s past) a) (omega arith) h

-- what was sent, and what is owed, is no more than what came
abbrev Few : StationSetting → (u t : Frame → Bool) → List Act → Type 0
Few s u t past = many u (owed_frames s past) + many u (frames_sent past) ≤ many t (frames_got past)

more : (s : StationSetting) (u t : Frame → Bool) (past : List Act) (a : Act) (n : ℕ) → many u (frames_seeing s (station_view s past) a) ≤ n → Few s u t past
    → many u (owed_frames s past ++ called_frames s past a) + many u (frames_sent past) ≤ n + many t (frames_got past)
more s u t past a n h k =
    let parts = many_both u (owed_frames s past) (called_frames s past a) in
    let few = station_called u n s past a h in
    omega (arith, parts, few, k)

more_none : (s : StationSetting) (u t : Frame → Bool) (past : List Act) (a : Act) → many u (frames_seeing s (station_view s past) a) ≤ 0 → Few s u t past
    → many u (owed_frames s past ++ called_frames s past a) + many u (frames_sent past) ≤ many t (frames_got past)
more_none s u t past a h k = let e = more s u t past a 0 h k in omega (arith, e)

sent_by : (P : List ℕ → Type 0) (s : StationSetting) (u t : Frame → Bool) → Balanced P s.n1 s.role u t → (past : List Act) (f : Frame) (b : Bool) → is_data_frame f ≡ b → Sends s past f b → Few s u t past
    → many u (if b then owed_frames s past else drop 1 (owed_frames s past)) + (unit (u f) + many u (frames_sent past)) ≤ many t (frames_got past)
unfolding Sends
sent_by P s u t b past f true is g k = let e : unit (u f) ≡ 0 = ap unit (b.plain f is g.fits) in omega (arith, e, k)
sent_by P s u t b past f false is g k =
    let e : many u (owed_frames s past) ≡ unit (u f) + many u g.later = ap (many u) g.is_next in
    let d : many u (drop 1 (owed_frames s past)) ≡ many u g.later = ap (λ (fs : List Frame). many u (drop 1 fs)) g.is_next in
    omega (arith, e, d, k)

few : (P : List ℕ → Type 0) (s : StationSetting) (u t : Frame → Bool) → Balanced P s.n1 s.role u t → (past : List Act) → StationLawful s past → Few s u t past
unfolding StationLawful
few P s u t b [] l = omega arith
few P s u t b (Sent f ∷ past) l = sent_by P s u t b past f (is_data_frame f) refl l.0 (few P s u t b past l.1)
few P s u t b (Called c ∷ past) l = more_none s u t past (Called c) (station_asked P s u t b (station_view s past) c (is_none (refused s (station_view s past) c)) refl) (few P s u t b past l)
few P s u t b (Got f ∷ past) l = more s u t past (Got f) (unit (t f)) (b.frame (station_view s past).state f) (few P s u t b past l)
few P s u t b (Tick ∷ past) l = more_none s u t past Tick (none_of_tick P s.n1 s.role u t b s.n1 (station_view s past).state (station_view s past).queued 0 62) (few P s u t b past l)
few P s u t b (Given ∷ past) l = more_none s u t past Given (omega arith) (few P s u t b past l)
few P s u t b (Lost ∷ past) l = let k = few P s u t b past l in omega (arith, k)

-- a lawful station sent no more frames of the first test than of the second came to it
pub station_sends : (P : List ℕ → Type 0) (s : StationSetting) (u t : Frame → Bool) → Balanced P s.n1 s.role u t → (past : List Act) → StationLawful s past → many u (frames_sent past) ≤ many t (frames_got past)
station_sends P s u t b past l = let k = few P s u t b past l in omega (arith, k)
