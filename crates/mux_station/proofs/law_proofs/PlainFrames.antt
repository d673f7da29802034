-- Frames of a station have information only in a UIH: those that wait in its control queue, and the one that goes out next.
use Rattle.std.proofs.Common.{ap, sym, ◌∙◌, arith, eqb-true}
use Rattle.std.proofs.lemmas.Bool.{and_parts}
use Rattle.std.specs.Prelude.{◌≡◌, ℕ, ◌≤◌, ◌==◌, ◌||◌, Bool, true, false, List, [], ◌∷◌, ◌++◌, length, drop, Option, Some, None, option_map, is_none, refl, if◌then◌else◌}
use Rattle.std.specs.List.{list_all, list_any}
use Rattle.mux_frame.specs.Frames.{Frame}
use Rattle.mux_frame.specs.Spelling.{most_info}
use Rattle.mux_frame.specs.declared.frame.Kind.{Kind}
use Rattle.mux_frame.specs.declared.frame.Kind.TheVariants.{Sabm, Ua, Dm, Disc, Uih}
use Rattle.mux_station.specs.declared.role.Role.{Role}
use Rattle.mux_station.specs.Acts.{Act, Call, Called, Open, Close, Probe, Stop, Flow, Offer, Got, Sent, Given, Tick, Lost}
use Rattle.mux_station.specs.Written.{is_kind, is_data_frame}
use Rattle.mux_station.specs.Stations.{Station}
use Rattle.mux_station.specs.Giving.{data_frame, next_given, next_turn}
use Rattle.mux_station.specs.Sending.{Controlled, Sends, StationLawful, StationSetting, StationView, called_frames, frames_asked, frames_seeing, is_loss, owed_frames, queue, refused, station_view}
use Rattle.mux_station.specs.Tables.{msc_frame, message_frame, ready, held_up}
use Rattle.mux_station.proofs.law_proofs.ControlFrames.{is_plain, plain_passes, all_both, all_if, all_more, all_of_frame, all_of_tick}

abbrev Plains : List Frame → Type 0
Plains fs = list_all is_plain fs ≡ true

-- ## The frames that an act calls for

asked : (r : Role) (c : Call) → Plains (frames_asked r c)
asked r (Open d) = refl
asked r (Close d) = refl
asked r (Probe octets) = refl
asked r Stop = refl
asked r (Flow d go) = all_if is_plain (d == 0) (message_frame r (if go then 0xa3 else 0x63) [] ∷ []) (msc_frame r d (if go then ready else held_up) ∷ []) refl refl
asked r (Offer d octets) = refl

seeing : (s : StationSetting) (v : StationView) (a : Act) → Plains (frames_seeing s v a)
seeing s v (Called c) = all_if is_plain (is_none (refused s v c)) (frames_asked s.role c) [] (asked s.role c) refl
seeing s v (Got f) = all_of_frame is_plain plain_passes s.role v.state f
seeing s v Tick = all_of_tick is_plain plain_passes s.role s.n1 v.state v.queued 0 62
seeing s v (Sent f) = refl
seeing s v Given = refl
seeing s v Lost = refl

called : (s : StationSetting) (past : List Act) (a : Act) → Plains (called_frames s past a)
called s past a = all_if is_plain (list_any is_loss past) [] (frames_seeing s (station_view s past) a) refl (seeing s (station_view s past) a)

-- ## What is owed, and what waits

fewer : (fs : List Frame) → Plains fs → Plains (drop 1 fs)
fewer [] h = refl
fewer (f ∷ fs) h = (and_parts (is_plain f) (list_all is_plain fs) h).1

owed : (s : StationSetting) (past : List Act) → Plains (owed_frames s past)
owed s [] = refl
owed s (Sent f ∷ past) = all_if is_plain (is_data_frame f) (owed_frames s past) (drop 1 (owed_frames s past)) (owed s past) (fewer (owed_frames s past) (owed s past))
owed s (Lost ∷ past) = refl
owed s (Called c ∷ past) = all_both is_plain (owed_frames s past) (called_frames s past (Called c)) (owed s past) (called s past (Called c))
owed s (Got f ∷ past) = all_both is_plain (owed_frames s past) (called_frames s past (Got f)) (owed s past) (called s past (Got f))
owed s (Tick ∷ past) = all_both is_plain (owed_frames s past) (called_frames s past Tick) (owed s past) (called s past Tick)
owed s (Given ∷ past) = all_both is_plain (owed_frames s past) (called_frames s past Given) (owed s past) (called s past Given)

next_owed : (s : StationSetting) (past : List Act) (f : Frame) → Controlled s past f → is_plain f ≡ true
next_owed s past f next = (and_parts (is_plain f) (list_all is_plain next.later) (sym (ap (list_all is_plain) next.is_next) ∙ owed s past)).0

one_more : (s : StationSetting) (past : List Act) (f : Frame) (b : Bool) → Plains (queue past) → Sends s past f b → Plains (queue past ++ (if b then [] else f ∷ []))
unfolding Sends
one_more s past f true h sends = all_both is_plain (queue past) [] h refl
one_more s past f false h sends = all_both is_plain (queue past) (f ∷ []) h (all_more is_plain f [] (next_owed s past f sends) refl)

-- no frame that waits in the control queue has information but a UIH
pub queued : (s : StationSetting) (past : List Act) → StationLawful s past → Plains (queue past)
unfolding StationLawful
queued s [] h = refl
queued s (Sent f ∷ past) h = one_more s past f (is_data_frame f) (queued s past h.1) h.0
queued s (Called c ∷ past) h = queued s past h
queued s (Got f ∷ past) h = queued s past h
queued s (Tick ∷ past) h = queued s past h
queued s (Lost ∷ past) h = refl
queued s (Given ∷ past) h = fewer (queue past) (queued s past h)

-- ## What goes out

data_plain : (v : Station) (o : Option ℕ) (f : Frame) → option_map (data_frame v) o ≡ Some f → is_plain f ≡ true
data_plain v None f is = cc
data_plain v (Some d) f is = ap is_plain_of (sym is)
  where
    is_plain_of : Option Frame → Bool
    is_plain_of None = true
    is_plain_of (Some x) = is_plain x

-- nor has the frame that goes out next
pub first_plain : (v : Station) (q : List Frame) (f : Frame) → Plains q → next_given v q ≡ Some f → is_plain f ≡ true
first_plain v [] f h is = data_plain v (next_turn v) f is
first_plain v (g ∷ q) f h is =
    let same : g ≡ f = cc in ap is_plain (sym same) ∙ (and_parts (is_plain g) (list_all is_plain q) h).0

-- so it has at most what its kind may have
pub plain_within : (f : Frame) → is_plain f ≡ true → length f.info ≤ 1024 → length f.info ≤ most_info 1024 f.kind
plain_within f p h = by_kind f.kind p
  where
    none : (length f.info == 0) ≡ true → length f.info ≤ 0
    none e = let x = eqb-true (length f.info) 0 e in omega (arith, x)

    by_kind : (k : Kind) → (is_kind k Uih || (length f.info == 0)) ≡ true → length f.info ≤ most_info 1024 k
    by_kind Uih e = h
    by_kind Sabm e = none e
    by_kind Ua e = none e
    by_kind Dm e = none e
    by_kind Disc e = none e
