-- A frame came, and what it calls for was sent: how the station stands, and what it sent.
use Rattle.std.specs.Prelude.{zero, suc, ◌≡◌, ℕ, ◌+◌, ◌/◌, ◌%◌, ◌<◌, ◌≤◌, ◌==◌, ◌&&◌, not, nat_le, min, Bool, true, false, List, [], ◌∷◌, ◌++◌, length, take, drop, map, slice_get, refl, Option, None, Some, if◌then◌else◌}
use Rattle.std.specs.List.{list_all}
use Rattle.std.proofs.Common.{ap, sym, ◌∙◌, subst, arith, append-nil, append_assoc}
use Rattle.std.proofs.lemmas.Bool.{and_parts}
use Rattle.std.proofs.lemmas.List.{length-take}
use Rattle.mux_frame.specs.Frames.{Frame}
use Rattle.mux_frame.specs.declared.frame.Kind.{Kind}
use Rattle.mux_frame.specs.declared.frame.Kind.TheVariants.{Sabm, Ua, Dm, Disc, Uih}
use Rattle.mux_station.specs.declared.role.Role.{Role}
use Rattle.mux_station.specs.declared.role.Role.TheVariants.{Initiator}
use Rattle.mux_station.specs.Acts as station
use Rattle.mux_station.specs.Written.{is_on, is_data_frame}
use Rattle.mux_station.specs.Messages.{Message, message_in, message_of, if_good, is_msc, is_good_msc, is_command, nsc, cld, brings_command}
use Rattle.mux_station.specs.States.{State, IsShut, IsOpening, IsOpened, IsClosing, IsStopping, state_of}
use Rattle.mux_station.specs.Stages.{as_shown}
use Rattle.mux_station.specs.Tables.{by_frame, by_table, by_message, response, response_to, is_supported, is_opening, msc_after_opening, msc_frame, ready}
use Rattle.mux_station.specs.Sending.{queue, sent_after, after_act, called_frames as station_calls}
use Rattle.mux_station.specs.Stations.{Station, setting_of}
use Rattle.mux_station.specs.Fitting as station_fits
use Rattle.at_text.specs.declared.unsolicited.UrcKind.{UrcKind}
use Rattle.modem_history.specs.Acts.{Act, Got, Sent, wire}
use Rattle.modem_history.specs.Calls.{Setting, seen, is_lost}
use Rattle.modem_core.specs.Cores.{Core, Runs, state_shown}
use Rattle.modem_core.specs.Receiving.{cut_to, sent_in, answer_room}
use Rattle.modem_history.proofs.calls.CalledActs.{is_control, Controls, frames_control}
use Rattle.modem_history.proofs.calls.CallEnds.{frames_in, now_in, ended, end_of, now_is}
use Rattle.modem_core.proofs.cores.StationPasts.{IsSeen, state_seen, by_frame_seen, wire_sent, without_sent}
use Rattle.modem_core.proofs.outgoing.CoreAfterFrame.{IsSound, own, state_in}

-- ## What the station has seen then

-- the frames that are called for are those of the station
pub frames_same : (v : Core) (l : UrcKind → Bool) (past : List Act) (r : Runs v past) (f : Frame) → IsSound v → is_lost past ≡ false → frames_in (own v l) past (Got f) ≡ station_calls (setting_of v.station) r.seen (station.Got f)
frames_same v l past r f i live =
    let there : station_calls (setting_of v.station) r.seen (station.Got f) ≡ by_frame Initiator (λ d. state_of Initiator d r.seen) f
    = ap (λ (b : Bool). if b then [] else by_frame v.station.role (λ d. state_of v.station.role d r.seen) f) r.fits.live ∙ ap (λ (x : Role). by_frame x (λ d. state_of x d r.seen) f) i.role_is in
    let here : frames_in (own v l) past (Got f) ≡ by_frame Initiator (λ d. state_of Initiator d (wire past)) f
    = ap (λ (b : Bool). if b then [] else by_frame Initiator (λ d. state_of Initiator d (wire past)) f) live in
    let same : by_frame Initiator (λ d. state_of Initiator d r.seen) f ≡ by_frame Initiator (λ d. state_of Initiator d (wire past)) f
    = by_frame_seen Initiator f (λ d. state_of Initiator d r.seen) (λ d. state_of Initiator d (wire past)) (state_seen Initiator 0 r.seen past r.same) (state_seen Initiator f.dlci r.seen past r.same) in
    here ∙ (sym same ∙ sym there)

-- what it has seen at the end
abbrev pub seen_then : Core → List station.Act → Frame → List station.Act
seen_then v seen f = after_act (setting_of v.station) seen (station.Got f)

-- the station has then seen what the driver's history says
pub same_then : (v : Core) (l : UrcKind → Bool) (past : List Act) (r : Runs v past) (f : Frame) → IsSound v → is_lost past ≡ false → IsSeen (seen_then v r.seen f) (ended (own v l) past (Got f))
same_then v l past r f i live =
    let fs = frames_in (own v l) past (Got f) in
    let gs = station_calls (setting_of v.station) r.seen (station.Got f) in
    without_sent gs (station.Got f ∷ r.seen)
    ∙ (ap (λ (acts : List station.Act). sent_after gs (station.Got f ∷ acts)) r.same
    ∙ (ap (λ (w : List Frame). sent_after w (station.Got f ∷ wire past)) (sym (frames_same v l past r f i live))
    ∙ (sym (wire_sent fs (Got f ∷ past)) ∙ sym (end_of (own v l) past (Got f) 0).wire_is)))

-- the states at the end are those that the station shows
pub now_then : (v : Core) (l : UrcKind → Bool) (past : List Act) (r : Runs v past) (f : Frame) → IsSound v → is_lost past ≡ false → (d : ℕ) → now_in (own v l) past (Got f) d ≡ state_of Initiator d (seen_then v r.seen f)
now_then v l past r f i live d =
    let s = own v l in
    now_is s past (Got f ∷ map Sent (frames_in s past (Got f))) d
    ∙ (ap (state_of Initiator d) (sym (end_of s past (Got f) d).wire_is) ∙ sym (state_seen Initiator d (seen_then v r.seen f) (ended s past (Got f)) (same_then v l past r f i live)))

-- and it shows the states at the end, where it fits what it has seen
pub shown_then : (v : Core) (l : UrcKind → Bool) (past : List Act) (r : Runs v past) (f : Frame) (st : Station) → IsSound v → is_lost past ≡ false → st.role ≡ Initiator → station_fits.StationFits st (seen_then v r.seen f)
    → (d : ℕ) → d < 62 → as_shown (now_in (own v l) past (Got f) d) ≡ state_shown st false d
shown_then v l past r f st i live role h d k = ap as_shown (now_then v l past r f i live d ∙ sym (state_in st (seen_then v r.seen f) d role h k))

-- ## The control queue

abbrev none_if : Bool → Frame → List Frame
none_if b f = if b then [] else f ∷ []

no_data : (b : Bool) → not b ≡ true → b ≡ false
no_data false e = refl
no_data true e = cc

queue_sent : (fs : List Frame) (past : List station.Act) → Controls fs → queue (sent_after fs past) ≡ queue past ++ fs
queue_sent [] past h = sym (append-nil (queue past))
queue_sent (f ∷ fs) past h =
    let hs = and_parts (is_control f) (list_all is_control fs) h in
    queue_sent fs (station.Sent f ∷ past) hs.1
    ∙ (ap (λ (b : Bool). (queue past ++ none_if b f) ++ fs) (no_data (is_data_frame f) hs.0) ∙ append_assoc (queue past) (f ∷ []) fs)

behind : (xs ys : List Frame) → slice_get (xs ++ ys) (length xs) ≡ slice_get ys 0
behind [] ys = refl
behind (x ∷ xs) ys = behind xs ys

drop_front : (xs ys : List Frame) → drop (length xs) (xs ++ ys) ≡ ys
drop_front [] ys = refl
drop_front (x ∷ xs) ys = drop_front xs ys

-- the frames that were sent stand behind those that waited
pub queue_there : (v : Core) (l : UrcKind → Bool) (past : List Act) (r : Runs v past) (f : Frame) (st : Station) → IsSound v → is_lost past ≡ false → station_fits.StationFits st (seen_then v r.seen f)
    → st.queue ≡ v.station.queue ++ frames_in (own v l) past (Got f)
queue_there v l past r f st i live h =
    let fs = frames_in (own v l) past (Got f) in
    let gs = station_calls (setting_of v.station) r.seen (station.Got f) in
    let same : gs ≡ fs = sym (frames_same v l past r f i live) in
    let control : Controls gs = subst Controls (sym same) (frames_control (own v l) (seen (own v l) past) (Got f)) in
    sym h.queue_is ∙ (queue_sent gs (station.Got f ∷ r.seen) control ∙ (ap (λ (q : List Frame). q ++ gs) r.fits.queue_is ∙ ap (λ (w : List Frame). v.station.queue ++ w) same))

-- the first frame behind those that waited is the first that the frame calls for
pub sent_there : (v : Core) (l : UrcKind → Bool) (past : List Act) (r : Runs v past) (f : Frame) (st : Station) → IsSound v → is_lost past ≡ false → station_fits.StationFits st (seen_then v r.seen f)
    → slice_get st.queue (length v.station.queue) ≡ slice_get (frames_in (own v l) past (Got f)) 0
sent_there v l past r f st i live h =
    ap (λ (q : List Frame). slice_get q (length v.station.queue)) (queue_there v l past r f st i live h) ∙ behind v.station.queue (frames_in (own v l) past (Got f))

-- so they are what was queued since
pub queued_since : (v : Core) (l : UrcKind → Bool) (past : List Act) (r : Runs v past) (f : Frame) (st : Station) → IsSound v → is_lost past ≡ false → station_fits.StationFits st (seen_then v r.seen f)
    → drop (length v.station.queue) st.queue ≡ frames_in (own v l) past (Got f)
queued_since v l past r f st i live h =
    ap (drop (length v.station.queue)) (queue_there v l past r f st i live h) ∙ drop_front v.station.queue (frames_in (own v l) past (Got f))

-- ## At most one, and no longer than its room

-- one frame at most, with at most so much information
abbrev pub AreShort : ℕ → List Frame → Type 0
AreShort room [] = Unit {0}
AreShort room (f ∷ []) = length f.info ≤ room
AreShort room (f ∷ g ∷ fs) = ⊥

cut_same : (room : ℕ) (f : Frame) → length f.info ≤ room → cut_to room f ≡ f
cut_same room f h =
    let whole : take room f.info ≡ f.info = take_most room f.info h in
    ap (λ (info : List ℕ). let g : Frame = record { dlci = f.dlci; kind = f.kind; cr = f.cr; pf = f.pf; info = info } in g) whole
  where
    take_most : (n : ℕ) (xs : List ℕ) → length xs ≤ n → take n xs ≡ xs
    take_most zero [] h = refl
    take_most (suc n) [] h = refl
    take_most zero (x ∷ xs) h = absurd (let e : suc (length xs) ≤ 0 = h in omega (arith, e))
    take_most (suc n) (x ∷ xs) h = ap (λ (w : List ℕ). x ∷ w) (take_most n xs (let e : suc (length xs) ≤ suc n = h in omega (arith, e)))

-- such frames are sent whole by the first of them, cut to the room
pub sent_whole : (room : ℕ) (fs : List Frame) → AreShort room fs → map Sent fs ≡ sent_in room (slice_get fs 0)
sent_whole room [] h = refl
sent_whole room (f ∷ []) h = ap (λ (g : Frame). Sent g ∷ []) (sym (cut_same room f h))
sent_whole room (f ∷ g ∷ fs) h = absurd h

-- the first of them, cut to the room, is all of them
pub cut_one : (room : ℕ) (fs : List Frame) → AreShort room fs → map (cut_to room) (take 1 fs) ≡ fs
cut_one room [] h = refl
cut_one room (f ∷ []) h = ap (λ (g : Frame). g ∷ []) (cut_same room f h)
cut_one room (f ∷ g ∷ fs) h = absurd h

-- the frame at a place
pub sent_first : (room place : ℕ) (fs : List Frame) → sent_in room (slice_get fs place) ≡ map Sent (map (cut_to room) (take 1 (drop place fs)))
sent_first room zero [] = refl
sent_first room (suc n) [] = refl
sent_first room zero (f ∷ fs) = refl
sent_first room (suc n) (f ∷ fs) = sent_first room n fs

short_if : (room : ℕ) (b : Bool) (fs gs : List Frame) → AreShort room fs → AreShort room gs → AreShort room (if b then fs else gs)
short_if room true fs gs h k = h
short_if room false fs gs h k = k

-- a message is no longer than the information that brings it
message_short : (info : List ℕ) (m : Message) → message_of info ≡ Some m → 2 + length m.value ≤ length info
message_short [] m h = absurd (let e : None ≡ Some m = h in cc)
message_short (t ∷ []) m h = absurd (let e : None ≡ Some m = h in cc)
message_short (t ∷ n ∷ rest) m h =
    by_test ((t % 2 == 1) && ((n % 2 == 1) && nat_le (n / 2) (length rest))) h
  where
    read : Message
    read = record { octet = t; value = take (n / 2) rest }

    by_good : (b : Bool) → (if b then None else Some read) ≡ Some m → 2 + length m.value ≤ suc (suc (length rest))
    by_good true e = absurd (let g : None ≡ Some m = e in cc)
    by_good false e =
        let same : read ≡ m = cc in
        let size : length (take (n / 2) rest) ≡ min (n / 2) (length rest) = length-take (n / 2) rest in
        let value : length m.value ≡ length (take (n / 2) rest) = ap (λ (x : Message). length x.value) (sym same) in
        omega (arith, size, value)

    by_test : (b : Bool) → (if b then if_good read else None) ≡ Some m → 2 + length m.value ≤ suc (suc (length rest))
    by_test true e = by_good (is_msc t && not (is_good_msc (take (n / 2) rest))) e
    by_test false e = absurd (let g : None ≡ Some m = e in cc)

abbrev answers : Option Message → List Frame
answers None = []
answers (Some m) = response Initiator m

response_short : (f : Frame) (o : Option Message) → message_of f.info ≡ o → AreShort (answer_room f) (answers o)
response_short f None e = tt
response_short f (Some m) e =
    let read = message_short f.info m e in
    short_if (answer_room f) (is_supported m.octet) _ _ (omega (arith, read))
    (short_if (answer_room f) (is_command m && not (m.octet == nsc)) _ _ (omega arith) tt)

in_message : (f : Frame) → is_on Uih 0 f ≡ true → AreShort (answer_room f) (response_to Initiator (message_in f))
in_message f i = subst (λ (o : Option Message). AreShort (answer_room f) (response_to Initiator o)) (sym (ap (λ (b : Bool). if b then message_of f.info else None) i)) (same (message_of f.info) (response_short f (message_of f.info) refl))
  where
    same : (o : Option Message) → AreShort (answer_room f) (answers o) → AreShort (answer_room f) (response_to Initiator o)
    same None h = h
    same (Some m) h = h

message_answer : (f : Frame) (z : State) → is_on Uih 0 f ≡ true → AreShort (answer_room f) (by_message Initiator z f)
message_answer f IsShut i = tt
message_answer f (IsOpening n) i = tt
message_answer f (IsClosing n) i = tt
message_answer f IsOpened i = in_message f i
message_answer f (IsStopping n) i = short_if (answer_room f) (brings_command cld f) (response_to Initiator (message_in f)) [] (in_message f i) tt

row_answer : (f : Frame) (z own : State) (k : Kind) → AreShort (answer_room f) (by_table Initiator f.dlci z own k)
row_answer f z own Ua = short_if (answer_room f) (is_opening own) (msc_after_opening Initiator f.dlci) [] (short_if (answer_room f) (f.dlci == 0) [] (msc_frame Initiator f.dlci ready ∷ []) tt (omega arith)) tt
row_answer f z own Sabm = omega arith
row_answer f z own Dm = tt
row_answer f z own Disc = omega arith
row_answer f z own Uih = tt

-- at most one frame answers, and it is no longer than the one that came, or is an MSC
pub answer_short : (x : ℕ → State) (f : Frame) → AreShort (answer_room f) (by_frame Initiator x f)
answer_short x f = by_on (is_on Uih 0 f) refl
  where
    by_on : (b : Bool) → is_on Uih 0 f ≡ b → AreShort (answer_room f) (if b then by_message Initiator (x 0) f else by_table Initiator f.dlci (x 0) (x f.dlci) f.kind)
    by_on true e = message_answer f (x 0) e
    by_on false e = row_answer f (x 0) (x f.dlci) f.kind

-- so it is with what a frame calls for in an initiator's history
pub frames_short : (s : Setting) (past : List Act) (f : Frame) → s.role ≡ Initiator → AreShort (answer_room f) (frames_in s past (Got f))
frames_short s past f r =
    short_if (answer_room f) (is_lost past) [] (by_frame s.role (λ d. state_of s.role d (wire past)) f) tt
    (subst (λ (x : Role). AreShort (answer_room f) (by_frame x (λ d. state_of s.role d (wire past)) f)) (sym r) (answer_short (λ d. state_of s.role d (wire past)) f))
