-- The frames that the tables, the control messages, ticks and flow call for are such as this N1 reads, where those that came are.
use Rattle.std.proofs.Common.{ap, sym, ◌∙◌, subst, arith, eqb-true}
use Rattle.std.proofs.lemmas.Bool.{and_from, and_parts, le-leb, leb-true, lt-ltb, ltb-true}
use Rattle.std.proofs.lemmas.List.{length-take}
use Rattle.std.specs.Prelude.{◌≡◌, ℕ, zero, suc, ◌+◌, ◌*◌, ◌/◌, ◌≤◌, ◌<◌, ◌==◌, ◌%◌, ◌&&◌, ◌||◌, not, nat_le, nat_lt, Bool, true, false, List, [], ◌∷◌, ◌++◌, length, take, Option, Some, None, refl, if◌then◌else◌}
use Rattle.std.specs.List.{list_all}
use Rattle.mux_frame.specs.Frames.{Frame}
use Rattle.mux_frame.specs.declared.frame.Kind.{Kind}
use Rattle.mux_frame.specs.declared.frame.Kind.TheVariants.{Sabm, Ua, Dm, Disc, Uih}
use Rattle.mux_station.specs.declared.role.Role.{Role}
use Rattle.mux_station.specs.declared.role.Role.TheVariants.{Initiator, Responder}
use Rattle.mux_station.specs.Acts.{Act, Called, Got, Sent, Given, Tick, Lost}
use Rattle.mux_station.specs.Opening.{ends, is_open, opens, is_asked}
use Rattle.mux_station.proofs.states.OpeningSteps.{is_open_after}
use Rattle.mux_station.specs.Written.{is_kind, is_on, written}
use Rattle.mux_station.specs.Messages.{Message, message_in, message_of, is_command, is_good_msc, is_msc, if_good, msc, nsc, cld, brings_command, response_of}
use Rattle.mux_station.specs.States.{State, IsShut, IsOpening, IsOpened, IsClosing, IsStopping, is_opened}
use Rattle.mux_station.specs.Tables.{by_frame, by_message, by_table, by_flow, response_to, is_supported, ua_or_dm, msc_after_opening, is_opening, ticked, if_room, again, has_room, octets_of, msc_frame, message_frame, ready}
use Rattle.mux_station.proofs.law_proofs.ControlFrames.{all_both, all_if, all_more, is_plain}
use Rattle.modem_history.specs.TwoEnds.{frames_got}
use Rattle.one_modem.proofs.octets.WithinFrames.{Within, is_within}

-- ## Single frames

info_free : (n1 : ℕ) (k : Kind) → ((is_kind k Uih || true) && nat_le 0 n1) ≡ true
info_free n1 Sabm = le-leb 0 n1 (omega arith)
info_free n1 Ua = le-leb 0 n1 (omega arith)
info_free n1 Dm = le-leb 0 n1 (omega arith)
info_free n1 Disc = le-leb 0 n1 (omega arith)
info_free n1 Uih = le-leb 0 n1 (omega arith)

-- a frame without information on a connection below 62 is such
pub mode_within : (n1 d : ℕ) (r : Role) (k : Kind) → d < 62 → is_within n1 (written r k d []) ≡ true
mode_within n1 d r k h = and_from (nat_lt d 62) ((is_kind k Uih || true) && nat_le 0 n1) (lt-ltb d 62 h) (info_free n1 k)

-- so is one with a message, whose value is two octets shorter than N1 at least
pub message_within : (n1 : ℕ) (r : Role) (octet : ℕ) (value : List ℕ) → length value + 2 ≤ n1 → is_within n1 (message_frame r octet value) ≡ true
message_within n1 r octet value h = le-leb (length (octet ∷ (2 * length value + 1) ∷ value)) n1 (omega (arith, h))

-- and an MSC, where N1 is 31 at least
pub msc_within : (n1 : ℕ) (r : Role) (d signals : ℕ) → 31 ≤ n1 → is_within n1 (msc_frame r d signals) ≡ true
msc_within n1 r d signals low = message_within n1 r msc ((4 * d + 3) ∷ signals ∷ []) (omega (arith, low))

one : (n1 : ℕ) (f : Frame) → is_within n1 f ≡ true → Within n1 (f ∷ [])
one n1 f h = all_more (is_within n1) f [] h refl

-- the last of some frames, and those before it
pub last_within : (n1 : ℕ) (fs : List Frame) (f : Frame) → Within n1 (fs ++ f ∷ []) → Within n1 fs × (is_within n1 f ≡ true)
last_within n1 [] f h = (refl, (and_parts (is_within n1 f) true h).0)
last_within n1 (g ∷ fs) f h =
    let p = and_parts (is_within n1 g) (list_all (is_within n1) (fs ++ f ∷ [])) h in
    let q = last_within n1 fs f p.1 in
    (and_from (is_within n1 g) (list_all (is_within n1) fs) p.0 q.0, q.1)

-- ## A frame that comes

answered : (n1 d : ℕ) (r : Role) (b : Bool) → d < 62 → is_within n1 (ua_or_dm r d b) ≡ true
answered n1 d r true h = mode_within n1 d r Ua h
answered n1 d r false h = mode_within n1 d r Dm h

opened : (n1 : ℕ) (r : Role) (d : ℕ) → 31 ≤ n1 → Within n1 (msc_after_opening r d)
opened n1 r d low = all_if (is_within n1) (d == 0) [] (msc_frame r d ready ∷ []) refl (one n1 (msc_frame r d ready) (msc_within n1 r d ready low))

tabled : (n1 : ℕ) (r : Role) (d : ℕ) (channel own : State) (k : Kind) → 31 ≤ n1 → d < 62 → Within n1 (by_table r d channel own k)
tabled n1 Initiator d channel own Ua low h = all_if (is_within n1) (is_opening own) (msc_after_opening Initiator d) [] (opened n1 Initiator d low) refl
tabled n1 Initiator d channel own Sabm low h = one n1 (ua_or_dm Initiator d false) (answered n1 d Initiator false h)
tabled n1 Initiator d channel own Dm low h = refl
tabled n1 Initiator d channel own Uih low h = refl
tabled n1 Initiator d channel own Disc low h = one n1 (ua_or_dm Initiator d (is_opened own)) (answered n1 d Initiator (is_opened own) h)
tabled n1 Responder d channel own Ua low h = refl
tabled n1 Responder d channel own Dm low h = refl
tabled n1 Responder d channel own Uih low h = refl
tabled n1 Responder d channel own Disc low h = one n1 (ua_or_dm Responder d (is_opened own)) (answered n1 d Responder (is_opened own) h)
tabled n1 Responder d channel own Sabm low h =
    all_if (is_within n1) ((d == 0) || is_opened channel) (ua_or_dm Responder d true ∷ msc_after_opening Responder d) (ua_or_dm Responder d false ∷ [])
    (all_more (is_within n1) (ua_or_dm Responder d true) (msc_after_opening Responder d) (answered n1 d Responder true h) (opened n1 Responder d low))
    (one n1 (ua_or_dm Responder d false) (answered n1 d Responder false h))

-- the value of a message is shorter than the information that brought it
abbrev IsShort : ℕ → Option Message → Type 0
IsShort n1 None = Unit {0}
IsShort n1 (Some m) = length m.value + 2 ≤ n1

short_if : (n1 : ℕ) (b : Bool) (o p : Option Message) → IsShort n1 o → IsShort n1 p → IsShort n1 (if b then o else p)
short_if n1 true o p h k = h
short_if n1 false o p h k = k

taken_short : (n : ℕ) (rest : List ℕ) → length (take n rest) ≤ length rest
taken_short n rest = let e = length-take n rest in omega (arith, e)

short_in : (n1 : ℕ) (info : List ℕ) → length info ≤ n1 → IsShort n1 (message_of info)
short_in n1 [] h = tt
short_in n1 (t ∷ []) h = tt
short_in n1 (t ∷ l ∷ rest) h =
    let value = take (l / 2) rest in
    let m : Message = record { octet = t; value = value } in
    let few = taken_short (l / 2) rest in
    short_if n1 ((t % 2 == 1) && ((l % 2 == 1) && nat_le (l / 2) (length rest))) (if_good m) None
    (short_if n1 (is_msc t && not (is_good_msc value)) None (Some m) tt (omega (arith, few, h))) tt

responded : (n1 : ℕ) (r : Role) (m : Option Message) → 31 ≤ n1 → IsShort n1 m → Within n1 (response_to r m)
responded n1 r None low h = refl
responded n1 r (Some m) low h =
    let same = message_frame r (response_of m.octet) m.value in
    let unsupported = message_frame r (response_of nsc) (m.octet ∷ []) in
    all_if (is_within n1) (is_supported m.octet) (same ∷ []) (if is_command m && not (m.octet == nsc) then unsupported ∷ [] else []) (one n1 same (message_within n1 r (response_of m.octet) m.value h))
    (all_if (is_within n1) (is_command m && not (m.octet == nsc)) (unsupported ∷ []) [] (one n1 unsupported (message_within n1 r (response_of nsc) (m.octet ∷ []) (omega (arith, low)))) refl)

messaged : (n1 : ℕ) (r : Role) (s : State) (f : Frame) → 31 ≤ n1 → IsShort n1 (message_in f) → Within n1 (by_message r s f)
messaged n1 r IsOpened f low h = responded n1 r (message_in f) low h
messaged n1 r (IsStopping n) f low h = all_if (is_within n1) (brings_command cld f) (response_to r (message_in f)) [] (responded n1 r (message_in f) low h) refl
messaged n1 r IsShut f low h = refl
messaged n1 r (IsOpening n) f low h = refl
messaged n1 r (IsClosing n) f low h = refl

-- where a frame that comes is such, those that it calls for are
pub frame_within : (n1 : ℕ) (r : Role) (state : ℕ → State) (f : Frame) → 31 ≤ n1 → is_within n1 f ≡ true → Within n1 (by_frame r state f)
frame_within n1 r state f low h =
    let p = and_parts (nat_lt f.dlci 62) (is_plain f && nat_le (length f.info) n1) h in
    let q = and_parts (is_plain f) (nat_le (length f.info) n1) p.1 in
    all_if (is_within n1) (is_on Uih 0 f) (by_message r (state 0) f) (by_table r f.dlci (state 0) (state f.dlci) f.kind)
    (messaged n1 r (state 0) f low (short_if n1 (is_on Uih 0 f) (message_of f.info) None (short_in n1 f.info (leb-true (length f.info) n1 q.1)) tt))
    (tabled n1 r f.dlci (state 0) (state f.dlci) f.kind low (ltb-true f.dlci 62 p.0))

-- ## Ticks and flow

kind_if : (n1 d : ℕ) (r : Role) (b : Bool) → d < 62 → is_within n1 (written r (if b then Disc else Sabm) d []) ≡ true
kind_if n1 d r true h = mode_within n1 d r Disc h
kind_if n1 d r false h = mode_within n1 d r Sabm h

fitting : (n1 n2 queued : ℕ) (f : Frame) → is_within n1 f ≡ true → Within n1 (if_room n2 queued (Some f))
fitting n1 n2 queued f h = all_if (is_within n1) (has_room n2 queued f) (f ∷ []) [] (one n1 f h) refl

roomed : (n1 n2 : ℕ) (r : Role) (queued d : ℕ) (own : State) → d < 62 → Within n1 (if_room n2 queued (again r d own))
roomed n1 n2 r queued d IsShut h = refl
roomed n1 n2 r queued d IsOpened h = refl
roomed n1 n2 r queued d (IsStopping n) h = refl
roomed n1 n2 r queued d (IsOpening n) h = fitting n1 n2 queued (written r (if n == 3 then Disc else Sabm) d []) (kind_if n1 d r (n == 3) h)
roomed n1 n2 r queued d (IsClosing n) h = closing (n == 3)
  where
    closing : (b : Bool) → Within n1 (if_room n2 queued (if b then None else Some (written r Disc d [])))
    closing true = refl
    closing false = fitting n1 n2 queued (written r Disc d []) (mode_within n1 d r Disc h)

-- so are those of a tick over connections below 62
pub tick_within : (n1 n2 : ℕ) (r : Role) (state : ℕ → State) (queued d count : ℕ) → d + count ≤ 62 → Within n1 (ticked r n2 state queued d count)
tick_within n1 n2 r state queued d zero h = refl
tick_within n1 n2 r state queued d (suc count) h =
    let here = if_room n2 queued (again r d (state d)) in
    all_both (is_within n1) here (ticked r n2 state (queued + octets_of here) (d + 1) count) (roomed n1 n2 r queued d (state d) (omega (arith, h)))
    (tick_within n1 n2 r state (queued + octets_of here) (d + 1) count (omega (arith, h)))

-- and the MSC of a connection that is held or freed
pub flow_within : (n1 : ℕ) (r : Role) (state : ℕ → State) (d signals : ℕ) → 31 ≤ n1 → Within n1 (by_flow r state d signals)
flow_within n1 r state d signals low = all_if (is_within n1) (is_opened (state d)) (msc_frame r d signals ∷ []) [] (one n1 (msc_frame r d signals) (msc_within n1 r d signals low)) refl

-- ## Open connections

on_dlci : (n1 d : ℕ) (k : Kind) (f : Frame) → is_within n1 f ≡ true → is_on k d f ≡ true → d < 62
on_dlci n1 d k f w on =
    let e = eqb-true f.dlci d (and_parts (is_kind f.kind k) (f.dlci == d) on).1 in
    let Low : ℕ → Type 0 = λ n. n < 62 in
    subst Low e (ltb-true f.dlci 62 (and_parts (nat_lt f.dlci 62) (is_plain f && nat_le (length f.info) n1) w).0)

opens_low : (n1 d : ℕ) (r : Role) (zero_open asked : Bool) (f : Frame) → is_within n1 f ≡ true → opens r zero_open asked d (Got f) ≡ true → d < 62
opens_low n1 d Initiator zero_open asked f w h = on_dlci n1 d Ua f w (and_parts (is_on Ua d f) asked h).0
opens_low n1 d Responder zero_open asked f w h = on_dlci n1 d Sabm f w (and_parts (is_on Sabm d f) ((d == 0) || zero_open) h).0

abbrev no_frame : Act → Bool
no_frame (Got f) = false
no_frame a = true

opens_none : (r : Role) (zero_open asked : Bool) (d : ℕ) (a : Act) → no_frame a ≡ true → opens r zero_open asked d a ≡ false
opens_none r zero_open asked d (Got f) h = let e : false ≡ true = h in cc
opens_none Initiator zero_open asked d (Called c) h = refl
opens_none Responder zero_open asked d (Called c) h = refl
opens_none Initiator zero_open asked d (Sent f) h = refl
opens_none Responder zero_open asked d (Sent f) h = refl
opens_none Initiator zero_open asked d Tick h = refl
opens_none Responder zero_open asked d Tick h = refl
opens_none Initiator zero_open asked d Lost h = refl
opens_none Responder zero_open asked d Lost h = refl
opens_none Initiator zero_open asked d Given h = refl
opens_none Responder zero_open asked d Given h = refl

was_open : (r : Role) (d : ℕ) (a : Act) (past : List Act) → no_frame a ≡ true → is_open r d (a ∷ past) ≡ true → is_open r d past ≡ true
was_open r d a past h o =
    by_second (opens r (is_open r 0 past) (is_asked r d past) d a) (is_open r d past) (not (ends (is_open r 0 past) d a)) (opens_none r (is_open r 0 past) (is_asked r d past) d a h) (sym (is_open_after r d past a) ∙ o)
  where
    by_second : (x y z : Bool) → x ≡ false → (x || (y && z)) ≡ true → y ≡ true
    by_second true y z e o = let no : true ≡ false = e in cc
    by_second false y z e o = (and_parts y z o).0

opened_or : {P : Type 0} → (x y z : Bool) → (x || (y && z)) ≡ true → (x ≡ true → P) → (y ≡ true → P) → P
opened_or true y z h f g = f refl
opened_or false y z h f g = g (and_parts y z h).0

-- an open connection is one that a frame may be on
pub open_low : (n1 d : ℕ) (r : Role) (past : List Act) → Within n1 (frames_got past) → is_open r d past ≡ true → d < 62
open_low n1 d r [] w o = let e : false ≡ true = o in absurd cc
open_low n1 d r (Got f ∷ past) w o =
    let p = and_parts (is_within n1 f) (list_all (is_within n1) (frames_got past)) w in
    opened_or (opens r (is_open r 0 past) (is_asked r d past) d (Got f)) (is_open r d past) (not (ends (is_open r 0 past) d (Got f))) (sym (is_open_after r d past (Got f)) ∙ o) (opens_low n1 d r (is_open r 0 past) (is_asked r d past) f p.0) (open_low n1 d r past p.1)
open_low n1 d r (Called c ∷ past) w o = open_low n1 d r past w (was_open r d (Called c) past refl o)
open_low n1 d r (Sent f ∷ past) w o = open_low n1 d r past w (was_open r d (Sent f) past refl o)
open_low n1 d r (Tick ∷ past) w o = open_low n1 d r past w (was_open r d Tick past refl o)
open_low n1 d r (Lost ∷ past) w o = open_low n1 d r past w (was_open r d Lost past refl o)
open_low n1 d r (Given ∷ past) w o = open_low n1 d r past w (was_open r d Given past refl o)

-- a data frame that leaves one
pub data_within : (n1 : ℕ) (r : Role) (past : List Act) (f : Frame) → Within n1 (frames_got past) → is_open r f.dlci past ≡ true → f ≡ written r Uih f.dlci f.info → nat_le (length f.info) n1 ≡ true → is_within n1 f ≡ true
data_within n1 r past f w o as_written few =
    let kind : is_kind f.kind Uih ≡ true = ap (λ (g : Frame). is_kind g.kind Uih) as_written in
    and_from (nat_lt f.dlci 62) (is_plain f && nat_le (length f.info) n1) (lt-ltb f.dlci 62 (open_low n1 f.dlci r past w o))
    (and_from (is_plain f) (nat_le (length f.info) n1) (ap (λ (b : Bool). b || (length f.info == 0)) kind) few)
