-- A responder that sends no SABM has sent nothing that closes a connection while that is open, where it was asked for once.
use Rattle.std.specs.Prelude.{◌≡◌, ℕ, ◌+◌, ◌*◌, ◌==◌, ◌≤◌, ◌&&◌, ◌||◌, not, Bool, true, false, List, [], ◌∷◌, ◌++◌, drop, Option, Some, None, refl, is_none, if◌then◌else◌}
use Rattle.std.proofs.Common.{ap, arith, sym, ◌∙◌, subst, eqb-true}
use Rattle.std.proofs.lemmas.Bool.{and_parts, or_from, or_parts}
use Rattle.mux_frame.specs.Frames.{Frame}
use Rattle.mux_frame.specs.declared.frame.Kind.{Kind}
use Rattle.mux_frame.specs.declared.frame.Kind.TheVariants.{Sabm, Ua, Dm, Disc, Uih}
use Rattle.mux_station.specs.declared.role.Role.{Role}
use Rattle.mux_station.specs.declared.role.Role.TheVariants.{Initiator, Responder}
use Rattle.mux_station.specs.declared.error.StationError.{StationError}
use Rattle.mux_station.specs.declared.error.StationError.TheVariants.{Busy, ControlChannel, NotOpen}
use Rattle.mux_station.specs.Acts.{Call, Open, Close, Probe, Stop, Flow, Offer, Act, Called, Got, Sent, Tick, Lost, Given}
use Rattle.mux_station.proofs.states.OpeningSteps.{is_open_after}
use Rattle.mux_station.specs.Messages.{Message, brings_command, brings_response, cld, is_command, message_in, message_of, msc, nsc, octet_is, response_of, test}
use Rattle.mux_station.specs.Opening.{is_open, opens_now}
use Rattle.mux_station.specs.Sending.{Sends, StationLawful, StationView, called_frames, frames_asked, frames_seeing, if_no_room, or_else, owed_frames, refused, station_view}
use Rattle.mux_station.specs.States.{ends_itself, State, IsShut, IsOpening, IsOpened, IsClosing, IsStopping, at_answered, at_close_down, at_sent, is_opened, is_shut, own_after, state_of}
use Rattle.mux_station.specs.Tables.{by_frame, by_message, by_table, by_tick, held_up, is_opening, is_supported, message_frame, msc_after_opening, msc_frame, ready, response_to, ua_or_dm}
use Rattle.mux_station.specs.Written.{is_data_frame, is_kind, is_on, written}
use Rattle.mux_station.proofs.states.StatesAfterActs.{state_next}
use Rattle.modem_history.specs.TwoEnds.{frames_got, frames_sent}
use Rattle.show_laws.specs.Lines.{responding}
use Rattle.show_laws.proofs.asks.AnswerShapes.{supported_by}
use Rattle.show_laws.proofs.asks.AnswersCalled.{IsRead, as_it_is, is_read, unread}
use Rattle.show_laws.proofs.counts.ManyFrames.{few_if, many, many_both, none_one, unit}
use Rattle.show_laws.proofs.counts.BalancedTables.{tick_none}
use Rattle.show_laws.proofs.counts.StationCounts.{station_called}
use Rattle.show_laws.proofs.openings.DiscBehindUa.{disc_never, discs, tick_disc}
use Rattle.show_laws.proofs.openings.OpenBelowZero.{many_or, none_when}
use Rattle.show_laws.proofs.openings.UaBehindSabm.{none_of, shut}
use Rattle.show_laws.proofs.stops.SinceOpening.{open_before}

-- a frame that closes e where it is sent
abbrev pub closer : ℕ → Frame → Bool
closer e f = is_on Disc e f || ((e == 0) && brings_command cld f)

-- ## What calls for none

read_cld : (octet : ℕ) (value : List ℕ) (o : Option Message) → IsRead octet value o → octet_is (λ n. n) cld o ≡ true → (octet == cld) ≡ true
read_cld octet value _ as_it_is h = h
read_cld octet value _ unread h = cc

-- the frame of a message of another type is no CLD
pub not_cld_frame : (r : Role) (octet : ℕ) (value : List ℕ) → (octet == cld) ≡ false → brings_command cld (message_frame r octet value) ≡ false
not_cld_frame r octet value h = by_test (brings_command cld (message_frame r octet value)) refl
  where
    by_test : (b : Bool) → brings_command cld (message_frame r octet value) ≡ b → b ≡ false
    by_test false e = refl
    by_test true e = let t : true ≡ false = sym (read_cld octet value (message_in (message_frame r octet value)) (is_read r octet value) e) ∙ h in cc

responds_no_cld : (r : Role) (m : Message) (b c : Bool) → is_supported m.octet ≡ b
    → many (brings_command cld) (if b then message_frame r (response_of m.octet) m.value ∷ [] else if c then message_frame r (response_of nsc) (m.octet ∷ []) ∷ [] else []) ≤ 0
responds_no_cld r m true c s =
    none_one (brings_command cld) (message_frame r (response_of m.octet) m.value)
    (not_cld_frame r (response_of m.octet) m.value (supported_by (λ o. (response_of o == cld) ≡ false) m.octet s refl refl refl refl refl))
responds_no_cld r m false true s = none_one (brings_command cld) (message_frame r (response_of nsc) (m.octet ∷ [])) (not_cld_frame r (response_of nsc) (m.octet ∷ []) refl)
responds_no_cld r m false false s = omega arith

response_no_cld : (r : Role) (o : Option Message) → many (brings_command cld) (response_to r o) ≤ 0
response_no_cld r None = omega arith
response_no_cld r (Some m) = responds_no_cld r m (is_supported m.octet) (is_command m && not (m.octet == nsc)) refl

message_no_cld : (r : Role) (s : State) (f : Frame) → many (brings_command cld) (by_message r s f) ≤ 0
message_no_cld r IsOpened f = response_no_cld r (message_in f)
message_no_cld r (IsStopping n) f = few_if (brings_command cld) 0 (brings_command cld f) (response_to r (message_in f)) [] (response_no_cld r (message_in f)) (omega arith)
message_no_cld r IsShut f = omega arith
message_no_cld r (IsOpening n) f = omega arith
message_no_cld r (IsClosing n) f = omega arith

mode_no_cld : (r : Role) (e : ℕ) (b : Bool) → many (brings_command cld) (ua_or_dm r e b ∷ []) ≤ 0
mode_no_cld r e true = omega arith
mode_no_cld r e false = omega arith

status_no_cld : (r : Role) (e : ℕ) → many (brings_command cld) (msc_after_opening r e) ≤ 0
status_no_cld r e = few_if (brings_command cld) 0 (e == 0) [] (msc_frame r e ready ∷ []) (omega arith) (none_one (brings_command cld) (msc_frame r e ready) (not_cld_frame r msc ((4 * e + 3) ∷ ready ∷ []) refl))

-- the tables call for no CLD
pub table_no_cld : (r : Role) (e : ℕ) (channel own : State) (k : Kind) → many (brings_command cld) (by_table r e channel own k) ≤ 0
table_no_cld Initiator e channel own Ua = few_if (brings_command cld) 0 (is_opening own) (msc_after_opening Initiator e) [] (status_no_cld Initiator e) (omega arith)
table_no_cld Initiator e channel own Sabm = mode_no_cld Initiator e false
table_no_cld Initiator e channel own Disc = mode_no_cld Initiator e (is_opened own)
table_no_cld Initiator e channel own Dm = omega arith
table_no_cld Initiator e channel own Uih = omega arith
table_no_cld Responder e channel own Ua = omega arith
table_no_cld Responder e channel own Dm = omega arith
table_no_cld Responder e channel own Uih = omega arith
table_no_cld Responder e channel own Disc = mode_no_cld Responder e (is_opened own)
table_no_cld Responder e channel own Sabm =
    few_if (brings_command cld) 0 ((e == 0) || is_opened channel) (ua_or_dm Responder e true ∷ msc_after_opening Responder e) (ua_or_dm Responder e false ∷ [])
    (let a = mode_no_cld Responder e true in let c = status_no_cld Responder e in omega (arith, a, c)) (mode_no_cld Responder e false)

-- nor does any frame that comes
pub frame_no_cld : (r : Role) (state : ℕ → State) (f : Frame) → many (brings_command cld) (by_frame r state f) ≤ 0
frame_no_cld r state f =
    few_if (brings_command cld) 0 (is_on Uih 0 f) (by_message r (state 0) f) (by_table r f.dlci (state 0) (state f.dlci) f.kind) (message_no_cld r (state 0) f) (table_no_cld r f.dlci (state 0) (state f.dlci) f.kind)

one_cld : (e : ℕ) (fs : List Frame) → many (λ f. (e == 0) && brings_command cld f) fs ≤ many (brings_command cld) fs
one_cld e [] = omega arith
one_cld e (f ∷ fs) = let x = one_cld e fs in let y = less (e == 0) (brings_command cld f) in omega (arith, x, y)
  where
    less : (a b : Bool) → unit (a && b) ≤ unit b
    less true b = omega arith
    less false b = omega arith

-- closers are DISC and CLD
parts : (e : ℕ) (fs : List Frame) → many (closer e) fs ≤ many (discs e) fs + many (brings_command cld) fs
parts e fs = let a = many_or (is_on Disc e) (λ f. (e == 0) && brings_command cld f) fs in let b = one_cld e fs in omega (arith, a, b)

frame_closes_none : (e : ℕ) (state : ℕ → State) (f : Frame) → many (closer e) (by_frame Responder state f) ≤ 0
frame_closes_none e state f = let a = parts e (by_frame Responder state f) in let b = disc_never e Responder state f in let c = frame_no_cld Responder state f in omega (arith, a, b, c)

not_shut : {P : Type 0} → (s : State) → is_shut s ≡ true → is_opened s ≡ true → P
not_shut IsShut h o = let t : false ≡ true = o in cc
not_shut (IsOpening n) h o = cc
not_shut IsOpened h o = cc
not_shut (IsClosing n) h o = cc
not_shut (IsStopping n) h o = cc

tick_closes_none : (n1 e : ℕ) (state : ℕ → State) (queued : ℕ) → is_shut (state e) ≡ true → many (closer e) (by_tick Responder n1 state queued) ≤ 0
tick_closes_none n1 e state queued shut =
    let disc = none_when (many (discs e) (by_tick Responder n1 state queued)) (λ some. tick_disc Responder n1 e state (λ n k. closing (state e) n shut k) (λ n k three. opening (state e) n shut k) queued 0 62 some) in
    let down = tick_none Responder (brings_command cld) (λ x. refl) (λ x. refl) n1 state queued 0 62 in
    let a = parts e (by_tick Responder n1 state queued) in
    omega (arith, disc, down, a)
  where
    closing : {P : Type 0} → (s : State) (n : ℕ) → is_shut s ≡ true → s ≡ IsClosing n → P
    closing s n h k = let t : true ≡ false = sym h ∙ ap is_shut k in cc

    opening : {P : Type 0} → (s : State) (n : ℕ) → is_shut s ≡ true → s ≡ IsOpening n → P
    opening s n h k = let t : true ≡ false = sym h ∙ ap is_shut k in cc

no_closer : (e : ℕ) (f : Frame) → is_on Disc e f ≡ false → brings_command cld f ≡ false → closer e f ≡ false
no_closer e f disc down = or_from (is_on Disc e f) ((e == 0) && brings_command cld f) disc (second (e == 0) (brings_command cld f) down)
  where
    second : (a b : Bool) → b ≡ false → (a && b) ≡ false
    second true b h = h
    second false b h = refl

-- a call of the user closes what is Opened
close_open : (z s o : Bool) (p : Option StationError) → is_none (or_else (if z then Some ControlChannel else (if s then Some NotOpen else (if not o then Some Busy else None))) p) ≡ true → o ≡ true
close_open true s o p h = cc
close_open false true o p h = cc
close_open false false true p h = refl
close_open false false false p h = cc

stop_open : (o : Bool) (p : Option StationError) → is_none (or_else (if not o then Some NotOpen else None) p) ≡ true → o ≡ true
stop_open true p h = refl
stop_open false p h = cc

call_closes_none : (n1 e : ℕ) (v : StationView) (c : Call) (b : Bool) → is_none (refused (responding n1) v c) ≡ b → is_shut (v.state e) ≡ true → many (closer e) (if b then frames_asked Responder c else []) ≤ 0
call_closes_none n1 e v c false k shut = omega arith
call_closes_none n1 e v (Open d) true k shut = none_one (closer e) (written Responder Sabm d []) (none_if (e == 0))
  where
    none_if : (z : Bool) → (false || (z && false)) ≡ false
    none_if true = refl
    none_if false = refl
call_closes_none n1 e v (Close d) true k shut = by_here (d == e) refl
  where
    none_if : (z : Bool) → (false || (z && false)) ≡ false
    none_if true = refl
    none_if false = refl

    by_here : (b : Bool) → (d == e) ≡ b → many (closer e) (written Responder Disc d [] ∷ []) ≤ 0
    by_here false apart = none_one (closer e) (written Responder Disc d []) (ap (λ (b : Bool). b || ((e == 0) && false)) apart ∙ none_if (e == 0))
    by_here true here =
        let o = close_open (d == 0) (is_shut (v.state d)) (is_opened (v.state d)) (if_no_room (responding n1) v (Close d)) k in
        not_shut (v.state e) shut (sym (ap (λ n. is_opened (v.state n)) (eqb-true d e here)) ∙ o)
call_closes_none n1 e v (Probe octets) true k shut = none_one (closer e) (message_frame Responder test octets) (no_closer e (message_frame Responder test octets) refl (not_cld_frame Responder test octets refl))
call_closes_none n1 e v Stop true k shut = by_zero (e == 0) refl
  where
    by_zero : (z : Bool) → (e == 0) ≡ z → many (closer e) (message_frame Responder cld [] ∷ []) ≤ 0
    by_zero false apart = none_one (closer e) (message_frame Responder cld []) (ap (λ (b : Bool). false || (b && true)) apart)
    by_zero true zero_is =
        let o = stop_open (is_opened (v.state 0)) (if_no_room (responding n1) v Stop) k in
        not_shut (v.state e) shut (ap (λ n. is_opened (v.state n)) (eqb-true e 0 zero_is) ∙ o)
call_closes_none n1 e v (Flow d go) true k shut =
    few_if (closer e) 0 (d == 0) (message_frame Responder (if go then 0xa3 else 0x63) [] ∷ []) (msc_frame Responder d (if go then ready else held_up) ∷ [])
    (none_one (closer e) (message_frame Responder (if go then 0xa3 else 0x63) []) (no_closer e (message_frame Responder (if go then 0xa3 else 0x63) []) refl (flow_not_cld go)))
    (none_one (closer e) (msc_frame Responder d (if go then ready else held_up)) (no_closer e (msc_frame Responder d (if go then ready else held_up)) refl (not_cld_frame Responder msc ((4 * d + 3) ∷ (if go then ready else held_up) ∷ []) refl)))
  where
    flow_not_cld : (go : Bool) → brings_command cld (message_frame Responder (if go then 0xa3 else 0x63) []) ≡ false
    flow_not_cld true = refl
    flow_not_cld false = refl
call_closes_none n1 e v (Offer d octets) true k shut = omega arith

-- ## Before it was asked for

-- no SABM on e came, and nothing that closes it was sent or is owed
pub record Untouched (n1 e : ℕ) (past : List Act) : Type 0 where
  pub shut : is_shut (state_of Responder e past) ≡ true
  pub sent_none : many (closer e) (frames_sent past) ≤ 0
  pub owed_none : many (closer e) (owed_frames (responding n1) past) ≤ 0

abbrev IsQuiet : ℕ → Act → Type 0
IsQuiet e (Sent f) = (is_on Sabm e f ≡ false) × (closer e f ≡ false)
IsQuiet e (Got f) = is_on Sabm e f ≡ false
IsQuiet e a = Unit {0}

sent_shut : (k : Kind) (here : Bool) → (is_kind k Sabm && here) ≡ false → is_shut (if here then at_sent IsShut k else IsShut) ≡ true
sent_shut k false h = refl
sent_shut Sabm true h = cc
sent_shut Ua true h = refl
sent_shut Dm true h = refl
sent_shut Disc true h = refl
sent_shut Uih true h = refl

got_shut : (k : Kind) (z : Bool) → is_kind k Sabm ≡ false → at_answered z IsShut k ≡ IsShut
got_shut Sabm z h = cc
got_shut Ua z h = refl
got_shut Dm z h = refl
got_shut Disc z h = refl
got_shut Uih z h = refl

own_shut : (e : ℕ) (z : Bool) (a : Act) → IsQuiet e a → is_shut (own_after Responder e z IsShut a) ≡ true
own_shut e z (Called c) q = refl
own_shut e z Given q = refl
own_shut e z Tick q = refl
own_shut e z Lost q = refl
own_shut e z (Sent f) q = by_cld ((e == 0) && brings_command cld f) (or_parts (is_on Disc e f) ((e == 0) && brings_command cld f) q.1).1
  where
    by_cld : (b : Bool) → b ≡ false → is_shut (if b then IsStopping 0 else (if f.dlci == e then at_sent IsShut f.kind else IsShut)) ≡ true
    by_cld true k = cc
    by_cld false k = sent_shut f.kind (f.dlci == e) q.0
own_shut e z (Got f) q = by_here (f.dlci == e) q
  where
    kind : (x : Bool) → (x && true) ≡ false → x ≡ false
    kind true h = cc
    kind false h = refl

    by_zero : (b : Bool) → is_kind f.kind Sabm ≡ false → is_shut (if b then at_close_down (brings_command cld f) (brings_response cld f) (at_answered true IsShut f.kind) else at_answered z IsShut f.kind) ≡ true
    by_zero true h = ap (λ (s : State). is_shut (at_close_down (brings_command cld f) (brings_response cld f) s)) (got_shut f.kind true h)
    by_zero false h = ap is_shut (got_shut f.kind z h)

    by_here : (b : Bool) → (is_kind f.kind Sabm && b) ≡ false
        → is_shut (if b then (if e == 0 then at_close_down (brings_command cld f) (brings_response cld f) (at_answered true IsShut f.kind) else at_answered z IsShut f.kind) else IsShut) ≡ true
    by_here true h = by_zero (e == 0) (kind (is_kind f.kind Sabm) h)
    by_here false h = refl

shut_is : (s : State) → is_shut s ≡ true → s ≡ IsShut
shut_is IsShut h = refl
shut_is (IsOpening n) h = cc
shut_is IsOpened h = cc
shut_is (IsClosing n) h = cc
shut_is (IsStopping n) h = cc

next_shut : (e : ℕ) (past : List Act) (a : Act) → IsQuiet e a → is_shut (state_of Responder e past) ≡ true → is_shut (state_of Responder e (a ∷ past)) ≡ true
next_shut e past a q h = subst (λ (s : State). is_shut s ≡ true) (sym (state_next Responder e past a)) (by_zero (e == 0) refl)
  where
    z : State
    z = state_of Responder 0 past

    own : (b : Bool) → is_shut (own_after Responder e b (state_of Responder e past) a) ≡ true
    own b = subst (λ (s : State). is_shut (own_after Responder e b s a) ≡ true) (sym (shut_is (state_of Responder e past) h)) (own_shut e b a q)

    ended : (b : Bool) → is_shut (if b then IsShut else own_after Responder e (is_opened z) (state_of Responder e past) a) ≡ true
    ended true = refl
    ended false = own (is_opened z)

    by_zero : (b : Bool) → (e == 0) ≡ b → is_shut (if b then own_after Responder 0 true z a else (if ends_itself (is_opened z) 0 a then IsShut else own_after Responder e (is_opened z) (state_of Responder e past) a)) ≡ true
    by_zero true k = subst (λ n. is_shut (own_after Responder n true (state_of Responder n past) a) ≡ true) (eqb-true e 0 k) (own true)
    by_zero false k = ended (ends_itself (is_opened z) 0 a)

more_owed : (n1 e : ℕ) (past : List Act) (a : Act) → many (closer e) (frames_seeing (responding n1) (station_view (responding n1) past) a) ≤ 0 → many (closer e) (owed_frames (responding n1) past) ≤ 0
    → many (closer e) (owed_frames (responding n1) past ++ called_frames (responding n1) past a) ≤ 0
more_owed n1 e past a none before =
    let both = many_both (closer e) (owed_frames (responding n1) past) (called_frames (responding n1) past a) in
    let few = station_called (closer e) 0 (responding n1) past a none in
    omega (arith, both, few, before)

-- data closes nothing
pub data_no_closer : (e : ℕ) (f : Frame) → is_data_frame f ≡ true → closer e f ≡ false
data_no_closer e f is =
    let p = and_parts (is_kind f.kind Uih) (not (f.dlci == 0)) is in
    no_closer e f (no_disc f.kind (f.dlci == e) p.0) (no_cld (is_kind f.kind Uih) (f.dlci == 0) (octet_is (λ n. n) cld (message_of f.info)) p.1)
  where
    no_disc : (k : Kind) (x : Bool) → is_kind k Uih ≡ true → (is_kind k Disc && x) ≡ false
    no_disc Uih x h = refl
    no_disc Sabm x h = cc
    no_disc Ua x h = cc
    no_disc Dm x h = cc
    no_disc Disc x h = cc

    no_cld : (a z c : Bool) → not z ≡ true → ((a && z) && c) ≡ false
    no_cld true true c h = cc
    no_cld true false c h = refl
    no_cld false z c h = refl

sent_untouched : (n1 e : ℕ) (past : List Act) (f : Frame) (b : Bool) → is_data_frame f ≡ b → Sends (responding n1) past f b → is_on Sabm e f ≡ false → Untouched n1 e past → Untouched n1 e (Sent f ∷ past)
unfolding Sends
sent_untouched n1 e past f true is g sabm h =
    let quiet = data_no_closer e f is in
    let u : unit (closer e f) ≡ 0 = ap unit quiet in
    let same : many (closer e) (owed_frames (responding n1) (Sent f ∷ past)) ≡ many (closer e) (owed_frames (responding n1) past) = ap (λ (b : Bool). many (closer e) (if b then owed_frames (responding n1) past else drop 1 (owed_frames (responding n1) past))) is in
    let x = h.sent_none in
    let y = h.owed_none in
    record { shut = next_shut e past (Sent f) (sabm, quiet) h.shut; sent_none = omega (arith, u, x); owed_none = omega (arith, same, y) }
sent_untouched n1 e past f false is g sabm h =
    let first : many (closer e) (owed_frames (responding n1) past) ≡ unit (closer e f) + many (closer e) g.later = ap (many (closer e)) g.is_next in
    let same : many (closer e) (owed_frames (responding n1) (Sent f ∷ past)) ≡ many (closer e) g.later =
    ap (λ (b : Bool). many (closer e) (if b then owed_frames (responding n1) past else drop 1 (owed_frames (responding n1) past))) is ∙ ap (λ (fs : List Frame). many (closer e) (drop 1 fs)) g.is_next in
    let x = h.sent_none in
    let y = h.owed_none in
    let quiet = none_of (closer e) f (many (closer e) g.later) (omega (arith, first, y)) in
    record { shut = next_shut e past (Sent f) (sabm, quiet) h.shut; sent_none = omega (arith, first, x, y); owed_none = omega (arith, same, first, y) }

-- while no SABM on e came or was sent, e is shut, and nothing that closes it was sent or is owed
pub untouched : (n1 e : ℕ) (past : List Act) → StationLawful (responding n1) past → many (is_on Sabm e) (frames_got past) ≤ 0 → many (is_on Sabm e) (frames_sent past) ≤ 0 → Untouched n1 e past
unfolding StationLawful
untouched n1 e [] l none asks = record { shut = refl; sent_none = omega arith; owed_none = omega arith }
untouched n1 e (Sent f ∷ past) l none asks =
    sent_untouched n1 e past f (is_data_frame f) refl l.0 (none_of (is_on Sabm e) f (many (is_on Sabm e) (frames_sent past)) asks) (untouched n1 e past l.1 none (omega (arith, asks)))
untouched n1 e (Got f ∷ past) l none asks =
    let h = untouched n1 e past l (omega (arith, none)) asks in
    record {
      shut = next_shut e past (Got f) (none_of (is_on Sabm e) f (many (is_on Sabm e) (frames_got past)) none) h.shut;
      sent_none = h.sent_none;
      owed_none = more_owed n1 e past (Got f) (frame_closes_none e (station_view (responding n1) past).state f) h.owed_none;
    }
untouched n1 e (Called c ∷ past) l none asks =
    let h = untouched n1 e past l none asks in
    let v = station_view (responding n1) past in
    record {
      shut = next_shut e past (Called c) tt h.shut;
      sent_none = h.sent_none;
      owed_none = more_owed n1 e past (Called c) (call_closes_none n1 e v c (is_none (refused (responding n1) v c)) refl h.shut) h.owed_none;
    }
untouched n1 e (Tick ∷ past) l none asks =
    let h = untouched n1 e past l none asks in
    let v = station_view (responding n1) past in
    record {
      shut = next_shut e past Tick tt h.shut;
      sent_none = h.sent_none;
      owed_none = more_owed n1 e past Tick (tick_closes_none n1 e v.state v.queued h.shut) h.owed_none;
    }
untouched n1 e (Given ∷ past) l none asks =
    let h = untouched n1 e past l none asks in
    record { shut = next_shut e past Given tt h.shut; sent_none = h.sent_none; owed_none = more_owed n1 e past Given (omega arith) h.owed_none }
untouched n1 e (Lost ∷ past) l none asks =
    let h = untouched n1 e past l none asks in
    record { shut = next_shut e past Lost tt h.shut; sent_none = h.sent_none; owed_none = omega arith }

-- ## CLD behind the SABM on 0

-- no CLD was sent, and none is owed
record NoneDown (n1 : ℕ) (past : List Act) : Type 0 where
  sent : many (brings_command cld) (frames_sent past) ≤ 0
  owed_none : many (brings_command cld) (owed_frames (responding n1) past) ≤ 0

call_no_cld : (n1 : ℕ) (v : StationView) (c : Call) (b : Bool) → is_none (refused (responding n1) v c) ≡ b → is_opened (v.state 0) ≡ false → many (brings_command cld) (if b then frames_asked Responder c else []) ≤ 0
call_no_cld n1 v c false k shut = omega arith
call_no_cld n1 v (Open d) true k shut = omega arith
call_no_cld n1 v (Close d) true k shut = omega arith
call_no_cld n1 v (Probe octets) true k shut = none_one (brings_command cld) (message_frame Responder test octets) (not_cld_frame Responder test octets refl)
call_no_cld n1 v Stop true k shut =
    let o = stop_open (is_opened (v.state 0)) (if_no_room (responding n1) v Stop) k in
    let t : true ≡ false = sym o ∙ shut in cc
call_no_cld n1 v (Flow d go) true k shut =
    few_if (brings_command cld) 0 (d == 0) (message_frame Responder (if go then 0xa3 else 0x63) [] ∷ []) (msc_frame Responder d (if go then ready else held_up) ∷ [])
    (none_one (brings_command cld) (message_frame Responder (if go then 0xa3 else 0x63) []) (flow_not_cld go))
    (none_one (brings_command cld) (msc_frame Responder d (if go then ready else held_up)) (not_cld_frame Responder msc ((4 * d + 3) ∷ (if go then ready else held_up) ∷ []) refl))
  where
    flow_not_cld : (go : Bool) → brings_command cld (message_frame Responder (if go then 0xa3 else 0x63) []) ≡ false
    flow_not_cld true = refl
    flow_not_cld false = refl
call_no_cld n1 v (Offer d octets) true k shut = omega arith

none_down : (n1 : ℕ) (past : List Act) → StationLawful (responding n1) past → many (is_on Sabm 0) (frames_got past) ≤ 0 → NoneDown n1 past
unfolding StationLawful Sends
none_down n1 [] l none = record { sent = omega arith; owed_none = omega arith }
none_down n1 (Called c ∷ past) l none =
    let h = none_down n1 past l none in
    let st = responding n1 in
    let v = station_view st past in
    let shut_now = (shut n1 0 past l none).open_not in
    let few = station_called (brings_command cld) 0 st past (Called c) (call_no_cld n1 v c (is_none (refused st v c)) refl shut_now) in
    let both = many_both (brings_command cld) (owed_frames st past) (called_frames st past (Called c)) in
    let o = h.owed_none in
    record { sent = h.sent; owed_none = omega (arith, few, both, o) }
none_down n1 (Got f ∷ past) l none =
    let h = none_down n1 past l (omega (arith, none)) in
    let st = responding n1 in
    let few = station_called (brings_command cld) 0 st past (Got f) (frame_no_cld Responder (station_view st past).state f) in
    let both = many_both (brings_command cld) (owed_frames st past) (called_frames st past (Got f)) in
    let o = h.owed_none in
    record { sent = h.sent; owed_none = omega (arith, few, both, o) }
none_down n1 (Tick ∷ past) l none =
    let h = none_down n1 past l none in
    let st = responding n1 in
    let v = station_view st past in
    let few = station_called (brings_command cld) 0 st past Tick (tick_none Responder (brings_command cld) (λ x. refl) (λ x. refl) n1 v.state v.queued 0 62) in
    let both = many_both (brings_command cld) (owed_frames st past) (called_frames st past Tick) in
    let o = h.owed_none in
    record { sent = h.sent; owed_none = omega (arith, few, both, o) }
none_down n1 (Given ∷ past) l none =
    let h = none_down n1 past l none in
    let few = station_called (brings_command cld) 0 (responding n1) past Given (omega arith) in
    let both = many_both (brings_command cld) (owed_frames (responding n1) past) (called_frames (responding n1) past Given) in
    let o = h.owed_none in
    record { sent = h.sent; owed_none = omega (arith, few, both, o) }
none_down n1 (Lost ∷ past) l none = record { sent = (none_down n1 past l none).sent; owed_none = omega arith }
none_down n1 (Sent f ∷ past) l none = by_data (is_data_frame f) refl l.0 (none_down n1 past l.1 none)
  where
    by_data : (b : Bool) → is_data_frame f ≡ b → Sends (responding n1) past f b → NoneDown n1 past → NoneDown n1 (Sent f ∷ past)
    by_data true is g h =
        let quiet : unit (brings_command cld f) ≡ 0 = ap unit (or_parts (is_on Disc 0 f) (brings_command cld f) (data_no_closer 0 f is)).1 in
        let same : many (brings_command cld) (owed_frames (responding n1) (Sent f ∷ past)) ≡ many (brings_command cld) (owed_frames (responding n1) past) =
        ap (λ (b : Bool). many (brings_command cld) (if b then owed_frames (responding n1) past else drop 1 (owed_frames (responding n1) past))) is in
        let x = h.sent in
        let y = h.owed_none in
        record { sent = omega (arith, quiet, x); owed_none = omega (arith, same, y) }
    by_data false is g h =
        let first : many (brings_command cld) (owed_frames (responding n1) past) ≡ unit (brings_command cld f) + many (brings_command cld) g.later = ap (many (brings_command cld)) g.is_next in
        let same : many (brings_command cld) (owed_frames (responding n1) (Sent f ∷ past)) ≡ many (brings_command cld) g.later =
        ap (λ (b : Bool). many (brings_command cld) (if b then owed_frames (responding n1) past else drop 1 (owed_frames (responding n1) past))) is
        ∙ ap (λ (fs : List Frame). many (brings_command cld) (drop 1 fs)) g.is_next in
        let x = h.sent in
        let y = h.owed_none in
        record { sent = omega (arith, first, x, y); owed_none = omega (arith, same, first, y) }

-- a responder sends no CLD before the SABM on 0 came
pub cld_behind : (n1 : ℕ) (past : List Act) → StationLawful (responding n1) past → many (is_on Sabm 0) (frames_got past) ≤ 0 → many (brings_command cld) (frames_sent past) ≤ 0
cld_behind n1 past l none = (none_down n1 past l none).sent

-- ## While it is open

open_unended : (e : ℕ) (past : List Act) (f : Frame) → is_open Responder e (Sent f ∷ past) ≡ true → closer e f ≡ false
open_unended e past f o = by_end (is_on Disc e f) (brings_command cld f) (is_open Responder e past) (not (e == 0) && ends_itself (is_open Responder 0 past) 0 (Sent f)) (e == 0) (sym (is_open_after Responder e past (Sent f)) ∙ o)
  where
    by_end : (a c i y z : Bool) → (i && not ((a || c) || y)) ≡ true → (a || (z && c)) ≡ false
    by_end a c false y z h = cc
    by_end true c true y z h = cc
    by_end false true true y z h = cc
    by_end false false true y true h = refl
    by_end false false true y false h = refl

-- while e is open, one SABM on it came at most, and none was sent, nothing that closes it was sent
pub none_closed : (n1 e : ℕ) (past : List Act) → StationLawful (responding n1) past → many (is_on Sabm e) (frames_got past) ≤ 1 → many (is_on Sabm e) (frames_sent past) ≤ 0 → is_open Responder e past ≡ true → many (closer e) (frames_sent past) ≤ 0
unfolding StationLawful
none_closed n1 e [] l once asks o = omega arith
none_closed n1 e (Got f ∷ past) l once asks o = by_opens (opens_now Responder e past (Got f)) refl (λ k. none_closed n1 e past l (omega (arith, once)) asks k)
  where
    by_opens : (b : Bool) → opens_now Responder e past (Got f) ≡ b → (is_open Responder e past ≡ true → many (closer e) (frames_sent past) ≤ 0) → many (closer e) (frames_sent past) ≤ 0
    by_opens false k rest = rest (open_before Responder e past (Got f) k o)
    by_opens true k rest =
        let u : unit (is_on Sabm e f) ≡ 1 = ap unit (and_parts (is_on Sabm e f) ((e == 0) || is_open Responder 0 past) k).0 in
        (untouched n1 e past l (omega (arith, once, u)) asks).sent_none
none_closed n1 e (Sent f ∷ past) l once asks o =
    let k = none_closed n1 e past l.1 once (omega (arith, asks)) (open_before Responder e past (Sent f) refl o) in
    let u : unit (closer e f) ≡ 0 = ap unit (open_unended e past f o) in
    omega (arith, k, u)
none_closed n1 e (Called c ∷ past) l once asks o = none_closed n1 e past l once asks (open_before Responder e past (Called c) refl o)
none_closed n1 e (Tick ∷ past) l once asks o = none_closed n1 e past l once asks (open_before Responder e past Tick refl o)
none_closed n1 e (Lost ∷ past) l once asks o = none_closed n1 e past l once asks (open_before Responder e past Lost refl o)
none_closed n1 e (Given ∷ past) l once asks o = none_closed n1 e past l once asks (open_before Responder e past Given refl o)

-- each DISC on e closes it
pub discs_closed : (e : ℕ) (fs : List Frame) → many (is_on Disc e) fs ≤ many (closer e) fs
discs_closed e [] = omega arith
discs_closed e (f ∷ fs) = let x = discs_closed e fs in let y = less (is_on Disc e f) ((e == 0) && brings_command cld f) in omega (arith, x, y)
  where
    less : (a b : Bool) → unit a ≤ unit (a || b)
    less true b = omega arith
    less false b = omega arith

-- each CLD closes 0
pub clds_closed : (fs : List Frame) → many (brings_command cld) fs ≤ many (closer 0) fs
clds_closed [] = omega arith
clds_closed (f ∷ fs) = let x = clds_closed fs in let y = less (is_on Disc 0 f) (brings_command cld f) in omega (arith, x, y)
  where
    less : (a b : Bool) → unit b ≤ unit (a || b)
    less true true = omega arith
    less true false = omega arith
    less false b = omega arith
