-- What is noted of a frame is what happens.
use Rattle.std.specs.Prelude.{◌≡◌, ℕ, ◌<◌, ◌==◌, ◌&&◌, ◌||◌, not, Bool, true, false, List, ◌∷◌, length, refl, if◌then◌else◌, Option, Some, None}
use Rattle.std.proofs.Common.{◌∙◌, ap, sym, subst, eqb-true, arith}
use Rattle.mux_frame.specs.Frames.{Frame}
use Rattle.mux_frame.specs.declared.frame.Kind.{Kind}
use Rattle.mux_frame.specs.declared.frame.Kind.TheVariants.{Sabm, Ua, Dm, Disc, Uih}
use Rattle.mux_station.specs.declared.role.Role.{Role}
use Rattle.mux_station.specs.declared.role.Role.TheVariants.{Initiator, Responder}
use Rattle.mux_station.specs.declared.row.Turn.TheVariants.{Shuts}
use Rattle.mux_station.specs.declared.noted.Noted.{Noted}
use Rattle.mux_station.specs.declared.noted.Noted.TheVariants.{Opened, Refused, Closed, Reset, Info, ProbeBack, ProbeRefused, AllClosed, Nothing}
use Rattle.mux_station.specs.Written.{is_kind, is_on, is_data_frame}
use Rattle.mux_station.specs.Messages.{Message, message_of, command_of, octet_is, cld, brings_command, brings_response}
use Rattle.mux_station.specs.Acts.{Act, Got}
use Rattle.mux_station.specs.Opening.{is_open}
use Rattle.mux_station.specs.States.{State, IsShut, IsOpening, IsOpened, IsClosing, IsStopping, is_opened, at_close_down, got_by, state_of}
use Rattle.mux_station.specs.Sending.{Waiting, StationView, station_view, probe_of, brings_probe_back, refuses_probe}
use Rattle.mux_station.specs.Stations.{Channel, Station, channel_at, setting_of}
use Rattle.mux_station.specs.Fitting.{StationFits}
use Rattle.mux_station.specs.Getting.{TurnsBy, opens_by, all_turned_in, message_taken}
use Rattle.mux_station.specs.Noting.{noted_by_table, noted_of_probe, noted_by_message, noted_of, says_open, says_info, NotesWhatHappens, NotedTruly}
use Rattle.mux_station.proofs.user_calls.OpenAndClose.{is_opened_state}
use Rattle.mux_station.proofs.received.StatesAfterFrames.{state_own, state_other, opens_own}
use Rattle.mux_station.proofs.received.TableFrames.{zero_fits, turned_closed, zero_place, zero_others}
use Rattle.mux_station.proofs.received.MessageFrames.{OnZero, on_zero, opens_none, zero_told, message_fits}

abbrev says_all : Noted → Bool
says_all AllClosed = true
says_all _ = false

all_closed : (n : Noted) → says_all n ≡ true → n ≡ AllClosed
all_closed Opened h = cc
all_closed Refused h = cc
all_closed Closed h = cc
all_closed Reset h = cc
all_closed Info h = cc
all_closed ProbeBack h = cc
all_closed ProbeRefused h = cc
all_closed AllClosed h = refl
all_closed Nothing h = cc

-- ## The tables

-- what a row of the tables notes: that its connection opens, that it brings data, or that it closes all
record Says (r : Role) (d : ℕ) (z : Bool) (s : State) (k : Kind) (n : Noted) : Type 0 where
  opens : says_open n ≡ opens_by r z s k
  info : says_info n ≡ (is_kind k Uih && is_opened s)
  one : (d == 0) ≡ false → says_all n ≡ false
  shuts : says_all n ≡ true → TurnsBy r true s k Shuts

plain : {r : Role} {d : ℕ} {z : Bool} {s : State} {k : Kind} {n : Noted} → says_open n ≡ opens_by r z s k → says_info n ≡ (is_kind k Uih && is_opened s) → says_all n ≡ false → Says r d z s k n
plain o i a = record { opens = o; info = i; one = λ h. a; shuts = λ h. absurd (let e : false ≡ true = sym a ∙ h in cc) }

closing : {r : Role} {z : Bool} {s : State} {k : Kind} (d : ℕ) (b : Bool) → (d == 0) ≡ b → opens_by r z s k ≡ false → (is_kind k Uih && is_opened s) ≡ false → TurnsBy r true s k Shuts → Says r d z s k (if b then AllClosed else Closed)
closing d true e o i t = record { opens = sym o; info = sym i; one = λ h. absurd (let g : true ≡ false = sym e ∙ h in cc); shuts = λ h. t }
closing d false e o i t = plain (sym o) (sym i) refl

sabm_says : (d : ℕ) (z : Bool) (s : State) (b : Bool) → is_opened s ≡ b → Says Responder d z s Sabm (if z then (if b then Reset else Opened) else Nothing)
sabm_says d true s true e = plain refl refl refl
sabm_says d true s false e = plain refl refl refl
sabm_says d false s b e = plain refl refl refl

table_says : (r : Role) (d : ℕ) (z s : State) (k : Kind) → Says r d ((d == 0) || is_opened z) s k (noted_by_table r d z s k)
table_says Initiator d z IsShut Sabm = plain refl refl refl
table_says Initiator d z IsShut Ua = plain refl refl refl
table_says Initiator d z IsShut Dm = plain refl refl refl
table_says Initiator d z IsShut Disc = plain refl refl refl
table_says Initiator d z IsShut Uih = plain refl refl refl
table_says Initiator d z (IsOpening n) Sabm = plain refl refl refl
table_says Initiator d z (IsOpening n) Ua = plain refl refl refl
table_says Initiator d z (IsOpening n) Dm = plain refl refl refl
table_says Initiator d z (IsOpening n) Disc = plain refl refl refl
table_says Initiator d z (IsOpening n) Uih = plain refl refl refl
table_says Initiator d z IsOpened Sabm = closing d (d == 0) refl refl refl (record { state = refl; opens = refl })
table_says Initiator d z IsOpened Ua = plain refl refl refl
table_says Initiator d z IsOpened Dm = closing d (d == 0) refl refl refl (record { state = refl; opens = refl })
table_says Initiator d z IsOpened Disc = closing d (d == 0) refl refl refl (record { state = refl; opens = refl })
table_says Initiator d z IsOpened Uih = plain refl refl refl
table_says Initiator d z (IsClosing n) Sabm = plain refl refl refl
table_says Initiator d z (IsClosing n) Ua = plain refl refl refl
table_says Initiator d z (IsClosing n) Dm = plain refl refl refl
table_says Initiator d z (IsClosing n) Disc = plain refl refl refl
table_says Initiator d z (IsClosing n) Uih = plain refl refl refl
table_says Initiator d z (IsStopping n) Sabm = plain refl refl refl
table_says Initiator d z (IsStopping n) Ua = plain refl refl refl
table_says Initiator d z (IsStopping n) Dm = closing d (d == 0) refl refl refl (record { state = refl; opens = refl })
table_says Initiator d z (IsStopping n) Disc = plain refl refl refl
table_says Initiator d z (IsStopping n) Uih = plain refl refl refl
table_says Responder d z s Sabm = sabm_says d ((d == 0) || is_opened z) s (is_opened s) refl
table_says Responder d z IsShut Ua = plain refl refl refl
table_says Responder d z IsShut Dm = plain refl refl refl
table_says Responder d z IsShut Disc = plain refl refl refl
table_says Responder d z IsShut Uih = plain refl refl refl
table_says Responder d z (IsOpening n) Ua = plain refl refl refl
table_says Responder d z (IsOpening n) Dm = closing d (d == 0) refl refl refl (record { state = refl; opens = refl })
table_says Responder d z (IsOpening n) Disc = plain refl refl refl
table_says Responder d z (IsOpening n) Uih = plain refl refl refl
table_says Responder d z IsOpened Ua = plain refl refl refl
table_says Responder d z IsOpened Dm = closing d (d == 0) refl refl refl (record { state = refl; opens = refl })
table_says Responder d z IsOpened Disc = closing d (d == 0) refl refl refl (record { state = refl; opens = refl })
table_says Responder d z IsOpened Uih = plain refl refl refl
table_says Responder d z (IsClosing n) Ua = closing d (d == 0) refl refl refl (record { state = refl; opens = refl })
table_says Responder d z (IsClosing n) Dm = closing d (d == 0) refl refl refl (record { state = refl; opens = refl })
table_says Responder d z (IsClosing n) Disc = plain refl refl refl
table_says Responder d z (IsClosing n) Uih = plain refl refl refl
table_says Responder d z (IsStopping n) Ua = plain refl refl refl
table_says Responder d z (IsStopping n) Dm = closing d (d == 0) refl refl refl (record { state = refl; opens = refl })
table_says Responder d z (IsStopping n) Disc = plain refl refl refl
table_says Responder d z (IsStopping n) Uih = plain refl refl refl

-- and one on 0 that ends it while it is Opened is so noted
table_closes : (r : Role) (d : ℕ) (z : State) (k : Kind) → (d == 0) ≡ true → is_opened (got_by r true IsOpened k) ≡ false → says_all (noted_by_table r d z IsOpened k) ≡ true
table_closes Initiator d z Ua e h = cc
table_closes Initiator d z Sabm e h = ap (λ (b : Bool). says_all (if b then AllClosed else Closed)) e
table_closes Initiator d z Dm e h = ap (λ (b : Bool). says_all (if b then AllClosed else Closed)) e
table_closes Initiator d z Disc e h = ap (λ (b : Bool). says_all (if b then AllClosed else Closed)) e
table_closes Initiator d z Uih e h = cc
table_closes Responder d z Ua e h = cc
table_closes Responder d z Sabm e h = cc
table_closes Responder d z Dm e h = ap (λ (b : Bool). says_all (if b then AllClosed else Closed)) e
table_closes Responder d z Disc e h = ap (λ (b : Bool). says_all (if b then AllClosed else Closed)) e
table_closes Responder d z Uih e h = cc

-- ## Messages

probe_quiet : (say : Noted → Bool) → say Nothing ≡ false → say ProbeBack ≡ false → say ProbeRefused ≡ false → (w : Option Waiting) (m : Option Message) → say (noted_of_probe w m) ≡ false
probe_quiet say n b r None m = n
probe_quiet say n b r (Some w) m = by_test (brings_probe_back w.data_octets m) (refuses_probe m)
  where
    by_test : (x y : Bool) → say (if x then ProbeBack else (if y then ProbeRefused else Nothing)) ≡ false
    by_test true y = b
    by_test false true = r
    by_test false false = n

if_closed : (say : Noted → Bool) (b : Bool) (n : Noted) → say AllClosed ≡ false → say n ≡ false → say (if b then AllClosed else n) ≡ false
if_closed say true n h k = h
if_closed say false n h k = k

-- no message opens a connection or brings data
message_quiet : (say : Noted → Bool) → say AllClosed ≡ false → say Nothing ≡ false → say ProbeBack ≡ false → say ProbeRefused ≡ false → (z : State) (w : Option Waiting) (o : Option Message) → say (noted_by_message z w o) ≡ false
message_quiet say a n b r IsShut w o = n
message_quiet say a n b r (IsOpening k) w o = n
message_quiet say a n b r (IsClosing k) w o = n
message_quiet say a n b r IsOpened w None = n
message_quiet say a n b r (IsStopping k) w None = n
message_quiet say a n b r IsOpened w (Some m) = if_closed say (m.octet == cld) (noted_of_probe w (Some m)) a (probe_quiet say n b r w (Some m))
message_quiet say a n b r (IsStopping k) w (Some m) = if_closed say ((m.octet == cld) || (command_of m.octet == cld)) Nothing a n

only_if : (b : Bool) (n : Noted) (x y : Station) → says_all n ≡ false → says_all (if b then AllClosed else n) ≡ true → (if b then x else y) ≡ x
only_if true n x y h k = refl
only_if false n x y h k = absurd (let e : false ≡ true = sym h ∙ k in cc)

message_all : (v : Station) (z : State) (w : Option Waiting) (o : Option Message) → says_all (noted_by_message z w o) ≡ true → message_taken v z o ≡ all_turned_in v IsShut
message_all v IsShut w o h = cc
message_all v (IsOpening k) w o h = cc
message_all v (IsClosing k) w o h = cc
message_all v IsOpened w None h = cc
message_all v (IsStopping k) w None h = cc
message_all v IsOpened w (Some m) h = only_if (m.octet == cld) (noted_of_probe w (Some m)) (all_turned_in v IsShut) _ (probe_quiet says_all refl refl refl w (Some m)) h
message_all v (IsStopping k) w (Some m) h = only_if ((m.octet == cld) || (command_of m.octet == cld)) Nothing (all_turned_in v IsShut) v refl h

message_closes : (w : Option Waiting) (o : Option Message) → octet_is (λ x. x) cld o ≡ true → says_all (noted_by_message IsOpened w o) ≡ true
message_closes w None h = cc
message_closes w (Some m) h = ap (λ (b : Bool). says_all (if b then AllClosed else noted_of_probe w (Some m))) h

-- ## A frame

-- every connection is shut where all are turned
shut_all : (v : Station) (f : Frame) (past : List Act) → StationFits (all_turned_in v IsShut) (Got f ∷ past) → (d : ℕ) → d < 62 → state_of v.role d (Got f ∷ past) ≡ IsShut
shut_all v f past h d l = (h.channels_are d l).state_is ∙ by_zero (d == 0) refl
  where
    by_zero : (b : Bool) → (d == 0) ≡ b → (channel_at (all_turned_in v IsShut) d).state ≡ IsShut
    by_zero true e = subst (λ (m : ℕ). (channel_at (all_turned_in v IsShut) m).state ≡ IsShut) (sym (eqb-true d 0 e)) (ap (λ (c : Channel). c.state) (zero_place v IsShut))
    by_zero false e = ap (λ (c : Channel). c.state) (zero_others v IsShut d l e)

open_state : (r : Role) (past : List Act) (d : ℕ) (b : Bool) → is_open r d past ≡ b → is_opened (state_of r d past) ≡ b
open_state r past d b h = h

noted_by_row : (r : Role) (v : StationView) (f : Frame) → is_on Uih 0 f ≡ false → noted_of r v f ≡ noted_by_table r f.dlci (v.state 0) (v.state f.dlci) f.kind
noted_by_row r v f i = ap (λ (b : Bool). if b then noted_by_message (v.state 0) v.probe (message_of f.info) else noted_by_table r f.dlci (v.state 0) (v.state f.dlci) f.kind) i

noted_message : (r : Role) (v : StationView) (f : Frame) → is_on Uih 0 f ≡ true → noted_of r v f ≡ noted_by_message (v.state 0) v.probe (message_of f.info)
noted_message r v f i = ap (λ (b : Bool). if b then noted_by_message (v.state 0) v.probe (message_of f.info) else noted_by_table r f.dlci (v.state 0) (v.state f.dlci) f.kind) i

and_off : (b : Bool) → (b && false) ≡ false
and_off true = refl
and_off false = refl

no_data : (a b : Bool) → (a && b) ≡ false → a ≡ (a && not b)
no_data true b h = ap not (sym h)
no_data false b h = refl

-- by the tables
table_shut : (v : Station) (past : List Act) (f : Frame) (b : Bool) → (f.dlci == 0) ≡ b → is_on Uih 0 f ≡ false → StationFits v past → length v.channels ≡ 62 → f.dlci < 62
    → says_all (noted_by_table v.role f.dlci (state_of v.role 0 past) (state_of v.role f.dlci past) f.kind) ≡ true → (d : ℕ) → d < 62 → state_of v.role d (Got f ∷ past) ≡ IsShut
table_shut v past f false e i h n l a d k = absurd (let g : false ≡ true = sym ((table_says v.role f.dlci (state_of v.role 0 past) (state_of v.role f.dlci past) f.kind).one e) ∙ a in cc)
table_shut v past f true e i h n l a d k =
    let own : state_of v.role f.dlci past ≡ (channel_at v f.dlci).state = (h.channels_are f.dlci l).state_is in
    let shuts : TurnsBy v.role true (state_of v.role f.dlci past) f.kind Shuts = (table_says v.role f.dlci (state_of v.role 0 past) (state_of v.role f.dlci past) f.kind).shuts a in
    let turns : TurnsBy v.role ((f.dlci == 0) || is_opened (channel_at v 0).state) (channel_at v f.dlci).state f.kind Shuts
    = subst (λ (b : Bool). TurnsBy v.role (b || is_opened (channel_at v 0).state) (channel_at v f.dlci).state f.kind Shuts) (sym e)
    (subst (λ (s : State). TurnsBy v.role true s f.kind Shuts) own shuts) in
    shut_all v f past (zero_fits v f Shuts IsShut past turned_closed (record { all = n; in_range = l; no_message = i; turns = turns; fits = h }) e) d k

row_closes : (v : Station) (past : List Act) (f : Frame) (b : Bool) → (f.dlci == 0) ≡ b → is_on Uih 0 f ≡ false → is_opened (state_of v.role 0 past) ≡ true → is_opened (state_of v.role 0 (Got f ∷ past)) ≡ false
    → says_all (noted_by_table v.role f.dlci (state_of v.role 0 past) (state_of v.role f.dlci past) f.kind) ≡ true
row_closes v past f false e i o c = absurd (let g : true ≡ false = sym o ∙ (ap is_opened (sym (state_other v.role 0 past f e e)) ∙ c) in cc)
row_closes v past f true e i o c =
    let zero : f.dlci ≡ 0 = eqb-true f.dlci 0 e in
    let opened : state_of v.role f.dlci past ≡ IsOpened = subst (λ (m : ℕ). state_of v.role m past ≡ IsOpened) (sym zero) (is_opened_state (state_of v.role 0 past) o) in
    let after : state_of v.role f.dlci (Got f ∷ past) ≡ got_by v.role true IsOpened f.kind
    = state_own v.role past f i
    ∙ (ap (λ (b : Bool). got_by v.role (b || is_opened (state_of v.role 0 past)) (state_of v.role f.dlci past) f.kind) e ∙ ap (λ (s : State). got_by v.role true s f.kind) opened) in
    let there : is_opened (state_of v.role f.dlci (Got f ∷ past)) ≡ false = subst (λ (m : ℕ). is_opened (state_of v.role m (Got f ∷ past)) ≡ false) (sym zero) c in
    ap (λ (s : State). says_all (noted_by_table v.role f.dlci (state_of v.role 0 past) s f.kind)) opened
    ∙ table_closes v.role f.dlci (state_of v.role 0 past) f.kind e (ap is_opened (sym after) ∙ there)

table_notes : (v : Station) (past : List Act) (f : Frame) → is_on Uih 0 f ≡ false → StationFits v past → length v.channels ≡ 62 → f.dlci < 62 → NotesWhatHappens (setting_of v) past f
table_notes v past f i h n l =
    let z = state_of v.role 0 past in
    let s = state_of v.role f.dlci past in
    let own = h.channels_are f.dlci l in
    let noted = noted_by_row v.role (station_view (setting_of v) past) f i in
    record {
      opened = ap says_open noted ∙ ((table_says v.role f.dlci z s f.kind).opens ∙ (ap (λ (x : State). opens_by v.role ((f.dlci == 0) || is_opened z) x f.kind) own.state_is ∙ sym (opens_own v.role past f (channel_at v f.dlci) own)));
      info = ap says_info noted
          ∙ ((table_says v.role f.dlci z s f.kind).info
          ∙ ap (λ (b : Bool). b && is_open v.role f.dlci past) (no_data (is_kind f.kind Uih) (f.dlci == 0) i));
      all_shut = λ e d k. table_shut v past f (f.dlci == 0) refl i h n l (ap says_all (sym noted ∙ e)) d k;
      closes_all = λ o c. all_closed (noted_of v.role (station_view (setting_of v) past) f)
          (ap says_all noted ∙ row_closes v past f (f.dlci == 0) refl i (open_state v.role past 0 true o) (open_state v.role (Got f ∷ past) 0 false c));
    }

-- by a message
closed_by : (c x : Bool) → is_opened (at_close_down c x IsOpened) ≡ false → c ≡ true
closed_by true x h = refl
closed_by false x h = cc

data_of_message : (f : Frame) (b : Bool) → OnZero f → (is_data_frame f && b) ≡ false
data_of_message f b o = ap (λ (x : Bool). (is_kind f.kind Uih && not x) && b) o.zero ∙ ap (λ (x : Bool). x && b) (and_off (is_kind f.kind Uih))

message_notes : (v : Station) (past : List Act) (f : Frame) → is_on Uih 0 f ≡ true → StationFits v past → length v.channels ≡ 62 → f.dlci < 62 → NotesWhatHappens (setting_of v) past f
message_notes v past f i h n l =
    let z = state_of v.role 0 past in
    let w = probe_of (setting_of v) past in
    let m = message_of f.info in
    let on = on_zero f i in
    let zero : z ≡ (channel_at v 0).state = (h.channels_are 0 (omega arith)).state_is in
    let noted = noted_message v.role (station_view (setting_of v) past) f i in
    record {
      opened = ap says_open noted ∙ (message_quiet says_open refl refl refl refl z w m ∙ sym (opens_none v.role f.dlci past f on));
      info = ap says_info noted ∙ (message_quiet says_info refl refl refl refl z w m ∙ sym (data_of_message f (is_open v.role f.dlci past) on));
      all_shut = λ e d k.
          let taken : message_taken v (channel_at v 0).state m ≡ all_turned_in v IsShut = ap (λ (s : State). message_taken v s m) (sym zero) ∙ message_all v z w m (ap says_all (sym noted ∙ e)) in
          shut_all v f past (subst (λ (x : Station). StationFits x (Got f ∷ past)) taken (message_fits v f past i n h)) d k;
      closes_all = λ o c.
          let up : z ≡ IsOpened = is_opened_state z (open_state v.role past 0 true o) in
          let after : state_of v.role 0 (Got f ∷ past) ≡ at_close_down (brings_command cld f) (brings_response cld f) IsOpened
          = zero_told v f past on h ∙ ap (at_close_down (brings_command cld f) (brings_response cld f)) (sym zero ∙ up) in
          let command : octet_is (λ x. x) cld m ≡ true = sym on.commands ∙ closed_by (brings_command cld f) (brings_response cld f) (ap is_opened (sym after) ∙ open_state v.role (Got f ∷ past) 0 false c) in
          all_closed (noted_of v.role (station_view (setting_of v) past) f) (ap says_all noted ∙ (ap (λ (s : State). says_all (noted_by_message s w m)) up ∙ message_closes w m command));
    }

notes_by : (v : Station) (past : List Act) (f : Frame) (b : Bool) → is_on Uih 0 f ≡ b → NotedTruly v past f
notes_by v past f true i h n l = message_notes v past f i h n l
notes_by v past f false i h n l = table_notes v past f i h n l

-- what is noted of a frame is what happens, in each past that the station fits
pub noted_truly : (v : Station) (past : List Act) (f : Frame) → NotedTruly v past f
noted_truly v past f h n l = notes_by v past f (is_on Uih 0 f) refl h n l
