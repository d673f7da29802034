-- A call of the user, and the control frame that it asks for.
use Rattle.std.specs.Prelude.{◌≡◌, ℕ, ◌==◌, ◌&&◌, ◌||◌, not, nat_le, Bool, true, false, List, [], ◌∷◌, length, refl, if◌then◌else◌, Option, Some, None, is_some, unwrap_or}
use Rattle.std.proofs.Common.{◌∙◌, ap, sym, subst, eqb-true}
use Rattle.mux_frame.specs.Frames.{Frame}
use Rattle.mux_frame.specs.declared.frame.Kind.TheVariants.{Sabm, Disc, Uih}
use Rattle.mux_station.specs.declared.role.Role.{Role}
use Rattle.mux_station.specs.declared.role.Role.TheVariants.{Initiator, Responder}
use Rattle.mux_station.specs.declared.error.StationError.{StationError}
use Rattle.mux_station.specs.declared.error.StationError.TheVariants.{TooLong, NotOpen, Busy}
use Rattle.mux_station.specs.Written.{is_on, is_data_frame}
use Rattle.mux_station.specs.Messages.{cld, brings_command}
use Rattle.mux_station.specs.Acts.{Call, Open, Close, Probe, Stop, Flow, Offer, Act, Called, Got, Sent, Tick, Lost, Given}
use Rattle.mux_station.specs.Opening.{since, opens_now}
use Rattle.mux_station.specs.States.{ends_itself}
use Rattle.mux_station.specs.States.{State, IsShut, IsOpening, IsOpened, IsClosing, IsStopping, is_opened, at_sent, at_tick, own_after, state_of}
use Rattle.mux_station.specs.Stopping.{last_said, got_says, flow_says}
use Rattle.mux_station.specs.Sending.{StationSetting, Waiting, station_view, refused, or_else, if_no_room, probe_after, probe_begun, zero_stays, probe_of}
use Rattle.mux_station.specs.Offering.{octets_offered, octets_sent}
use Rattle.mux_station.specs.Stations.{Channel}
use Rattle.mux_station.specs.Fitting.{ChannelFits}
use Rattle.mux_station.proofs.states.StatesAfterActs.{state_next, untouched, opened_open, since_goes_on}

-- ## States

-- an act that changes no state by itself
same_by : (r : Role) (d : ℕ) (past : List Act) (a : Act) (b : Bool) → (d == 0) ≡ b → ((z : Bool) → ends_itself z 0 a ≡ false) → ((e : ℕ) (z : Bool) (s : State) → own_after r e z s a ≡ s)
    → state_of r d (a ∷ past) ≡ state_of r d past
same_by r d past a true e ends own =
    let zero : d ≡ 0 = eqb-true d 0 e in
    subst (λ (m : ℕ). state_of r m (a ∷ past) ≡ state_of r m past) (sym zero) (state_next r 0 past a ∙ own 0 true (state_of r 0 past))
same_by r d past a false e ends own =
    let z = state_of r 0 past in
    let s = state_of r d past in
    state_next r d past a
    ∙ (ap (λ (b : Bool). if b then own_after r 0 true z a else (if ends_itself (is_opened z) 0 a then IsShut else own_after r d (is_opened z) s a)) e
    ∙ (ap (λ (b : Bool). if b then IsShut else own_after r d (is_opened z) s a) (ends (is_opened z)) ∙ own d (is_opened z) s))

-- a call changes no state
pub state_called : (r : Role) (d : ℕ) (past : List Act) (x : Call) → state_of r d (Called x ∷ past) ≡ state_of r d past
state_called r d past x = same_by r d past (Called x) (d == 0) refl (λ z. refl) (λ e z s. refl)

-- nor does a frame given on
pub state_given : (r : Role) (d : ℕ) (past : List Act) → state_of r d (Given ∷ past) ≡ state_of r d past
state_given r d past = same_by r d past Given (d == 0) refl (λ z. refl) (λ e z s. refl)

and_off : (b : Bool) → (b && false) ≡ false
and_off true = refl
and_off false = refl

-- the state after a frame is sent that is no close-down
abbrev pub on_sent : ℕ → Frame → State → State
on_sent d f s = if f.dlci == d then at_sent s f.kind else s

-- that is what such a frame makes of a connection by itself
pub own_sent : (r : Role) (d : ℕ) (z : Bool) (s : State) (f : Frame) → brings_command cld f ≡ false → own_after r d z s (Sent f) ≡ on_sent d f s
own_sent r d z s f h = ap (λ (b : Bool). if b then IsStopping 0 else on_sent d f s) (ap (λ (b : Bool). (d == 0) && b) h ∙ and_off (d == 0))

sent_by : (r : Role) (d : ℕ) (past : List Act) (f : Frame) (b : Bool) → (d == 0) ≡ b → brings_command cld f ≡ false → is_on Disc 0 f ≡ false → state_of r d (Sent f ∷ past) ≡ on_sent d f (state_of r d past)
sent_by r d past f true e c h =
    let zero : d ≡ 0 = eqb-true d 0 e in
    subst (λ (m : ℕ). state_of r m (Sent f ∷ past) ≡ on_sent m f (state_of r m past)) (sym zero) (state_next r 0 past (Sent f) ∙ own_sent r 0 true (state_of r 0 past) f c)
sent_by r d past f false e c h =
    let z = state_of r 0 past in
    let s = state_of r d past in
    let ends : ends_itself (is_opened z) 0 (Sent f) ≡ false = ap (λ (b : Bool). b || brings_command cld f) h ∙ c in
    state_next r d past (Sent f)
    ∙ (ap (λ (b : Bool). if b then own_after r 0 true z (Sent f) else (if ends_itself (is_opened z) 0 (Sent f) then IsShut else own_after r d (is_opened z) s (Sent f))) e
    ∙ (ap (λ (b : Bool). if b then IsShut else own_after r d (is_opened z) s (Sent f)) ends ∙ own_sent r d (is_opened z) s f c))

-- and the state that it comes to, where the frame is no DISC on 0 either
pub state_sent : (r : Role) (d : ℕ) (past : List Act) (f : Frame) → brings_command cld f ≡ false → is_on Disc 0 f ≡ false → state_of r d (Sent f ∷ past) ≡ on_sent d f (state_of r d past)
state_sent r d past f c h = sent_by r d past f (d == 0) refl c h

-- information sent changes no state
pub at_sent_uih : (s : State) → at_sent s Uih ≡ s
at_sent_uih IsShut = refl
at_sent_uih (IsOpening n) = refl
at_sent_uih IsOpened = refl
at_sent_uih (IsClosing n) = refl
at_sent_uih (IsStopping n) = refl

if_same : (b : Bool) (s t : State) → t ≡ s → (if b then t else s) ≡ s
if_same true s t h = h
if_same false s t h = refl

-- so a UIH that is no close-down leaves the state of every connection
pub state_sent_uih : (r : Role) (d : ℕ) (past : List Act) (f : Frame) → f.kind ≡ Uih → brings_command cld f ≡ false → is_on Disc 0 f ≡ false → state_of r d (Sent f ∷ past) ≡ state_of r d past
state_sent_uih r d past f k c h =
    let s = state_of r d past in
    state_sent r d past f c h ∙ if_same (f.dlci == d) s (at_sent s f.kind) (ap (at_sent s) k ∙ at_sent_uih s)

-- ## Connections

-- a frame sent opens no connection
pub opens_sent : (r : Role) (d : ℕ) (past : List Act) (f : Frame) → opens_now r d past (Sent f) ≡ false
opens_sent Initiator d past f = refl
opens_sent Responder d past f = refl

-- nor does a call
pub opens_called : (r : Role) (d : ℕ) (past : List Act) (x : Call) → opens_now r d past (Called x) ≡ false
opens_called Initiator d past x = refl
opens_called Responder d past x = refl

-- nor does a frame given on
pub opens_given : (r : Role) (d : ℕ) (past : List Act) → opens_now r d past Given ≡ false
opens_given Initiator d past = refl
opens_given Responder d past = refl

none_sent : (d : ℕ) (f : Frame) → is_data_frame f ≡ false → octets_sent d (Sent f) ≡ []
none_sent d f h = ap (λ (b : Bool). if b && (f.dlci == d) then f.info else []) h

-- a control frame is sent that leaves the connection as it is
pub fits_sent : (r : Role) (d : ℕ) (past : List Act) (f : Frame) (c : Channel) → ChannelFits r d past c → is_data_frame f ≡ false → is_on Sabm d f ≡ false → state_of r d (Sent f ∷ past) ≡ state_of r d past
    → ChannelFits r d (Sent f ∷ past) c
fits_sent r d past f c h n k e = untouched r d past (Sent f) c h (e ∙ h.state_is) (opens_sent r d past f) k refl refl (none_sent d f n)

-- a call comes that offers nothing on it
pub fits_called : (r : Role) (d : ℕ) (past : List Act) (x : Call) (c : Channel) → ChannelFits r d past c → octets_offered d (Called x) ≡ [] → ChannelFits r d (Called x ∷ past) c
fits_called r d past x c h o = untouched r d past (Called x) c h (state_called r d past x ∙ h.state_is) (opens_called r d past x) refl refl o refl

-- a frame is given on
pub fits_given : (r : Role) (d : ℕ) (past : List Act) (c : Channel) → ChannelFits r d past c → ChannelFits r d (Given ∷ past) c
fits_given r d past c h = untouched r d past Given c h (state_given r d past ∙ h.state_is) (opens_given r d past) refl refl refl refl

-- ## The stop of all

-- what the stop of all is, where 0 is open
abbrev pub AllStopped : Role → List Act → Bool → Type 0
AllStopped r past b = is_opened (state_of r 0 past) ≡ true → last_said (got_says flow_says) (since r 0 past) ≡ b

-- 0 stays as it is, and the act says nothing of the stop
pub all_untouched : (r : Role) (past : List Act) (a : Act) (b : Bool) → AllStopped r past b → state_of r 0 (a ∷ past) ≡ state_of r 0 past → opens_now r 0 past a ≡ false → got_says flow_says a ≡ None → AllStopped r (a ∷ past) b
all_untouched r past a b h e n m t =
    let on : since r 0 (a ∷ past) ≡ a ∷ since r 0 past = since_goes_on r 0 past a n (opened_open r 0 (a ∷ past) (state_of r 0 (a ∷ past)) refl t) in
    let before : is_opened (state_of r 0 past) ≡ true = ap is_opened (sym e) ∙ t in
    ap (last_said (got_says flow_says)) on ∙ (ap (λ (w : Option Bool). unwrap_or w (last_said (got_says flow_says) (since r 0 past))) m ∙ h before)

-- so it is of a frame sent that leaves 0 as it is
pub all_sent : (r : Role) (past : List Act) (f : Frame) (b : Bool) → AllStopped r past b → state_of r 0 (Sent f ∷ past) ≡ state_of r 0 past → AllStopped r (Sent f ∷ past) b
all_sent r past f b h e = all_untouched r past (Sent f) b h e (opens_sent r 0 past f) refl

-- of each call
pub all_called : (r : Role) (past : List Act) (x : Call) (b : Bool) → AllStopped r past b → AllStopped r (Called x ∷ past) b
all_called r past x b h = all_untouched r past (Called x) b h (state_called r 0 past x) (opens_called r 0 past x) refl

-- and of a frame given on
pub all_given : (r : Role) (past : List Act) (b : Bool) → AllStopped r past b → AllStopped r (Given ∷ past) b
all_given r past b h = all_untouched r past Given b h (state_given r 0 past) (opens_given r 0 past) refl

-- ## The probe

-- a probe waits while 0 is Opened
abbrev kept_if : Bool → Option Waiting → Option Waiting
kept_if b None = None
kept_if b (Some w) = if b then Some w else None

kept_off : (o : Option Waiting) → kept_if false o ≡ None
kept_off None = refl
kept_off (Some w) = refl

kept_on : (o : Option Waiting) → kept_if true o ≡ o
kept_on None = refl
kept_on (Some w) = refl

after_sent : (s : StationSetting) (z : Bool) (o : Option Waiting) (f : Frame) → probe_after s z o (Sent f) ≡ kept_if z o
after_sent s z None f = refl
after_sent s z (Some w) f = refl

after_given : (s : StationSetting) (z : Bool) (o : Option Waiting) → probe_after s z o Given ≡ kept_if z o
after_given s z None = refl
after_given s z (Some w) = refl

after_lost : (s : StationSetting) (z : Bool) (o : Option Waiting) → probe_after s z o Lost ≡ kept_if z o
after_lost s z None = refl
after_lost s z (Some w) = refl

after_called : (s : StationSetting) (z : Bool) (o : Option Waiting) (x : Call) → probe_after s z o (Called x) ≡ kept_if z o
after_called s z None x = refl
after_called s z (Some w) x = refl

got_off : (s : StationSetting) (o : Option Waiting) (f : Frame) → probe_after s false o (Got f) ≡ None
got_off s None f = refl
got_off s (Some w) f = refl

-- the call is a probe; none begins by another call, nor by a refused one
abbrev pub is_probe : Call → Bool
is_probe (Probe octets) = true
is_probe _ = false

-- so what waits stays by a call that is no probe, be it refused or not
pub begun_other : (refusal : Option StationError) (x : Call) (o : Option Waiting) → is_probe x ≡ false → probe_begun refusal (Called x) o ≡ o
begun_other (Some e) x o h = refl
begun_other None (Open d) o h = refl
begun_other None (Close d) o h = refl
begun_other None (Probe octets) o h = absurd (let g : true ≡ false = h in cc)
begun_other None Stop o h = refl
begun_other None (Flow d go) o h = refl
begun_other None (Offer d octets) o h = refl

at_zero : (r : Role) (past : List Act) (a : Act) → state_of r 0 (a ∷ past) ≡ own_after r 0 true (state_of r 0 past) a
at_zero r past a = state_next r 0 past a

opened_tick : (z : State) → is_opened (at_tick z) ≡ false → is_opened z ≡ false
opened_tick IsShut h = refl
opened_tick (IsOpening n) h = refl
opened_tick IsOpened h = h
opened_tick (IsClosing n) h = refl
opened_tick (IsStopping n) h = refl

tick_none : (s : StationSetting) (z : Bool) (o : Option Waiting) → o ≡ None → probe_after s z o Tick ≡ None
tick_none s z None h = refl
tick_none s z (Some w) h = absurd (let e : Some w ≡ None = h in cc)

-- a probe is taken only where 0 is Opened
probe_taken : (long z busy : Bool) (rest : Option StationError) → or_else (if long then Some TooLong else if not z then Some NotOpen else if busy then Some Busy else None) rest ≡ None → z ≡ true
probe_taken true z busy rest h = absurd (let e : Some TooLong ≡ None = h in cc)
probe_taken false true busy rest h = refl
probe_taken false false busy rest h = absurd (let e : Some NotOpen ≡ None = h in cc)

-- 0 doesn't stay where it isn't Opened afterwards; and where the act opens nothing, it stays if it is
stays_off : (s : StationSetting) (past : List Act) (a : Act) → is_opened (state_of s.role 0 (a ∷ past)) ≡ false → zero_stays s past a ≡ false
stays_off s past a h = ap (λ (b : Bool). b && not (opens_now s.role 0 past a)) h

stays_if : (b : Bool) → (b && true) ≡ b
stays_if true = refl
stays_if false = refl

stays_as : (s : StationSetting) (past : List Act) (a : Act) → opens_now s.role 0 past a ≡ false → state_of s.role 0 (a ∷ past) ≡ state_of s.role 0 past → is_opened (state_of s.role 0 past) ≡ zero_stays s past a
stays_as s past a n e =
    let b = is_opened (state_of s.role 0 (a ∷ past)) in
    ap is_opened (sym e) ∙ (sym (stays_if b) ∙ ap (λ (o : Bool). b && not o) (sym n))

-- no probe waits where 0 isn't Opened
pub probe_needs : (s : StationSetting) (past : List Act) → is_opened (state_of s.role 0 past) ≡ false → probe_of s past ≡ None
probe_needs s [] h = refl
probe_needs s (Got f ∷ past) h = ap (λ (z : Bool). probe_after s z (probe_of s past) (Got f)) (stays_off s past (Got f) h) ∙ got_off s (probe_of s past) f
probe_needs s (Sent f ∷ past) h = after_sent s (zero_stays s past (Sent f)) (probe_of s past) f ∙ (ap (λ (z : Bool). kept_if z (probe_of s past)) (stays_off s past (Sent f) h) ∙ kept_off (probe_of s past))
probe_needs s (Given ∷ past) h = after_given s (zero_stays s past Given) (probe_of s past) ∙ (ap (λ (z : Bool). kept_if z (probe_of s past)) (stays_off s past Given h) ∙ kept_off (probe_of s past))
probe_needs s (Lost ∷ past) h = after_lost s (zero_stays s past Lost) (probe_of s past) ∙ (ap (λ (z : Bool). kept_if z (probe_of s past)) (stays_off s past Lost h) ∙ kept_off (probe_of s past))
probe_needs s (Tick ∷ past) h =
    let before : is_opened (state_of s.role 0 past) ≡ false = opened_tick (state_of s.role 0 past) (ap is_opened (sym (at_zero s.role past Tick)) ∙ h) in
    tick_none s (zero_stays s past Tick) (probe_of s past) (probe_needs s past before)
probe_needs s (Called x ∷ past) h = by_call x h
  where
    off : (x : Call) → is_opened (state_of s.role 0 (Called x ∷ past)) ≡ false → probe_after s (zero_stays s past (Called x)) (probe_of s past) (Called x) ≡ None
    off x h = after_called s (zero_stays s past (Called x)) (probe_of s past) x ∙ (ap (λ (z : Bool). kept_if z (probe_of s past)) (stays_off s past (Called x) h) ∙ kept_off (probe_of s past))

    other : (x : Call) → is_probe x ≡ false → is_opened (state_of s.role 0 (Called x ∷ past)) ≡ false → probe_of s (Called x ∷ past) ≡ None
    other x n h = begun_other (refused s (station_view s past) x) x (probe_after s (zero_stays s past (Called x)) (probe_of s past) (Called x)) n ∙ off x h

    probes : (octets : List ℕ) (refusal : Option StationError) → refused s (station_view s past) (Probe octets) ≡ refusal → is_opened (state_of s.role 0 (Called (Probe octets) ∷ past)) ≡ false
        → probe_begun refusal (Called (Probe octets)) (probe_after s (zero_stays s past (Called (Probe octets))) (probe_of s past) (Called (Probe octets))) ≡ None
    probes octets (Some e) k h = off (Probe octets) h
    probes octets None k h =
        let z : is_opened (state_of s.role 0 past) ≡ true = probe_taken (not (nat_le (length octets) 16)) (is_opened (state_of s.role 0 past)) (is_some (probe_of s past)) (if_no_room s (station_view s past) (Probe octets)) k in
        let now : is_opened (state_of s.role 0 (Called (Probe octets) ∷ past)) ≡ true = ap is_opened (state_called s.role 0 past (Probe octets)) ∙ z in
        absurd (let e : false ≡ true = sym h ∙ now in cc)

    by_call : (x : Call) → is_opened (state_of s.role 0 (Called x ∷ past)) ≡ false → probe_of s (Called x ∷ past) ≡ None
    by_call (Open d) h = other (Open d) refl h
    by_call (Close d) h = other (Close d) refl h
    by_call (Probe octets) h = probes octets (refused s (station_view s past) (Probe octets)) refl h
    by_call Stop h = other Stop refl h
    by_call (Flow d go) h = other (Flow d go) refl h
    by_call (Offer d octets) h = other (Offer d octets) refl h

kept_same : (s : StationSetting) (past : List Act) (b : Bool) → is_opened (state_of s.role 0 past) ≡ b → kept_if b (probe_of s past) ≡ probe_of s past
kept_same s past true h = kept_on (probe_of s past)
kept_same s past false h = kept_off (probe_of s past) ∙ sym (probe_needs s past h)

-- what leaves 0 as it is leaves the probe as it is
pub probe_sent : (s : StationSetting) (past : List Act) (f : Frame) → state_of s.role 0 (Sent f ∷ past) ≡ state_of s.role 0 past → probe_of s (Sent f ∷ past) ≡ probe_of s past
probe_sent s past f e =
    after_sent s (zero_stays s past (Sent f)) (probe_of s past) f ∙ kept_same s past (zero_stays s past (Sent f)) (stays_as s past (Sent f) (opens_sent s.role 0 past f) e)

-- a frame given on leaves the probe as it is
pub probe_given : (s : StationSetting) (past : List Act) → probe_of s (Given ∷ past) ≡ probe_of s past
probe_given s past =
    after_given s (zero_stays s past Given) (probe_of s past) ∙ kept_same s past (zero_stays s past Given) (stays_as s past Given (opens_given s.role 0 past) (state_given s.role 0 past))

-- and so does a call that is no probe
pub probe_called : (s : StationSetting) (past : List Act) (x : Call) → is_probe x ≡ false → probe_of s (Called x ∷ past) ≡ probe_of s past
probe_called s past x n =
    begun_other (refused s (station_view s past) x) x (probe_after s (zero_stays s past (Called x)) (probe_of s past) (Called x)) n
    ∙ (after_called s (zero_stays s past (Called x)) (probe_of s past) x ∙ kept_same s past (zero_stays s past (Called x)) (stays_as s past (Called x) (opens_called s.role 0 past x) (state_called s.role 0 past x)))

-- nothing waits before, nothing waits after
pub probe_none : (s : StationSetting) (past : List Act) (f : Frame) → probe_of s past ≡ None → probe_of s (Sent f ∷ past) ≡ None
probe_none s past f h = ap (λ (o : Option Waiting). probe_after s (zero_stays s past (Sent f)) o (Sent f)) h

-- a probe that isn't refused waits, and no tick came since
pub probe_taken_on : (s : StationSetting) (past : List Act) (octets : List ℕ) → refused s (station_view s past) (Probe octets) ≡ None → probe_of s (Called (Probe octets) ∷ past) ≡ Some (record { data_octets = octets; ticks = 0 })
probe_taken_on s past octets h =
    ap (λ (e : Option StationError). probe_begun e (Called (Probe octets)) (probe_after s (zero_stays s past (Called (Probe octets))) (probe_of s past) (Called (Probe octets)))) h
