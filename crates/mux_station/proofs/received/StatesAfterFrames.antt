-- A frame that comes: the states after it, and whether it opens its connection.
use Rattle.std.specs.Prelude.{◌≡◌, ℕ, ◌==◌, ◌&&◌, ◌||◌, not, Bool, true, false, List, [], ◌∷◌, refl, if◌then◌else◌, Option, Some, None}
use Rattle.std.proofs.Common.{◌∙◌, ap, sym, subst, eqb-true, eq-eqb}
use Rattle.mux_frame.specs.Frames.{Frame}
use Rattle.mux_frame.specs.declared.frame.Kind.{Kind}
use Rattle.mux_frame.specs.declared.frame.Kind.TheVariants.{Sabm, Ua, Dm, Disc, Uih}
use Rattle.mux_station.specs.declared.role.Role.{Role}
use Rattle.mux_station.specs.declared.role.Role.TheVariants.{Initiator, Responder}
use Rattle.mux_station.specs.Written.{is_kind, is_on}
use Rattle.mux_station.specs.Messages.{Message, message_of, command_of, octet_is, cld, brings_command, brings_response}
use Rattle.mux_station.specs.Acts.{Act, Got}
use Rattle.mux_station.specs.Opening.{is_asked, is_open, opens_now}
use Rattle.mux_station.specs.States.{State, IsShut, IsOpening, IsOpened, IsClosing, IsStopping, is_opened, at_close_down, got_by, own_after, state_of}
use Rattle.mux_station.specs.Tables.{is_opening, response_to, by_message, by_table}
use Rattle.mux_station.specs.Sending.{without_room, got_refused}
use Rattle.mux_station.specs.Stations.{Channel, Station, channel_at, setting_of, seen_in}
use Rattle.mux_station.specs.Fitting.{ChannelFits}
use Rattle.mux_station.specs.Getting.{opens_by, message_calls}
use Rattle.mux_station.proofs.states.OpeningSteps.{opening_asked}
use Rattle.mux_station.proofs.states.StatesAfterActs.{state_next}

-- ## What a message calls for

calls_by : (r : Role) (o : Option Message) → message_calls r IsOpened o ≡ response_to r o
calls_by r None = refl
calls_by r (Some m) = refl

stopping_by : (r : Role) (n : ℕ) (o : Option Message) → message_calls r (IsStopping n) o ≡ (if octet_is (λ x. x) cld o then response_to r o else [])
stopping_by r n None = refl
stopping_by r n (Some m) = refl

-- what a message calls for is what its frame does
pub called_by : (r : Role) (z : State) (f : Frame) → is_on Uih 0 f ≡ true → message_calls r z (message_of f.info) ≡ by_message r z f
called_by r IsShut f h = refl
called_by r (IsOpening n) f h = refl
called_by r (IsClosing n) f h = refl
called_by r IsOpened f h = calls_by r (message_of f.info) ∙ ap (λ (b : Bool). response_to r (if b then message_of f.info else None)) (sym h)
called_by r (IsStopping n) f h =
    stopping_by r n (message_of f.info)
    ∙ ap (λ (b : Bool). if b && octet_is (λ x. x) cld (message_of f.info) then response_to r (if b then message_of f.info else None) else []) (sym h)

-- and it lacks room just where its frame is refused
pub refused_by : (v : Station) (f : Frame) → is_on Uih 0 f ≡ true → without_room (setting_of v) (seen_in v) (message_calls v.role (channel_at v 0).state (message_of f.info)) ≡ got_refused (setting_of v) (seen_in v) f
refused_by v f h =
    let table = by_table v.role f.dlci (channel_at v 0).state (channel_at v f.dlci).state f.kind in
    ap (λ (fs : List Frame). without_room (setting_of v) (seen_in v) fs)
    (called_by v.role (channel_at v 0).state f h ∙ ap (λ (b : Bool). if b then by_message v.role (channel_at v 0).state f else table) (sym h))

-- ## States

-- the frame ends 0, where on says whether it is on 0, c whether it brings a close-down, and z whether 0 is Opened
abbrev pub ends_zero : Kind → Bool → Bool → Bool → Bool
ends_zero k on c z = (is_kind k Disc && on) || ((is_kind k Dm && on) || ((is_kind k Sabm && on) || (z && c)))

and_off : (b : Bool) → (b && false) ≡ false
and_off true = refl
and_off false = refl

ends_none : (k : Kind) (z : Bool) → ends_zero k false false z ≡ false
ends_none Sabm z = and_off z
ends_none Ua z = and_off z
ends_none Dm z = and_off z
ends_none Disc z = and_off z
ends_none Uih z = and_off z

elsewhere : (k : Kind) (d : ℕ) (f : Frame) → (f.dlci == d) ≡ false → is_on k d f ≡ false
elsewhere k d f h = ap (λ (b : Bool). is_kind f.kind k && b) h ∙ and_off (is_kind f.kind k)

-- what is no UIH on 0 brings no command
pub no_command : (f : Frame) (octet : ℕ) → is_on Uih 0 f ≡ false → brings_command octet f ≡ false
no_command f octet h = ap (λ (b : Bool). b && octet_is (λ x. x) octet (message_of f.info)) h

no_response : (f : Frame) (octet : ℕ) → is_on Uih 0 f ≡ false → brings_response octet f ≡ false
no_response f octet h = ap (λ (b : Bool). b && octet_is command_of octet (message_of f.info)) h

-- without a close-down or its response each state stays
pub stays_up : (s : State) → at_close_down false false s ≡ s
stays_up IsShut = refl
stays_up (IsOpening n) = refl
stays_up IsOpened = refl
stays_up (IsClosing n) = refl
stays_up (IsStopping n) = refl

-- 0, after a frame on it
pub state_zero : (r : Role) (past : List Act) (f : Frame) → (f.dlci == 0) ≡ true
    → state_of r 0 (Got f ∷ past) ≡ at_close_down (brings_command cld f) (brings_response cld f) (got_by r true (state_of r 0 past) f.kind)
state_zero r past f h =
    let z = state_of r 0 past in
    state_next r 0 past (Got f) ∙ ap (λ (b : Bool). if b then at_close_down (brings_command cld f) (brings_response cld f) (got_by r true z f.kind) else z) h

-- a frame on another connection leaves 0 as it is
zero_stays : (r : Role) (past : List Act) (f : Frame) → (f.dlci == 0) ≡ false → state_of r 0 (Got f ∷ past) ≡ state_of r 0 past
zero_stays r past f h =
    let z = state_of r 0 past in
    state_next r 0 past (Got f) ∙ ap (λ (b : Bool). if b then at_close_down (brings_command cld f) (brings_response cld f) (got_by r true z f.kind) else z) h

-- a connection but 0, where the frame ends 0 or doesn't
pub state_lane : (r : Role) (e : ℕ) (past : List Act) (f : Frame) → (e == 0) ≡ false
    → state_of r e (Got f ∷ past) ≡ (if ends_zero f.kind (f.dlci == 0) (brings_command cld f) (is_opened (state_of r 0 past)) then IsShut else (if f.dlci == e then got_by r (is_opened (state_of r 0 past)) (state_of r e past) f.kind else state_of r e past))
state_lane r e past f h =
    let z = state_of r 0 past in
    let s = state_of r e past in
    let ended = ends_zero f.kind (f.dlci == 0) (brings_command cld f) (is_opened z) in
    let next : State = got_by r (is_opened z) s f.kind in
    state_next r e past (Got f)
    ∙ (ap (λ (b : Bool). if b then own_after r 0 true z (Got f) else (if ended then IsShut else (if f.dlci == e then (if b then at_close_down (brings_command cld f) (brings_response cld f) (got_by r true s f.kind) else next) else s))) h)

-- the connection of a frame that is no message
own_at : (r : Role) (past : List Act) (f : Frame) (b : Bool) → (f.dlci == 0) ≡ b → is_on Uih 0 f ≡ false → state_of r f.dlci (Got f ∷ past) ≡ got_by r (b || is_opened (state_of r 0 past)) (state_of r f.dlci past) f.kind
own_at r past f true e h =
    let zero : f.dlci ≡ 0 = eqb-true f.dlci 0 e in
    let here : state_of r 0 (Got f ∷ past) ≡ got_by r true (state_of r 0 past) f.kind
    = state_zero r past f e
    ∙ (ap (λ (b : Bool). at_close_down b (brings_response cld f) (got_by r true (state_of r 0 past) f.kind)) (no_command f cld h)
    ∙ (ap (λ (b : Bool). at_close_down false b (got_by r true (state_of r 0 past) f.kind)) (no_response f cld h)
    ∙ stays_up (got_by r true (state_of r 0 past) f.kind))) in
    subst (λ (m : ℕ). state_of r m (Got f ∷ past) ≡ got_by r true (state_of r m past) f.kind) (sym zero) here
own_at r past f false e h =
    let z = is_opened (state_of r 0 past) in
    let s = state_of r f.dlci past in
    let none : ends_zero f.kind (f.dlci == 0) (brings_command cld f) z ≡ false
    = ap (λ (b : Bool). ends_zero f.kind b (brings_command cld f) z) e ∙ (ap (λ (b : Bool). ends_zero f.kind false b z) (no_command f cld h) ∙ ends_none f.kind z) in
    state_lane r f.dlci past f e
    ∙ (ap (λ (b : Bool). if b then IsShut else (if f.dlci == f.dlci then got_by r z s f.kind else s)) none
    ∙ ap (λ (b : Bool). if b then got_by r z s f.kind else s) (eq-eqb f.dlci f.dlci refl))

-- a frame that is no message brings its connection to the state that the table of the role says
pub state_own : (r : Role) (past : List Act) (f : Frame) → is_on Uih 0 f ≡ false → state_of r f.dlci (Got f ∷ past) ≡ got_by r ((f.dlci == 0) || is_opened (state_of r 0 past)) (state_of r f.dlci past) f.kind
state_own r past f h = own_at r past f (f.dlci == 0) refl h

-- a frame that isn't on 0 leaves every other connection as it is
other_at : (r : Role) (e : ℕ) (past : List Act) (f : Frame) (b : Bool) → (e == 0) ≡ b → (f.dlci == 0) ≡ false → (f.dlci == e) ≡ false → state_of r e (Got f ∷ past) ≡ state_of r e past
other_at r e past f true z o k = subst (λ (m : ℕ). state_of r m (Got f ∷ past) ≡ state_of r m past) (sym (eqb-true e 0 z)) (zero_stays r past f o)
other_at r e past f false z o k =
    let up = is_opened (state_of r 0 past) in
    let s = state_of r e past in
    let none : ends_zero f.kind (f.dlci == 0) (brings_command cld f) up ≡ false
    = ap (λ (b : Bool). ends_zero f.kind b (brings_command cld f) up) o ∙ (ap (λ (b : Bool). ends_zero f.kind false b up) (no_command f cld (elsewhere Uih 0 f o)) ∙ ends_none f.kind up) in
    state_lane r e past f z
    ∙ (ap (λ (b : Bool). if b then IsShut else (if f.dlci == e then got_by r up s f.kind else s)) none
    ∙ ap (λ (b : Bool). if b then got_by r up s f.kind else s) k)

-- such a frame leaves the state of every connection but its own, that of 0 too
pub state_other : (r : Role) (e : ℕ) (past : List Act) (f : Frame) → (f.dlci == 0) ≡ false → (f.dlci == e) ≡ false → state_of r e (Got f ∷ past) ≡ state_of r e past
state_other r e past f o k = other_at r e past f (e == 0) refl o k

-- another connection than 0, after a frame on 0
pub state_beside_zero : (r : Role) (e : ℕ) (past : List Act) (f : Frame) → (e == 0) ≡ false → (f.dlci == 0) ≡ true → (f.dlci == e) ≡ false
    → state_of r e (Got f ∷ past) ≡ (if ends_zero f.kind true (brings_command cld f) (is_opened (state_of r 0 past)) then IsShut else state_of r e past)
state_beside_zero r e past f z o k =
    let up = is_opened (state_of r 0 past) in
    let s = state_of r e past in
    state_lane r e past f z
    ∙ (ap (λ (b : Bool). if ends_zero f.kind b (brings_command cld f) up then IsShut else (if f.dlci == e then got_by r up s f.kind else s)) o
    ∙ ap (λ (b : Bool). if ends_zero f.kind true (brings_command cld f) up then IsShut else (if b then got_by r up s f.kind else s)) k)

-- ## Openings

-- the frame opens no other connection than its own
pub opens_elsewhere : (r : Role) (e : ℕ) (past : List Act) (f : Frame) → (f.dlci == e) ≡ false → opens_now r e past (Got f) ≡ false
opens_elsewhere Initiator e past f k = ap (λ (b : Bool). b && is_asked Initiator e past) (elsewhere Ua e f k)
opens_elsewhere Responder e past f k = ap (λ (b : Bool). b && ((e == 0) || is_open Responder 0 past)) (elsewhere Sabm e f k)

opening_not_opened : (s : State) → is_opened s ≡ true → is_opening s ≡ false
opening_not_opened IsShut h = cc
opening_not_opened (IsOpening n) h = cc
opening_not_opened IsOpened h = refl
opening_not_opened (IsClosing n) h = cc
opening_not_opened (IsStopping n) h = cc

and_on : (b : Bool) → (b && true) ≡ b
and_on true = refl
and_on false = refl

asked_opening : (d : ℕ) (past : List Act) (c : Channel) (b : Bool) → is_opened c.state ≡ b → ChannelFits Initiator d past c → is_asked Initiator d past ≡ is_opening c.state
asked_opening d past c true o h = h.unasked o ∙ sym (opening_not_opened c.state o)
asked_opening d past c false o h =
    let t = is_asked Initiator d past in
    let shut : is_open Initiator d past ≡ false = ap is_opened h.state_is ∙ o in
    sym (and_on t) ∙ (ap (λ (b : Bool). t && not b) (sym shut) ∙ (sym (opening_asked d past) ∙ ap is_opening h.state_is))

on_own : (k : Kind) (f : Frame) → is_on k f.dlci f ≡ is_kind f.kind k
on_own k f = ap (λ (b : Bool). is_kind f.kind k && b) (eq-eqb f.dlci f.dlci refl) ∙ and_on (is_kind f.kind k)

-- whether it opens its own
pub opens_own : (r : Role) (past : List Act) (f : Frame) (c : Channel) → ChannelFits r f.dlci past c → opens_now r f.dlci past (Got f) ≡ opens_by r ((f.dlci == 0) || is_opened (state_of r 0 past)) c.state f.kind
opens_own Initiator past f c h =
    ap (λ (b : Bool). b && is_asked Initiator f.dlci past) (on_own Ua f)
    ∙ ap (λ (b : Bool). is_kind f.kind Ua && b) (asked_opening f.dlci past c (is_opened c.state) refl h)
opens_own Responder past f c h =
    ap (λ (b : Bool). b && ((f.dlci == 0) || is_open Responder 0 past)) (on_own Sabm f)
