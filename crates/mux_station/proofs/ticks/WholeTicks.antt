-- A tick leads from each past that the station fits to one that it fits.
use Rattle.std.specs.Prelude.{zero, suc, ◌≡◌, ◌≢◌, ℕ, ◌+◌, ◌<◌, ◌≤◌, ◌==◌, ◌&&◌, Bool, true, false, List, [], ◌∷◌, ◌++◌, length, refl, if◌then◌else◌, Option, Some, None, slice_index_or, slice_set}
use Rattle.std.specs.List.{list_any}
use Rattle.std.proofs.Common.{◌∙◌, ap, sym, subst, eqb-true, get_or-set_same, get_or-set_other, length-set, eq-eqb, arith}
use Rattle.std.proofs.lemmas.Bool.{eqb-false, ne_eqb}
use Rattle.mux_frame.specs.Frames.{Frame}
use Rattle.mux_frame.specs.declared.frame.Kind.{Kind}
use Rattle.mux_frame.specs.declared.frame.Kind.TheVariants.{Sabm, Disc}
use Rattle.mux_station.specs.declared.role.Role.{Role}
use Rattle.mux_station.specs.declared.role.Role.TheVariants.{Initiator, Responder}
use Rattle.mux_station.specs.Written.{is_kind, is_on, written, is_data_frame}
use Rattle.mux_station.specs.Messages.{cld, brings_command}
use Rattle.mux_station.specs.Acts.{Act, Sent, Tick}
use Rattle.mux_station.specs.Opening.{opens_now}
use Rattle.mux_station.specs.States.{ends_itself}
use Rattle.mux_station.specs.States.{State, IsShut, IsOpening, IsOpened, IsClosing, IsStopping, is_opened, at_sent, at_tick, own_after, state_of}
use Rattle.mux_station.specs.Tables.{again, if_room, has_room, octets_of, ticked}
use Rattle.mux_station.specs.Sending.{StationSetting, Waiting, station_view, is_loss, queue, probe_of, probe_after, zero_stays, called_frames, frames_seeing, sent_after}
use Rattle.mux_station.specs.Offering.{last_sender}
use Rattle.mux_station.specs.Stations.{Channel, Station, shut_channel, channel_at, setting_of, asked_in}
use Rattle.mux_station.specs.Fitting.{ChannelFits, StationFits, StationHandles}
use Rattle.mux_station.specs.Ticking.{turned_in, asked_if, ticked_by, ticked_one, ticked_all, ticked_probe, ticked_in}
use Rattle.mux_station.proofs.queues.ControlQueues.{octets_more}
use Rattle.mux_station.proofs.ticks.ConnectionTurns.{setting_all}
use Rattle.mux_station.proofs.states.StatesAfterActs.{state_next, shut_now, untouched}
use Rattle.mux_station.proofs.user_calls.CallFrames.{own_sent, state_sent, fits_sent, AllStopped, all_untouched, all_sent, probe_sent, probe_none, probe_needs}
use Rattle.mux_station.proofs.user_calls.OpenAndClose.{stop_in_past, seen_queued}

abbrev fresh : State → Channel
fresh t = record { state = t; is_stopped = false; waiting = [] }

-- a connection between the tick and its own turn
abbrev before_turn : Channel → Channel
before_turn c = record c { state = at_tick c.state }

-- ## The tick itself

at_zero_tick : (r : Role) (d : ℕ) (past : List Act) (b : Bool) → (d == 0) ≡ b → state_of r d (Tick ∷ past) ≡ at_tick (state_of r d past)
at_zero_tick r d past true e = subst (λ (m : ℕ). state_of r m (Tick ∷ past) ≡ at_tick (state_of r m past)) (sym (eqb-true d 0 e)) (state_next r 0 past Tick)
at_zero_tick r d past false e = state_next r d past Tick ∙ ap (λ (b : Bool). if b then at_tick (state_of r 0 past) else at_tick (state_of r d past)) e

state_tick : (r : Role) (d : ℕ) (past : List Act) → state_of r d (Tick ∷ past) ≡ at_tick (state_of r d past)
state_tick r d past = at_zero_tick r d past (d == 0) refl

opens_tick : (r : Role) (d : ℕ) (past : List Act) → opens_now r d past Tick ≡ false
opens_tick Initiator d past = refl
opens_tick Responder d past = refl

tick_opened : (s : State) → is_opened s ≡ true → at_tick s ≡ s
tick_opened IsShut h = cc
tick_opened (IsOpening n) h = cc
tick_opened IsOpened h = refl
tick_opened (IsClosing n) h = cc
tick_opened (IsStopping n) h = cc

by_three : (b : Bool) (s t : State) → is_opened s ≡ false → is_opened t ≡ false → is_opened (if b then s else t) ≡ false
by_three true s t h k = h
by_three false s t h k = k

tick_not_opened : (s : State) → is_opened s ≡ false → is_opened (at_tick s) ≡ false
tick_not_opened IsShut h = refl
tick_not_opened (IsOpening n) h = refl
tick_not_opened IsOpened h = h
tick_not_opened (IsClosing n) h = by_three (n == 3) IsShut (IsClosing n) refl refl
tick_not_opened (IsStopping n) h = by_three (n == 3) IsShut (IsStopping (n + 1)) refl refl

fits_tick : (r : Role) (d : ℕ) (past : List Act) (c : Channel) → ChannelFits r d past c → ChannelFits r d (Tick ∷ past) (before_turn c)
fits_tick r d past c h = by_state (is_opened c.state) refl
  where
    now : state_of r d (Tick ∷ past) ≡ at_tick c.state
    now = state_tick r d past ∙ ap at_tick h.state_is

    by_state : (b : Bool) → is_opened c.state ≡ b → ChannelFits r d (Tick ∷ past) (before_turn c)
    by_state false o = shut_now r d (Tick ∷ past) (before_turn c) now (tick_not_opened c.state o)
    by_state true o =
        let same : at_tick c.state ≡ c.state = tick_opened c.state o in
        subst (λ (s : State). ChannelFits r d (Tick ∷ past) (record c { state = s })) (sym same)
        (untouched r d past Tick c h (now ∙ same) (opens_tick r d past) refl refl refl refl)

tick_probe : (s : StationSetting) (z : Bool) (o : Option Waiting) → probe_after s z o Tick ≡ ticked_probe o
tick_probe s z None = refl
tick_probe s z (Some w) = refl

-- ## In the middle of a tick

-- the connections before d had their turn, and the others wait for it
record Mid (s : StationSetting) (probe : Option Waiting) (d : ℕ) (w : Station) (p : List Act) : Type 0 where
  role_is : w.role ≡ s.role
  n1_is : w.n1 ≡ s.n1
  all : length w.channels ≡ 62
  live : list_any is_loss p ≡ false
  queue_is : queue p ≡ w.queue
  last_is : last_sender p ≡ w.last
  done : (e : ℕ) → e < 62 → e < d → ChannelFits s.role e p (channel_at w e)
  to_come : (e : ℕ) → e < 62 → d ≤ e → ChannelFits s.role e p (before_turn (channel_at w e))
  shut : is_opened (channel_at w 0).state ≡ false → (e : ℕ) → e < 62 → (e == 0) ≡ false → (channel_at w e).state ≡ IsShut
  stop_of_all_is : AllStopped s.role p w.all_stopped
  probe_is : probe_of s p ≡ probe

mid_first : (v : Station) (past : List Act) → length v.channels ≡ 62 → StationFits v past → Mid (setting_of v) (ticked_probe v.probe) 0 v (Tick ∷ past)
mid_first v past n h = record {
  role_is = refl;
  n1_is = refl;
  all = n;
  live = h.live;
  queue_is = h.queue_is;
  last_is = h.last_is;
  done = λ e l k. absurd (omega (arith, k));
  to_come = λ e l k. fits_tick v.role e past (channel_at v e) (h.channels_are e l);
  shut = h.others_shut;
  stop_of_all_is = λ o. by_zero (is_opened (state_of v.role 0 past)) refl o;
  probe_is = tick_probe (setting_of v) (zero_stays (setting_of v) past Tick) (probe_of (setting_of v) past) ∙ ap ticked_probe h.probe_is;
}
  where
    by_zero : (b : Bool) → is_opened (state_of v.role 0 past) ≡ b → AllStopped v.role (Tick ∷ past) v.all_stopped
    by_zero true o t = all_untouched v.role past Tick v.all_stopped (stop_in_past v past h) (state_tick v.role 0 past ∙ tick_opened (state_of v.role 0 past) o) (opens_tick v.role 0 past) refl t
    by_zero false o t =
        let off : is_opened (state_of v.role 0 (Tick ∷ past)) ≡ false = ap is_opened (state_tick v.role 0 past) ∙ tick_not_opened (state_of v.role 0 past) o in
        absurd (let g : false ≡ true = sym off ∙ t in cc)

-- ## A turn in which nothing is sent

at_place : (e d : ℕ) → e < d + 1 → (e == d) ≡ false → e < d
at_place e d l k = omega (arith, l, λ (g : e ≡ d). eqb-false e d k g)

-- the connection's turn leaves it as it is
mid_stays : (s : StationSetting) (probe : Option Waiting) (d : ℕ) (w : Station) (p : List Act) → Mid s probe d w p → at_tick (channel_at w d).state ≡ (channel_at w d).state → Mid s probe (d + 1) w p
mid_stays s probe d w p m same = record {
  role_is = m.role_is;
  n1_is = m.n1_is;
  all = m.all;
  live = m.live;
  queue_is = m.queue_is;
  last_is = m.last_is;
  done = λ e l k. by_place e l k (e == d) refl;
  to_come = λ e l k. m.to_come e l (omega (arith, k));
  shut = m.shut;
  stop_of_all_is = m.stop_of_all_is;
  probe_is = m.probe_is;
}
  where
    by_place : (e : ℕ) → e < 62 → e < d + 1 → (b : Bool) → (e == d) ≡ b → ChannelFits s.role e p (channel_at w e)
    by_place e l k false g = m.done e l (at_place e d k g)
    by_place e l k true g =
        let here : e ≡ d = eqb-true e d g in
        let there : ChannelFits s.role e p (before_turn (channel_at w e)) = m.to_come e l (omega (arith, here)) in
        let same_here : at_tick (channel_at w e).state ≡ (channel_at w e).state = subst (λ (n : ℕ). at_tick (channel_at w n).state ≡ (channel_at w n).state) (sym here) same in
        subst (λ (t : State). ChannelFits s.role e p (record (channel_at w e) { state = t })) same_here there

-- how a connection stands after another one, or it, was turned
turned_here : (w : Station) (d : ℕ) (t : State) → length w.channels ≡ 62 → d < 62 → slice_index_or (slice_set w.channels d (fresh t)) d shut_channel ≡ fresh t
turned_here w d t n l = get_or-set_same w.channels d (fresh t) shut_channel (subst (λ (m : ℕ). d < m) (sym n) l)

turned_there : (w : Station) (d e : ℕ) (t : State) → (e == d) ≡ false → slice_index_or (slice_set w.channels d (fresh t)) e shut_channel ≡ channel_at w e
turned_there w d e t k = get_or-set_other w.channels d e (fresh t) shut_channel (λ (g : e ≡ d). eqb-false e d k g)

-- where 0 isn't Opened after the turn, all others are Shut
turned_shut : (w : Station) (d : ℕ) (t : State) → length w.channels ≡ 62 → d < 62 → is_opened (channel_at w d).state ≡ false → ((channel_at w d).state ≡ IsShut → t ≡ IsShut)
    → (is_opened (channel_at w 0).state ≡ false → (e : ℕ) → e < 62 → (e == 0) ≡ false → (channel_at w e).state ≡ IsShut)
    → is_opened (slice_index_or (slice_set w.channels d (fresh t)) 0 shut_channel).state ≡ false → (e : ℕ) → e < 62 → (e == 0) ≡ false → (slice_index_or (slice_set w.channels d (fresh t)) e shut_channel).state ≡ IsShut
turned_shut w d t n l s0 keeps shut o e k z = by_place (e == d) refl
  where
    off : (b : Bool) → (0 == d) ≡ b → is_opened (channel_at w 0).state ≡ false
    off true g = let here : 0 ≡ d = eqb-true 0 d g in subst (λ (m : ℕ). is_opened (channel_at w m).state ≡ false) (sym here) s0
    off false g = ap (λ (c : Channel). is_opened c.state) (sym (turned_there w d 0 t g)) ∙ o

    by_place : (b : Bool) → (e == d) ≡ b → (slice_index_or (slice_set w.channels d (fresh t)) e shut_channel).state ≡ IsShut
    by_place false g = ap (λ (c : Channel). c.state) (turned_there w d e t g) ∙ shut (off (0 == d) refl) e k z
    by_place true g =
        let here : e ≡ d = eqb-true e d g in
        let was : (channel_at w d).state ≡ IsShut = subst (λ (m : ℕ). (channel_at w m).state ≡ IsShut) here (shut (off (0 == d) refl) e k z) in
        subst (λ (m : ℕ). (slice_index_or (slice_set w.channels d (fresh t)) m shut_channel).state ≡ IsShut) (sym here) (ap (λ (c : Channel). c.state) (turned_here w d t n l) ∙ keeps was)

-- the connection is turned to what the tick made of it
mid_turns : (s : StationSetting) (probe : Option Waiting) (d : ℕ) (w : Station) (p : List Act) (t : State) → Mid s probe d w p → d < 62 → is_opened (channel_at w d).state ≡ false → at_tick (channel_at w d).state ≡ t → Mid s probe (d + 1) (turned_in w d t) p
mid_turns s probe d w p t m l o same = record {
  role_is = m.role_is;
  n1_is = m.n1_is;
  all = length-set w.channels d (fresh t) ∙ m.all;
  live = m.live;
  queue_is = m.queue_is;
  last_is = m.last_is;
  done = λ e k g. by_place e k g (e == d) refl;
  to_come = λ e k g. subst (λ (c : Channel). ChannelFits s.role e p (before_turn c)) (sym (turned_there w d e t (ne_eqb e d (λ (h : e ≡ d). omega (arith, g, h))))) (m.to_come e k (omega (arith, g)));
  shut = turned_shut w d t m.all l o (λ h. sym same ∙ ap at_tick h) m.shut;
  stop_of_all_is = m.stop_of_all_is;
  probe_is = m.probe_is;
}
  where
    by_place : (e : ℕ) → e < 62 → e < d + 1 → (b : Bool) → (e == d) ≡ b → ChannelFits s.role e p (slice_index_or (slice_set w.channels d (fresh t)) e shut_channel)
    by_place e k g false h = subst (λ (c : Channel). ChannelFits s.role e p c) (sym (turned_there w d e t h)) (m.done e k (at_place e d g h))
    by_place e k g true h =
        let here : e ≡ d = eqb-true e d h in
        let now : ChannelFits s.role d p (fresh t) = shut_now s.role d p (fresh t) ((m.to_come d l (omega arith)).state_is ∙ same) (ap is_opened (sym same) ∙ tick_not_opened (channel_at w d).state o) in
        subst (λ (n : ℕ). ChannelFits s.role n p (slice_index_or (slice_set w.channels d (fresh t)) n shut_channel)) (sym here) (subst (λ (c : Channel). ChannelFits s.role d p c) (sym (turned_here w d t m.all l)) now)

-- ## A turn in which a frame is sent

-- the state of d, and of another connection, after a SABM or DISC is sent on d
sent_here : (r : Role) (d : ℕ) (p : List Act) (g : Frame) (t : State) (b : Bool) → (d == 0) ≡ b → g.dlci ≡ d → brings_command cld g ≡ false → at_sent (state_of r d p) g.kind ≡ t → state_of r d (Sent g ∷ p) ≡ t
sent_here r d p g t true z on c h =
    let zero : d ≡ 0 = eqb-true d 0 z in
    let at : (g.dlci == 0) ≡ true = eq-eqb g.dlci 0 (on ∙ zero) in
    let now : state_of r 0 (Sent g ∷ p) ≡ at_sent (state_of r 0 p) g.kind
    = state_next r 0 p (Sent g) ∙ (own_sent r 0 true (state_of r 0 p) g c ∙ ap (λ (b : Bool). if b then at_sent (state_of r 0 p) g.kind else state_of r 0 p) at) in
    subst (λ (m : ℕ). state_of r m (Sent g ∷ p) ≡ at_sent (state_of r m p) g.kind) (sym zero) now ∙ h
sent_here r d p g t false z on c h =
    let none : is_on Disc 0 g ≡ false = disc_elsewhere g (ap (λ (m : ℕ). m == 0) on ∙ z) in
    let at : (g.dlci == d) ≡ true = eq-eqb g.dlci d on in
    state_sent r d p g c none ∙ (ap (λ (b : Bool). if b then at_sent (state_of r d p) g.kind else state_of r d p) at ∙ h)
  where
    off : (b : Bool) → (b && false) ≡ false
    off true = refl
    off false = refl

    disc_elsewhere : (g : Frame) → (g.dlci == 0) ≡ false → is_on Disc 0 g ≡ false
    disc_elsewhere g z = ap (λ (b : Bool). is_kind g.kind Disc && b) z ∙ off (is_kind g.kind Disc)

and_off : (b : Bool) → (b && false) ≡ false
and_off true = refl
and_off false = refl

elsewhere : (k : Kind) (g : Frame) (e : ℕ) → (g.dlci == e) ≡ false → is_on k e g ≡ false
elsewhere k g e z = ap (λ (b : Bool). is_kind g.kind k && b) z ∙ and_off (is_kind g.kind k)

sent_there : (r : Role) (d e : ℕ) (p : List Act) (g : Frame) → (d == 0) ≡ false → g.dlci ≡ d → (e == d) ≡ false → brings_command cld g ≡ false → state_of r e (Sent g ∷ p) ≡ state_of r e p
sent_there r d e p g z on k c =
    let apart : (g.dlci == e) ≡ false = ne_eqb g.dlci e (λ (h : g.dlci ≡ e). eqb-false e d k (sym h ∙ on)) in
    state_sent r e p g c (elsewhere Disc g 0 (ap (λ (m : ℕ). m == 0) on ∙ z)) ∙ ap (λ (b : Bool). if b then at_sent (state_of r e p) g.kind else state_of r e p) apart

-- a connection that is Shut stays so whatever is sent on 0
shut_stays : (r : Role) (e : ℕ) (p : List Act) (g : Frame) (b : Bool) → ends_itself (is_opened (state_of r 0 p)) 0 (Sent g) ≡ b → (e == 0) ≡ false → (g.dlci == e) ≡ false → brings_command cld g ≡ false → state_of r e p ≡ IsShut → state_of r e (Sent g ∷ p) ≡ IsShut
shut_stays r e p g b h z k c o =
    let own : own_after r e (is_opened (state_of r 0 p)) (state_of r e p) (Sent g) ≡ IsShut
    = own_sent r e (is_opened (state_of r 0 p)) (state_of r e p) g c ∙ (ap (λ (b : Bool). if b then at_sent (state_of r e p) g.kind else state_of r e p) k ∙ o) in
    state_next r e p (Sent g)
    ∙ (ap (λ (b : Bool). if b then own_after r 0 true (state_of r 0 p) (Sent g) else (if ends_itself (is_opened (state_of r 0 p)) 0 (Sent g) then IsShut else own_after r e (is_opened (state_of r 0 p)) (state_of r e p) (Sent g))) z
    ∙ (ap (λ (t : State). if ends_itself (is_opened (state_of r 0 p)) 0 (Sent g) then IsShut else t) own ∙ either (ends_itself (is_opened (state_of r 0 p)) 0 (Sent g))))
  where
    either : (b : Bool) → (if b then IsShut else IsShut) ≡ IsShut
    either true = refl
    either false = refl

-- a SABM or DISC on d, which turns it from s to t
record TurnFrame (d : ℕ) (w : Station) (g : Frame) (t : State) : Type 0 where
  in_range : d < 62
  on : g.dlci ≡ d
  control : is_data_frame g ≡ false
  no_close_down : brings_command cld g ≡ false
  still : at_tick (channel_at w d).state ≡ (channel_at w d).state
  turned : at_sent (channel_at w d).state g.kind ≡ t
  was : is_opened (channel_at w d).state ≡ false
  was_not_shut : (channel_at w d).state ≢ IsShut
  not_opened : is_opened t ≡ false

-- another connection, as it is before or after its turn
other_sent : (s : StationSetting) (probe : Option Waiting) (d e : ℕ) (w : Station) (p : List Act) (g : Frame) (t : State) (c : Channel) (b : Bool) → (d == 0) ≡ b → Mid s probe d w p → TurnFrame d w g t → e < 62 → (e == d) ≡ false
    → ((channel_at w e).state ≡ IsShut → c.state ≡ IsShut) → ChannelFits s.role e p c → ChannelFits s.role e (Sent g ∷ p) c
other_sent s probe d e w p g t c false z m u l k keeps h =
    fits_sent s.role e p g c h u.control (elsewhere Sabm g e (ne_eqb g.dlci e (λ (x : g.dlci ≡ e). eqb-false e d k (sym x ∙ u.on)))) (sent_there s.role d e p g z u.on k u.no_close_down)
other_sent s probe d e w p g t c true z m u l k keeps h =
    let zero : d ≡ 0 = eqb-true d 0 z in
    let off : is_opened (channel_at w 0).state ≡ false = subst (λ (n : ℕ). is_opened (channel_at w n).state ≡ false) zero u.was in
    let no_zero : (e == 0) ≡ false = subst (λ (n : ℕ). (e == n) ≡ false) zero k in
    let shut : c.state ≡ IsShut = keeps (m.shut off e l no_zero) in
    let apart : (g.dlci == e) ≡ false = ne_eqb g.dlci e (λ (x : g.dlci ≡ e). eqb-false e d k (sym x ∙ u.on)) in
    shut_now s.role e (Sent g ∷ p) c (shut_stays s.role e p g (ends_itself (is_opened (state_of s.role 0 p)) 0 (Sent g)) refl no_zero apart u.no_close_down (h.state_is ∙ shut) ∙ sym shut) (ap is_opened shut)

mid_sends : (s : StationSetting) (probe : Option Waiting) (d : ℕ) (w : Station) (p : List Act) (g : Frame) (t : State) → Mid s probe d w p → TurnFrame d w g t → Mid s probe (d + 1) (asked_in w d t g) (Sent g ∷ p)
mid_sends s probe d w p g t m u = record {
  role_is = m.role_is;
  n1_is = m.n1_is;
  all = length-set w.channels d (fresh t) ∙ m.all;
  live = m.live;
  queue_is = ap (λ (b : Bool). queue p ++ (if b then [] else g ∷ [])) u.control ∙ ap (λ (fs : List Frame). fs ++ g ∷ []) m.queue_is;
  last_is = ap (λ (b : Bool). if b then g.dlci else last_sender p) u.control ∙ m.last_is;
  done = λ e k x. by_place e k x (e == d) refl;
  to_come = λ e k x.
      let apart : (e == d) ≡ false = ne_eqb e d (λ (h : e ≡ d). omega (arith, x, h)) in
      subst (λ (c : Channel). ChannelFits s.role e (Sent g ∷ p) (before_turn c)) (sym (turned_there w d e t apart))
      (other_sent s probe d e w p g t (before_turn (channel_at w e)) (d == 0) refl m u k apart (λ h. ap at_tick h) (m.to_come e k (omega (arith, x))));
  shut = turned_shut w d t m.all u.in_range u.was (λ h. absurd (u.was_not_shut h)) m.shut;
  stop_of_all_is = λ o. all_by (d == 0) refl o;
  probe_is = probe_by (d == 0) refl;
}
  where
    now : state_of s.role d (Sent g ∷ p) ≡ t
    now = sent_here s.role d p g t (d == 0) refl u.on u.no_close_down (ap (λ (x : State). at_sent x g.kind) ((m.to_come d u.in_range (omega arith)).state_is ∙ u.still) ∙ u.turned)

    zero_there : (d == 0) ≡ false → state_of s.role 0 (Sent g ∷ p) ≡ state_of s.role 0 p
    zero_there z = sent_there s.role d 0 p g z u.on (ne_eqb 0 d (λ (h : 0 ≡ d). eqb-false d 0 z (sym h))) u.no_close_down

    by_place : (e : ℕ) → e < 62 → e < d + 1 → (b : Bool) → (e == d) ≡ b → ChannelFits s.role e (Sent g ∷ p) (slice_index_or (slice_set w.channels d (fresh t)) e shut_channel)
    by_place e k x false h =
        subst (λ (c : Channel). ChannelFits s.role e (Sent g ∷ p) c) (sym (turned_there w d e t h)) (other_sent s probe d e w p g t (channel_at w e) (d == 0) refl m u k h (λ y. y) (m.done e k (at_place e d x h)))
    by_place e k x true h =
        let here : e ≡ d = eqb-true e d h in
        subst (λ (n : ℕ). ChannelFits s.role n (Sent g ∷ p) (slice_index_or (slice_set w.channels d (fresh t)) n shut_channel)) (sym here)
        (subst (λ (c : Channel). ChannelFits s.role d (Sent g ∷ p) c) (sym (turned_here w d t m.all u.in_range)) (shut_now s.role d (Sent g ∷ p) (fresh t) now u.not_opened))

    all_by : (b : Bool) → (d == 0) ≡ b → AllStopped s.role (Sent g ∷ p) w.all_stopped
    all_by false z o = all_sent s.role p g w.all_stopped m.stop_of_all_is (zero_there z) o
    all_by true z o =
        let zero : d ≡ 0 = eqb-true d 0 z in
        let off : is_opened (state_of s.role 0 (Sent g ∷ p)) ≡ false = ap is_opened (subst (λ (n : ℕ). state_of s.role n (Sent g ∷ p) ≡ t) zero now) ∙ u.not_opened in
        absurd (let h : false ≡ true = sym off ∙ o in cc)

    probe_by : (b : Bool) → (d == 0) ≡ b → probe_of s (Sent g ∷ p) ≡ probe
    probe_by false z = probe_sent s p g (zero_there z) ∙ m.probe_is
    probe_by true z =
        let zero : d ≡ 0 = eqb-true d 0 z in
        let before : state_of s.role d p ≡ (channel_at w d).state = (m.to_come d u.in_range (omega arith)).state_is ∙ u.still in
        let off : is_opened (state_of s.role 0 p) ≡ false = subst (λ (n : ℕ). is_opened (state_of s.role n p) ≡ false) zero (ap is_opened before ∙ u.was) in
        let none : probe_of s p ≡ None = probe_needs s p off in
        probe_none s p g none ∙ (sym none ∙ m.probe_is)

-- ## The turn of each connection

record Stepped (s : StationSetting) (probe : Option Waiting) (d : ℕ) (w : Station) (p : List Act) (new : Station) (here : List Frame) : Type 0 where
  mid : Mid s probe (d + 1) new (sent_after here p)
  octets : octets_of new.queue ≡ octets_of w.queue + octets_of here
  others : (e : ℕ) → (e == d) ≡ false → channel_at new e ≡ channel_at w e

stays_step : (s : StationSetting) (probe : Option Waiting) (d : ℕ) (w : Station) (p : List Act) → Mid s probe d w p → at_tick (channel_at w d).state ≡ (channel_at w d).state → Stepped s probe d w p w []
stays_step s probe d w p m same = record { mid = mid_stays s probe d w p m same; octets = omega arith; others = λ e k. refl }

turns_step : (s : StationSetting) (probe : Option Waiting) (d : ℕ) (w : Station) (p : List Act) (t : State) → Mid s probe d w p → d < 62 → is_opened (channel_at w d).state ≡ false → at_tick (channel_at w d).state ≡ t → Stepped s probe d w p (turned_in w d t) []
turns_step s probe d w p t m l o same = record { mid = mid_turns s probe d w p t m l o same; octets = omega arith; others = λ e k. turned_there w d e t k }

one_more : (fs : List Frame) (g : Frame) → octets_of (fs ++ g ∷ []) ≡ octets_of fs + octets_of (g ∷ [])
one_more fs g = let more = octets_more fs g in omega (arith, more)

asked_step : (s : StationSetting) (probe : Option Waiting) (d : ℕ) (w : Station) (p : List Act) (g : Frame) (t : State) (b : Bool) → Mid s probe d w p → TurnFrame d w g t → Stepped s probe d w p (if b then asked_in w d t g else w) (if b then g ∷ [] else [])
asked_step s probe d w p g t false m u = stays_step s probe d w p m u.still
asked_step s probe d w p g t true m u = record { mid = mid_sends s probe d w p g t m u; octets = one_more w.queue g; others = λ e k. turned_there w d e t k }

opening_state : (n : ℕ) → IsOpening n ≢ IsShut
opening_state n h = let e : true ≡ false = ap is_it h in cc
  where
    is_it : State → Bool
    is_it (IsOpening n) = true
    is_it _ = false

closing_state : (n : ℕ) → IsClosing n ≢ IsShut
closing_state n h = let e : true ≡ false = ap is_it h in cc
  where
    is_it : State → Bool
    is_it (IsClosing n) = true
    is_it _ = false

turn_frame_of : (d : ℕ) (w : Station) (k : Kind) (st t : State) → d < 62 → (channel_at w d).state ≡ st → at_tick st ≡ st → at_sent st k ≡ t → is_opened st ≡ false → st ≢ IsShut → is_opened t ≡ false
    → is_data_frame (written w.role k d []) ≡ false → brings_command cld (written w.role k d []) ≡ false → TurnFrame d w (written w.role k d []) t
turn_frame_of d w k st t l e still turned was not_shut after control cld_none = record {
  in_range = l;
  on = refl;
  control = control;
  no_close_down = cld_none;
  still = ap at_tick e ∙ (still ∙ sym e);
  turned = ap (λ (x : State). at_sent x k) e ∙ turned;
  was = ap is_opened e ∙ was;
  was_not_shut = λ h. not_shut (sym e ∙ h);
  not_opened = after;
}

opening_step : (s : StationSetting) (probe : Option Waiting) (d : ℕ) (w : Station) (p : List Act) (n : ℕ) (b : Bool) → Mid s probe d w p → d < 62 → (channel_at w d).state ≡ IsOpening n
    → Stepped s probe d w p (if b then asked_if w d IsShut (written w.role Disc d []) else asked_if w d (IsOpening (n + 1)) (written w.role Sabm d [])) (if_room w.n1 (octets_of w.queue) (Some (written w.role (if b then Disc else Sabm) d [])))
opening_step s probe d w p n true m l e =
    let g = written w.role Disc d [] in
    asked_step s probe d w p g IsShut (has_room w.n1 (octets_of w.queue) g) m (turn_frame_of d w Disc (IsOpening n) IsShut l e refl refl refl (opening_state n) refl refl refl)
opening_step s probe d w p n false m l e =
    let g = written w.role Sabm d [] in
    asked_step s probe d w p g (IsOpening (n + 1)) (has_room w.n1 (octets_of w.queue) g) m (turn_frame_of d w Sabm (IsOpening n) (IsOpening (n + 1)) l e refl refl refl (opening_state n) refl refl refl)

closing_step : (s : StationSetting) (probe : Option Waiting) (d : ℕ) (w : Station) (p : List Act) (n : ℕ) (b : Bool) → (n == 3) ≡ b → Mid s probe d w p → d < 62 → (channel_at w d).state ≡ IsClosing n
    → Stepped s probe d w p (if b then turned_in w d IsShut else asked_if w d (IsClosing (n + 1)) (written w.role Disc d [])) (if_room w.n1 (octets_of w.queue) (if b then None else Some (written w.role Disc d [])))
closing_step s probe d w p n true k m l e =
    turns_step s probe d w p IsShut m l (ap is_opened e) (ap at_tick e ∙ ap (λ (b : Bool). if b then IsShut else IsClosing n) k)
closing_step s probe d w p n false k m l e =
    let g = written w.role Disc d [] in
    let still : at_tick (IsClosing n) ≡ IsClosing n = ap (λ (b : Bool). if b then IsShut else IsClosing n) k in
    asked_step s probe d w p g (IsClosing (n + 1)) (has_room w.n1 (octets_of w.queue) g) m (turn_frame_of d w Disc (IsClosing n) (IsClosing (n + 1)) l e still refl refl (closing_state n) refl refl refl)

step_by : (s : StationSetting) (probe : Option Waiting) (d : ℕ) (w : Station) (p : List Act) (st : State) → Mid s probe d w p → d < 62 → (channel_at w d).state ≡ st → Stepped s probe d w p (ticked_by w d st) (if_room w.n1 (octets_of w.queue) (again w.role d st))
step_by s probe d w p IsShut m l e = stays_step s probe d w p m (ap at_tick e ∙ sym e)
step_by s probe d w p IsOpened m l e = stays_step s probe d w p m (ap at_tick e ∙ sym e)
step_by s probe d w p (IsOpening n) m l e = opening_step s probe d w p n (n == 3) m l e
step_by s probe d w p (IsClosing n) m l e = closing_step s probe d w p n (n == 3) refl m l e
step_by s probe d w p (IsStopping n) m l e = turns_step s probe d w p (if n == 3 then IsShut else IsStopping (n + 1)) m l (ap is_opened e) (ap at_tick e)

-- ## All of them

-- what a tick calls for is of the states from d on
pub ticked_same : (r : Role) (n1 : ℕ) (f g : ℕ → State) (q d count : ℕ) → ((e : ℕ) → d ≤ e → e < d + count → f e ≡ g e) → ticked r n1 f q d count ≡ ticked r n1 g q d count
ticked_same r n1 f g q d zero h = refl
ticked_same r n1 f g q d (suc count) h =
    let first : f d ≡ g d = h d (omega arith) (omega arith) in
    ap (λ (t : State). let here = if_room n1 q (again r d t) in here ++ ticked r n1 f (q + octets_of here) (d + 1) count) first
    ∙ ap (λ (rest : List Frame). if_room n1 q (again r d (g d)) ++ rest) (ticked_same r n1 f g (q + octets_of (if_room n1 q (again r d (g d)))) (d + 1) count (λ e k x. h e (omega (arith, k)) (omega (arith, x))))

sent_both : (fs gs : List Frame) (p : List Act) → sent_after (fs ++ gs) p ≡ sent_after gs (sent_after fs p)
sent_both [] gs p = refl
sent_both (f ∷ fs) gs p = sent_both fs gs (Sent f ∷ p)

abbrev states_in : Station → ℕ → State
states_in w e = (channel_at w e).state

mid_all : (s : StationSetting) (probe : Option Waiting) (count d : ℕ) (w : Station) (p : List Act) → Mid s probe d w p → d + count ≡ 62 → Mid s probe 62 (ticked_all w d count) (sent_after (ticked s.role s.n1 (states_in w) (octets_of w.queue) d count) p)
unfolding ticked_all
mid_all s probe zero d w p m n = let last : d ≡ 62 = omega (arith, n) in subst (λ (k : ℕ). Mid s probe k w p) last m
mid_all s probe (suc count) d w p m n =
    let here = if_room s.n1 (octets_of w.queue) (again s.role d (states_in w d)) in
    let same : if_room w.n1 (octets_of w.queue) (again w.role d (states_in w d)) ≡ here
    = ap (λ (k : ℕ). if_room k (octets_of w.queue) (again w.role d (states_in w d))) m.n1_is ∙ ap (λ (r : Role). if_room s.n1 (octets_of w.queue) (again r d (states_in w d))) m.role_is in
    let new = ticked_one w d in
    let step : Stepped s probe d w p new here = subst (λ (fs : List Frame). Stepped s probe d w p new fs) same (step_by s probe d w p (states_in w d) m (omega (arith, n)) refl) in
    let rest = mid_all s probe count (d + 1) new (sent_after here p) step.mid (omega (arith, n)) in
    let later : ticked s.role s.n1 (states_in new) (octets_of new.queue) (d + 1) count ≡ ticked s.role s.n1 (states_in w) (octets_of w.queue + octets_of here) (d + 1) count
    = ticked_same s.role s.n1 (states_in new) (states_in w) (octets_of new.queue) (d + 1) count (λ e k x. ap (λ (c : Channel). c.state) (step.others e (ne_eqb e d (λ (h : e ≡ d). omega (arith, k, h)))))
    ∙ ap (λ (q : ℕ). ticked s.role s.n1 (states_in w) q (d + 1) count) step.octets in
    subst (λ (q : List Act). Mid s probe 62 (ticked_all new (d + 1) count) q) (ap (λ (fs : List Frame). sent_after fs (sent_after here p)) later ∙ sym (sent_both here (ticked s.role s.n1 (states_in w) (octets_of w.queue + octets_of here) (d + 1) count) p)) rest

-- ## The whole tick

mid_last : (s : StationSetting) (probe : Option Waiting) (w : Station) (p : List Act) → Mid s probe 62 w p → StationFits (record w { probe = probe }) p
mid_last s probe w p m =
    let n1_role : setting_of w ≡ s = ap (λ (r : Role). let v : StationSetting = record { role = r; n1 = w.n1 } in v) m.role_is ∙ ap (λ (n : ℕ). let v : StationSetting = record { role = s.role; n1 = n } in v) m.n1_is in
    let zero : ChannelFits s.role 0 p (channel_at w 0) = m.done 0 (omega arith) (omega arith) in
    record {
      live = m.live;
      channels_are = λ e l. subst (λ (r : Role). ChannelFits r e p (channel_at w e)) (sym m.role_is) (m.done e l l);
      others_shut = m.shut;
      stop_of_all_is = λ o. subst (λ (r : Role). AllStopped r p w.all_stopped) (sym m.role_is) m.stop_of_all_is (ap is_opened (subst (λ (r : Role). state_of r 0 p ≡ (channel_at w 0).state) (sym m.role_is) zero.state_is) ∙ o);
      probe_is = ap (λ (v : StationSetting). probe_of v p) n1_role ∙ m.probe_is;
      queue_is = m.queue_is;
      last_is = m.last_is;
    }

tick_calls : (v : Station) (past : List Act) → StationFits v past → called_frames (setting_of v) past Tick ≡ ticked v.role v.n1 (states_in v) (octets_of v.queue) 0 62
tick_calls v past h =
    ap (λ (b : Bool). if b then [] else frames_seeing (setting_of v) (station_view (setting_of v) past) Tick) h.live
    ∙ (ticked_same v.role v.n1 (λ d. state_of v.role d past) (states_in v) (octets_of (queue past)) 0 62 (λ e k x. (h.channels_are e (omega (arith, x))).state_is)
    ∙ ap (λ (q : ℕ). ticked v.role v.n1 (states_in v) q 0 62) (sym (seen_queued v past h)))

-- a tick, with all that it calls for, is handled in each past that the station fits
pub tick_handles : (v new : Station) → length v.channels ≡ 62 → new ≡ ticked_in v → StationHandles v new Tick
tick_handles v new n e =
    subst (λ (w : Station). StationHandles v w Tick) (sym e) (record {
      setting = setting_all v 0 62;
      fits = λ past h.
          let m = mid_all (setting_of v) (ticked_probe v.probe) 62 0 v (Tick ∷ past) (mid_first v past n h) refl in
          let fits = mid_last (setting_of v) (ticked_probe v.probe) (ticked_all v 0 62) (sent_after (ticked v.role v.n1 (states_in v) (octets_of v.queue) 0 62) (Tick ∷ past)) m in
          subst (λ (fs : List Frame). StationFits (ticked_in v) (sent_after fs (Tick ∷ past))) (sym (tick_calls v past h)) fits;
    })
