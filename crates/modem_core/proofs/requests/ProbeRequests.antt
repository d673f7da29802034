-- A probe is to be sent.
use Rattle.std.specs.Prelude.{◌≡◌, ℕ, ◌<◌, ◌≤◌, ◌==◌, ◌&&◌, ◌||◌, not, nat_le, Bool, true, false, List, [], ◌∷◌, ◌++◌, length, refl, Option, Some, None, is_some, option_map, if◌then◌else◌}
use Rattle.std.specs.List.{list_all}
use Rattle.std.proofs.Common.{ap, sym, ◌∙◌, arith}
use Rattle.std.proofs.lemmas.Bool.{and_parts, and_from, eq-eqb}
use Rattle.std.proofs.lemmas.Bool.Decides.{nat_tests}
use Rattle.mux_frame.specs.Frames.{Frame}
use Rattle.mux_station.specs.declared.role.Role.{Role}
use Rattle.mux_station.specs.declared.role.Role.TheVariants.{Initiator}
use Rattle.mux_station.specs.declared.role.ChannelState.{ChannelState}
use Rattle.mux_station.specs.declared.error.StationError.{StationError}
use Rattle.mux_station.specs.declared.error.StationError.TheVariants as why
use Rattle.mux_station.specs.Acts as station
use Rattle.mux_station.specs.Messages.{test}
use Rattle.mux_station.specs.Tables.{message_frame, has_room, octets_of}
use Rattle.mux_station.specs.States.{State, IsShut, IsOpening, IsOpened, IsClosing, IsStopping, is_opened, state_of}
use Rattle.mux_station.specs.Stages.{as_shown}
use Rattle.mux_station.specs.Sending as sending
use Rattle.mux_station.specs.Sending.{Waiting, refused, or_else, probe_of}
use Rattle.mux_station.specs.Stations.{Station, channel_at, setting_of, seen_in}
use Rattle.mux_station.specs.Fitting as station_fits
use Rattle.mux_station.proofs.user_calls.ProbeStopFlowOffer.{no_close_down, sees_the_past}
use Rattle.mux_station.proofs.user_calls.CallFrames.{state_called, state_sent_uih, probe_sent, probe_taken_on}
use Rattle.modem_desk.specs.declared.request.Ask.{Ask}
use Rattle.modem_desk.specs.declared.request.Ask.TheVariants.{OpenChannel, CloseChannel, Command, Probe, Stop}
use Rattle.modem_desk.specs.declared.request.Request.{Request}
use Rattle.modem_desk.specs.declared.request.Answer.{Answer}
use Rattle.modem_desk.specs.declared.request.Answer.TheVariants.{NotOpen, Busy}
use Rattle.modem_core.specs.declared.telling.Happened.TheVariants as happened
use Rattle.modem_history.specs.Acts.{Act, Took, wire, in_hand}
use Rattle.modem_history.specs.Information.{command_on}
use Rattle.modem_history.specs.Calls.{Setting, seen, asking, asks_probe, probe_waits, ticks_since, calls, refused_ask}
use Rattle.modem_core.specs.Telling.{told_by, left_by}
use Rattle.modem_core.specs.Doing.{AsksAlone, MayTake}
use Rattle.modem_core.specs.Refusals.{refusal_answer}
use Rattle.modem_core.specs.Cores.{Core, MayCome, may_wait, shows_opened as channel_opened, shows_opening, is_closing, shows_stopping, state_shown, probe_or, probe_in}
use Rattle.modem_history.proofs.calls.CalledActs.{calls_said}
use Rattle.modem_history.proofs.calls.CallEnds.{ended}
use Rattle.modem_core.proofs.cores.UnchangedParts.{ticks_behind}
use Rattle.modem_core.proofs.requests.TakenRequests.{Live, AllWait, all_left, probe_kept}
use Rattle.modem_core.proofs.requests.AcceptedRequests.{Accepts, refused_alone}
use Rattle.modem_core.proofs.requests.CloseRequests.{and_not}
use Rattle.modem_core.proofs.requests.OneFrameRequests.{Asks, past_then, asked_fits, kept_states, asked_accepts}

-- ## What it is told at once

told_probe : Bool → Bool → Bool → Option Answer
told_probe running waits room = if not running then Some NotOpen else if waits || not (room && true) then Some Busy else None

refused_probe : Bool → Bool → Bool → Bool → Option StationError
refused_probe short running waits room =
    or_else (if not short then Some why.TooLong else if not running then Some why.NotOpen else if waits then Some why.Busy else None) (if room && true then None else Some why.NoRoom)

same_told : (running waits room : Bool) → told_probe running waits room ≡ option_map refusal_answer (refused_probe true running waits room)
unfolding told_probe refused_probe
same_told false waits room = refl
same_told true true room = refl
same_told true false true = refl
same_told true false false = refl

waits_so : (past : List Act) (rs : List Request) → probe_waits rs ≡ is_some (probe_in past rs)
waits_so past [] = refl
waits_so past (r ∷ rs) = by_ask r.ask (waits_so past rs)
  where
    by_ask : (ask : Ask) → probe_waits rs ≡ is_some (probe_in past rs) → (asks_probe ask || probe_waits rs) ≡ is_some (probe_or past r ask (probe_in past rs))
    by_ask (Probe octets) h = refl
    by_ask (OpenChannel d) h = h
    by_ask (CloseChannel d) h = h
    by_ask (Command d line) h = h
    by_ask Stop h = h

-- what the past tells a probe of 16 octets at most at once is what the station refuses it for
pub probe_told : (s : Setting) (v : Core) (past : List Act) (octets : List ℕ) → Live s v past → nat_le (length octets) 16 ≡ true
    → refused_ask s (seen s past) (Probe octets) ≡ option_map refusal_answer (refused (setting_of v.station) (seen_in v.station) (station.Probe octets))
unfolding told_probe refused_probe
probe_told s v past octets l short =
    let st = v.station in
    let z = state_of s.role 0 (wire past) in
    let told : Role → ℕ → State → ℕ → Bool → Option Answer
    = λ (r : Role) (n1 : ℕ) (x : State) (queued : ℕ) (waits : Bool). told_probe (is_opened x) waits (has_room n1 queued (message_frame r test octets)) in
    let waits0 = probe_waits (in_hand past) in
    let room = has_room st.n1 (octets_of st.queue) (message_frame st.role test octets) in
    ap (λ (r : Role). told r s.n1 z (seen s past).queued waits0) l.same_role
    ∙ (ap (λ (n1 : ℕ). told st.role n1 z (seen s past).queued waits0) l.n1_is
    ∙ (ap (λ (x : State). told st.role st.n1 x (seen s past).queued waits0) (l.states_are 0 (omega arith))
    ∙ (ap (λ (m : ℕ). told st.role st.n1 (channel_at st 0).state m waits0) l.queued_is
    ∙ (ap (λ (b : Bool). told st.role st.n1 (channel_at st 0).state (octets_of st.queue) b) (ap probe_waits l.hand_is ∙ (waits_so past v.hand ∙ ap (λ (o : Option Waiting). is_some o) l.runs.probe_is))
    ∙ (same_told (is_opened (channel_at st 0).state) (is_some st.probe) room
    ∙ ap (λ (b : Bool). option_map refusal_answer (refused_probe b (is_opened (channel_at st 0).state) (is_some st.probe) room)) (sym short))))))

-- what a station that isn't refused knows
record Free (running waits : Bool) : Type 0 where
  runs : running ≡ true
  alone : waits ≡ false

free_by : (short running waits room : Bool) → refused_probe short running waits room ≡ None → Free running waits
unfolding refused_probe
free_by false running waits room h = cc
free_by true false waits room h = cc
free_by true true true room h = cc
free_by true true false room h = record { runs = refl; alone = refl }

free_of : (v : Station) (octets : List ℕ) → refused (setting_of v) (seen_in v) (station.Probe octets) ≡ None → Free (is_opened (channel_at v 0).state) (is_some v.probe)
unfolding refused_probe
free_of v octets h = free_by (nat_le (length octets) 16) (is_opened (channel_at v 0).state) (is_some v.probe) (has_room v.n1 (octets_of v.queue) (message_frame v.role test octets)) h

none_is : (o : Option Waiting) → is_some o ≡ false → o ≡ None
none_is None h = refl
none_is (Some w) h = cc

-- ## It is accepted

-- where the states are the same, all wait on
pub all_same : (old now : ℕ → ChannelState) → ((e : ℕ) → e < 62 → now e ≡ old e) → (rs : List Request) → AllWait old rs → AllWait now rs
all_same old now same [] h = refl
all_same old now same (r ∷ rs) h =
    let hs = and_parts (may_wait old r.ask) (list_all (λ (x : Request). may_wait old x.ask) rs) h in
    and_from (may_wait now r.ask) (list_all (λ (x : Request). may_wait now x.ask) rs) (by_ask r.ask hs.0) (all_same old now same rs hs.1)
  where
    by_ask : (ask : Ask) → may_wait old ask ≡ true → may_wait now ask ≡ true
    by_ask (OpenChannel d) k = ap shows_opening (same d.number d.in_range) ∙ k
    by_ask (CloseChannel d) k = ap is_closing (same d.number d.in_range) ∙ k
    by_ask (Command d line) k = ap channel_opened (same d.number d.in_range) ∙ k
    by_ask (Probe octets) k = ap channel_opened (same 0 (omega arith)) ∙ k
    by_ask Stop k = ap shows_stopping (same 0 (omega arith)) ∙ k

-- behind those that are no probe
probe_last : (past : List Act) (rs : List Request) (q : Request) (octets : List ℕ) → probe_in past rs ≡ None → q.ask ≡ Probe octets → probe_in past (rs ++ q ∷ []) ≡ Some (record { data_octets = octets; ticks = ticks_since q past })
probe_last past [] q octets h e = ap (λ (x : Ask). probe_or past q x None) e
probe_last past (r ∷ rs) q octets h e = by_ask r.ask h (λ k. probe_last past rs q octets k e)
  where
    by_ask : (ask : Ask) → probe_or past r ask (probe_in past rs) ≡ None → (probe_in past rs ≡ None → probe_in past (rs ++ q ∷ []) ≡ Some (record { data_octets = octets; ticks = ticks_since q past }))
        → probe_or past r ask (probe_in past (rs ++ q ∷ [])) ≡ Some (record { data_octets = octets; ticks = ticks_since q past })
    by_ask (Probe os) k rest = cc
    by_ask (OpenChannel d) k rest = rest k
    by_ask (CloseChannel d) k rest = rest k
    by_ask (Command d line) k rest = rest k
    by_ask Stop k rest = rest k

just_taken : (s : Setting) (past : List Act) (q : Request) → ticks_since q (ended s past (Took q)) ≡ 0
just_taken s past q =
    ticks_behind q (calls s past (Took q)) (Took q ∷ past) (calls_said s (seen s past) (Took q))
    ∙ ap (λ (b : Bool). if b then 0 else ticks_since q past) (and_from (q.caller == q.caller) (q.number == q.number) (eq-eqb q.caller q.caller refl) (eq-eqb q.number q.number refl))

abbrev testing : List ℕ → Role → Frame
testing octets r = message_frame r test octets

-- the call was taken
pub record Probes (v : Core) (w : Station) (q : Request) (octets : List ℕ) : Type 0 where
  pub asks : q.ask ≡ Probe octets
  pub short : length octets ≤ 16
  pub taken_on : refused (setting_of v.station) (seen_in v.station) (station.Probe octets) ≡ None
  pub goes_on : station_fits.StationHandles v.station w (station.Called (station.Probe octets))

probe_asks : (v : Core) (w : Station) (q : Request) (octets : List ℕ) → Probes v w q octets → Asks v w q (station.Probe octets) (testing octets)
probe_asks v w q octets o = record {
  asks = λ r. ap (asking r) o.asks;
  call_asks = λ r. refl;
  in_range = omega arith;
  taken_on = o.taken_on;
  goes_on = o.goes_on;
  no_offer = λ e. refl;
  no_command = λ e. ap (command_on e) o.asks;
}

-- a Test changes no state
probe_states : (v : Core) (w : Station) (q : Request) (octets : List ℕ) (s : Setting) (past : List Act) → Probes v w q octets → Live s v past → (e : ℕ) → e < 62 → (channel_at w e).state ≡ (channel_at v.station e).state
probe_states v w q octets s past o l e b =
    let st = v.station in
    let before = station.Called (station.Probe octets) ∷ l.runs.seen in
    kept_states v w q (station.Probe octets) (testing octets) s past (probe_asks v w q octets o) l e b
    ∙ (state_sent_uih st.role e before (testing octets st.role) refl (no_close_down st.role test octets refl) refl
    ∙ (state_called st.role e l.runs.seen (station.Probe octets) ∙ (l.runs.fits.channels_are e b).state_is))

-- an Opened connection is shown so
pub opened_shown : (x : State) → channel_opened (as_shown x) ≡ is_opened x
opened_shown IsShut = refl
opened_shown (IsOpening n) = refl
opened_shown IsOpened = refl
opened_shown (IsClosing n) = refl
opened_shown (IsStopping n) = refl

short_so : (n : ℕ) → n ≤ 16 → nat_le n 16 ≡ true
short_so n h = grind (arith, nat_tests)

-- those in hand wait on
pub probe_wait : (v : Core) (w : Station) (q : Request) (octets : List ℕ) (s : Setting) (past : List Act) → Probes v w q octets → Live s v past → AllWait (state_shown w false) v.hand
probe_wait v w q octets s past o l = all_same (state_shown v.station false) (state_shown w false) (λ e b. ap as_shown (probe_states v w q octets s past o l e b)) v.hand l.runs.waits

-- a probe that the station took is accepted, and 0 stays as it was
pub probe_accepts : (v : Core) (w : Station) (q : Request) (octets : List ℕ) → length v.hand < 128 → Probes v w q octets → (s : Setting) (past : List Act) → Live s v past → MayCome s v past (Took q) → Accepts s v past q w false
probe_accepts v w q octets few o s past l m =
    let st = v.station in
    let c = station.Probe octets in
    let f = testing octets in
    let a = probe_asks v w q octets o in
    let free = free_of st octets o.taken_on in
    let before = station.Called c ∷ l.runs.seen in
    let acts = past_then s v past l c f in
    let zero = probe_states v w q octets s past o l 0 (omega arith) in
    let fits = asked_fits v w q c f s past a l in
    let past' = ended s past (Took q) in
    let taken : refused (setting_of st) (sending.station_view (setting_of st) l.runs.seen) c ≡ None = sym (sees_the_past st l.runs.seen c l.runs.fits (omega arith)) ∙ o.taken_on in
    let same_zero : state_of st.role 0 acts ≡ state_of st.role 0 before = state_sent_uih st.role 0 before (f st.role) refl (no_close_down st.role test octets refl) refl in
    let probe : w.probe ≡ Some (record { data_octets = octets; ticks = 0 })
    = sym fits.probe_is ∙ (ap (λ (x : sending.StationSetting). probe_of x acts) o.goes_on.setting ∙ (probe_sent (setting_of st) before (f st.role) same_zero ∙ probe_taken_on (setting_of st) l.runs.seen octets taken)) in
    let none : probe_in past' v.hand ≡ None = probe_kept s v past q m ∙ (l.runs.probe_is ∙ none_is st.probe free.alone) in
    let probe_here : probe_in past' (left_by (told_by happened.Took false (state_shown w false)) v.hand ++ q ∷ []) ≡ w.probe
    = ap (λ (rs : List Request). probe_in past' (rs ++ q ∷ [])) (all_left (state_shown w false) false v.hand (probe_wait v w q octets s past o l))
    ∙ (probe_last past' v.hand q octets none o.asks
    ∙ (ap (λ (n : ℕ). Some (let x : Waiting = record { data_octets = octets; ticks = n } in x)) (just_taken s past q) ∙ sym probe)) in
    asked_accepts v w q c f false few a s past l
    (ap (refused_ask s (seen s past)) o.asks ∙ (probe_told s v past octets l (short_so (length octets) o.short) ∙ ap (option_map refusal_answer) o.taken_on))
    (ap (λ (x : State). is_opened (channel_at st 0).state && not (is_opened x)) zero ∙ and_not (is_opened (channel_at st 0).state))
    (ap (may_wait (state_shown w false)) o.asks ∙ (ap (λ (x : State). channel_opened (as_shown x)) zero ∙ shown_open (channel_at st 0).state free.runs)) probe_here
  where
    shown_open : (x : State) → is_opened x ≡ true → channel_opened (as_shown x) ≡ true
    shown_open x h = opened_shown x ∙ h

-- ## It is refused

-- one of 16 octets at most that the station refuses is handled by telling it why
pub probe_refused : (v new : Core) (q : Request) (octets : List ℕ) (why : StationError) → v.station.role ≡ Initiator → MayTake v q (Probe octets) → length octets ≤ 16
    → refused (setting_of v.station) (seen_in v.station) (station.Probe octets) ≡ Some why → new ≡ v → AsksAlone v new q (Some (refusal_answer why))
probe_refused v new q octets why role may short h n =
    refused_alone v new q (Probe octets) (refusal_answer why) role may n (λ s past l. probe_told s v past octets l (short_so (length octets) short) ∙ ap (option_map refusal_answer) h)
