-- A connection is held, or freed.
use Rattle.std.specs.Prelude.{◌≡◌, ℕ, ◌+◌, ◌*◌, ◌<◌, ◌==◌, ◌&&◌, ◌||◌, not, Bool, true, false, List, [], ◌∷◌, ◌++◌, length, map, take, refl, Option, Some, None, if◌then◌else◌, slice_index_or}
use Rattle.std.specs.List.{list_all, concat}
use Rattle.std.proofs.Common.{ap, sym, ◌∙◌, subst, append-nil, eqb-true, get_or-set_same, get_or-set_other}
use Rattle.std.proofs.lemmas.Bool.{and_parts, eq-eqb, eqb-false}
use Rattle.mux_frame.specs.Frames.{Frame}
use Rattle.at_text.specs.Lines.{kept_run}
use Rattle.at_text.specs.Windows.{answered}
use Rattle.at_text.specs.UnderWay.{FitsUnderWay}
use Rattle.mux_station.specs.declared.role.Role.{Role}
use Rattle.mux_station.specs.declared.role.Role.TheVariants.{Initiator}
use Rattle.mux_station.specs.declared.role.ChannelState.{ChannelState}
use Rattle.mux_station.specs.Acts as station
use Rattle.mux_station.specs.Messages.{msc}
use Rattle.mux_station.specs.Opening.{since, is_open}
use Rattle.mux_station.specs.States.{State, is_opened, state_of}
use Rattle.mux_station.specs.Stages.{as_shown}
use Rattle.mux_station.specs.Tables.{msc_frame, by_flow, ready, held_up}
use Rattle.mux_station.specs.Offering.{offered}
use Rattle.mux_station.specs.Sending as sending
use Rattle.mux_station.specs.Sending.{refused, sent_after, probe_of}
use Rattle.mux_station.specs.Stations.{Station, channel_at, setting_of, seen_in}
use Rattle.mux_station.specs.Fitting as station_fits
use Rattle.mux_station.specs.Traces.{without_calls}
use Rattle.mux_station.proofs.user_calls.ProbeStopFlowOffer.{no_close_down}
use Rattle.mux_station.proofs.user_calls.CallFrames.{state_called, state_sent_uih, probe_sent, probe_called}
use Rattle.modem_desk.specs.declared.request.Ask.{Ask}
use Rattle.modem_desk.specs.declared.request.Ask.TheVariants.{OpenChannel, CloseChannel, Command, Probe, Stop}
use Rattle.modem_desk.specs.declared.request.Request.{Request}
use Rattle.modem_desk.specs.declared.request.Answer.{Answer}
use Rattle.modem_core.specs.declared.telling.Happened.TheVariants as happened
use Rattle.modem_history.specs.Acts.{Act, Took, Got, Sent, Told, Heard, Tick, Lost, Held, Freed, Given, act_of, after, wire, in_hand}
use Rattle.modem_history.specs.Information.{accepted, texts, info_got, opens_here}
use Rattle.modem_history.specs.Placing.{marks}
use Rattle.modem_history.specs.Calls.{Setting, HistoryView, seen, is_lost, ticks_since, calls, probe_later, tolds}
use Rattle.modem_core.specs.Lanes.{Lane, new_lane, turned}
use Rattle.modem_core.specs.Telling.{told_to, left_by}
use Rattle.modem_history.specs.Wholes.{taken_requests, is_first, is_said, UsesOnce}
use Rattle.modem_core.specs.Cores.{dialect_in, Core, Fits, Runs, RunsUnless, LaneFits, IsRun, MayCome, GoesOn, lane_at, may_wait, state_shown, probe_or, probe_in}
use Rattle.modem_history.specs.Holding.{last_held, OnHeld}
use Rattle.modem_core.specs.Holding.{flow_act, HoldsFit, MayAsk}
use Rattle.modem_history.proofs.calls.CalledActs.{calls_said}
use Rattle.modem_history.proofs.commands.BegunCommands.{opens_by_sent}
use Rattle.modem_history.proofs.calls.CallEnds.{frames_in, now_in, now_is, ended, end_of}
use Rattle.modem_history.proofs.requests.CommandsInStep.{told_off_all, left_in}
use Rattle.modem_core.proofs.requests.LaterOutcomes.{Says, AllSay, has_ended, later_is, tolds_are}
use Rattle.modem_core.proofs.cores.WholeCalls.{run_on as goes_on, lost_on, hand_distinct}
use Rattle.modem_core.proofs.cores.LineLoss.{stays_left}
use Rattle.modem_core.proofs.cores.UnchangedParts.{open_plain, all_was, info_same, offered_same, offered_called, ticks_behind}
use Rattle.modem_core.proofs.requests.TakenRequests.{Live, AllWait, live_of, waits_none}
use Rattle.modem_core.proofs.requests.AcceptedRequests.{called_fits}
use Rattle.modem_core.proofs.requests.ProbeRequests.{all_same}

-- ## The act

-- the V.24 signals of the MSC that frees, or of the one that holds
abbrev pub signals : Bool → ℕ
signals go = if go then ready else held_up

flow_wire : (d : ℕ) (go : Bool) (past : List Act) → wire (flow_act d go ∷ past) ≡ wire past
flow_wire d true past = refl
flow_wire d false past = refl

flow_first : (d : ℕ) (go : Bool) → is_first (flow_act d go) ≡ true
flow_first d true = refl
flow_first d false = refl

flow_taken : (d : ℕ) (go : Bool) (past : List Act) → taken_requests (flow_act d go ∷ past) ≡ taken_requests past
flow_taken d true past = refl
flow_taken d false past = refl

flow_lost : (d : ℕ) (go : Bool) (past : List Act) → is_lost (flow_act d go ∷ past) ≡ is_lost past
flow_lost d true past = refl
flow_lost d false past = refl

flow_accepted : (r : Role) (e d : ℕ) (go : Bool) (past : List Act) → accepted r e (flow_act d go ∷ past) ≡ accepted r e past
flow_accepted r e d true past = refl
flow_accepted r e d false past = refl

flow_marks : (r : Role) (e d : ℕ) (go : Bool) (past : List Act) → marks r e (flow_act d go ∷ past) ≡ marks r e past
flow_marks r e d true past = refl
flow_marks r e d false past = refl

flow_ticks : (r : Request) (d : ℕ) (go : Bool) (past : List Act) → ticks_since r (flow_act d go ∷ past) ≡ ticks_since r past
flow_ticks r d true past = refl
flow_ticks r d false past = refl

flow_says : (v : HistoryView) (now : ℕ → State) (d : ℕ) (go : Bool) → Says v now (flow_act d go) happened.Took
flow_says v now d true = record { cause_is = λ why. refl; stop_is = refl }
flow_says v now d false = record { cause_is = λ why. refl; stop_is = refl }

flow_probe : (r : Request) (octets : List ℕ) (v : HistoryView) (d : ℕ) (go : Bool) → probe_later r octets v (flow_act d go) ≡ None
flow_probe r octets v d true = refl
flow_probe r octets v d false = refl

flow_hand : (s : Setting) (past : List Act) (d : ℕ) (go : Bool) → IsRun s past → in_hand (ended s past (flow_act d go)) ≡ left_in s past (flow_act d go)
flow_hand s past d true r = (end_of s past (Freed d) 0).hand_is ∙ told_off_all s past (Freed d) (hand_distinct s past r)
flow_hand s past d false r = (end_of s past (Held d) 0).hand_is ∙ told_off_all s past (Held d) (hand_distinct s past r)

flow_calls : (s : Setting) (past : List Act) (d : ℕ) (go : Bool) → calls s past (flow_act d go) ≡ map Sent (frames_in s past (flow_act d go)) ++ tolds (seen s past) (now_in s past (flow_act d go)) (flow_act d go)
flow_calls s past d true = refl
flow_calls s past d false = refl

flow_frames : (s : Setting) (past : List Act) (d : ℕ) (go : Bool) → is_lost past ≡ false → is_opened (state_of s.role d (wire past)) ≡ true → frames_in s past (flow_act d go) ≡ msc_frame s.role d (signals go) ∷ []
flow_frames s past d true l o =
    ap (λ (b : Bool). if b then [] else by_flow s.role (seen s past).state d ready) l ∙ ap (λ (b : Bool). if b then msc_frame s.role d ready ∷ [] else []) o
flow_frames s past d false l o =
    ap (λ (b : Bool). if b then [] else by_flow s.role (seen s past).state d held_up) l ∙ ap (λ (b : Bool). if b then msc_frame s.role d held_up ∷ [] else []) o

-- ## What is held

-- what a test leaves where it fails
pub if_not : (b x : Bool) → b ≡ false → (if b then false else x) ≡ x
if_not false x e = refl
if_not true x e = cc

-- what a call is called for holds nothing, and frees nothing
pub held_behind : (r : Role) (d : ℕ) (acts past : List Act) → list_all is_said acts ≡ true → last_held r d (after past acts) ≡ last_held r d past
held_behind r d [] past h = refl
held_behind r d (Sent f ∷ acts) past h =
    held_behind r d acts (Sent f ∷ past) (and_parts (is_said (Sent f)) (list_all is_said acts) h).1 ∙ if_not (opens_here r d past (Sent f)) (last_held r d past) (opens_by_sent r _ _ d f)
held_behind r d (Told o ∷ acts) past h = held_behind r d acts (Told o ∷ past) h
held_behind r d (Heard k e line ∷ acts) past h = held_behind r d acts (Heard k e line ∷ past) h
held_behind r d (Took q ∷ acts) past h = absurd (let e : false ≡ true = h in cc)
held_behind r d (Got f ∷ acts) past h = absurd (let e : false ≡ true = h in cc)
held_behind r d (Tick ∷ acts) past h = absurd (let e : false ≡ true = h in cc)
held_behind r d (Lost ∷ acts) past h = absurd (let e : false ≡ true = h in cc)
held_behind r d (Held e ∷ acts) past h = absurd (let e : false ≡ true = h in cc)
held_behind r d (Freed e ∷ acts) past h = absurd (let e : false ≡ true = h in cc)
held_behind r d (Given ∷ acts) past h = absurd (let e : false ≡ true = h in cc)

-- what is held at the end of a call is what is held after its first act
pub call_held : (s : Setting) (past : List Act) (a : Act) (r : Role) (d : ℕ) → last_held r d (ended s past a) ≡ last_held r d (a ∷ past)
call_held s past a r d = held_behind r d (calls s past a) (a ∷ past) (calls_said s (seen s past) a)

held_here : (r : Role) (d : ℕ) (go : Bool) (past : List Act) → last_held r d (flow_act d go ∷ past) ≡ not go
held_here r d true past = ap (λ (b : Bool). not b && last_held r d past) (eq-eqb d d refl)
held_here r d false past = ap (λ (b : Bool). b || last_held r d past) (eq-eqb d d refl)

held_beside : (r : Role) (e d : ℕ) (go : Bool) (past : List Act) → (d == e) ≡ false → last_held r e (flow_act d go ∷ past) ≡ last_held r e past
held_beside r e d true past k = ap (λ (b : Bool). not b && last_held r e past) k
held_beside r e d false past k = ap (λ (b : Bool). b || last_held r e past) k

lane_here : (lanes : List Lane) (d : ℕ) (held : Bool) → d < length lanes → slice_index_or (turned lanes d held) d new_lane ≡ record (slice_index_or lanes d new_lane) { held = held }
lane_here lanes d held l = get_or-set_same lanes d _ new_lane l

lane_beside : (lanes : List Lane) (d e : ℕ) (held : Bool) → (d == e) ≡ false → slice_index_or (turned lanes d held) e new_lane ≡ slice_index_or lanes e new_lane
lane_beside lanes d e held k = get_or-set_other lanes d e _ new_lane (λ (g : e ≡ d). eqb-false d e k (sym g))

-- ## The call

-- the station took it
pub record Flowing (v : Core) (w : Station) (d : ℕ) (go : Bool) : Type 0 where
  pub in_range : d < 62
  pub not_zero : (d == 0) ≡ false
  pub opened : is_opened (channel_at v.station d).state ≡ true
  pub held_is : (lane_at v d).held ≡ go
  pub taken_on : refused (setting_of v.station) (seen_in v.station) (station.Flow d go) ≡ None
  pub goes_on : station_fits.StationHandles v.station w (station.Called (station.Flow d go))

-- a hold or its end may come wherever one may be asked for
pub may_come : (s : Setting) (v : Core) (past : List Act) (d : ℕ) (go : Bool) → MayAsk s v past → MayCome s v past (flow_act d go)
may_come s v past d go m = record { setting = m.setting; fits = m.fits; run = m.run; numbers = subst UsesOnce (sym (flow_taken d go past)) m.run.numbers }

-- the MSC that frees d, or holds it
abbrev pub flow_frame : ℕ → Bool → Role → Frame
flow_frame d go r = msc_frame r d (signals go)

abbrev flow_seen : (s : Setting) (v : Core) (past : List Act) → Live s v past → ℕ → Bool → List station.Act
flow_seen s v past l d go = station.Sent (flow_frame d go v.station.role) ∷ station.Called (station.Flow d go) ∷ l.runs.seen

flow_fits : (s : Setting) (v : Core) (past : List Act) (w : Station) (d : ℕ) (go : Bool) → (l : Live s v past) → Flowing v w d go → station_fits.StationFits w (flow_seen s v past l d go)
flow_fits s v past w d go l o =
    let st = v.station in
    let asks : sending.frames_asked st.role (station.Flow d go) ≡ flow_frame d go st.role ∷ []
    = ap (λ (b : Bool). if b then sending.frames_asked st.role (station.Flow 0 go) else msc_frame st.role d (signals go) ∷ []) o.not_zero in
    subst (λ (fs : List Frame). station_fits.StationFits w (sent_after fs (station.Called (station.Flow d go) ∷ l.runs.seen))) asks
    (called_fits st w l.runs.seen (station.Flow d go) l.runs.fits o.in_range o.taken_on o.goes_on)

same_state : (r : Role) (e d : ℕ) (go : Bool) (x : List station.Act) → state_of r e (station.Sent (flow_frame d go r) ∷ station.Called (station.Flow d go) ∷ x) ≡ state_of r e x
same_state r e d go x =
    state_sent_uih r e (station.Called (station.Flow d go) ∷ x) (flow_frame d go r) refl (no_close_down r msc ((4 * d + 3) ∷ signals go ∷ []) refl) refl ∙ state_called r e x (station.Flow d go)

flow_states : (s : Setting) (v : Core) (past : List Act) (w : Station) (d : ℕ) (go : Bool) → (l : Live s v past) → Flowing v w d go → (e : ℕ) → e < 62 → (channel_at w e).state ≡ (channel_at v.station e).state
flow_states s v past w d go l o e b =
    sym ((flow_fits s v past w d go l o).channels_are e b).state_is
    ∙ (ap (λ (x : sending.StationSetting). state_of x.role e (flow_seen s v past l d go)) o.goes_on.setting
    ∙ (same_state v.station.role e d go l.runs.seen ∙ (l.runs.fits.channels_are e b).state_is))

-- everyone in hand waits on
abbrev none_says : Ask → Option Answer
none_says ask = None

none_said : (rs : List Request) → told_to none_says rs ≡ []
none_said [] = refl
none_said (r ∷ rs) = none_said rs

none_go : (rs : List Request) → left_by none_says rs ≡ rs
none_go [] = refl
none_go (r ∷ rs) = ap (λ (v : List Request). r ∷ v) (none_go rs)

all_quiet : (s : Setting) (past : List Act) (d : ℕ) (go : Bool) (now : ℕ → State) (shown : ℕ → ChannelState) → ((e : ℕ) → e < 62 → as_shown (now e) ≡ shown e) → (rs : List Request) → AllWait shown rs
    → AllSay (seen s past) now (flow_act d go) none_says rs
all_quiet s past d go now shown h [] w = tt
all_quiet s past d go now shown h (r ∷ rs) w =
    let v = seen s past in
    let ws = and_parts (may_wait shown r.ask) (list_all (λ (x : Request). may_wait shown x.ask) rs) w in (
      later_is v now (flow_act d go) happened.Took shown (flow_says v now d go) h r r.ask (λ octets. flow_probe r octets v d go) ∙ waits_none shown (has_ended v now) r.ask ws.0,
      all_quiet s past d go now shown h rs ws.1,
    )

-- the probe waits as before
probe_as_before : (past past' : List Act) (rs : List Request) → ((r : Request) → ticks_since r past' ≡ ticks_since r past) → probe_in past' rs ≡ probe_in past rs
probe_as_before past past' [] h = refl
probe_as_before past past' (r ∷ rs) h =
    ap (probe_or past' r r.ask) (probe_as_before past past' rs h) ∙ by_ask r.ask
  where
    by_ask : (ask : Ask) → probe_or past' r ask (probe_in past rs) ≡ probe_or past r ask (probe_in past rs)
    by_ask (Probe octets) = ap (λ (n : ℕ). Some (let w : sending.Waiting = record { data_octets = octets; ticks = n } in w)) (h r)
    by_ask (OpenChannel d) = refl
    by_ask (CloseChannel d) = refl
    by_ask (Command d line) = refl
    by_ask Stop = refl

-- the lane has what it had of its line and of the answer under way
record SameLane (lane was : Lane) : Type 0 where
  kept_same : lane.kept ≡ was.kept
  under_way_same : lane.under_way ≡ was.under_way

lane_same : (v : Core) (d : ℕ) (go : Bool) → length v.lanes ≡ 62 → d < 62 → (e : ℕ) → SameLane (slice_index_or (turned v.lanes d (not go)) e new_lane) (lane_at v e)
lane_same v d go size b e = by_place (d == e) refl
  where
    by_place : (x : Bool) → (d == e) ≡ x → SameLane (slice_index_or (turned v.lanes d (not go)) e new_lane) (lane_at v e)
    by_place true k =
        let place : d ≡ e = eqb-true d e k in
        let here = lane_here v.lanes d (not go) (subst (λ (n : ℕ). d < n) (sym size) b) in
        subst (λ (n : ℕ). SameLane (slice_index_or (turned v.lanes d (not go)) n new_lane) (lane_at v n)) place
        (record { kept_same = ap (λ (x : Lane). x.kept) here; under_way_same = ap (λ (x : Lane). x.under_way) here })
    by_place false k =
        let beside = lane_beside v.lanes d e (not go) k in
        record { kept_same = ap (λ (x : Lane). x.kept) beside; under_way_same = ap (λ (x : Lane). x.under_way) beside }

turn_lane : (s : Setting) (v : Core) (past : List Act) (w : Station) (d : ℕ) (go : Bool) → (l : Live s v past) → (e : ℕ) → e < 62 → (e == 0) ≡ false → (lane : Lane) → SameLane lane (lane_at v e)
    → wire (ended s past (flow_act d go)) ≡ station.Sent (flow_frame d go s.role) ∷ wire past → without_calls (flow_seen s v past l d go) ≡ station.Sent (flow_frame d go s.role) ∷ wire past
    → is_open Initiator e (wire (ended s past (flow_act d go))) ≡ true → LaneFits (dialect_in v) e (flow_seen s v past l d go) (ended s past (flow_act d go)) lane
turn_lane s v past w d go l e b z lane ls wires same h =
    let a = flow_act d go in
    let f = flow_frame d go s.role in
    let past' = ended s past a in
    let ends = end_of s past a e in
    let here : is_open Initiator e (station.Sent f ∷ wire past) ≡ true = ap (is_open Initiator e) (sym wires) ∙ h in
    let was = l.runs.lanes_fit e b z (all_was Initiator e (f ∷ []) (wire past) here) in
    let marked : marks Initiator e past' ≡ marks Initiator e past = subst (λ (x : Role). marks x e past' ≡ marks x e past) l.role_is (ends.marks_are ∙ flow_marks s.role e d go past) in
    let taken_on : accepted Initiator e past' ≡ accepted Initiator e past = subst (λ (x : Role). accepted x e past' ≡ accepted x e past) l.role_is (ends.accepted_is ∙ flow_accepted s.role e d go past) in
    let there : is_open Initiator e (flow_seen s v past l d go) ≡ true = open_plain Initiator e (flow_seen s v past l d go) ∙ (ap (is_open Initiator e) same ∙ here) in
    let called : is_open Initiator e (station.Called (station.Flow d go) ∷ l.runs.seen) ≡ true = all_was Initiator e (flow_frame d go v.station.role ∷ []) (station.Called (station.Flow d go) ∷ l.runs.seen) there in
    record {
      kept_is = ap (λ (x : List station.Act). kept_run (info_got e (since Initiator e x))) wires ∙ (ap kept_run (info_same Initiator e (f ∷ []) (wire past) here) ∙ (was.kept_is ∙ sym ls.kept_same));
      under_way_fits = subst (λ (x : _). FitsUnderWay (dialect_in v) x (marks Initiator e past')) (sym ls.under_way_same) (subst (FitsUnderWay (dialect_in v) (lane_at v e).under_way) (sym marked) was.under_way_fits);
      offered_is = offered_same Initiator e (flow_frame d go v.station.role ∷ []) (station.Called (station.Flow d go) ∷ l.runs.seen) there
          ∙ (offered_called Initiator e (station.Flow d go) l.runs.seen called
          ∙ (append-nil (offered Initiator e l.runs.seen)
          ∙ (was.offered_is ∙ (ap (λ (n : ℕ). concat (texts (take (n + 1) (accepted Initiator e past)))) (ap (answered (dialect_in v)) (sym marked))
          ∙ ap (λ (qs : List Request). concat (texts (take (answered (dialect_in v) (marks Initiator e past') + 1) qs))) (sym taken_on)))));
    }

-- and the act may come: it may be held, or is held
on_held : (s : Setting) (v : Core) (past : List Act) (d : ℕ) (go : Bool) → v.station.role ≡ Initiator → Live s v past → MayAsk s v past → (d < 62) → (d == 0) ≡ false → is_opened (channel_at v.station d).state ≡ true
    → (lane_at v d).held ≡ go → OnHeld s.role past (flow_act d go)
on_held s v past d go role l m b z o h = by_go go held
  where
    shown : is_open s.role d (wire past) ≡ true
    shown = (ap is_opened (l.states_are d b) ∙ o)

    held : last_held s.role d past ≡ go
    held = ap (λ (r : Role). last_held r d past) m.setting.role_is ∙ (m.holds.held_are d b z (ap (λ (r : Role). is_open r d (wire past)) (sym m.setting.role_is) ∙ shown) ∙ h)

    by_go : (x : Bool) → last_held s.role d past ≡ x → OnHeld s.role past (flow_act d x)
    by_go true k = ap (λ (y : Bool). y && last_held s.role d past) shown ∙ k
    by_go false k =
        ap (λ (y : Bool). not y && (is_open s.role d (wire past) && not (is_open s.role d (wire past) && last_held s.role d past))) z
        ∙ (ap (λ (y : Bool). y && not (y && last_held s.role d past)) shown ∙ ap not k)

turn_held : (s : Setting) (v : Core) (past : List Act) (d : ℕ) (go : Bool) → length v.lanes ≡ 62 → d < 62 → HoldsFit v past → (e : ℕ) → e < 62 → (e == 0) ≡ false → is_open Initiator e (wire past) ≡ true
    → (x : Bool) → (d == e) ≡ x → last_held Initiator e (flow_act d go ∷ past) ≡ (slice_index_or (turned v.lanes d (not go)) e new_lane).held
turn_held s v past d go size b h e k z o true p =
    let place : d ≡ e = eqb-true d e p in
    subst (λ (n : ℕ). last_held Initiator n (flow_act d go ∷ past) ≡ (slice_index_or (turned v.lanes d (not go)) n new_lane).held) place
    (held_here Initiator d go past ∙ sym (ap (λ (x : Lane). x.held) (lane_here v.lanes d (not go) (subst (λ (n : ℕ). d < n) (sym size) b))))
turn_held s v past d go size b h e k z o false p =
    held_beside Initiator e d go past p ∙ (h.held_are e k z o ∙ sym (ap (λ (x : Lane). x.held) (lane_beside v.lanes d e (not go) p)))

-- a core that asked for it has gone on by that act and its MSC, and holds what it should
pub turn_on : (s : Setting) (v new : Core) (past : List Act) (w : Station) (d : ℕ) (go : Bool) → v.station.role ≡ Initiator → v.lost ≡ false → length v.lanes ≡ 62 → Flowing v w d go → MayAsk s v past
    → new ≡ record v { station = w; lanes = turned v.lanes d (not go) }
    → GoesOn s new past (flow_act d go) (flow_act d go ∷ Sent (flow_frame d go Initiator) ∷ []) × HoldsFit new (after past (flow_act d go ∷ Sent (flow_frame d go Initiator) ∷ []))
turn_on s v new past w d go role lost size o m n =
    let st = v.station in
    let a = flow_act d go in
    let l = live_of s v past a role lost (may_come s v past d go m) in
    let see = seen s past in
    let now = now_in s past a in
    let f = flow_frame d go s.role in
    let acts = flow_seen s v past l d go in
    let fits = flow_fits s v past w d go l o in
    let opened : is_opened (state_of s.role d (wire past)) ≡ true = ap is_opened (l.states_are d o.in_range) ∙ o.opened in
    let framed : frames_in s past a ≡ f ∷ [] = flow_frames s past d go l.lost_is opened in
    let wires : wire (ended s past a) ≡ station.Sent f ∷ wire past
    = (end_of s past a 0).wire_is ∙ (ap (λ (gs : List Frame). wire (after (a ∷ past) (map Sent gs))) framed ∙ ap (λ (x : List station.Act). station.Sent f ∷ x) (flow_wire d go past)) in
    let same : without_calls acts ≡ station.Sent f ∷ wire past
    = ap (λ (x : List station.Act). station.Sent (flow_frame d go st.role) ∷ x) l.runs.same ∙ ap (λ (r : Role). station.Sent (flow_frame d go r) ∷ wire past) (sym l.same_role) in
    let states : (e : ℕ) → e < 62 → now e ≡ (channel_at st e).state
    = λ e b. now_is s past (a ∷ map Sent (frames_in s past a)) e
    ∙ (ap (λ (gs : List Frame). state_of s.role e (wire (after (a ∷ past) (map Sent gs)))) framed
    ∙ (ap (λ (x : List station.Act). state_of s.role e (station.Sent f ∷ x)) (flow_wire d go past)
    ∙ (state_sent_uih s.role e (wire past) f refl (no_close_down s.role msc ((4 * d + 3) ∷ signals go ∷ []) refl) refl ∙ l.states_are e b))) in
    let all : AllSay see now a none_says (in_hand past)
    = subst (AllSay see now a none_says) (sym l.hand_is) (all_quiet s past d go now (state_shown st false) (λ e b. ap as_shown (states e b)) v.hand l.runs.waits) in
    let nothing : tolds see now a ≡ [] = tolds_are see now a none_says (in_hand past) all ∙ ap (map act_of) (none_said (in_hand past)) in
    let called : a ∷ Sent (flow_frame d go Initiator) ∷ [] ≡ a ∷ calls s past a
    = ap (λ (x : List Act). a ∷ x)
    (ap (λ (r : Role). Sent (flow_frame d go r) ∷ []) (sym l.role_is)
    ∙ sym (flow_calls s past d go ∙ (ap (λ (x : List Act). map Sent (frames_in s past a) ++ x) nothing ∙ ap (λ (gs : List Frame). map Sent gs ++ []) framed))) in
    let hand : in_hand (ended s past a) ≡ v.hand
    = flow_hand s past d go m.run ∙ (stays_left see now a none_says (in_hand past) all ∙ (none_go (in_hand past) ∙ l.hand_is)) in
    let turned_core : Core = record v { station = w; lanes = turned v.lanes d (not go) } in
    let probe : w.probe ≡ st.probe
    = sym fits.probe_is ∙ (ap (λ (x : sending.StationSetting). probe_of x acts) o.goes_on.setting
    ∙ (probe_sent (setting_of st) (station.Called (station.Flow d go) ∷ l.runs.seen) (flow_frame d go st.role) (state_sent_uih st.role 0 (station.Called (station.Flow d go) ∷ l.runs.seen) (flow_frame d go st.role) refl (no_close_down st.role msc ((4 * d + 3) ∷ signals go ∷ []) refl) refl)
    ∙ (probe_called (setting_of st) l.runs.seen (station.Flow d go) refl ∙ l.runs.fits.probe_is))) in
    let ticks : (r : Request) → ticks_since r (ended s past a) ≡ ticks_since r past = λ r. ticks_behind r (calls s past a) (a ∷ past) (calls_said s see a) ∙ flow_ticks r d go past in
    let runs : Runs turned_core (ended s past a) = record {
      seen = acts;
      fits = fits;
      same = same ∙ sym wires;
      waits = all_same (state_shown st false) (state_shown w false) (λ e b. ap as_shown (flow_states s v past w d go l o e b)) v.hand l.runs.waits;
      probe_is = probe_as_before past (ended s past a) v.hand ticks ∙ (l.runs.probe_is ∙ sym probe);
      lanes_fit = λ e b z h. turn_lane s v past w d go l e b z (lane_at turned_core e) (lane_same v d go size o.in_range e) wires same h;
    } in
    let there : Fits turned_core (ended s past a) = record { hand_is = hand; lost_is = lost_on s past a ∙ (flow_lost d go past ∙ m.fits.lost_is); runs = subst (λ (b : Bool). RunsUnless b turned_core (ended s past a)) (sym lost) runs } in
    let holds : HoldsFit turned_core (ended s past a) = record {
      held_are = λ e b z h. call_held s past a Initiator e ∙ turn_held s v past d go size o.in_range m.holds e b z (all_was Initiator e (f ∷ []) (wire past) (ap (is_open Initiator e) (sym wires) ∙ h)) (d == e) refl;
    } in
    let result : GoesOn s turned_core past a (a ∷ calls s past a) × HoldsFit turned_core (ended s past a) = (
      record {
        called = refl;
        setting = record { role_is = m.setting.role_is; n1_is = m.setting.n1_is ∙ sym (ap (λ (x : sending.StationSetting). x.n1) o.goes_on.setting); dialect_is = m.setting.dialect_is; listens_are = m.setting.listens_are };
        fits = there;
        run = goes_on s past a (flow_first d go) (on_held s v past d go role l m o.in_range o.not_zero o.opened o.held_is) m.run (subst UsesOnce (sym (flow_taken d go past)) m.run.numbers);
      },
      holds,
    ) in
    subst (λ (c : Core). GoesOn s c past a (a ∷ Sent (flow_frame d go Initiator) ∷ []) × HoldsFit c (after past (a ∷ Sent (flow_frame d go Initiator) ∷ []))) (sym n)
    (subst (λ (x : List Act). GoesOn s turned_core past a x × HoldsFit turned_core (after past x)) (sym called) result)
