-- A tick: what is sent again, and what is given up.
use Rattle.std.specs.Prelude.{◌≡◌, ℕ, ◌+◌, ◌<◌, ◌≤◌, ◌==◌, ◌&&◌, not, Bool, true, false, List, [], ◌∷◌, ◌++◌, length, map, filter, filter_map, take, drop, refl, Option, Some, None, is_none, option_map, if◌then◌else◌}
use Rattle.std.specs.List.{list_any, concat}
use Rattle.std.proofs.Common.{ap, sym, ◌∙◌, subst, arith}
use Rattle.std.proofs.lemmas.Bool.{and_from}
use Rattle.mux_frame.specs.Frames.{Frame}
use Rattle.at_text.specs.Lines.{kept_run}
use Rattle.at_text.specs.Windows.{answered}
use Rattle.at_text.specs.UnderWay.{FitsUnderWay}
use Rattle.mux_station.specs.declared.role.Role.{Role}
use Rattle.mux_station.specs.declared.role.Role.TheVariants.{Initiator}
use Rattle.mux_station.specs.declared.role.ChannelState.{ChannelState}
use Rattle.mux_station.specs.declared.role.ChannelState.TheVariants as is
use Rattle.mux_station.specs.declared.tick.GivenUp.{GivenUp}
use Rattle.mux_station.specs.Acts as station
use Rattle.mux_station.specs.Opening.{since, is_open}
use Rattle.mux_station.specs.States.{State, IsOpened, is_opened, state_of}
use Rattle.mux_station.specs.Stages.{as_shown}
use Rattle.mux_station.specs.Tables.{by_tick, octets_of}
use Rattle.mux_station.specs.Sending as sending
use Rattle.mux_station.specs.Sending.{Waiting, queue, sent_after, probe_of}
use Rattle.mux_station.specs.Stations.{Station, channel_at, setting_of}
use Rattle.mux_station.specs.Noticing.{up_of}
use Rattle.mux_station.specs.Ticking.{noticed}
use Rattle.mux_station.specs.Fitting as station_fits
use Rattle.mux_station.specs.Traces.{without_calls}
use Rattle.mux_station.proofs.law_proofs.OwedFrames.{Controls, calls_control}
use Rattle.mux_station.proofs.user_calls.CallFrames.{probe_needs}
use Rattle.modem_desk.specs.declared.request.Ask.{Ask}
use Rattle.modem_desk.specs.declared.request.Ask.TheVariants.{OpenChannel, CloseChannel, Command, Probe, Stop}
use Rattle.modem_desk.specs.declared.request.Request.{Request}
use Rattle.modem_desk.specs.declared.request.Answer.{Answer}
use Rattle.modem_history.specs.declared.act.Act as code
use Rattle.modem_core.specs.declared.telling.Happened.{Happened}
use Rattle.modem_core.specs.declared.telling.Happened.TheVariants as happened
use Rattle.modem_history.specs.Acts.{Act, Sent, Tick, act_of, after, wire, in_hand}
use Rattle.modem_history.specs.Information.{accepted, texts, info_got}
use Rattle.modem_history.specs.Placing.{marks}
use Rattle.modem_history.specs.Calls.{Setting, HistoryView, seen, asks_probe, is_lost, ticks_since, calls, later, told_later, tolds}
use Rattle.modem_core.specs.Telling.{stop_told, told_by, told_to, left_by}
use Rattle.modem_core.specs.Ticked.{bared, asking_from, is_probe_given}
use Rattle.modem_core.specs.Doing.{QueuesAtMost, new_frames}
use Rattle.modem_core.proofs.cores.DoneCalls.{bare_cut}
use Rattle.modem_core.specs.Cores.{dialect_in, Core, Fits, Runs, RunsUnless, LaneFits, IsRun, MayCome, GoesOn, Handles, lane_at, may_wait, state_shown, probe_or, probe_in}
use Rattle.modem_history.proofs.calls.CalledActs.{calls_said}
use Rattle.modem_history.proofs.requests.RequestsAfterCalls.{stays}
use Rattle.modem_history.proofs.calls.CallEnds.{frames_in, now_in, now_is, ended, end_of}
use Rattle.modem_history.proofs.requests.CommandsInStep.{told_off_all}
use Rattle.modem_core.proofs.requests.LaterOutcomes.{AllSay, has_ended, later_is, tolds_are}
use Rattle.modem_core.proofs.cores.WholeCalls.{run_on as goes_on, lost_on, hand_distinct}
use Rattle.modem_core.proofs.cores.LineLoss.{stays_left}
use Rattle.modem_core.proofs.cores.StationPasts.{wire_sent, without_sent}
use Rattle.modem_core.proofs.cores.UnchangedParts.{open_plain, all_was, tick_was, info_same, info_tick, offered_same, offered_tick, opens_tick, ticks_behind}
use Rattle.modem_core.proofs.requests.TakenRequests.{Live, AllWait, live_of}
use Rattle.modem_core.proofs.requests.AcceptedRequests.{plain_state}
use Rattle.modem_core.proofs.requests.OneFrameRequests.{probe_left, probe_gone}
use Rattle.modem_core.proofs.requests.CloseRequests.{opened_is}
use Rattle.modem_core.proofs.probes.ProbesInHand.{probes_in, few_in_hand, first_alone, rest_few, no_probe}
use Rattle.modem_core.proofs.ticks.TickFrames.{tick_frames, frames_so, queue_sents, read_back, zero_stays_on, probe_counts, probe_still_none, is_given_up, given_so}

-- ## Those who are told nothing may wait

-- whatever happened, who is told nothing may wait
pub none_waits_on : (h : Happened) (now : ℕ → ChannelState) (e : Bool) (ask : Ask) → is_none (told_by h e now ask) ≡ true → may_wait now ask ≡ true
none_waits_on h now e (OpenChannel d) k = by_state (now d.number) k
  where
    by_state : (c : ChannelState) → is_none (told_by h e (λ n. c) (OpenChannel d)) ≡ true → may_wait (λ n. c) (OpenChannel d) ≡ true
    by_state is.Shut k = cc
    by_state is.Opening k = refl
    by_state is.Opened k = cc
    by_state is.Closing k = cc
    by_state is.Stopping k = cc
none_waits_on h now e (CloseChannel d) k = by_state (now d.number) k
  where
    by_state : (c : ChannelState) → is_none (told_by h e (λ n. c) (CloseChannel d)) ≡ true → may_wait (λ n. c) (CloseChannel d) ≡ true
    by_state is.Shut k = cc
    by_state is.Opening k = cc
    by_state is.Opened k = cc
    by_state is.Closing k = refl
    by_state is.Stopping k = cc
none_waits_on h now e (Command d line) k = by_state (now d.number) k
  where
    by_state : (c : ChannelState) → is_none (told_by h e (λ n. c) (Command d line)) ≡ true → may_wait (λ n. c) (Command d line) ≡ true
    by_state is.Shut k = cc
    by_state is.Opening k = cc
    by_state is.Opened k = refl
    by_state is.Closing k = cc
    by_state is.Stopping k = cc
none_waits_on h now e (Probe octets) k = by_state (now 0) k
  where
    by_state : (c : ChannelState) → is_none (told_by h e (λ n. c) (Probe octets)) ≡ true → may_wait (λ n. c) (Probe octets) ≡ true
    by_state is.Shut k = cc
    by_state is.Opening k = cc
    by_state is.Opened k = refl
    by_state is.Closing k = cc
    by_state is.Stopping k = cc
none_waits_on h now e Stop k = by_state (now 0) k
  where
    by_state : (c : ChannelState) → is_none (told_by h e (λ n. c) Stop) ≡ true → may_wait (λ n. c) Stop ≡ true
    by_state is.Shut k = cc
    by_state is.Opening k = cc
    by_state is.Opened k = cc
    by_state is.Closing k = cc
    by_state is.Stopping k = refl

-- so all who are left may wait
pub left_wait_on : (h : Happened) (now : ℕ → ChannelState) (e : Bool) (rs : List Request) → AllWait now (left_by (told_by h e now) rs)
left_wait_on h now e [] = refl
left_wait_on h now e (r ∷ rs) = by_told (is_none (told_by h e now r.ask)) refl (left_wait_on h now e rs)
  where
    by_told : (b : Bool) → is_none (told_by h e now r.ask) ≡ b → AllWait now (left_by (told_by h e now) rs) → AllWait now (if b then r ∷ left_by (told_by h e now) rs else left_by (told_by h e now) rs)
    by_told true k w = and_from (may_wait now r.ask) _ (none_waits_on h now e r.ask k) w
    by_told false k w = w

-- ## What each is told

-- those who are no probe are told the same, whether one was given up or not
other_says : (g x e : Bool) (now : ℕ → ChannelState) (ask : Ask) → asks_probe ask ≡ false → told_by (happened.Tick x) e now ask ≡ told_by (happened.Tick g) e now ask
other_says g x e now (OpenChannel d) h = refl
other_says g x e now (CloseChannel d) h = refl
other_says g x e now (Command d line) h = refl
other_says g x e now (Probe octets) h = cc
other_says g x e now Stop h = by_state (now 0)
  where
    by_state : (c : ChannelState) → stop_told c (happened.Tick x) ≡ stop_told c (happened.Tick g)
    by_state is.Shut = refl
    by_state is.Opening = refl
    by_state is.Opened = refl
    by_state is.Closing = refl
    by_state is.Stopping = refl

one_told : (v : HistoryView) (now : ℕ → State) (shown : ℕ → ChannelState) → ((d : ℕ) → d < 62 → as_shown (now d) ≡ shown d) → (r : Request) → later v now Tick r r.ask ≡ told_by (happened.Tick (v.ticks r == 3)) (has_ended v now) shown r.ask
one_told v now shown h r =
    later_is v now Tick (happened.Tick (v.ticks r == 3)) shown (record { cause_is = λ why. refl; stop_is = refl }) h r r.ask (λ octets. refl)

none_probes : (s : Setting) (past : List Act) (now : ℕ → State) (shown : ℕ → ChannelState) (g : Bool) → ((d : ℕ) → d < 62 → as_shown (now d) ≡ shown d) → (rs : List Request) → probes_in rs ≡ 0
    → AllSay (seen s past) now Tick (told_by (happened.Tick g) (has_ended (seen s past) now) shown) rs
none_probes s past now shown g h [] n = tt
none_probes s past now shown g h (r ∷ rs) n =
    (by_ask r.ask refl, none_probes s past now shown g h rs (let f = rest_few r rs 0 (omega (arith, n)) in omega (arith, f)))
  where
    by_ask : (ask : Ask) → r.ask ≡ ask → later (seen s past) now Tick r r.ask ≡ told_by (happened.Tick g) (has_ended (seen s past) now) shown r.ask
    by_ask (Probe octets) k = absurd (no_probe octets r rs k n)
    by_ask (OpenChannel d) k = one_told (seen s past) now shown h r ∙ other_says g (ticks_since r past == 3) (has_ended (seen s past) now) shown r.ask (ap asks_probe k)
    by_ask (CloseChannel d) k = one_told (seen s past) now shown h r ∙ other_says g (ticks_since r past == 3) (has_ended (seen s past) now) shown r.ask (ap asks_probe k)
    by_ask (Command d line) k = one_told (seen s past) now shown h r ∙ other_says g (ticks_since r past == 3) (has_ended (seen s past) now) shown r.ask (ap asks_probe k)
    by_ask Stop k = one_told (seen s past) now shown h r ∙ other_says g (ticks_since r past == 3) (has_ended (seen s past) now) shown r.ask (ap asks_probe k)

given_here : (octets : List ℕ) (r : Request) (past : List Act) (o : Option Waiting) → is_given_up (probe_or past r (Probe octets) o) ≡ (ticks_since r past == 3)
unfolding is_given_up
given_here octets r past o = refl

tick_all : (s : Setting) (past : List Act) (now : ℕ → State) (shown : ℕ → ChannelState) (g : Bool) → ((d : ℕ) → d < 62 → as_shown (now d) ≡ shown d) → (rs : List Request) → probes_in rs ≤ 1
    → is_given_up (probe_in past rs) ≡ g → AllSay (seen s past) now Tick (told_by (happened.Tick g) (has_ended (seen s past) now) shown) rs
tick_all s past now shown g h [] few u = tt
tick_all s past now shown g h (r ∷ rs) few u = by_ask r.ask refl (tick_all s past now shown g h rs (rest_few r rs 1 few)) (none_probes s past now shown g h rs)
  where
    by_ask : (ask : Ask) → r.ask ≡ ask → (is_given_up (probe_in past rs) ≡ g → AllSay (seen s past) now Tick (told_by (happened.Tick g) (has_ended (seen s past) now) shown) rs)
        → (probes_in rs ≡ 0 → AllSay (seen s past) now Tick (told_by (happened.Tick g) (has_ended (seen s past) now) shown) rs)
        → (later (seen s past) now Tick r r.ask ≡ told_by (happened.Tick g) (has_ended (seen s past) now) shown r.ask) × AllSay (seen s past) now Tick (told_by (happened.Tick g) (has_ended (seen s past) now) shown) rs
    by_ask (Probe octets) k more none =
        let here : (ticks_since r past == 3) ≡ g = sym (given_here octets r past (probe_in past rs)) ∙ (ap (λ (a : Ask). is_given_up (probe_or past r a (probe_in past rs))) (sym k) ∙ u) in
        (one_told (seen s past) now shown h r ∙ ap (λ (x : Bool). told_by (happened.Tick x) (has_ended (seen s past) now) shown r.ask) here, none (first_alone octets r rs k few))
    by_ask (OpenChannel d) k more none =
        (one_told (seen s past) now shown h r ∙ other_says g (ticks_since r past == 3) (has_ended (seen s past) now) shown r.ask (ap asks_probe k), more (ap (λ (a : Ask). is_given_up (probe_or past r a (probe_in past rs))) (sym k) ∙ u))
    by_ask (CloseChannel d) k more none =
        (one_told (seen s past) now shown h r ∙ other_says g (ticks_since r past == 3) (has_ended (seen s past) now) shown r.ask (ap asks_probe k), more (ap (λ (a : Ask). is_given_up (probe_or past r a (probe_in past rs))) (sym k) ∙ u))
    by_ask (Command d line) k more none =
        (one_told (seen s past) now shown h r ∙ other_says g (ticks_since r past == 3) (has_ended (seen s past) now) shown r.ask (ap asks_probe k), more (ap (λ (a : Ask). is_given_up (probe_or past r a (probe_in past rs))) (sym k) ∙ u))
    by_ask Stop k more none =
        (one_told (seen s past) now shown h r ∙ other_says g (ticks_since r past == 3) (has_ended (seen s past) now) shown r.ask (ap asks_probe k), more (ap (λ (a : Ask). is_given_up (probe_or past r a (probe_in past rs))) (sym k) ∙ u))

-- ## The probe

counted : Waiting → Waiting
counted w = record w { ticks = w.ticks + 1 }

ticked_once : (s : Setting) (past : List Act) (r : Request) → ticks_since r (ended s past Tick) ≡ ticks_since r past + 1
ticked_once s past r = ticks_behind r (calls s past Tick) (Tick ∷ past) (calls_said s (seen s past) Tick)

probe_ticked : (s : Setting) (past : List Act) (rs : List Request) → probe_in (ended s past Tick) rs ≡ option_map counted (probe_in past rs)
unfolding counted
probe_ticked s past [] = refl
probe_ticked s past (r ∷ rs) = by_ask r.ask (probe_ticked s past rs)
  where
    by_ask : (ask : Ask) → probe_in (ended s past Tick) rs ≡ option_map counted (probe_in past rs) → probe_or (ended s past Tick) r ask (probe_in (ended s past Tick) rs) ≡ option_map counted (probe_or past r ask (probe_in past rs))
    by_ask (Probe octets) h = ap (λ (n : ℕ). Some (let w : Waiting = record { data_octets = octets; ticks = n } in w)) (ticked_once s past r)
    by_ask (OpenChannel d) h = h
    by_ask (CloseChannel d) h = h
    by_ask (Command d line) h = h
    by_ask Stop h = h

-- where there is none there is none among those who are left
left_none : (past : List Act) (says : Ask → Option Answer) (rs : List Request) → probe_in past rs ≡ None → probe_in past (left_by says rs) ≡ None
left_none past says [] h = refl
left_none past says (r ∷ rs) h = by_ask r.ask refl (left_none past says rs) h
  where
    none_by : (b : Bool) (left : List Request) → probe_in past left ≡ None → probe_in past (r ∷ left) ≡ probe_in past left → probe_in past (if b then r ∷ left else left) ≡ None
    none_by true left e k = k ∙ e
    none_by false left e k = e

    by_ask : (ask : Ask) → r.ask ≡ ask → (probe_in past rs ≡ None → probe_in past (left_by says rs) ≡ None) → probe_or past r r.ask (probe_in past rs) ≡ None
        → probe_in past (if is_none (says r.ask) then r ∷ left_by says rs else left_by says rs) ≡ None
    by_ask (Probe octets) e more k = absurd (let x : Some (let w : Waiting = record { data_octets = octets; ticks = ticks_since r past } in w) ≡ None = ap (λ (a : Ask). probe_or past r a (probe_in past rs)) (sym e) ∙ k in cc)
    by_ask (OpenChannel d) e more k =
        none_by (is_none (says r.ask)) (left_by says rs) (more (ap (λ (a : Ask). probe_or past r a (probe_in past rs)) (sym e) ∙ k)) (ap (λ (a : Ask). probe_or past r a (probe_in past (left_by says rs))) e)
    by_ask (CloseChannel d) e more k =
        none_by (is_none (says r.ask)) (left_by says rs) (more (ap (λ (a : Ask). probe_or past r a (probe_in past rs)) (sym e) ∙ k)) (ap (λ (a : Ask). probe_or past r a (probe_in past (left_by says rs))) e)
    by_ask (Command d line) e more k =
        none_by (is_none (says r.ask)) (left_by says rs) (more (ap (λ (a : Ask). probe_or past r a (probe_in past rs)) (sym e) ∙ k)) (ap (λ (a : Ask). probe_or past r a (probe_in past (left_by says rs))) e)
    by_ask Stop e more k =
        none_by (is_none (says r.ask)) (left_by says rs) (more (ap (λ (a : Ask). probe_or past r a (probe_in past rs)) (sym e) ∙ k)) (ap (λ (a : Ask). probe_or past r a (probe_in past (left_by says rs))) e)

-- ## The whole of it

-- what the tick was
pub record Ticks (v : Core) (w : Station) (ups : List GivenUp) (g e : Bool) : Type 0 where
  pub goes_on : station_fits.StationHandles v.station w station.Tick
  pub given : map up_of ups ≡ noticed v.station
  pub given_is : g ≡ list_any is_probe_given ups
  pub ended_is : e ≡ (is_opened (channel_at v.station 0).state && not (is_opened (channel_at w 0).state))

-- what it comes to for a past
record Comes (s : Setting) (v : Core) (past : List Act) (w : Station) (l : Live s v past) : Type 0 where
  framed : frames_in s past Tick ≡ tick_frames v.station
  fits : station_fits.StationFits w (sent_after (tick_frames v.station) (station.Tick ∷ l.runs.seen))
  queued : w.queue ≡ v.station.queue ++ tick_frames v.station

tick_comes : (s : Setting) (v : Core) (past : List Act) (w : Station) (ups : List GivenUp) (g e : Bool) → (l : Live s v past) → Ticks v w ups g e → Comes s v past w l
tick_comes s v past w ups g e l t =
    let st = v.station in
    let before = l.runs.seen in
    let f = l.runs.fits in
    let called : sending.called_frames (setting_of st) before station.Tick ≡ tick_frames st
    = ap (λ (b : Bool). if b then [] else by_tick st.role st.n1 (λ d. state_of st.role d before) (octets_of (queue before))) f.live
    ∙ (ap (λ (q : List Frame). by_tick st.role st.n1 (λ d. state_of st.role d before) (octets_of q)) f.queue_is
    ∙ frames_so st (λ d. state_of st.role d before) (λ d b. (f.channels_are d b).state_is)) in
    let framed : frames_in s past Tick ≡ tick_frames st
    = ap (λ (b : Bool). if b then [] else by_tick s.role s.n1 (λ d. state_of s.role d (wire past)) (octets_of (queue (wire past)))) l.lost_is
    ∙ (ap (λ (r : Role). by_tick r s.n1 (λ d. state_of s.role d (wire past)) (octets_of (queue (wire past)))) l.same_role
    ∙ (ap (λ (n : ℕ). by_tick st.role n (λ d. state_of s.role d (wire past)) (octets_of (queue (wire past)))) l.n1_is
    ∙ (ap (λ (q : ℕ). by_tick st.role st.n1 (λ d. state_of s.role d (wire past)) q) l.queued_is
    ∙ frames_so st (λ d. state_of s.role d (wire past)) l.states_are))) in
    let control : Controls (tick_frames st) = subst Controls called (calls_control (setting_of st) before station.Tick) in
    let fits : station_fits.StationFits w (sent_after (tick_frames st) (station.Tick ∷ before)) = subst (λ (fs : List Frame). station_fits.StationFits w (sent_after fs (station.Tick ∷ before))) called (t.goes_on.fits before f) in
    record {
      framed = framed;
      fits = fits;
      queued = sym fits.queue_is ∙ (queue_sents (tick_frames st) (station.Tick ∷ before) control ∙ ap (λ (q : List Frame). q ++ tick_frames st) f.queue_is);
    }

-- a probe that waits has 0 Opened
probe_runs : (v : Station) (past : List station.Act) (x : Waiting) → station_fits.StationFits v past → v.probe ≡ Some x → (channel_at v 0).state ≡ IsOpened
probe_runs v past x f e = by_zero (is_opened (channel_at v 0).state) refl
  where
    by_zero : (b : Bool) → is_opened (channel_at v 0).state ≡ b → (channel_at v 0).state ≡ IsOpened
    by_zero true k = opened_is (channel_at v 0).state k
    by_zero false k =
        let none : probe_of (setting_of v) past ≡ None = probe_needs (setting_of v) past (ap is_opened (f.channels_are 0 (omega arith)).state_is ∙ k) in
        absurd (let y : Some x ≡ None = sym e ∙ (sym f.probe_is ∙ none) in cc)

given_some : (o : Option Waiting) (x : Waiting) (g : Bool) → o ≡ Some x → g ≡ is_given_up o → g ≡ (x.ticks == 3)
unfolding is_given_up
given_some o x g e h = h ∙ ap is_given_up e

counted_some : (o : Option Waiting) (x : Waiting) → o ≡ Some x → option_map counted o ≡ Some (record x { ticks = x.ticks + 1 })
unfolding counted
counted_some o x e = ap (option_map counted) e

probe_then : (s : Setting) (v : Core) (past : List Act) (w : Station) (ups : List GivenUp) (g e : Bool) → (l : Live s v past) → Ticks v w ups g e → Comes s v past w l
    → probe_in (ended s past Tick) (left_by (told_by (happened.Tick g) e (state_shown w false)) v.hand) ≡ w.probe
probe_then s v past w ups g e l t c = by_probe v.station.probe refl
  where
    by_given : (x : Waiting) → v.station.probe ≡ Some x → (b : Bool) → g ≡ b → (x.ticks == 3) ≡ b → w.probe ≡ (if x.ticks == 3 then None else Some (record x { ticks = x.ticks + 1 })) → (channel_at w 0).state ≡ IsOpened
        → probe_in (ended s past Tick) (left_by (told_by (happened.Tick g) e (state_shown w false)) v.hand) ≡ w.probe
    by_given x k true h n p o =
        probe_gone (ended s past Tick) (told_by (happened.Tick g) e (state_shown w false)) v.hand
        (λ octets. ap (λ (y : State). is_none (told_by (happened.Tick g) e (λ m. as_shown y) (Probe octets))) o ∙ ap (λ (b : Bool). is_none (told_by (happened.Tick b) e (λ m. as_shown IsOpened) (Probe octets))) h)
        ∙ sym (p ∙ ap (λ (b : Bool). if b then None else Some (record x { ticks = x.ticks + 1 })) n)
    by_given x k false h n p o =
        probe_left (ended s past Tick) (told_by (happened.Tick g) e (state_shown w false)) v.hand
        (λ octets. ap (λ (y : State). told_by (happened.Tick g) e (λ m. as_shown y) (Probe octets)) o ∙ ap (λ (b : Bool). told_by (happened.Tick b) e (λ m. as_shown IsOpened) (Probe octets)) h)
        ∙ (probe_ticked s past v.hand ∙ (ap (option_map counted) l.runs.probe_is ∙ (counted_some v.station.probe x k ∙ sym (p ∙ ap (λ (b : Bool). if b then None else Some (record x { ticks = x.ticks + 1 })) n))))

    by_probe : (o : Option Waiting) → v.station.probe ≡ o → probe_in (ended s past Tick) (left_by (told_by (happened.Tick g) e (state_shown w false)) v.hand) ≡ w.probe
    by_probe None k =
        let before : probe_of (setting_of v.station) l.runs.seen ≡ None = l.runs.fits.probe_is ∙ k in
        let none : w.probe ≡ None
        = sym c.fits.probe_is ∙ (ap (λ (x : sending.StationSetting). probe_of x (sent_after (tick_frames v.station) (station.Tick ∷ l.runs.seen))) t.goes_on.setting ∙ probe_still_none v.station (setting_of v.station) l.runs.seen before) in
        left_none (ended s past Tick) (told_by (happened.Tick g) e (state_shown w false)) v.hand (probe_ticked s past v.hand ∙ ap (option_map counted) (l.runs.probe_is ∙ k)) ∙ sym none
    by_probe (Some x) k =
        let opened = probe_runs v.station l.runs.seen x l.runs.fits k in
        let given = given_some v.station.probe x g k (t.given_is ∙ given_so v.station ups t.given) in
        let acts = sent_after (tick_frames v.station) (station.Tick ∷ l.runs.seen) in
        let before : probe_of (setting_of v.station) l.runs.seen ≡ Some x = l.runs.fits.probe_is ∙ k in
        let probe : w.probe ≡ (if x.ticks == 3 then None else Some (record x { ticks = x.ticks + 1 }))
        = sym c.fits.probe_is ∙ (ap (λ (y : sending.StationSetting). probe_of y acts) t.goes_on.setting ∙ probe_counts v.station (setting_of v.station) l.runs.seen opened x before) in
        let zero : (channel_at w 0).state ≡ IsOpened
        = sym (c.fits.channels_are 0 (omega arith)).state_is ∙ (ap (λ (y : sending.StationSetting). state_of y.role 0 acts) t.goes_on.setting
        ∙ zero_stays_on v.station l.runs.seen opened ((l.runs.fits.channels_are 0 (omega arith)).state_is ∙ opened)) in
        by_given x k (x.ticks == 3) given refl probe zero

-- an open connection goes on
tick_lane : (s : Setting) (v : Core) (past : List Act) (w : Station) (d : ℕ) → (l : Live s v past) → Comes s v past w l → wire (ended s past Tick) ≡ sent_after (tick_frames v.station) (station.Tick ∷ wire past)
    → without_calls (sent_after (tick_frames v.station) (station.Tick ∷ l.runs.seen)) ≡ sent_after (tick_frames v.station) (station.Tick ∷ wire past)
    → d < 62 → (d == 0) ≡ false → is_open Initiator d (wire (ended s past Tick)) ≡ true → LaneFits (dialect_in v) d (sent_after (tick_frames v.station) (station.Tick ∷ l.runs.seen)) (ended s past Tick) (lane_at v d)
tick_lane s v past w d l c wires same b z o =
    let fs = tick_frames v.station in
    let e = end_of s past Tick d in
    let here : is_open Initiator d (sent_after fs (station.Tick ∷ wire past)) ≡ true = ap (is_open Initiator d) (sym wires) ∙ o in
    let ticked : is_open Initiator d (station.Tick ∷ wire past) ≡ true = all_was Initiator d fs (station.Tick ∷ wire past) here in
    let lane = l.runs.lanes_fit d b z (tick_was Initiator d (wire past) ticked) in
    let marked : marks Initiator d (ended s past Tick) ≡ marks Initiator d past = subst (λ (x : Role). marks x d (ended s past Tick) ≡ marks x d past) l.role_is e.marks_are in
    let taken_first : accepted Initiator d (ended s past Tick) ≡ accepted Initiator d (Tick ∷ past) = subst (λ (x : Role). accepted x d (ended s past Tick) ≡ accepted x d (Tick ∷ past)) l.role_is e.accepted_is in
    let taken_on : accepted Initiator d (ended s past Tick) ≡ accepted Initiator d past = taken_first ∙ ap (λ (x : Bool). if x then [] else accepted Initiator d past) (opens_tick Initiator d (wire past)) in
    let there : is_open Initiator d (sent_after fs (station.Tick ∷ l.runs.seen)) ≡ true = open_plain Initiator d (sent_after fs (station.Tick ∷ l.runs.seen)) ∙ (ap (is_open Initiator d) same ∙ here) in
    record {
      kept_is = ap (λ (x : List station.Act). kept_run (info_got d (since Initiator d x))) wires
          ∙ (ap kept_run (info_same Initiator d fs (station.Tick ∷ wire past) here ∙ info_tick Initiator d (wire past) ticked) ∙ lane.kept_is);
      under_way_fits = subst (FitsUnderWay (dialect_in v) (lane_at v d).under_way) (sym marked) lane.under_way_fits;
      offered_is = offered_same Initiator d fs (station.Tick ∷ l.runs.seen) there
          ∙ (offered_tick Initiator d l.runs.seen (all_was Initiator d fs (station.Tick ∷ l.runs.seen) there)
          ∙ (lane.offered_is ∙ (ap (λ (n : ℕ). concat (texts (take (n + 1) (accepted Initiator d past)))) (ap (answered (dialect_in v)) (sym marked))
          ∙ ap (λ (qs : List Request). concat (texts (take (answered (dialect_in v) (marks Initiator d (ended s past Tick)) + 1) qs))) (sym taken_on))));
    }

tick_on : (s : Setting) (v : Core) (past : List Act) (w : Station) (ups : List GivenUp) (g e : Bool) → (l : Live s v past) → MayCome s v past Tick → Ticks v w ups g e → v.lost ≡ false
    → GoesOn s (record v { station = w; hand = left_by (told_by (happened.Tick g) e (state_shown w false)) v.hand }) past Tick
    (Tick ∷ (map Sent (tick_frames v.station) ++ map act_of (told_to (told_by (happened.Tick g) e (state_shown w false)) v.hand)))
tick_on s v past w ups g e l m t lost =
    let st = v.station in
    let fs = tick_frames st in
    let see = seen s past in
    let now = now_in s past Tick in
    let says = told_by (happened.Tick g) e (state_shown w false) in
    let new : Core = record v { station = w; hand = left_by says v.hand } in
    let acts = sent_after fs (station.Tick ∷ l.runs.seen) in
    let c = tick_comes s v past w ups g e l t in
    let same : without_calls acts ≡ sent_after fs (station.Tick ∷ wire past) = without_sent fs (station.Tick ∷ l.runs.seen) ∙ ap (λ (x : List station.Act). sent_after fs (station.Tick ∷ x)) l.runs.same in
    let wires : wire (ended s past Tick) ≡ sent_after fs (station.Tick ∷ wire past)
    = (end_of s past Tick 0).wire_is ∙ (ap (λ (gs : List Frame). wire (after (Tick ∷ past) (map Sent gs))) c.framed ∙ wire_sent fs (Tick ∷ past)) in
    let role : s.role ≡ w.role = l.same_role ∙ sym (ap (λ (x : sending.StationSetting). x.role) t.goes_on.setting) in
    let states : (d : ℕ) → d < 62 → now d ≡ (channel_at w d).state
    = λ d b. now_is s past (Tick ∷ map Sent (frames_in s past Tick)) d
    ∙ (ap (λ (gs : List Frame). state_of s.role d (wire (after (Tick ∷ past) (map Sent gs)))) c.framed
    ∙ (ap (state_of s.role d) (wire_sent fs (Tick ∷ past) ∙ sym same)
    ∙ (plain_state s.role d acts ∙ (ap (λ (x : Role). state_of x d acts) role ∙ (c.fits.channels_are d b).state_is)))) in
    let ends : has_ended see now ≡ e
    = ap (λ (x : State). is_opened x && not (is_opened (now 0))) (l.states_are 0 (omega arith))
    ∙ (ap (λ (x : State). is_opened (channel_at st 0).state && not (is_opened x)) (states 0 (omega arith)) ∙ sym t.ended_is) in
    let few : probes_in v.hand ≤ 1 = subst (λ (rs : List Request). probes_in rs ≤ 1) l.hand_is (few_in_hand s past m.run) in
    let given : is_given_up (probe_in past v.hand) ≡ g = ap is_given_up l.runs.probe_is ∙ sym (t.given_is ∙ given_so st ups t.given) in
    let all : AllSay see now Tick says v.hand
    = subst (λ (b : Bool). AllSay see now Tick (told_by (happened.Tick g) b (state_shown w false)) v.hand) ends (tick_all s past now (state_shown w false) g (λ d b. ap as_shown (states d b)) v.hand few given) in
    let told_later_is : tolds see now Tick ≡ map act_of (told_to says v.hand) = ap (filter_map (told_later see now Tick)) l.hand_is ∙ tolds_are see now Tick says v.hand all in
    let called : Tick ∷ (map Sent fs ++ map act_of (told_to says v.hand)) ≡ Tick ∷ calls s past Tick
    = ap (λ (x : List Act). Tick ∷ x)
    (sym (ap (λ (x : List Act). map Sent (frames_in s past Tick) ++ x) told_later_is ∙ ap (λ (gs : List Frame). map Sent gs ++ map act_of (told_to says v.hand)) c.framed)) in
    let hand : in_hand (ended s past Tick) ≡ left_by says v.hand
    = (end_of s past Tick 0).hand_is ∙ (told_off_all s past Tick (hand_distinct s past m.run)
    ∙ (ap (filter (stays see now Tick)) l.hand_is ∙ stays_left see now Tick says v.hand all)) in
    let runs : Runs new (ended s past Tick) = record {
      seen = acts;
      fits = c.fits;
      same = same ∙ sym wires;
      waits = left_wait_on (happened.Tick g) (state_shown w false) e v.hand;
      probe_is = probe_then s v past w ups g e l t c;
      lanes_fit = λ d b z o. tick_lane s v past w d l c wires same b z o;
    } in
    let there : Fits new (ended s past Tick) = record { hand_is = hand; lost_is = lost_on s past Tick ∙ m.fits.lost_is; runs = subst (λ (b : Bool). RunsUnless b new (ended s past Tick)) (sym lost) runs } in
    record {
      called = called;
      setting = record { role_is = m.setting.role_is; n1_is = m.setting.n1_is ∙ sym (ap (λ (x : sending.StationSetting). x.n1) t.goes_on.setting); dialect_is = m.setting.dialect_is; listens_are = m.setting.listens_are };
      fits = subst (λ (x : List Act). Fits new (after past x)) (sym called) there;
      run = subst (λ (x : List Act). IsRun s (after past x)) (sym called) (goes_on s past Tick refl tt m.run m.numbers);
    }

drop_front : (xs ys : List Frame) → drop (length xs) (xs ++ ys) ≡ ys
drop_front [] ys = refl
drop_front (x ∷ xs) ys = drop_front xs ys

-- the same, where what was sent is read off the control queue
pub tick_since : (v new : Core) (w : Station) (ups : List GivenUp) (g e : Bool) → v.station.role ≡ Initiator → v.lost ≡ false → Ticks v w ups g e
    → new ≡ record v { station = w; hand = left_by (told_by (happened.Tick g) e (state_shown w false)) v.hand }
    → Handles v new Tick (Tick ∷ (map Sent (drop (length v.station.queue) w.queue) ++ map act_of (told_to (told_by (happened.Tick g) e (state_shown w false)) v.hand)))
unfolding Handles
tick_since v new w ups g e role lost t n s past m =
    let l = live_of s v past Tick role lost m in
    let c = tick_comes s v past w ups g e l t in
    let told = map act_of (told_to (told_by (happened.Tick g) e (state_shown w false)) v.hand) in
    let since : drop (length v.station.queue) w.queue ≡ tick_frames v.station = ap (drop (length v.station.queue)) c.queued ∙ drop_front v.station.queue (tick_frames v.station) in
    subst (λ (x : Core). GoesOn s x past Tick (Tick ∷ (map Sent (drop (length v.station.queue) w.queue) ++ told))) (sym n)
    (subst (λ (fs : List Frame). GoesOn s (record v { station = w; hand = left_by (told_by (happened.Tick g) e (state_shown w false)) v.hand }) past Tick (Tick ∷ (map Sent fs ++ told))) (sym since)
    (tick_on s v past w ups g e l m t lost))

-- each connection that waits for an answer may send one frame more, with no information
pub tick_queues : (v new : Core) (w : Station) (ups : List GivenUp) (g e : Bool) → v.station.role ≡ Initiator → v.lost ≡ false → Ticks v w ups g e → new.station ≡ w → QueuesAtMost (asking_from v.station 0 62) 0 v new Tick
unfolding QueuesAtMost
tick_queues v new w ups g e role lost t n s past m =
    let l = live_of s v past Tick role lost m in
    let c = tick_comes s v past w ups g e l t in
    let new_is : new_frames v new ≡ drop (length v.station.queue) w.queue = ap (λ (x : Station). drop (length v.station.queue) x.queue) n in
    let since : new_frames v new ≡ tick_frames v.station = new_is ∙ (ap (drop (length v.station.queue)) c.queued ∙ drop_front v.station.queue (tick_frames v.station)) in
    sym (bare_cut (take (asking_from v.station 0 62) (new_frames v new)))
    ∙ (ap (λ (fs : List Frame). map bared (take (asking_from v.station 0 62) fs)) new_is ∙ (read_back v.station w.queue c.queued ∙ sym since))

-- ## After a loss

none_either : (b : Bool) (fs : List Frame) → b ≡ true → (if b then [] else fs) ≡ []
none_either true fs h = refl
none_either false fs h = cc

-- after a loss of the line a tick calls for nothing, and changes nothing
pub tick_lost : (v new : Core) (acts : List code.Act) → v.lost ≡ true → new ≡ v → acts ≡ code.TheVariants.Tick ∷ [] → Handles v new Tick (map act_of acts)
unfolding Handles
tick_lost v new acts lost n h s past m =
    let see = seen s past in
    let now = now_in s past Tick in
    let none : v.hand ≡ [] = subst (λ (b : Bool). RunsUnless b v past) lost m.fits.runs in
    let empty : in_hand past ≡ [] = m.fits.hand_is ∙ none in
    let framed : frames_in s past Tick ≡ [] = none_either (is_lost past) _ (m.fits.lost_is ∙ lost) in
    let called : Tick ∷ [] ≡ Tick ∷ calls s past Tick
    = ap (λ (x : List Act). Tick ∷ x)
    (sym (ap (λ (rs : List Request). map Sent (frames_in s past Tick) ++ filter_map (told_later see now Tick) rs) empty ∙ ap (λ (gs : List Frame). map Sent gs ++ []) framed)) in
    let hand : in_hand (ended s past Tick) ≡ v.hand
    = (end_of s past Tick 0).hand_is ∙ (told_off_all s past Tick (hand_distinct s past m.run) ∙ (ap (filter (stays see now Tick)) empty ∙ sym none)) in
    let there : Fits v (ended s past Tick) = record { hand_is = hand; lost_is = lost_on s past Tick ∙ m.fits.lost_is; runs = subst (λ (b : Bool). RunsUnless b v (ended s past Tick)) (sym lost) none } in
    subst (λ (x : List code.Act). GoesOn s new past Tick (map act_of x)) (sym h)
    (subst (λ (x : Core). GoesOn s x past Tick (Tick ∷ [])) (sym n) (record {
      called = called;
      setting = m.setting;
      fits = subst (λ (x : List Act). Fits v (after past x)) (sym called) there;
      run = subst (λ (x : List Act). IsRun s (after past x)) (sym called) (goes_on s past Tick refl tt m.run m.numbers);
    }))
