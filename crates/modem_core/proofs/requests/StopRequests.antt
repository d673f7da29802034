-- The multiplexer is to be ended.
use Rattle.std.specs.Prelude.{◌≡◌, ℕ, ◌<◌, ◌&&◌, not, Bool, true, false, List, [], ◌∷◌, length, refl, Option, Some, None, is_none, option_map, if◌then◌else◌}
use Rattle.std.proofs.Common.{ap, sym, ◌∙◌, arith}
use Rattle.mux_frame.specs.Frames.{Frame}
use Rattle.mux_station.specs.declared.role.Role.{Role}
use Rattle.mux_station.specs.declared.role.Role.TheVariants.{Initiator}
use Rattle.mux_station.specs.declared.error.StationError.{StationError}
use Rattle.mux_station.specs.declared.error.StationError.TheVariants as why
use Rattle.mux_station.specs.Acts as station
use Rattle.mux_station.specs.Messages.{cld}
use Rattle.mux_station.specs.Tables.{message_frame, has_room, octets_of}
use Rattle.mux_station.specs.States.{State, IsStopping, is_opened, state_of}
use Rattle.mux_station.specs.Stages.{as_shown}
use Rattle.mux_station.specs.Sending as sending
use Rattle.mux_station.specs.Sending.{refused, or_else, probe_of}
use Rattle.mux_station.specs.Stations.{Station, channel_at, setting_of, seen_in}
use Rattle.mux_station.specs.Fitting as station_fits
use Rattle.mux_station.proofs.states.StatesAfterActs.{state_next}
use Rattle.mux_station.proofs.user_calls.CallFrames.{probe_needs}
use Rattle.modem_desk.specs.declared.request.Ask.TheVariants.{Probe, Stop}
use Rattle.modem_desk.specs.declared.request.Request.{Request}
use Rattle.modem_desk.specs.declared.request.Answer.{Answer}
use Rattle.modem_desk.specs.declared.request.Answer.TheVariants.{NotOpen, Busy}
use Rattle.modem_core.specs.declared.telling.Happened.TheVariants as happened
use Rattle.modem_history.specs.Acts.{Act, Took, wire}
use Rattle.modem_history.specs.Information.{command_on}
use Rattle.modem_history.specs.Calls.{Setting, seen, asking, refused_ask}
use Rattle.modem_core.specs.Telling.{told_by, left_by}
use Rattle.modem_core.specs.Doing.{AsksAlone, MayTake}
use Rattle.modem_core.specs.Refusals.{refusal_answer}
use Rattle.modem_core.specs.Cores.{Core, MayCome, may_wait, shows_stopping, state_shown, probe_in}
use Rattle.modem_history.proofs.calls.CallEnds.{ended}
use Rattle.modem_core.proofs.cores.UnchangedParts.{is_probe, probe_more}
use Rattle.modem_core.proofs.requests.TakenRequests.{Live}
use Rattle.modem_core.proofs.requests.AcceptedRequests.{Accepts, refused_alone}
use Rattle.modem_core.proofs.requests.OneFrameRequests.{Asks, past_then, asked_fits, kept_states, asked_accepts, probe_gone}

-- ## What it is told at once

told_stop : Bool → Bool → Option Answer
told_stop running room = if not running then Some NotOpen else if not (room && true) then Some Busy else None

refused_stop : Bool → Bool → Option StationError
refused_stop running room = or_else (if not running then Some why.NotOpen else None) (if room && true then None else Some why.NoRoom)

same_told : (running room : Bool) → told_stop running room ≡ option_map refusal_answer (refused_stop running room)
unfolding told_stop refused_stop
same_told false room = refl
same_told true true = refl
same_told true false = refl

-- what the past tells a stop at once is what the station refuses it for
pub stop_told : (s : Setting) (v : Core) (past : List Act) → Live s v past → refused_ask s (seen s past) Stop ≡ option_map refusal_answer (refused (setting_of v.station) (seen_in v.station) station.Stop)
unfolding told_stop refused_stop
stop_told s v past l =
    let st = v.station in
    let z = state_of s.role 0 (wire past) in
    let told : Role → ℕ → State → ℕ → Option Answer = λ (r : Role) (n1 : ℕ) (x : State) (queued : ℕ). told_stop (is_opened x) (has_room n1 queued (message_frame r cld [])) in
    ap (λ (r : Role). told r s.n1 z (seen s past).queued) l.same_role
    ∙ (ap (λ (n1 : ℕ). told st.role n1 z (seen s past).queued) l.n1_is
    ∙ (ap (λ (x : State). told st.role st.n1 x (seen s past).queued) (l.states_are 0 (omega arith))
    ∙ (ap (λ (m : ℕ). told st.role st.n1 (channel_at st 0).state m) l.queued_is
    ∙ same_told (is_opened (channel_at st 0).state) (has_room st.n1 (octets_of st.queue) (message_frame st.role cld [])))))

running_by : (running room : Bool) → refused_stop running room ≡ None → running ≡ true
unfolding refused_stop
running_by true room h = refl
running_by false room h = cc

running_of : (v : Station) → refused (setting_of v) (seen_in v) station.Stop ≡ None → is_opened (channel_at v 0).state ≡ true
unfolding refused_stop
running_of v h = running_by (is_opened (channel_at v 0).state) (has_room v.n1 (octets_of v.queue) (message_frame v.role cld [])) h

-- ## It is accepted

abbrev close_down : Role → Frame
close_down r = message_frame r cld []

-- the call was taken
pub record Stops (v : Core) (w : Station) (q : Request) : Type 0 where
  pub asks : q.ask ≡ Stop
  pub taken_on : refused (setting_of v.station) (seen_in v.station) station.Stop ≡ None
  pub goes_on : station_fits.StationHandles v.station w (station.Called station.Stop)

stop_asks : (v : Core) (w : Station) (q : Request) → Stops v w q → Asks v w q station.Stop close_down
stop_asks v w q o = record {
  asks = λ r. ap (asking r) o.asks;
  call_asks = λ r. refl;
  in_range = omega arith;
  taken_on = o.taken_on;
  goes_on = o.goes_on;
  no_offer = λ e. refl;
  no_command = λ e. ap (command_on e) o.asks;
}

-- a stop that the station took is accepted, and by it 0 is Opened no more
pub stop_accepts : (v : Core) (w : Station) (q : Request) → length v.hand < 128 → Stops v w q → (s : Setting) (past : List Act) → Live s v past → MayCome s v past (Took q) → Accepts s v past q w true
stop_accepts v w q few o s past l m =
    let st = v.station in
    let c = station.Stop in
    let a = stop_asks v w q o in
    let running = running_of st o.taken_on in
    let acts = past_then s v past l c close_down in
    let stopped : state_of st.role 0 acts ≡ IsStopping 0 = state_next st.role 0 (station.Called c ∷ l.runs.seen) (station.Sent (close_down st.role)) in
    let zero : (channel_at w 0).state ≡ IsStopping 0 = kept_states v w q c close_down s past a l 0 (omega arith) ∙ stopped in
    let says = told_by happened.Took true (state_shown w false) in
    let fits = asked_fits v w q c close_down s past a l in
    let past' = ended s past (Took q) in
    let gone : probe_in past' (left_by says v.hand) ≡ None
    = probe_gone past' says v.hand (λ octets. ap (λ (x : State). is_none (told_by happened.Took true (λ e. as_shown x) (Probe octets))) zero) in
    let probe : w.probe ≡ None
    = sym fits.probe_is ∙ (ap (λ (x : sending.StationSetting). probe_of x acts) o.goes_on.setting ∙ probe_needs (setting_of st) acts (ap is_opened stopped)) in
    asked_accepts v w q c close_down true few a s past l
    (ap (refused_ask s (seen s past)) o.asks ∙ (stop_told s v past l ∙ ap (option_map refusal_answer) o.taken_on))
    (ap (λ (x : State). is_opened (channel_at st 0).state && not (is_opened x)) zero ∙ ap (λ (b : Bool). b && true) running)
    (ap (may_wait (state_shown w false)) o.asks ∙ ap (λ (x : State). shows_stopping (as_shown x)) zero)
    (probe_more past' (left_by says v.hand) q (ap is_probe o.asks) ∙ (gone ∙ sym probe))

-- ## It is refused

-- one that the station refuses is handled by telling it why
pub stop_refused : (v new : Core) (q : Request) (why : StationError) → v.station.role ≡ Initiator → MayTake v q Stop
    → refused (setting_of v.station) (seen_in v.station) station.Stop ≡ Some why → new ≡ v → AsksAlone v new q (Some (refusal_answer why))
stop_refused v new q why role may h n = refused_alone v new q Stop (refusal_answer why) role may n (λ s past l. stop_told s v past l ∙ ap (option_map refusal_answer) h)
