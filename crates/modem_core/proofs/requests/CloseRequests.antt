-- A connection is to be closed.
use Rattle.std.specs.Prelude.{◌≡◌, ℕ, ◌<◌, ◌==◌, ◌&&◌, not, Bool, true, false, List, [], ◌∷◌, ◌++◌, length, refl, Option, Some, None, option_map, if◌then◌else◌}
use Rattle.std.proofs.Common.{ap, sym, ◌∙◌, arith}
use Rattle.std.proofs.lemmas.Bool.{eq-eqb}
use Rattle.mux_frame.specs.Frames.{Frame}
use Rattle.mux_frame.specs.declared.dlci.Dlci.{Dlci}
use Rattle.mux_frame.specs.declared.frame.Kind.TheVariants.{Disc}
use Rattle.mux_station.specs.declared.role.Role.{Role}
use Rattle.mux_station.specs.declared.role.Role.TheVariants.{Initiator}
use Rattle.mux_station.specs.declared.error.StationError.{StationError}
use Rattle.mux_station.specs.declared.error.StationError.TheVariants as why
use Rattle.mux_station.specs.Acts as station
use Rattle.mux_station.specs.Written.{written}
use Rattle.mux_station.specs.Tables.{has_room, octets_of}
use Rattle.mux_station.specs.States.{State, IsShut, IsOpening, IsOpened, IsClosing, IsStopping, is_opened, is_shut, at_sent, state_of}
use Rattle.mux_station.specs.Stages.{as_shown}
use Rattle.mux_station.specs.Sending as sending
use Rattle.mux_station.specs.Sending.{refused, or_else, probe_of}
use Rattle.mux_station.specs.Stations.{Station, channel_at, setting_of, seen_in}
use Rattle.mux_station.specs.Fitting as station_fits
use Rattle.mux_station.proofs.user_calls.CallFrames.{state_called, state_sent, probe_sent, probe_called}
use Rattle.modem_desk.specs.declared.request.Ask.TheVariants.{CloseChannel, Probe}
use Rattle.modem_desk.specs.declared.request.Request.{Request}
use Rattle.modem_desk.specs.declared.request.Answer.{Answer}
use Rattle.modem_desk.specs.declared.request.Answer.TheVariants.{NotOpen, ControlChannel, Busy}
use Rattle.modem_core.specs.declared.telling.Happened.TheVariants as happened
use Rattle.modem_history.specs.Acts.{Act, Took, wire}
use Rattle.modem_history.specs.Information.{command_on}
use Rattle.modem_history.specs.Calls.{Setting, seen, asking, refused_ask}
use Rattle.modem_core.specs.Telling.{told_by, left_by}
use Rattle.modem_core.specs.Doing.{AsksAlone, MayTake}
use Rattle.modem_core.specs.Refusals.{refusal_answer}
use Rattle.modem_core.specs.Cores.{Core, MayCome, may_wait, is_closing, state_shown, probe_in}
use Rattle.modem_history.proofs.calls.CallEnds.{ended}
use Rattle.modem_core.proofs.cores.UnchangedParts.{is_probe, probe_more}
use Rattle.modem_core.proofs.requests.TakenRequests.{Live, probe_kept}
use Rattle.modem_core.proofs.requests.AcceptedRequests.{Accepts, refused_alone}
use Rattle.modem_core.proofs.requests.OneFrameRequests.{Asks, past_then, asked_fits, kept_states, asked_accepts, probe_left}

-- ## What it is told at once

told_close : Bool → Bool → Bool → Bool → Option Answer
told_close zero shut opened room = if zero then Some ControlChannel else if shut then Some NotOpen else if not (opened && (room && true)) then Some Busy else None

refused_close : Bool → Bool → Bool → Bool → Option StationError
refused_close zero shut opened room =
    or_else (if zero then Some why.ControlChannel else if shut then Some why.NotOpen else if not opened then Some why.Busy else None) (if room && true then None else Some why.NoRoom)

same_told : (zero shut opened room : Bool) → told_close zero shut opened room ≡ option_map refusal_answer (refused_close zero shut opened room)
unfolding told_close refused_close
same_told true shut opened room = refl
same_told false true opened room = refl
same_told false false false room = refl
same_told false false true true = refl
same_told false false true false = refl

-- what the past tells a closing at once is what the station refuses it for
pub close_told : (s : Setting) (v : Core) (past : List Act) (d : Dlci) → Live s v past → refused_ask s (seen s past) (CloseChannel d) ≡ option_map refusal_answer (refused (setting_of v.station) (seen_in v.station) (station.Close d.number))
unfolding told_close refused_close
close_told s v past d l =
    let st = v.station in
    let n = d.number in
    let own = state_of s.role n (wire past) in
    let told : Role → ℕ → State → ℕ → Option Answer
    = λ (r : Role) (n1 : ℕ) (y : State) (queued : ℕ). told_close (n == 0) (is_shut y) (is_opened y) (has_room n1 queued (written r Disc n [])) in
    ap (λ (r : Role). told r s.n1 own (seen s past).queued) l.same_role
    ∙ (ap (λ (n1 : ℕ). told st.role n1 own (seen s past).queued) l.n1_is
    ∙ (ap (λ (y : State). told st.role st.n1 y (seen s past).queued) (l.states_are n d.in_range)
    ∙ (ap (λ (m : ℕ). told st.role st.n1 (channel_at st n).state m) l.queued_is
    ∙ same_told (n == 0) (is_shut (channel_at st n).state) (is_opened (channel_at st n).state) (has_room st.n1 (octets_of st.queue) (written st.role Disc n [])))))

-- what a station that isn't refused knows of the connection
record Free (zero opened : Bool) : Type 0 where
  not_zero : zero ≡ false
  was_opened : opened ≡ true

free_by : (zero shut opened room : Bool) → refused_close zero shut opened room ≡ None → Free zero opened
unfolding refused_close
free_by true shut opened room h = cc
free_by false true opened room h = cc
free_by false false false room h = cc
free_by false false true room h = record { not_zero = refl; was_opened = refl }

free_of : (v : Station) (d : ℕ) → refused (setting_of v) (seen_in v) (station.Close d) ≡ None → Free (d == 0) (is_opened (channel_at v d).state)
unfolding refused_close
free_of v d h = free_by (d == 0) (is_shut (channel_at v d).state) (is_opened (channel_at v d).state) (has_room v.n1 (octets_of v.queue) (written v.role Disc d [])) h

-- one state alone is opened
pub opened_is : (s : State) → is_opened s ≡ true → s ≡ IsOpened
opened_is IsOpened h = refl
opened_is IsShut h = cc
opened_is (IsOpening n) h = cc
opened_is (IsClosing n) h = cc
opened_is (IsStopping n) h = cc

-- ## It is accepted

abbrev disc : ℕ → Role → Frame
disc n r = written r Disc n []

-- the call was taken
pub record Closes (v : Core) (w : Station) (q : Request) (d : Dlci) : Type 0 where
  pub asks : q.ask ≡ CloseChannel d
  pub taken_on : refused (setting_of v.station) (seen_in v.station) (station.Close d.number) ≡ None
  pub goes_on : station_fits.StationHandles v.station w (station.Called (station.Close d.number))

close_asks : (v : Core) (w : Station) (q : Request) (d : Dlci) → Closes v w q d → Asks v w q (station.Close d.number) (disc d.number)
close_asks v w q d o = record {
  asks = λ r. ap (asking r) o.asks;
  call_asks = λ r. refl;
  in_range = d.in_range;
  taken_on = o.taken_on;
  goes_on = o.goes_on;
  no_offer = λ e. refl;
  no_command = λ e. ap (command_on e) o.asks;
}

-- where a connection is Opened 0 is
pub running_by : (v : Station) (past : List station.Act) (n : ℕ) → station_fits.StationFits v past → n < 62 → (n == 0) ≡ false → is_opened (channel_at v n).state ≡ true → is_opened (channel_at v 0).state ≡ true
running_by v past n f b z o = by_zero (is_opened (channel_at v 0).state) refl
  where
    by_zero : (x : Bool) → is_opened (channel_at v 0).state ≡ x → is_opened (channel_at v 0).state ≡ true
    by_zero true e = e
    by_zero false e = absurd (let x : true ≡ false = sym o ∙ ap is_opened (f.others_shut e n b z) in cc)

-- nothing is so and isn't
pub and_not : (b : Bool) → (b && not b) ≡ false
and_not true = refl
and_not false = refl

-- a closing that the station took is accepted, and 0 stays as it was
pub close_accepts : (v : Core) (w : Station) (q : Request) (d : Dlci) → length v.hand < 128 → Closes v w q d → (s : Setting) (past : List Act) → Live s v past → MayCome s v past (Took q) → Accepts s v past q w false
close_accepts v w q d few o s past l m =
    let n = d.number in
    let st = v.station in
    let c = station.Close n in
    let f = disc n in
    let a = close_asks v w q d o in
    let free = free_of st n o.taken_on in
    let acts = past_then s v past l c f in
    let before = station.Called c ∷ l.runs.seen in
    let state : (e : ℕ) → e < 62 → (channel_at w e).state ≡ (if n == e then at_sent (channel_at st e).state Disc else (channel_at st e).state)
    = λ e b. kept_states v w q c f s past a l e b
    ∙ (state_sent st.role e before (f st.role) refl free.not_zero
    ∙ ap (λ (x : State). if n == e then at_sent x Disc else x) (state_called st.role e l.runs.seen c ∙ (l.runs.fits.channels_are e b).state_is)) in
    let zero : (channel_at w 0).state ≡ (channel_at st 0).state = state 0 (omega arith) ∙ ap (λ (b : Bool). if b then at_sent (channel_at st 0).state Disc else (channel_at st 0).state) free.not_zero in
    let closing : (channel_at w n).state ≡ IsClosing 0
    = state n d.in_range ∙ (ap (λ (b : Bool). if b then at_sent (channel_at st n).state Disc else (channel_at st n).state) (eq-eqb n n refl)
    ∙ ap (λ (x : State). at_sent x Disc) (opened_is (channel_at st n).state free.was_opened)) in
    let says = told_by happened.Took false (state_shown w false) in
    let fits = asked_fits v w q c f s past a l in
    let same_zero : state_of st.role 0 acts ≡ state_of st.role 0 before
    = state_sent st.role 0 before (f st.role) refl free.not_zero ∙ ap (λ (b : Bool). if b then at_sent (state_of st.role 0 before) Disc else state_of st.role 0 before) free.not_zero in
    let probe : w.probe ≡ st.probe
    = sym fits.probe_is ∙ (ap (λ (x : sending.StationSetting). probe_of x acts) o.goes_on.setting ∙ (probe_sent (setting_of st) before (f st.role) same_zero ∙ (probe_called (setting_of st) l.runs.seen c refl ∙ l.runs.fits.probe_is))) in
    let past' = ended s past (Took q) in
    let probe_here : probe_in past' (left_by says v.hand ++ q ∷ []) ≡ w.probe
    = probe_more past' (left_by says v.hand) q (ap is_probe o.asks)
    ∙ (probe_left past' says v.hand (λ octets. ap (λ (x : State). told_by happened.Took false (λ e. as_shown x) (Probe octets)) (zero ∙ opened_is (channel_at st 0).state (running_by st l.runs.seen n l.runs.fits d.in_range free.not_zero free.was_opened)))
    ∙ (probe_kept s v past q m ∙ (l.runs.probe_is ∙ sym probe))) in
    asked_accepts v w q c f false few a s past l
    (ap (refused_ask s (seen s past)) o.asks ∙ (close_told s v past d l ∙ ap (option_map refusal_answer) o.taken_on))
    (ap (λ (x : State). is_opened (channel_at st 0).state && not (is_opened x)) zero ∙ and_not (is_opened (channel_at st 0).state))
    (ap (may_wait (state_shown w false)) o.asks ∙ ap (λ (x : State). is_closing (as_shown x)) closing) probe_here

-- ## It is refused

-- one that the station refuses is handled by telling it why
pub close_refused : (v new : Core) (q : Request) (d : Dlci) (why : StationError) → v.station.role ≡ Initiator → MayTake v q (CloseChannel d)
    → refused (setting_of v.station) (seen_in v.station) (station.Close d.number) ≡ Some why → new ≡ v → AsksAlone v new q (Some (refusal_answer why))
close_refused v new q d why role may h n = refused_alone v new q (CloseChannel d) (refusal_answer why) role may n (λ s past l. close_told s v past d l ∙ ap (option_map refusal_answer) h)
