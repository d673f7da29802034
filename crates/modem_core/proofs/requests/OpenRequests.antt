-- A connection is to be opened.
use Rattle.std.specs.Prelude.{◌≡◌, ℕ, ◌<◌, ◌==◌, ◌&&◌, not, Bool, true, false, List, [], ◌∷◌, ◌++◌, length, refl, Option, Some, None, option_map, if◌then◌else◌}
use Rattle.std.specs.List.{list_all}
use Rattle.std.proofs.Common.{ap, sym, ◌∙◌, arith, eqb-true}
use Rattle.std.proofs.lemmas.Bool.{and_parts, and_from, eq-eqb}
use Rattle.mux_frame.specs.Frames.{Frame}
use Rattle.mux_frame.specs.declared.dlci.Dlci.{Dlci}
use Rattle.mux_frame.specs.declared.frame.Kind.TheVariants.{Sabm}
use Rattle.mux_station.specs.declared.role.Role.{Role}
use Rattle.mux_station.specs.declared.role.Role.TheVariants.{Initiator}
use Rattle.mux_station.specs.declared.role.ChannelState.{ChannelState}
use Rattle.mux_station.specs.declared.role.ChannelState.TheVariants as is
use Rattle.mux_station.specs.declared.error.StationError.{StationError}
use Rattle.mux_station.specs.declared.error.StationError.TheVariants as why
use Rattle.mux_station.specs.Acts as station
use Rattle.mux_station.specs.Written.{written}
use Rattle.mux_station.specs.Tables.{has_room, octets_of}
use Rattle.mux_station.specs.States.{State, IsShut, IsOpening, IsOpened, IsClosing, IsStopping, is_opened, is_shut, at_sent, state_of}
use Rattle.mux_station.specs.Stages.{as_shown}
use Rattle.mux_station.specs.Sending as sending
use Rattle.mux_station.specs.Sending.{refused, or_else, sent_after, probe_of}
use Rattle.mux_station.specs.Stations.{Station, channel_at, setting_of, seen_in}
use Rattle.mux_station.specs.Fitting as station_fits
use Rattle.mux_station.specs.Traces.{without_calls}
use Rattle.mux_station.proofs.user_calls.CallFrames.{state_called, state_sent, on_sent, probe_needs, probe_sent, probe_called, probe_none}
use Rattle.modem_desk.specs.declared.request.Ask.{Ask}
use Rattle.modem_desk.specs.declared.request.Ask.TheVariants.{OpenChannel, CloseChannel, Command, Probe, Stop}
use Rattle.modem_desk.specs.declared.request.Request.{Request}
use Rattle.modem_desk.specs.declared.request.Answer.{Answer}
use Rattle.modem_desk.specs.declared.request.Answer.TheVariants.{NotOpen, AlreadyOpen, Busy}
use Rattle.modem_core.specs.declared.telling.Happened.TheVariants as happened
use Rattle.modem_history.specs.Acts.{Act, Took, wire}
use Rattle.modem_history.specs.Information.{command_on}
use Rattle.modem_history.specs.Calls.{Setting, seen, asking, at_once, refused_ask}
use Rattle.modem_core.specs.Telling.{told_by, left_by}
use Rattle.modem_core.specs.Doing.{AsksAlone, MayTake}
use Rattle.modem_core.specs.Refusals.{refusal_answer}
use Rattle.modem_core.specs.Cores.{Core, MayCome, may_wait, shows_opening, is_closing, shows_opened as channel_opened, shows_stopping, state_shown, probe_in}
use Rattle.modem_history.proofs.calls.CallEnds.{now_in, ended}
use Rattle.modem_core.proofs.cores.UnchangedParts.{is_probe, probe_more}
use Rattle.modem_core.proofs.requests.TakenRequests.{Live, AllWait, all_left, asked_frames, probe_kept}
use Rattle.modem_core.proofs.requests.AcceptedRequests.{Accepts, called_fits, once_is, state_then, refused_alone, plain_offered}

-- ## What it is told at once

told_open : Bool → Bool → Bool → Bool → Bool → Option Answer
told_open zero running opened shut room =
    if not zero && not running then Some NotOpen else if opened then Some AlreadyOpen else if not (shut && (room && true)) then Some Busy else None

refused_open : Bool → Bool → Bool → Bool → Bool → Option StationError
refused_open zero running opened shut room =
    or_else (if not zero && not running then Some why.NotOpen else if opened then Some why.AlreadyOpen else if not shut then Some why.Busy else None) (if room && true then None else Some why.NoRoom)

same_told : (zero running opened shut room : Bool) → told_open zero running opened shut room ≡ option_map refusal_answer (refused_open zero running opened shut room)
unfolding told_open refused_open
same_told false false opened shut room = refl
same_told true running true shut room = refl
same_told false true true shut room = refl
same_told true running false false room = refl
same_told false true false false room = refl
same_told true running false true true = refl
same_told false true false true true = refl
same_told true running false true false = refl
same_told false true false true false = refl

-- what the past tells an opening at once is what the station refuses it for
pub open_told : (s : Setting) (v : Core) (past : List Act) (d : Dlci) → Live s v past → refused_ask s (seen s past) (OpenChannel d) ≡ option_map refusal_answer (refused (setting_of v.station) (seen_in v.station) (station.Open d.number))
unfolding told_open refused_open
open_told s v past d l =
    let st = v.station in
    let n = d.number in
    let z = state_of s.role 0 (wire past) in
    let own = state_of s.role n (wire past) in
    let told : Role → ℕ → State → State → ℕ → Option Answer
    = λ (r : Role) (n1 : ℕ) (x y : State) (queued : ℕ). told_open (n == 0) (is_opened x) (is_opened y) (is_shut y) (has_room n1 queued (written r Sabm n [])) in
    ap (λ (r : Role). told r s.n1 z own (seen s past).queued) l.same_role
    ∙ (ap (λ (n1 : ℕ). told st.role n1 z own (seen s past).queued) l.n1_is
    ∙ (ap (λ (x : State). told st.role st.n1 x own (seen s past).queued) (l.states_are 0 (omega arith))
    ∙ (ap (λ (y : State). told st.role st.n1 (channel_at st 0).state y (seen s past).queued) (l.states_are n d.in_range)
    ∙ (ap (λ (m : ℕ). told st.role st.n1 (channel_at st 0).state (channel_at st n).state m) l.queued_is
    ∙ same_told (n == 0) (is_opened (channel_at st 0).state) (is_opened (channel_at st n).state) (is_shut (channel_at st n).state) (has_room st.n1 (octets_of st.queue) (written st.role Sabm n []))))))

-- what a station that isn't refused knows of its connections
record Free (zero running shut : Bool) : Type 0 where
  was_shut : shut ≡ true
  runs : zero ≡ false → running ≡ true

free_by : (zero running opened shut room : Bool) → refused_open zero running opened shut room ≡ None → Free zero running shut
unfolding refused_open
free_by false false opened shut room h = cc
free_by true running true shut room h = cc
free_by false true true shut room h = cc
free_by true running false false room h = cc
free_by false true false false room h = cc
free_by true running false true room h = record { was_shut = refl; runs = λ e. absurd (let x : true ≡ false = e in cc) }
free_by false true false true room h = record { was_shut = refl; runs = λ e. refl }

free_of : (v : Station) (d : ℕ) → refused (setting_of v) (seen_in v) (station.Open d) ≡ None → Free (d == 0) (is_opened (channel_at v 0).state) (is_shut (channel_at v d).state)
unfolding refused_open
free_of v d h = free_by (d == 0) (is_opened (channel_at v 0).state) (is_opened (channel_at v d).state) (is_shut (channel_at v d).state) (has_room v.n1 (octets_of v.queue) (written v.role Sabm d [])) h

shut_is : (s : State) → is_shut s ≡ true → s ≡ IsShut
shut_is IsShut h = refl
shut_is (IsOpening n) h = cc
shut_is IsOpened h = cc
shut_is (IsClosing n) h = cc
shut_is (IsStopping n) h = cc

-- ## The states then

and_not : (b : Bool) → (b && not b) ≡ false
and_not true = refl
and_not false = refl

-- 0 doesn't close by it
still_on : (b : Bool) (z now : State) → (b ≡ true → z ≡ IsShut) → now ≡ (if b then at_sent z Sabm else z) → (is_opened z && not (is_opened now)) ≡ false
still_on true z now h e = ap (λ (x : State). is_opened x && not (is_opened now)) (h refl)
still_on false z now h e = ap (λ (x : State). is_opened z && not (is_opened x)) e ∙ and_not (is_opened z)

-- what holds of another state than Shut holds still
pub still_waits : (old now : ℕ → ChannelState) (n : ℕ) → old n ≡ is.Shut → ((e : ℕ) → e < 62 → (n == e) ≡ false → now e ≡ old e)
    → (test : ChannelState → Bool) → test is.Shut ≡ false → (e : ℕ) → e < 62 → test (old e) ≡ true → test (now e) ≡ true
still_waits old now n shut same test off e b h = by_place (n == e) refl
  where
    by_place : (x : Bool) → (n == e) ≡ x → test (now e) ≡ true
    by_place true k =
        let place : n ≡ e = eqb-true n e k in
        let none : test (old e) ≡ false = ap (λ (m : ℕ). test (old m)) (sym place) ∙ (ap test shut ∙ off) in
        absurd (let x : true ≡ false = sym h ∙ none in cc)
    by_place false k = ap test (same e b k) ∙ h

-- so all who wait wait on
pub all_still : (old now : ℕ → ChannelState) (n : ℕ) → old n ≡ is.Shut → ((e : ℕ) → e < 62 → (n == e) ≡ false → now e ≡ old e) → (rs : List Request) → AllWait old rs → AllWait now rs
all_still old now n shut same [] h = refl
all_still old now n shut same (r ∷ rs) h =
    let hs = and_parts (may_wait old r.ask) (list_all (λ (x : Request). may_wait old x.ask) rs) h in
    and_from (may_wait now r.ask) (list_all (λ (x : Request). may_wait now x.ask) rs) (by_ask r.ask hs.0) (all_still old now n shut same rs hs.1)
  where
    by_ask : (ask : Ask) → may_wait old ask ≡ true → may_wait now ask ≡ true
    by_ask (OpenChannel d) k = still_waits old now n shut same shows_opening refl d.number d.in_range k
    by_ask (CloseChannel d) k = still_waits old now n shut same is_closing refl d.number d.in_range k
    by_ask (Command d line) k = still_waits old now n shut same channel_opened refl d.number d.in_range k
    by_ask (Probe octets) k = still_waits old now n shut same channel_opened refl 0 (omega arith) k
    by_ask Stop k = still_waits old now n shut same shows_stopping refl 0 (omega arith) k

abbrev sabm : Role → ℕ → Frame
sabm r n = written r Sabm n []

-- what the station shows then
after_sabm : (v w : Station) (n : ℕ) (past : List station.Act) → station_fits.StationFits v past → setting_of w ≡ setting_of v → station_fits.StationFits w (station.Sent (sabm v.role n) ∷ station.Called (station.Open n) ∷ past)
    → (e : ℕ) → e < 62 → (channel_at w e).state ≡ on_sent e (sabm v.role n) (channel_at v e).state
after_sabm v w n past f s g e b =
    let acts = station.Sent (sabm v.role n) ∷ station.Called (station.Open n) ∷ past in
    sym (g.channels_are e b).state_is
    ∙ (ap (λ (x : sending.StationSetting). state_of x.role e acts) s
    ∙ (state_sent v.role e (station.Called (station.Open n) ∷ past) (sabm v.role n) refl refl
    ∙ ap (on_sent e (sabm v.role n)) (state_called v.role e past (station.Open n) ∙ (f.channels_are e b).state_is)))

-- the probe waits on, or there is none
probe_stays : (s : sending.StationSetting) (past : List station.Act) (n : ℕ) (b : Bool) → (n == 0) ≡ b → (b ≡ true → is_opened (state_of s.role 0 past) ≡ false)
    → probe_of s (station.Sent (sabm s.role n) ∷ station.Called (station.Open n) ∷ past) ≡ probe_of s past
probe_stays s past n true k h =
    let none : probe_of s past ≡ None = probe_needs s past (h refl) in
    probe_none s (station.Called (station.Open n) ∷ past) (sabm s.role n) (probe_called s past (station.Open n) refl ∙ none) ∙ sym none
probe_stays s past n false k h =
    let before = station.Called (station.Open n) ∷ past in
    probe_sent s before (sabm s.role n) (state_sent s.role 0 before (sabm s.role n) refl refl ∙ ap (λ (x : Bool). if x then at_sent (state_of s.role 0 before) Sabm else state_of s.role 0 before) k)
    ∙ probe_called s past (station.Open n) refl

-- ## It is accepted

-- the call was taken
pub record Opens (v : Core) (w : Station) (q : Request) (d : Dlci) : Type 0 where
  pub asks : q.ask ≡ OpenChannel d
  pub taken_on : refused (setting_of v.station) (seen_in v.station) (station.Open d.number) ≡ None
  pub goes_on : station_fits.StationHandles v.station w (station.Called (station.Open d.number))

open_fits : (v : Core) (w : Station) (q : Request) (d : Dlci) (s : Setting) (past : List Act) → Opens v w q d → (l : Live s v past)
    → station_fits.StationFits w (station.Sent (sabm v.station.role d.number) ∷ station.Called (station.Open d.number) ∷ l.runs.seen)
open_fits v w q d s past o l = called_fits v.station w l.runs.seen (station.Open d.number) l.runs.fits d.in_range o.taken_on o.goes_on

-- those in hand wait on
pub open_waits : (v : Core) (w : Station) (q : Request) (d : Dlci) (s : Setting) (past : List Act) → Opens v w q d → Live s v past → AllWait (state_shown w false) v.hand
open_waits v w q d s past o l =
    let n = d.number in
    let free = free_of v.station n o.taken_on in
    let shut : (channel_at v.station n).state ≡ IsShut = shut_is (channel_at v.station n).state free.was_shut in
    all_still (state_shown v.station false) (state_shown w false) n (ap as_shown shut)
    (λ e b k. ap as_shown (after_sabm v.station w n l.runs.seen l.runs.fits o.goes_on.setting (open_fits v w q d s past o l) e b
    ∙ ap (λ (x : Bool). if x then at_sent (channel_at v.station e).state Sabm else (channel_at v.station e).state) k)) v.hand l.runs.waits

-- an opening that the station took is accepted, and 0 doesn't end by it
pub open_accepts : (v : Core) (w : Station) (q : Request) (d : Dlci) → length v.hand < 128 → Opens v w q d → (s : Setting) (past : List Act) → Live s v past → MayCome s v past (Took q) → Accepts s v past q w false
open_accepts v w q d few o s past l m =
    let n = d.number in
    let st = v.station in
    let c = station.Open n in
    let fs = sabm s.role n ∷ [] in
    let acts = station.Sent (sabm st.role n) ∷ station.Called c ∷ l.runs.seen in
    let free = free_of st n o.taken_on in
    let shut : (channel_at st n).state ≡ IsShut = shut_is (channel_at st n).state free.was_shut in
    let asked : asking s.role q.ask ≡ fs = ap (asking s.role) o.asks in
    let once : at_once s (seen s past) q ≡ None
    = once_is s v past q l few ∙ (ap (refused_ask s (seen s past)) o.asks ∙ (open_told s v past d l ∙ ap (option_map refusal_answer) o.taken_on)) in
    let fits : station_fits.StationFits w acts = open_fits v w q d s past o l in
    let same : without_calls acts ≡ sent_after (asking s.role q.ask) (wire past)
    = ap (λ (x : List station.Act). station.Sent (sabm st.role n) ∷ x) l.runs.same
    ∙ (ap (λ (r : Role). station.Sent (sabm r n) ∷ wire past) (sym l.same_role) ∙ ap (λ (gs : List Frame). sent_after gs (wire past)) (sym asked)) in
    let zero_shut : (n == 0) ≡ true → state_of s.role 0 (wire past) ≡ IsShut
    = λ k. l.states_are 0 (omega arith) ∙ (ap (λ (x : ℕ). (channel_at st x).state) (sym (eqb-true n 0 k)) ∙ shut) in
    let now0 : now_in s past (Took q) 0 ≡ (if n == 0 then at_sent (state_of s.role 0 (wire past)) Sabm else state_of s.role 0 (wire past))
    = state_then s past q fs 0 (asked_frames s past q l.lost_is once ∙ asked) ∙ state_sent s.role 0 (wire past) (sabm s.role n) refl refl in
    let opening : (channel_at w n).state ≡ IsOpening 0
    = after_sabm st w n l.runs.seen l.runs.fits o.goes_on.setting fits n d.in_range
    ∙ (ap (λ (x : Bool). if x then at_sent (channel_at st n).state Sabm else (channel_at st n).state) (eq-eqb n n refl) ∙ ap (λ (x : State). at_sent x Sabm) shut) in
    let waits : may_wait (state_shown w false) q.ask ≡ true = ap (may_wait (state_shown w false)) o.asks ∙ ap (λ (x : State). shows_opening (as_shown x)) opening in
    let hand : left_by (told_by happened.Took false (state_shown w false)) v.hand ≡ v.hand = all_left (state_shown w false) false v.hand (open_waits v w q d s past o l) in
    let probe0 : (n == 0) ≡ true → is_opened (state_of st.role 0 l.runs.seen) ≡ false
    = λ k. ap is_opened ((l.runs.fits.channels_are 0 (omega arith)).state_is ∙ (ap (λ (x : ℕ). (channel_at st x).state) (sym (eqb-true n 0 k)) ∙ shut)) in
    let probe : w.probe ≡ v.station.probe
    = sym fits.probe_is ∙ (ap (λ (x : sending.StationSetting). probe_of x acts) o.goes_on.setting ∙ (probe_stays (setting_of st) l.runs.seen n (n == 0) refl probe0 ∙ l.runs.fits.probe_is)) in
    let probe_here : probe_in (ended s past (Took q)) (left_by (told_by happened.Took false (state_shown w false)) v.hand ++ q ∷ []) ≡ w.probe
    = ap (λ (rs : List Request). probe_in (ended s past (Took q)) (rs ++ q ∷ [])) hand
    ∙ (probe_more (ended s past (Took q)) v.hand q (ap is_probe o.asks) ∙ (probe_kept s v past q m ∙ (l.runs.probe_is ∙ sym probe))) in
    record {
      once = once;
      acts_seen = acts;
      fits = fits;
      setting = o.goes_on.setting;
      same = same;
      ends = still_on (n == 0) (state_of s.role 0 (wire past)) (now_in s past (Took q) 0) zero_shut now0;
      waits = waits;
      probe_is = probe_here;
      offered_are = λ e b z h. plain_offered s v past q c (sabm st.role n ∷ []) e l b z same h refl (ap (command_on e) o.asks);
    }

-- ## It is refused

-- one that the station refuses is handled by telling it why
pub open_refused : (v new : Core) (q : Request) (d : Dlci) (why : StationError) → v.station.role ≡ Initiator → MayTake v q (OpenChannel d)
    → refused (setting_of v.station) (seen_in v.station) (station.Open d.number) ≡ Some why → new ≡ v → AsksAlone v new q (Some (refusal_answer why))
open_refused v new q d why role may h n = refused_alone v new q (OpenChannel d) (refusal_answer why) role may n (λ s past l. open_told s v past d l ∙ ap (option_map refusal_answer) h)
