-- A frame goes out: the core goes on with every history that it fits.
use Rattle.std.specs.Prelude.{suc, ◌≡◌, ℕ, ◌+◌, ◌<◌, ◌≤◌, ◌==◌, ◌&&◌, ◌||◌, not, nat_le, nat_eq, Bool, true, false, List, [], ◌∷◌, ◌++◌, length, take, drop, min, slice_set, slice_index_or, refl, Option, None, Some, option_map, is_none, if◌then◌else◌}
use Rattle.std.specs.List.{concat, list_any, starts_with}
use Rattle.std.proofs.Common.{ap, sym, ◌∙◌, subst, arith, get_or-set_same, get_or-set_other, eqb-true, length-append}
use Rattle.std.proofs.lemmas.Bool.{le-leb, eqb-false, ne_eqb}
use Rattle.std.proofs.lemmas.List.{length-take}
use Rattle.mux_frame.specs.Frames.{Frame}
use Rattle.mux_frame.specs.declared.frame.Kind.TheVariants.{Uih}
use Rattle.mux_station.specs.declared.role.Role.{Role}
use Rattle.mux_station.specs.declared.role.Role.TheVariants.{Initiator}
use Rattle.mux_station.specs.Acts as station
use Rattle.mux_station.specs.Written.{written, is_data_frame}
use Rattle.mux_station.specs.Messages.{cld, octet_is, message_of}
use Rattle.mux_station.specs.Opening.{is_open}
use Rattle.mux_station.specs.States.{is_opened, state_of}
use Rattle.mux_station.specs.Offering.{offered, data_out}
use Rattle.mux_station.specs.Stages.{as_shown}
use Rattle.mux_station.specs.Sending.{queue}
use Rattle.mux_station.specs.Stations.{Station, channel_at}
use Rattle.mux_station.specs.Giving as giving
use Rattle.mux_station.specs.Giving.{data_frame, data_given, station_after, after_given, GivesOn as StationGivesOn, SendsNext}
use Rattle.mux_station.specs.GivenFrames.{Outgoing, Turn, Data, with_freshness}
use Rattle.modem_core.specs.CoreKeeping.{IsKept}
use Rattle.mux_station.specs.Fitting as station_fits
use Rattle.mux_station.proofs.user_calls.CallFrames.{state_sent_uih}
use Rattle.mux_station.proofs.states.StationPasts.{open_fits}
use Rattle.at_text.specs.Dialects.{Dialect}
use Rattle.at_text.specs.declared.unsolicited.UrcKind.{UrcKind}
use Rattle.at_text.specs.Windows.{Mark, answered, open_window}
use Rattle.at_text.specs.UnderWay.{unanswered, answer_shown}
use Rattle.modem_desk.specs.declared.request.Request.{Request}
use Rattle.modem_core.specs.Lanes.{Lane, new_lane}
use Rattle.modem_history.specs.Acts.{Act, Sent, Given, wire, in_hand}
use Rattle.modem_history.specs.Information.{command_on, information_out, accepted, texts}
use Rattle.modem_history.specs.Requests.{commands_on}
use Rattle.modem_history.specs.Placing.{marks, reached_in}
use Rattle.modem_history.specs.Calls.{Setting, first_on, is_lost}
use Rattle.modem_history.specs.Lawful.{Lawful, Complete, Allows, Gated, Once, InTurn, IsNext, When, owed}
use Rattle.modem_history.specs.Wholes.{InStep, commands_for, StaysInStep}
use Rattle.modem_core.specs.Cores.{dialect_in, Core, LaneFits, Runs, RunsUnless, Fits, IsRun, IsSettingOf, lane_at, state_shown}
use Rattle.modem_core.specs.CoreGoing.{StandsIn, begun_by, begun_on, begun_next, gone_on, turn_in, GoesOut, CoreGoesOn}
use Rattle.modem_history.specs.GoingOut.{may_leave, waits_on, data_of, out_by, next_out, with_out, after_out}
use Rattle.modem_history.proofs.commands.BegunCommands.{KeptCommands, kept}
use Rattle.modem_history.proofs.requests.StepsOfHistory.{stays_in_step, given_open, data_open}
use Rattle.modem_history.proofs.requests.RequestsAfterCalls.{first_head, head_of}
use Rattle.modem_core.proofs.cores.StationPasts.{open_seen, stopped_seen, queue_seen}
use Rattle.modem_core.proofs.commands.SentTexts.{begun_in as begun_between}
use Rattle.modem_core.proofs.commands.NextCommand.{begins_at, NextIs, next_is, Leaves, leaves}
use Rattle.modem_core.proofs.outgoing.WaitingData.{Lanes_fit, ring_rest, waits_in, turn_same}
use Rattle.modem_core.proofs.outgoing.LanesAfterFrame.{probe_untimed, waits_same, lane_given, lane_other, lane_own, under_way_then}
use Rattle.mux_station.specs.Sending.{queue}
use Rattle.modem_history.specs.Lawful.{some_wait}

-- the setting of a core's history
abbrev pub own : Core → (UrcKind → Bool) → Setting
own v listens = record { role = Initiator; n1 = v.station.n1; dialect = dialect_in v; listens = listens }

-- each setting of its histories is that, with some kinds listened to
pub own_is : (s : Setting) (v : Core) → IsSettingOf s v → s ≡ own v s.listens
own_is s v h =
    ap (λ (r : Role). let t : Setting = record { role = r; n1 = s.n1; dialect = s.dialect; listens = s.listens } in t) h.role_is
    ∙ (ap (λ (n : ℕ). let t : Setting = record { role = Initiator; n1 = n; dialect = s.dialect; listens = s.listens } in t) h.n1_is
    ∙ ap (λ (c : Dialect). let t : Setting = record { role = Initiator; n1 = v.station.n1; dialect = c; listens = s.listens } in t) h.dialect_is)

-- what is asked of the value
pub record IsSound (v : Core) : Type 0 where
  pub role_is : v.station.role ≡ Initiator
  pub least : 31 ≤ v.station.n1
  pub all : length v.lanes ≡ 62

-- while the line isn't lost, the station and the lanes of a core that fits a past fit it too
pub running : (v : Core) (past : List Act) → v.lost ≡ false → Fits v past → Runs v past
running v past n h = subst (λ (b : Bool). RunsUnless b v past) n h.runs

fits_lanes : (v : Core) (past : List Act) (r : Runs v past) → IsSound v → Lanes_fit (dialect_in v) v.station r.seen past (λ d. lane_at v d)
fits_lanes v past r i = record { role_is = i.role_is; fits = r.fits; same = r.same; lanes_fit = r.lanes_fit }

-- ## A control frame

given_run : (s : Setting) (past : List Act) → some_wait (queue (wire past)) ≡ true → IsRun s past → IsRun s (Given ∷ past)
unfolding Lawful Complete
given_run s past w r = record {
  lawful = (record { gated = tt; once = tt; in_turn = tt; controlled = tt; answered = tt; heard = tt; prompt = tt; held = tt; marked = w }, r.lawful);
  complete = r.complete;
  whole = ((λ e. r.complete), r.whole);
  numbers = r.numbers;
}

given_runs : (v : Core) (past : List Act) (f : Frame) (fs : List Frame) (r : Runs v past) → station_fits.StationFits (record v.station { queue = fs }) (station.Given ∷ r.seen)
    → Runs (record v { station = record v.station { queue = fs } }) (Given ∷ past)
given_runs v past f fs r h = record {
  seen = station.Given ∷ r.seen;
  fits = h;
  same = ap (λ (acts : List station.Act). station.Given ∷ acts) r.same;
  waits = r.waits;
  probe_is = probe_untimed Given past (λ q. refl) v.hand ∙ r.probe_is;
  lanes_fit = λ d l z o. lane_given (dialect_in v) d r.seen past (lane_at v d) (r.lanes_fit d l z (sym (given_open Initiator d (wire past)) ∙ o));
}

given_stands : (s : Setting) (v : Core) (past : List Act) (f : Frame) (fs : List Frame) (r : Runs v past) → v.station.queue ≡ f ∷ fs → v.lost ≡ false → StandsIn s v past → station_fits.StationFits (record v.station { queue = fs }) (station.Given ∷ r.seen)
    → StandsIn s (record v { station = record v.station { queue = fs } }) (Given ∷ past)
given_stands s v past f fs r q n m h =
    let waits : some_wait (queue (wire past)) ≡ true = ap some_wait (sym (queue_seen r.seen past r.same) ∙ (r.fits.queue_is ∙ q)) in
    let new : Core = record v { station = record v.station { queue = fs } } in
    record {
      setting = record { role_is = m.setting.role_is; n1_is = m.setting.n1_is; dialect_is = m.setting.dialect_is; listens_are = m.setting.listens_are };
      fits = record { hand_is = m.fits.hand_is; lost_is = m.fits.lost_is; runs = subst (λ (b : Bool). RunsUnless b new (Given ∷ past)) (sym n) (given_runs v past f fs r h) };
      run = given_run s past waits m.run;
    }

-- ## Data: the command that is under way

some_waits : (v : Station) (d : ℕ) (seen : List station.Act) → v.role ≡ Initiator → station_fits.StationFits v seen → SendsNext Initiator d seen → 0 < length (channel_at v d).waiting
some_waits v d seen r h next =
    let w = (channel_at v d).waiting in
    let opened : is_opened (channel_at v d).state ≡ true = sym (subst (λ (x : Role). is_open x d seen ≡ is_opened (channel_at v d).state) r (open_fits v seen d h next.in_range)) ∙ next.is_open in
    let ring : offered Initiator d seen ≡ data_out Initiator d seen ++ w = subst (λ (x : Role). offered x d seen ≡ data_out x d seen ++ w) r ((h.channels_are d next.in_range).ring_is opened) in
    let long : length (offered Initiator d seen) ≡ length (data_out Initiator d seen) + length w = ap length ring ∙ length-append (data_out Initiator d seen) w in
    let less = next.some in
    omega (arith, long, less)

-- what is known where data leaves d
record Under (v : Core) (past : List Act) (d : ℕ) : Type 0 where
  before : List Request
  cmds : List Request
  cmds_are : cmds ≡ commands_for d v.hand
  accepted_are : accepted Initiator d past ≡ before ++ cmds
  answered_are : answered (dialect_in v) (marks Initiator d past) ≡ length before
  next : NextIs (dialect_in v) before cmds (marks Initiator d past) (information_out Initiator d past) (channel_at v.station d).waiting
  rest_is : may_leave (dialect_in v) Initiator d past ≡ information_out Initiator d past ++ (channel_at v.station d).waiting

under : (v : Core) (l : UrcKind → Bool) (past : List Act) (r : Runs v past) (d : ℕ) → IsSound v → v.lost ≡ false → Fits v past → IsRun (own v l) past → SendsNext Initiator d r.seen → 0 < length (channel_at v.station d).waiting → Under v past d
unfolding StaysInStep
under v l past r d i n h run next some =
    let s = own v l in
    let o : is_open Initiator d (wire past) ≡ true = sym (open_seen Initiator d r.seen past r.same) ∙ next.is_open in
    let live : is_lost past ≡ false = h.lost_is ∙ n in
    let step : InStep s d past = (stays_in_step s past run.lawful refl run.whole run.numbers live run.complete d next.no_zero).while_open o in
    let lane = r.lanes_fit d next.in_range next.no_zero o in
    let rest : may_leave (dialect_in v) Initiator d past ≡ information_out Initiator d past ++ (channel_at v.station d).waiting
    = ring_rest (dialect_in v) v.station d r.seen past (lane_at v d) i.role_is r.fits r.same next.in_range next.no_zero o lane in
    let cmds = commands_for d (in_hand past) in
    record {
      before = step.before;
      cmds = cmds;
      cmds_are = ap (commands_for d) h.hand_is;
      accepted_are = step.accepted_are;
      answered_are = step.answered_are;
      next = next_is (dialect_in v) step.before cmds (marks Initiator d past) (information_out Initiator d past) (channel_at v.station d).waiting
          (subst (λ (qs : List Request). KeptCommands (dialect_in v) (marks Initiator d past) (information_out Initiator d past) qs) step.accepted_are (kept s past run.lawful d)) step.answered_are
          (sym rest ∙ ap (λ (qs : List Request). concat (texts (take (answered (dialect_in v) (marks Initiator d past) + 1) qs))) step.accepted_are) some;
      rest_is = rest;
    }

-- ## Data: it may leave

when_of : {P : Type 0} (b : Bool) → b ≡ true → P → When b P
when_of true e p = p
when_of false e p = cc

when_off : (P : Type 0) (b : Bool) → b ≡ true → When (not b) P
when_off P true e = tt
when_off P false e = cc

record Allowed (s : Setting) (past owing : List Act) (f : Frame) : Type 0 where
  gated : Gated s past owing f
  once : Once s past f
  in_turn : InTurn s past f

data_run : (s : Setting) (past : List Act) (f : Frame) → is_data_frame f ≡ true → IsRun s past → Allowed s past (owed s past) f → IsRun s (Sent f ∷ past)
unfolding Lawful Complete
data_run s past f d r a =
    let all : Allows s past (owed s past) (Sent f) = record {
      gated = when_of (is_data_frame f) d a.gated;
      once = when_of (is_data_frame f) d a.once;
      in_turn = when_of (is_data_frame f) d a.in_turn;
      controlled = when_off (IsNext (owed s past) (Sent f)) (is_data_frame f) d;
      answered = tt;
      heard = tt;
      prompt = tt;
      held = tt;
      marked = tt;
    } in
    record {
      lawful = (all, r.lawful);
      complete = ap (λ (b : Bool). if b then owed s past else drop 1 (owed s past)) d ∙ r.complete;
      whole = ((λ e. r.complete), r.whole);
      numbers = r.numbers;
    }

data_allowed : (v : Core) (l : UrcKind → Bool) (past : List Act) (r : Runs v past) (d : ℕ) → IsSound v → v.lost ≡ false → Fits v past → IsRun (own v l) past → SendsNext Initiator d r.seen → 0 < length (channel_at v.station d).waiting
    → (u : Under v past d) → Leaves u.before u.next.rest u.next.first (marks Initiator d past) (information_out Initiator d past) (channel_at v.station d).waiting v.station.n1
    → Allowed (own v l) past (owed (own v l) past) (written Initiator Uih d (take v.station.n1 (channel_at v.station d).waiting))
unfolding Complete
data_allowed v l past r d i n h run next some u goes =
    let s = own v l in
    let w = (channel_at v.station d).waiting in
    let chunk = take v.station.n1 w in
    let size : length chunk ≡ min v.station.n1 (length w) = length-take v.station.n1 w in
    let low = i.least in
    let at_least : 1 ≤ length chunk = omega (arith, size, some, low) in
    let at_most : length chunk ≤ v.station.n1 = omega (arith, size) in
    let qs : accepted Initiator d past ≡ u.before ++ u.next.first ∷ u.next.rest = u.accepted_are ∙ ap (λ (v : List Request). u.before ++ v) u.next.split in
    let reached : reached_in (length (information_out Initiator d past ++ chunk)) (texts (accepted Initiator d past)) ≡ answered (dialect_in v) (marks Initiator d past) + 1
    = ap (λ (v : List Request). reached_in (length (information_out Initiator d past ++ chunk)) (texts v)) qs ∙ (goes.in_turn ∙ ap (λ (m : ℕ). m + 1) (sym u.answered_are)) in
    record {
      gated = record {
        live = h.lost_is ∙ n;
        is_open = sym (open_seen Initiator d r.seen past r.same) ∙ next.is_open;
        goes = sym (stopped_seen Initiator d r.seen past r.same) ∙ next.goes;
        as_written = refl;
        some = le-leb 1 (length chunk) at_least;
        fits = le-leb (length chunk) v.station.n1 at_most;
        behind = run.complete;
        alone = sym (queue_seen r.seen past r.same) ∙ next.alone;
      };
      once = ap (λ (v : List Request). starts_with nat_eq (concat (texts v)) (information_out Initiator d past ++ chunk)) qs ∙ goes.once;
      in_turn = le-leb _ (answered (dialect_in v) (marks Initiator d past) + 1) (let e = reached in omega (arith, e));
    }

-- ## Data: what the core keeps

abbrev wired : Type 0
wired = station.Act

abbrev sent : ℕ → List ℕ → wired
sent d info = station.Sent (written Initiator Uih d info)

abbrev begun_of : List Act → ℕ → ℕ → List Mark
begun_of past d size = begun_between (accepted Initiator d past) (length (information_out Initiator d past)) (length (information_out Initiator d past) + size)

record BegunAt (v : Core) (d : ℕ) (b : Bool) : Type 0 where
  lanes : List Lane
  is : begun_on v (Some d) ≡ record v { lanes = lanes }
  here : slice_index_or lanes d new_lane ≡ record (lane_at v d) { under_way = under_way_then b (lane_at v d).under_way }
  there : (e : ℕ) → (d == e) ≡ false → slice_index_or lanes e new_lane ≡ lane_at v e

some_on : (d : ℕ) (qs : List Request) (c : Request) → first_on d qs ≡ Some c → list_any (commands_on d) qs ≡ true
some_on d [] c e = cc
some_on d (q ∷ qs) c e = by_test (command_on d q.ask) e (some_on d qs c)
  where
    by_test : (b : Bool) → (if b then Some q else first_on d qs) ≡ Some c → (first_on d qs ≡ Some c → list_any (commands_on d) qs ≡ true) → (b || list_any (commands_on d) qs) ≡ true
    by_test true e h = refl
    by_test false e h = h e

begun_at : (v : Core) (d : ℕ) (c : Request) → first_on d v.hand ≡ Some c → (lane_at v d).under_way ≡ None → d < length v.lanes → BegunAt v d (nat_le (length (channel_at v.station d).waiting) v.station.n1)
begun_at v d c first none l = by_whole (nat_le (length (channel_at v.station d).waiting) v.station.n1) refl
  where
    by_whole : (b : Bool) → nat_le (length (channel_at v.station d).waiting) v.station.n1 ≡ b → BegunAt v d b
    by_whole true e =
        let lane : Lane = record (lane_at v d) { under_way = Some unanswered } in
        record {
          lanes = slice_set v.lanes d lane;
          is =
              ap (λ (b : Bool). if b then begun_by v d (list_any (commands_on d) v.hand) else v) e
              ∙ (ap (begun_by v d) (some_on d v.hand c first)
              ∙ ap (λ (b : Bool). if b then record v { lanes = slice_set v.lanes d lane } else v) (ap is_none none));
          here = get_or-set_same v.lanes d lane new_lane l;
          there = λ e n. get_or-set_other v.lanes d e lane new_lane (λ (g : e ≡ d). eqb-false d e n (sym g));
        }
    by_whole false e = record {
      lanes = v.lanes;
      is = ap (λ (b : Bool). if b then begun_by v d (list_any (commands_on d) v.hand) else v) e;
      here = refl;
      there = λ e n. refl;
    }

-- data changes no state
data_state : (d e : ℕ) (info : List ℕ) (past : List station.Act) → (d == 0) ≡ false → state_of Initiator e (station.Sent (written Initiator Uih d info) ∷ past) ≡ state_of Initiator e past
data_state d e info past z = state_sent_uih Initiator e past (written Initiator Uih d info) refl (ap (λ (b : Bool). b && octet_is (λ n. n) cld (message_of info)) z) refl

-- the station keeps each connection's state as its past says
pub state_in : (v : Station) (past : List station.Act) (e : ℕ) → v.role ≡ Initiator → station_fits.StationFits v past → e < 62 → (channel_at v e).state ≡ state_of Initiator e past
state_in v past e r h l = sym (subst (λ (x : Role). state_of x e past ≡ (channel_at v e).state) r (h.channels_are e l).state_is)

data_runs : (v : Core) (past : List Act) (r : Runs v past) (d : ℕ) (b : Bool) (c : Request) (begun : BegunAt v d b) (station : Station) → IsSound v → station.role ≡ Initiator → station.probe ≡ v.station.probe
    → SendsNext Initiator d r.seen → open_window (dialect_in v) (marks Initiator d past) ≡ None
    → (info : List ℕ) → begun_of past d (length info) ≡ begins_at b c
    → station_fits.StationFits station (sent d info ∷ r.seen)
    → Runs (record v { lanes = begun.lanes; station = station }) (Sent (written Initiator Uih d info) ∷ past)
data_runs v past r d b c begun station i role probe next none info marks_are h =
    let new : Core = record v { lanes = begun.lanes; station = station } in
    let f = written Initiator Uih d info in
    let shown : (e : ℕ) → e < 62 → state_shown station false e ≡ state_shown v.station false e
    = λ e l. ap as_shown (state_in station (sent d info ∷ r.seen) e role h l ∙ (data_state d e info r.seen next.no_zero ∙ sym (state_in v.station r.seen e i.role_is r.fits l))) in
    let was : (e : ℕ) → is_open Initiator e (wire (Sent f ∷ past)) ≡ is_open Initiator e (wire past) = λ e. data_open Initiator e d f (wire past) next.no_zero in
    record {
      seen = sent d info ∷ r.seen;
      fits = h;
      same = ap (λ (acts : List wired). sent d info ∷ acts) r.same;
      waits = waits_same (state_shown station false) (state_shown v.station false) shown v.hand ∙ r.waits;
      probe_is = probe_untimed (Sent f) past (λ q. refl) v.hand ∙ (r.probe_is ∙ sym probe);
      lanes_fit = λ e l z o. by_lane e l z (sym (was e) ∙ o) (d == e) refl;
    }
  where
    by_lane : (e : ℕ) → e < 62 → (e == 0) ≡ false → is_open Initiator e (wire past) ≡ true → (x : Bool) → (d == e) ≡ x
        → LaneFits (dialect_in v) e (sent d info ∷ r.seen) (Sent (written Initiator Uih d info) ∷ past) (slice_index_or begun.lanes e new_lane)
    by_lane e l z o true same =
        let there = eqb-true d e same in
        subst (λ (m : ℕ). LaneFits (dialect_in v) m (sent d info ∷ r.seen) (Sent (written Initiator Uih d info) ∷ past) (slice_index_or begun.lanes m new_lane)) there
        (subst (λ (lane : Lane). LaneFits (dialect_in v) d (sent d info ∷ r.seen) (Sent (written Initiator Uih d info) ∷ past) lane) (sym begun.here)
        (lane_own (dialect_in v) d info b c r.seen past (lane_at v d) next.no_zero (subst (λ (m : ℕ). is_open Initiator m (wire past) ≡ true) (sym there) o) none marks_are
        (r.lanes_fit d next.in_range next.no_zero (subst (λ (m : ℕ). is_open Initiator m (wire past) ≡ true) (sym there) o))))
    by_lane e l z o false apart =
        subst (λ (lane : Lane). LaneFits (dialect_in v) e (sent d info ∷ r.seen) (Sent (written Initiator Uih d info) ∷ past) lane) (sym (begun.there e apart))
        (lane_other (dialect_in v) e d info r.seen past (lane_at v e) apart (r.lanes_fit e l z o))

data_stands : (v : Core) (l : UrcKind → Bool) (past : List Act) (r : Runs v past) (d : ℕ) → IsSound v → v.lost ≡ false → StandsIn (own v l) v past → SendsNext Initiator d r.seen
    → station_fits.StationFits (data_given v.station (Some d)) (station.Sent (data_frame v.station d) ∷ r.seen)
    → StandsIn (own v l) (record (begun_on v (Some d)) { station = data_given v.station (Some d) }) (Sent (data_of (own v l) past d) ∷ past)
data_stands v l past r d i n m next h =
    let s = own v l in
    let w = (channel_at v.station d).waiting in
    let out = information_out Initiator d past in
    let n1 = v.station.n1 in
    let low = i.least in
    let o : is_open Initiator d (wire past) ≡ true = sym (open_seen Initiator d r.seen past r.same) ∙ next.is_open in
    let lane = r.lanes_fit d next.in_range next.no_zero o in
    let some : 0 < length w = some_waits v.station d r.seen i.role_is r.fits next in
    let u = under v l past r d i n m.fits m.run next some in
    let c = u.next.first in
    let goes = leaves u.before u.next.rest c (marks Initiator d past) out w n1 u.next.front u.next.out_is u.next.all_is u.next.joins some (omega (arith, low)) in
    let info = take n1 w in
    let f = written Initiator Uih d info in
    let first : first_on d v.hand ≡ Some c = first_head d v.hand ∙ ap head_of (sym u.cmds_are ∙ u.next.split) in
    let none : (lane_at v d).under_way ≡ None = lane.under_way_fits.shows ∙ ap (option_map (answer_shown (dialect_in v))) u.next.idle in
    let begun = begun_at v d c first none (subst (λ (k : ℕ). d < k) (sym i.all) next.in_range) in
    let marks_are : begun_of past d (length info) ≡ begins_at (nat_le (length w) n1) c
    = ap (λ (qs : List Request). begun_between qs (length out) (length out + length info)) (u.accepted_are ∙ ap (λ (qs : List Request). u.before ++ qs) u.next.split) ∙ goes.begun in
    let frame_is : data_frame v.station d ≡ f = ap (λ (x : Role). written x Uih d info) i.role_is in
    let fits = subst (λ (g : Frame). station_fits.StationFits (data_given v.station (Some d)) (station.Sent g ∷ r.seen)) frame_is h in
    let new : Core = record v { lanes = begun.lanes; station = data_given v.station (Some d) } in
    let runs : Runs new (Sent f ∷ past) = data_runs v past r d (nat_le (length w) n1) c begun (data_given v.station (Some d)) i i.role_is refl next u.next.idle info marks_are fits in
    let there : StandsIn s new (Sent f ∷ past) = record {
      setting = record { role_is = refl; n1_is = refl; dialect_is = refl; listens_are = m.setting.listens_are };
      fits = record { hand_is = m.fits.hand_is; lost_is = m.fits.lost_is; runs = subst (λ (b : Bool). RunsUnless b new (Sent f ∷ past)) (sym n) runs };
      run = data_run s past f (ap not next.no_zero) m.run (data_allowed v l past r d i n m.fits m.run next some u goes);
    } in
    let waits : waits_on (dialect_in v) Initiator d past ≡ w = waits_in (dialect_in v) v.station d r.seen past (lane_at v d) i.role_is r.fits r.same next.in_range next.no_zero o lane in
    subst (λ (x : Core). StandsIn s (record x { station = data_given v.station (Some d) }) (Sent (data_of s past d) ∷ past)) (sym begun.is)
    (subst (λ (x : List ℕ). StandsIn s new (Sent (written Initiator Uih d (take n1 x)) ∷ past)) (sym waits) there)

-- ## Whatever goes out

-- the connection whose data is next may send it, by each past that the station fits
unfoldable pub SendsTruly : Station → Type 0
SendsTruly v =
    (d : ℕ) (seen : List station.Act) → giving.next_sender v v.queue ≡ Some d → station_fits.StationFits v seen
    → SendsNext v.role d seen

sends_as : (v : Station) (d : ℕ) (seen : List station.Act) → v.role ≡ Initiator → SendsTruly v → v.queue ≡ [] → giving.next_turn v ≡ Some d → station_fits.StationFits v seen → SendsNext Initiator d seen
unfolding SendsTruly
sends_as v d seen r t q e h =
    subst (λ (x : Role). SendsNext x d seen) r (t d seen (ap (giving.next_sender v) q ∙ e) h)

by_turn : (v : Core) (l : UrcKind → Bool) (past : List Act) (r : Runs v past) → IsSound v → SendsTruly v.station → v.lost ≡ false → StandsIn (own v l) v past → v.station.queue ≡ []
    → station_fits.StationFits (data_given v.station (giving.next_turn v.station)) (giving.data_sent v.station (giving.next_turn v.station) r.seen)
    → (o : Option ℕ) → giving.next_turn v.station ≡ o
    → StandsIn (own v l) (record (begun_on v o) { station = data_given v.station o }) (with_out (option_map (λ (d : ℕ). with_freshness true (data_of (own v l) past d)) o) past)
by_turn v l past r i t n m q h None e = m
by_turn v l past r i t n m q h (Some d) e =
    data_stands v l past r d i n m (sends_as v.station d r.seen i.role_is t q e r.fits)
    (subst (λ (o : Option ℕ). station_fits.StationFits (data_given v.station o) (giving.data_sent v.station o r.seen)) e h)

by_queue : (v : Core) (l : UrcKind → Bool) (past : List Act) (r : Runs v past) → IsSound v → SendsTruly v.station → v.lost ≡ false → StandsIn (own v l) v past
    → (fs : List Frame) → v.station.queue ≡ fs → station_fits.StationFits (station_after v.station fs) (after_given v.station fs r.seen)
    → StandsIn (own v l) (record (begun_on v (giving.next_sender v.station fs)) { station = station_after v.station fs }) (with_out (out_by (own v l) past fs) past)
by_queue v l past r i t n m (f ∷ fs) q h = given_stands (own v l) v past f fs r q n m h
by_queue v l past r i t n m [] q h =
    subst (λ (o : Option ℕ). StandsIn (own v l) (record (begun_on v (giving.next_turn v.station)) { station = data_given v.station (giving.next_turn v.station) }) (with_out (option_map (λ (d : ℕ). with_freshness true (data_of (own v l) past d)) o) past))
    (turn_same (dialect_in v) v.station r.seen past (λ d. lane_at v d) (fits_lanes v past r i)) (by_turn v l past r i t n m q h (giving.next_turn v.station) refl)

queue_is : (v : Core) (past : List Act) (r : Runs v past) → queue (wire past) ≡ v.station.queue
queue_is v past r = sym (queue_seen r.seen past r.same) ∙ r.fits.queue_is

on_own : (v : Core) (l : UrcKind → Bool) (past : List Act) → IsSound v → StationGivesOn v.station → SendsTruly v.station → StandsIn (own v l) v past → StandsIn (own v l) (gone_on v) (after_out (own v l) past)
on_own v l past i g t m = by_lost v.lost refl
  where
    by_lost : (b : Bool) → v.lost ≡ b → StandsIn (own v l) (gone_on v) (after_out (own v l) past)
    by_lost true e =
        let lost : is_lost past ≡ true = m.fits.lost_is ∙ e in
        subst (λ (b : Bool). StandsIn (own v l) (if b then v else record (begun_next v) { station = station_after v.station v.station.queue }) (after_out (own v l) past)) (sym e)
        (subst (λ (b : Bool). StandsIn (own v l) v (with_out (if b then None else out_by (own v l) past (queue (wire past))) past)) (sym lost) m)
    by_lost false e =
        let live : is_lost past ≡ false = m.fits.lost_is ∙ e in
        let r = running v past e m.fits in
        let there = by_queue v l past r i t e m v.station.queue refl (g.fits r.seen r.fits) in
        subst (λ (b : Bool). StandsIn (own v l) (if b then v else record (begun_next v) { station = station_after v.station v.station.queue }) (after_out (own v l) past)) (sym e)
        (subst (λ (b : Bool). StandsIn (own v l) (record (begun_next v) { station = station_after v.station v.station.queue }) (with_out (if b then None else out_by (own v l) past (queue (wire past))) past)) (sym live)
        (subst (λ (fs : List Frame). StandsIn (own v l) (record (begun_next v) { station = station_after v.station v.station.queue }) (with_out (out_by (own v l) past fs) past)) (sym (queue_is v past r)) there))

-- after the next frame the core goes on with every history that it fits
pub goes_on : (v : Core) → IsSound v → StationGivesOn v.station → SendsTruly v.station → CoreGoesOn v
unfolding CoreGoesOn
goes_on v i g t s past m =
    let e = own_is s v m.setting in
    subst (λ (x : Setting). StandsIn x (gone_on v) (after_out x past)) (sym e) (on_own v s.listens past i g t (subst (λ (x : Setting). StandsIn x v past) e m))

-- ## Which frame it is

not_none : (n : ℕ) → (suc n == 0) ≡ false
not_none n = ne_eqb (suc n) 0 (λ (e : suc n ≡ 0). omega (arith, e))

out_data : (v : Core) (l : UrcKind → Bool) (past : List Act) (r : Runs v past) → IsSound v → SendsTruly v.station → v.station.queue ≡ []
    → (o : Option ℕ) → giving.next_turn v.station ≡ o
    → option_map (with_freshness true) (option_map (data_frame v.station) o) ≡ option_map (λ (d : ℕ). with_freshness true (data_of (own v l) past d)) o
out_data v l past r i t q None e = refl
out_data v l past r i t q (Some d) e =
    let next = sends_as v.station d r.seen i.role_is t q e r.fits in
    let o : is_open Initiator d (wire past) ≡ true = sym (open_seen Initiator d r.seen past r.same) ∙ next.is_open in
    let waits : waits_on (dialect_in v) Initiator d past ≡ (channel_at v.station d).waiting
    = waits_in (dialect_in v) v.station d r.seen past (lane_at v d) i.role_is r.fits r.same next.in_range next.no_zero o (r.lanes_fit d next.in_range next.no_zero o) in
    ap (λ (x : Role). Some (with_freshness true (written x Uih d (take v.station.n1 (channel_at v.station d).waiting)))) i.role_is
    ∙ ap (λ (x : List ℕ). Some (with_freshness true (written Initiator Uih d (take v.station.n1 x)))) (sym waits)

out_queue : (v : Core) (l : UrcKind → Bool) (past : List Act) (r : Runs v past) → IsSound v → SendsTruly v.station → (fs : List Frame) → v.station.queue ≡ fs
    → option_map (with_freshness (length fs == 0)) (giving.next_given v.station fs) ≡ out_by (own v l) past fs
out_queue v l past r i t (f ∷ fs) q = ap (λ (b : Bool). Some (with_freshness b f)) (not_none (length fs))
out_queue v l past r i t [] q =
    out_data v l past r i t q (giving.next_turn v.station) refl
    ∙ ap (λ (o : Option ℕ). option_map (λ (d : ℕ). with_freshness true (data_of (own v l) past d)) o) (turn_same (dialect_in v) v.station r.seen past (λ d. lane_at v d) (fits_lanes v past r i))

-- while the line isn't lost, the station's next frame is what every history says
pub goes_out : (v : Core) (o : Option Outgoing) → IsSound v → SendsTruly v.station → v.lost ≡ false → o ≡ option_map (with_freshness (length v.station.queue == 0)) (giving.next_given v.station v.station.queue) → GoesOut v o
unfolding GoesOut
goes_out v o i t n e s past m =
    let r = running v past n m.fits in
    let live : is_lost past ≡ false = m.fits.lost_is ∙ n in
    e ∙ (out_queue v s.listens past r i t v.station.queue refl
    ∙ (ap (out_by (own v s.listens) past) (sym (queue_is v past r))
    ∙ (ap (λ (b : Bool). if b then None else out_by (own v s.listens) past (queue (wire past))) (sym live)
    ∙ ap (λ (x : Setting). next_out x past) (sym (own_is s v m.setting)))))

-- after a loss nothing goes out
pub goes_none : (v : Core) → v.lost ≡ true → GoesOut v None
unfolding GoesOut
goes_none v e s past m = sym (ap (λ (b : Bool). if b then None else out_by s past (queue (wire past))) (m.fits.lost_is ∙ e))

-- where nothing goes out, and the core stays, it goes on with its history as it was
pub goes_on_none : (v : Core) → GoesOut v None → gone_on v ≡ v → CoreGoesOn v
unfolding GoesOut CoreGoesOn
goes_on_none v none stays s past m =
    subst (λ (o : Option Outgoing). StandsIn s (gone_on v) (with_out o past)) (none s past m) (subst (λ (x : Core). StandsIn s x past) (sym stays) m)

-- ## What the calls say

turn_of_sender : (v : Station) (fs : List Frame) (d : ℕ) → giving.next_sender v fs ≡ Some d → giving.turn_at v fs ≡ Some (Data d)
turn_of_sender v (f ∷ fs) d e = cc
turn_of_sender v [] d e = ap (option_map Data) e

-- what a station gives on may go out, by each past that it fits
pub sends_truly : (v : Station) → StationGivesOn v → SendsTruly v
unfolding SendsTruly
sends_truly v g d seen e f = g.next seen (Data d) f (turn_of_sender v v.queue d e)

-- where it is a turn the line isn't lost
pub turn_live : (v : Core) (t : Turn) → turn_in v ≡ Some t → v.lost ≡ false
turn_live v t e = by_lost v.lost e
  where
    by_lost : (b : Bool) → (if b then None else giving.turn_at v.station v.station.queue) ≡ Some t → b ≡ false
    by_lost true e = cc
    by_lost false e = refl

-- and it is the station's
pub turn_at_station : (v : Core) (o : Option Turn) → v.lost ≡ false → turn_in v ≡ o → giving.turn_at v.station v.station.queue ≡ o
turn_at_station v o live e = sym (ap (λ (b : Bool). if b then None else giving.turn_at v.station v.station.queue) live) ∙ e

begun_station : (v : Core) (o : Option ℕ) → (begun_on v o).station ≡ v.station
begun_station v None = refl
begun_station v (Some d) = by_whole (nat_le (length (channel_at v.station d).waiting) v.station.n1) (list_any (commands_on d) v.hand)
  where
    by_whole : (b has : Bool) → (if b then begun_by v d has else v).station ≡ v.station
    by_whole false has = refl
    by_whole true false = refl
    by_whole true true = by_idle (is_none (lane_at v d).under_way)
      where
        by_idle : (b : Bool) → (if b then record v { lanes = slice_set v.lanes d (record (lane_at v d) { under_way = Some unanswered }) } else v).station ≡ v.station
        by_idle true = refl
        by_idle false = refl

-- a window that begins leaves the station as it is
pub station_stays : (v w : Core) → w ≡ begun_next v → w.station ≡ v.station
station_stays v w e = ap (λ (x : Core). x.station) e ∙ begun_station v (giving.next_sender v.station v.station.queue)

-- with the next command's window begun and the frame given on, the core has gone on
pub gone : (v w : Core) (st : Station) → v.lost ≡ false → w ≡ begun_next v → st ≡ station_after w.station w.station.queue → record w { station = st } ≡ gone_on v
gone v w st n e g =
    let same = station_stays v w e in
    ap (λ (x : Station). record w { station = x }) (g ∙ ap (λ (x : Station). station_after x x.queue) same)
    ∙ (ap (λ (x : Core). record x { station = station_after v.station v.station.queue }) e
    ∙ ap (λ (b : Bool). if b then v else record (begun_next v) { station = station_after v.station v.station.queue }) (sym n))

given_setting : (v : Station) (fs : List Frame) → ((station_after v fs).role ≡ v.role) × ((station_after v fs).n1 ≡ v.n1)
given_setting v (f ∷ fs) = (refl, refl)
given_setting v [] = by_next (giving.next_turn v)
  where
    by_next : (o : Option ℕ) → ((data_given v o).role ≡ v.role) × ((data_given v o).n1 ≡ v.n1)
    by_next None = (refl, refl)
    by_next (Some d) = (refl, refl)

-- the invariant of the fields holds after the next frame
pub kept_on : (v st : Station) (n1 : ℕ) (lanes : List Lane) → IsKept v n1 lanes → st ≡ station_after v v.queue → IsKept st n1 lanes
kept_on v st n1 lanes k e =
    let same = given_setting v v.queue in
    record {
      role_is = ap (λ (x : Station). x.role) e ∙ (same.0 ∙ k.role_is);
      n1_is = ap (λ (x : Station). x.n1) e ∙ (same.1 ∙ k.n1_is);
      n1_least = k.n1_least;
      all = k.all;
    }

-- and has all that is asked here
pub sound : (v : Core) (n1 : ℕ) → IsKept v.station n1 v.lanes → IsSound v
sound v n1 k = record { role_is = k.role_is; least = subst (λ (n : ℕ). 31 ≤ n) (sym k.n1_is) k.n1_least; all = k.all }
