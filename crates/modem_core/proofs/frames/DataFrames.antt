-- Data of an open connection: the acts are the lines and the answer that it brings, and the core fits them.
use Rattle.std.specs.Prelude.{◌≡◌, ℕ, ◌+◌, ◌<◌, ◌==◌, ◌&&◌, Bool, true, false, List, [], ◌∷◌, ◌++◌, take, map, filter, filter_map, slice_set, slice_index_or, refl, Option, None, Some, option_map, is_some, is_none, if◌then◌else◌}
use Rattle.std.specs.List.{list_all, concat}
use Rattle.std.proofs.Common.{ap, sym, ◌∙◌, subst, arith, append-nil, eqb-true, get_or-set_same, get_or-set_other}
use Rattle.std.proofs.lemmas.Bool.{and_parts, and_from, eqb-false, ne_eqb}
use Rattle.mux_frame.specs.Frames.{Frame}
use Rattle.mux_station.specs.declared.role.Role.{Role}
use Rattle.mux_station.specs.declared.role.Role.TheVariants.{Initiator}
use Rattle.mux_station.specs.declared.role.ChannelState.{ChannelState}
use Rattle.mux_station.specs.declared.noted.Noted.{Noted}
use Rattle.mux_station.specs.Acts as station
use Rattle.mux_station.specs.Written.{is_data_frame}
use Rattle.mux_station.specs.Opening.{opens_now, is_open, is_asked}
use Rattle.mux_station.specs.States.{is_opened, state_of}
use Rattle.mux_station.specs.Stages.{as_shown}
use Rattle.mux_station.specs.Offering.{offered}
use Rattle.mux_station.specs.Sending.{Waiting, station_view as station_seen, sent_after, called_frames as station_calls}
use Rattle.mux_station.specs.Noting.{noted_of}
use Rattle.mux_station.specs.Stations.{Station, channel_at, setting_of}
use Rattle.mux_station.specs.Tables.{by_frame}
use Rattle.mux_station.specs.Fitting as station_fits
use Rattle.mux_station.specs.Traces.{without_calls}
use Rattle.at_text.specs.Dialects.{Dialect}
use Rattle.at_text.specs.Lines.{lines, kept_run}
use Rattle.at_text.proofs.lines.UnfinishedLines.{reads_on}
use Rattle.at_text.specs.Windows.{Line, Mark, answered, open_window}
use Rattle.at_text.specs.OpenWindow.{shown}
use Rattle.at_text.proofs.windows.AnswersUnderWay.{answer_fits}
use Rattle.modem_desk.specs.declared.request.Answer.{Answer}
use Rattle.at_text.specs.declared.unsolicited.UrcKind.{UrcKind}
use Rattle.modem_desk.specs.declared.request.Ask.{Ask}
use Rattle.modem_desk.specs.declared.request.Ask.TheVariants.{OpenChannel, CloseChannel, Command, Probe, Stop}
use Rattle.modem_desk.specs.declared.request.Request.{Request}
use Rattle.modem_core.specs.declared.telling.Happened.TheVariants as happened
use Rattle.modem_core.specs.Lanes.{Lane, new_lane}
use Rattle.modem_history.specs.Acts.{Act, Got, Sent, act_of, wire, after, in_hand}
use Rattle.modem_history.specs.Information.{command_on, information_in, accepted, texts, line_of}
use Rattle.modem_history.specs.Placing.{marks, run_on}
use Rattle.modem_history.specs.Calls.{Setting, seen, calls, is_lost, lines_said, by_lines, first_on, tolds, told_later}
use Rattle.modem_history.specs.Requests.{are_distinct, commands_on, without_first}
use Rattle.modem_history.proofs.requests.ClosedWindows.{minus}
use Rattle.modem_core.specs.Telling.{told_by, probe_noted}
use Rattle.modem_core.specs.Cores as cores
use Rattle.modem_core.specs.Cores.{dialect_in, Core, LaneFits, Runs, RunsUnless, Fits, IsRun, IsSettingOf, MayCome, GoesOn, Handles, state_shown, may_wait, probe_or, probe_in, lane_at}
use Rattle.modem_core.specs.Receiving.{reads_data}
use Rattle.modem_queues.specs.Stops.{asker_of}
use Rattle.modem_core.specs.Reports.{read_each, Listens, Read, after_all}
use Rattle.modem_core.specs.Handing.{HandsOn, EndedBy, ReadsFrame, text_on, window_by}
use Rattle.modem_history.proofs.calls.CalledActs.{calls_said}
use Rattle.modem_history.proofs.requests.RequestsAfterCalls.{stays}
use Rattle.modem_history.proofs.calls.CallEnds.{frames_in, now_in, ended}
use Rattle.modem_history.proofs.requests.StepOfFrame as owning
use Rattle.modem_history.proofs.requests.StepOfFrame.{is_read, data_hand, closes, data_opens_none, got_was, carries_apart}
use Rattle.modem_core.proofs.requests.LaterOutcomes.{AllSay, has_ended, tolds_are}
use Rattle.modem_core.proofs.cores.WholeCalls as runs
use Rattle.modem_core.proofs.cores.WholeCalls.{lost_on, hand_distinct}
use Rattle.modem_core.proofs.cores.LineLoss.{stays_left}
use Rattle.modem_core.proofs.cores.StationPasts.{state_seen, open_seen}
use Rattle.modem_history.proofs.requests.StepsOfHistory.{not_on_zero}
use Rattle.modem_core.proofs.outgoing.CoreAfterFrame.{IsSound, own, own_is, running, state_in}
use Rattle.modem_core.proofs.outgoing.LanesAfterFrame.{waits_same}
use Rattle.modem_core.proofs.outgoing.WaitingData.{open_here}
use Rattle.modem_core.proofs.probes.ProbeAnswers.{still}
use Rattle.modem_core.proofs.probes.ProbeAfterFrame.{needs_open, probe_then}
use Rattle.modem_core.proofs.frames.StationAfterFrame.{seen_then, same_then, frames_same}
use Rattle.modem_core.proofs.frames.LanesAfterFrame.{plain_lane}
use Rattle.modem_core.proofs.frames.OtherFrames.{ticks_said, probe_along, noted_says, all_told, same_read, shown_opened}
use Rattle.modem_core.proofs.lines.ReportedLines.{each_is}
use Rattle.modem_core.proofs.frames.DataLines.{said_is, shows_after, closes_shown, data_state, data_frames, data_noted, Quiet, all_quiet, minus_first, probe_waits}
use Rattle.modem_core.proofs.frames.DataLanes.{DataKept, data_kept, ring_answered, text_next, offered_then}
use Rattle.modem_core.proofs.commands.OfferedOctets.{Handed, line_on, nothing_on}
use Rattle.modem_core.proofs.frames.OpenCommands.{ends_same, window_shows}

-- ## What the call knows

pub record DataCame (old new : Core) (f : Frame) (n : Noted) (lane : Lane) (st : Station) (acts : List Act) : Type 0 where
  pub live : old.lost ≡ false
  pub is_data : reads_data old f ≡ true
  pub in_range : f.dlci < 62
  pub reads : ReadsFrame old f lane acts
  pub handles : station_fits.StationHandles old.station st (station.Got f)
  pub noted_is : (past : List station.Act) → station_fits.StationFits old.station past → n ≡ noted_of old.station.role (station_seen (setting_of old.station) past) f
  pub ends : EndedBy (is_some (lane_at old f.dlci).under_way && is_none lane.under_way) (record old { station = st; lanes = slice_set old.lanes f.dlci lane }) new f.dlci

abbrev hand_then : Bool → ℕ → List Request → List Request
hand_then done d hand = if done then without_first (commands_on d) hand else hand

-- the same, whether a command has its answer or not
record Finished (kept new : Core) (d : ℕ) (done : Bool) : Type 0 where
  station : Station
  new_is : new ≡ record kept { station = station; hand = hand_then done d kept.hand }
  next : HandsOn kept.station station d (if done then option_map line_of (first_on d (hand_then done d kept.hand)) else None)

finished : (kept new : Core) (d : ℕ) (done : Bool) → EndedBy done kept new d → Finished kept new d done
finished kept new d true e = record { station = e.station; new_is = e.new_is; next = e.next }
finished kept new d false e = record { station = kept.station; new_is = e; next = refl }

-- ## What is read

record LaneRead (s : Setting) (past : List Act) (f : Frame) (old : Lane) (hand : List Request) (lane : Lane) (acts : List Act) : Type 0 where
  kept_is : lane.kept ≡ kept_run (old.kept ++ f.info)
  window_is : window_by hand f.dlci lane ≡ after_all s.dialect (window_by hand f.dlci old) (lines (old.kept ++ f.info))
  acts_are : acts ≡ Got f ∷ by_lines s f.dlci (first_on f.dlci hand) (marks s.role f.dlci past) (lines (old.kept ++ f.info))

lane_read : (v : Core) (s : Setting) (past : List Act) (seen : List station.Act) (f : Frame) (lane : Lane) (acts : List Act) → IsSettingOf s v → ReadsFrame v f lane acts → LaneFits s.dialect f.dlci seen past (lane_at v f.dlci)
    → window_by v.hand f.dlci (lane_at v f.dlci) ≡ option_map (shown s.dialect) (open_window s.dialect (marks s.role f.dlci past)) → LaneRead s past f (lane_at v f.dlci) v.hand lane acts
unfolding ReadsFrame Listens
lane_read v s past seen f lane acts h reads k shows =
    let old = lane_at v f.dlci in
    let owner = first_on f.dlci v.hand in
    let window = window_by v.hand f.dlci old in
    let first : Read = record { kept = old.kept; window = window; acts = Got f ∷ [] } in
    let each = reads s.listens h.listens_are ∙ ap (λ (c : Dialect). read_each c s.listens f.dlci (option_map asker_of owner) first f.info) (sym h.dialect_is) in
    let all = each ∙ each_is s.dialect s.listens f.dlci (option_map asker_of owner) first (information_in Initiator f.dlci past) f.info reads_on (sym k.kept_is) in
    record {
      kept_is = ap (λ (x : Read). x.kept) all;
      window_is = ap (λ (x : Read). x.window) all;
      acts_are = ap (λ (x : Read). x.acts) all ∙ ap (λ (x : List Act). Got f ∷ x) (said_is s f.dlci owner (lines (old.kept ++ f.info)) window (marks s.role f.dlci past) shows);
    }

-- ## Those in hand

all_without : (test out : Request → Bool) (rs : List Request) → list_all test rs ≡ true → list_all test (without_first out rs) ≡ true
all_without test out [] h = refl
all_without test out (r ∷ rs) h =
    let hs = and_parts (test r) (list_all test rs) h in
    by_out (out r) (all_without test out rs hs.1) hs.0 hs.1
  where
    by_out : (b : Bool) → list_all test (without_first out rs) ≡ true → test r ≡ true → list_all test rs ≡ true → list_all test (if b then rs else r ∷ without_first out rs) ≡ true
    by_out true k t a = a
    by_out false k t a = and_from (test r) (list_all test (without_first out rs)) t k

all_then : (test : Request → Bool) (done : Bool) (d : ℕ) (rs : List Request) → list_all test rs ≡ true → list_all test (hand_then done d rs) ≡ true
all_then test true d rs h = all_without test (commands_on d) rs h
all_then test false d rs h = h

-- a command is no probe
probe_without : (past : List Act) (d : ℕ) (rs : List Request) → probe_in past (without_first (commands_on d) rs) ≡ probe_in past rs
probe_without past d [] = refl
probe_without past d (r ∷ rs) = by_out (command_on d r.ask) refl (probe_without past d rs)
  where
    passes : (ask : Ask) → command_on d ask ≡ true → probe_or past r ask (probe_in past rs) ≡ probe_in past rs
    passes (Command e line) h = refl
    passes (OpenChannel e) h = refl
    passes (CloseChannel e) h = refl
    passes (Probe octets) h = cc
    passes Stop h = refl

    by_out : (b : Bool) → command_on d r.ask ≡ b → probe_in past (without_first (commands_on d) rs) ≡ probe_in past rs
        → probe_in past (if b then rs else r ∷ without_first (commands_on d) rs) ≡ probe_or past r r.ask (probe_in past rs)
    by_out true e k = sym (passes r.ask e)
    by_out false e k = ap (probe_or past r r.ask) k

probe_hand : (past : List Act) (done : Bool) (d : ℕ) (rs : List Request) → probe_in past (hand_then done d rs) ≡ probe_in past rs
probe_hand past true d rs = probe_without past d rs
probe_hand past false d rs = refl

-- the one that waits waits on
still_waits : (says : Ask → Option Answer) (o : Option Waiting) → ((w : Waiting) → o ≡ Some w → says (Probe w.data_octets) ≡ None) → still says o ≡ o
still_waits says None h = refl
still_waits says (Some w) h = ap (λ (x : Option Answer). if is_none x then Some w else None) (h w refl)

hand_is : (c : Bool) (d : ℕ) (hand left : List Request) → left ≡ hand → are_distinct hand ≡ true → owning.left_by c (first_on d hand) left ≡ hand_then c d hand
hand_is true d hand left e h = ap (minus (first_on d hand)) e ∙ minus_first d hand h
hand_is false d hand left e h = e

handed_by : (old new : Station) (d : ℕ) (done : Bool) (q : Option Request) (before : List station.Act) → old.role ≡ Initiator → station_fits.StationFits old before → d < 62 → (d == 0) ≡ false → is_open Initiator d before ≡ true
    → (done ≡ true → (channel_at old d).waiting ≡ []) → HandsOn old new d (if done then option_map line_of q else None) → Handed old new before d (if done then text_next q else [])
handed_by old new d true None before r h l z o w n = nothing_on old new d before h n
handed_by old new d true (Some c) before r h l z o w n = line_on old new d (line_of c) before r n h l z o (w refl)
handed_by old new d false q before r h l z o w n = nothing_on old new d before h n

-- ## The whole call

-- what the station has seen after data: the frame, and nothing that it calls for
seen_data : (v : Core) (l : UrcKind → Bool) (past : List Act) (r : Runs v past) (f : Frame) → IsSound v → is_lost past ≡ false → is_data_frame f ≡ true → seen_then v r.seen f ≡ station.Got f ∷ r.seen
seen_data v l past r f i live h =
    let none : station_calls (setting_of v.station) r.seen (station.Got f) ≡ []
    = sym (frames_same v l past r f i live) ∙ (ap (λ (b : Bool). if b then [] else by_frame Initiator (λ d. state_of Initiator d (wire past)) f) live ∙ data_frames (λ d. state_of Initiator d (wire past)) f h) in
    ap (λ (fs : List Frame). sent_after fs (station.Got f ∷ r.seen)) none

-- every connection stands as it stood
shown_data : (v : Core) (l : UrcKind → Bool) (past : List Act) (r : Runs v past) (f : Frame) (st : Station) (seen : List station.Act) → IsSound v → is_lost past ≡ false → is_data_frame f ≡ true → st.role ≡ Initiator → station_fits.StationFits st seen
    → without_calls seen ≡ without_calls (seen_then v r.seen f) → (e : ℕ) → e < 62 → state_shown st false e ≡ state_shown v.station false e
shown_data v l past r f st seen i live h role fits same e k =
    ap as_shown (
    state_in st seen e role fits k
    ∙ (state_seen Initiator e seen (ended (own v l) past (Got f)) (same ∙ same_then v l past r f i live)
    ∙ (sym (state_seen Initiator e (seen_then v r.seen f) (ended (own v l) past (Got f)) (same_then v l past r f i live))
    ∙ (ap (state_of Initiator e) (seen_data v l past r f i live h) ∙ (data_state f r.seen e h ∙ sym (state_in v.station r.seen e i.role_is r.fits k))))))

-- the connection is open on
record OpenOn (v : Core) (l : UrcKind → Bool) (past : List Act) (r : Runs v past) (f : Frame) : Type 0 where
  data_is : is_data_frame f ≡ true
  no_zero : (f.dlci == 0) ≡ false
  was : is_open Initiator f.dlci (wire past) ≡ true
  now : is_open Initiator f.dlci (seen_then v r.seen f) ≡ true
  ended_now : is_open Initiator f.dlci (wire (ended (own v l) past (Got f))) ≡ true

open_on : (v : Core) (l : UrcKind → Bool) (past : List Act) (r : Runs v past) (f : Frame) → IsSound v → is_lost past ≡ false → f.dlci < 62 → reads_data v f ≡ true → OpenOn v l past r f
open_on v l past r f i live k h =
    let parts = and_parts (is_opened (channel_at v.station f.dlci).state) (is_data_frame f) h in
    let was : is_open Initiator f.dlci (wire past) ≡ true = open_here v.station f.dlci r.seen past i.role_is r.fits r.same k ∙ parts.0 in
    let before : is_open Initiator f.dlci r.seen ≡ true = open_seen Initiator f.dlci r.seen past r.same ∙ was in
    let now : is_open Initiator f.dlci (seen_then v r.seen f) ≡ true
    = (ap (λ (w : List station.Act). is_opened (state_of Initiator f.dlci w)) (seen_data v l past r f i live parts.1)
    ∙ (ap is_opened (data_state f r.seen f.dlci parts.1) ∙ before)) in
    record {
      data_is = parts.1;
      no_zero = not_on_zero f parts.1;
      was = was;
      now = now;
      ended_now = sym (open_seen Initiator f.dlci (seen_then v r.seen f) (ended (own v l) past (Got f)) (same_then v l past r f i live)) ∙ now;
    }

-- what is kept of each connection
data_lanes : (old : Core) (l : UrcKind → Bool) (past : List Act) (r : Runs old past) (f : Frame) (lane : Lane) (seen : List station.Act) (own_text : List ℕ) → IsSound old → f.dlci < 62 → is_lost past ≡ false → OpenOn old l past r f
    → DataKept old l past r f (lane_at old f.dlci) → lane.kept ≡ kept_run ((lane_at old f.dlci).kept ++ f.info) → window_by old.hand f.dlci lane ≡ option_map (shown (dialect_in old)) (open_window (dialect_in old) (marks Initiator f.dlci (ended (own old l) past (Got f))))
    → offered Initiator f.dlci seen ≡ concat (texts (take (answered (dialect_in old) (marks Initiator f.dlci (ended (own old l) past (Got f))) + 1) (accepted Initiator f.dlci (ended (own old l) past (Got f)))))
    → ((e : ℕ) → (f.dlci == e) ≡ false → offered Initiator e seen ≡ offered Initiator e (seen_then old r.seen f))
    → (e : ℕ) → e < 62 → (e == 0) ≡ false → is_open Initiator e (wire (ended (own old l) past (Got f))) ≡ true
    → LaneFits (dialect_in old) e seen (ended (own old l) past (Got f)) (slice_index_or (slice_set old.lanes f.dlci lane) e new_lane)
data_lanes old l past r f lane seen own_text i k live o c kept window own_is others e m z on = by_same (f.dlci == e) refl
  where
    by_same : (b : Bool) → (f.dlci == e) ≡ b → LaneFits (dialect_in old) e seen (ended (own old l) past (Got f)) (slice_index_or (slice_set old.lanes f.dlci lane) e new_lane)
    by_same true g =
        let here : slice_index_or (slice_set old.lanes f.dlci lane) f.dlci new_lane ≡ lane = get_or-set_same old.lanes f.dlci lane new_lane (subst (λ (x : ℕ). f.dlci < x) (sym i.all) k) in
        let fits : LaneFits (dialect_in old) f.dlci seen (ended (own old l) past (Got f)) lane = record {
          kept_is = c.run_is ∙ sym kept;
          under_way_fits = answer_fits (dialect_in old) (text_on f.dlci old.hand) lane.under_way (marks Initiator f.dlci (ended (own old l) past (Got f))) (record { in_turn = c.in_turn; shows = window });
          offered_is = own_is;
        } in
        subst (λ (x : ℕ). LaneFits (dialect_in old) x seen (ended (own old l) past (Got f)) (slice_index_or (slice_set old.lanes f.dlci lane) x new_lane)) (eqb-true f.dlci e g)
        (subst (λ (x : Lane). LaneFits (dialect_in old) f.dlci seen (ended (own old l) past (Got f)) x) (sym here) fits)
    by_same false g =
        let there : slice_index_or (slice_set old.lanes f.dlci lane) e new_lane ≡ lane_at old e = get_or-set_other old.lanes f.dlci e lane new_lane (λ (x : e ≡ f.dlci). eqb-false f.dlci e g (sym x)) in
        let never : opens_now Initiator e (wire past) (station.Got f) ≡ false = data_opens_none Initiator refl (is_open Initiator 0 (wire past)) (is_asked Initiator e (wire past)) e f o.data_is in
        let was = got_was (own old l) e past f never on in
        let apart : (e == f.dlci) ≡ false = ne_eqb e f.dlci (λ (x : e ≡ f.dlci). eqb-false f.dlci e g (sym x)) in
        let plain = plain_lane old l past r f e (lane_at old e) (carries_apart e f (is_open Initiator e (wire past)) apart) never was (r.lanes_fit e m z was) in
        subst (λ (x : Lane). LaneFits (dialect_in old) e seen (ended (own old l) past (Got f)) x) (sym there)
        (record { kept_is = plain.kept_is; under_way_fits = plain.under_way_fits; offered_is = others e g ∙ plain.offered_is })

data_own : (old new : Core) (l : UrcKind → Bool) (past : List Act) (f : Frame) (n : Noted) (lane : Lane) (st : Station) (acts : List Act) → IsSound old → DataCame old new f n lane st acts
    → MayCome (own old l) old past (Got f) → GoesOn (own old l) new past (Got f) acts
data_own old new l past f n lane st acts i w m =
    let s = own old l in
    let d = f.dlci in
    let v = seen s past in
    let now = now_in s past (Got f) in
    let live : is_lost past ≡ false = m.fits.lost_is ∙ w.live in
    let r = running old past w.live m.fits in
    let o = open_on old l past r f i live w.in_range w.is_data in
    let before = lane_at old d in
    let fits_lane = r.lanes_fit d w.in_range o.no_zero o.was in
    let role : st.role ≡ Initiator = ap (λ x. x.role) w.handles.setting ∙ i.role_is in
    let there = w.handles.fits r.seen r.fits in
    let read : is_read s past f ≡ true = same_read old l past r f i w.in_range ∙ w.is_data in
    let run = runs.run_on s past (Got f) refl tt m.run m.numbers in
    let lost_then : is_lost (ended s past (Got f)) ≡ false = lost_on s past (Got f) ∙ live in
    let c = data_kept old l past r f before o.data_is o.no_zero m.run o.was o.ended_now fits_lane in
    let shows = window_shows old l past r.seen d before live m.fits.hand_is m.run o.no_zero o.was fits_lane in
    let lr = lane_read old s past r.seen f lane acts m.setting w.reads fits_lane shows in
    let ls = lines (before.kept ++ f.info) in
    let ms = marks Initiator d past in
    let window = window_by old.hand d before in
    let shows_then = lr.window_is ∙ shows_after (dialect_in old) ls window ms shows in
    let shows_ended = shows_then ∙ ap (λ (x : List Mark). option_map (shown (dialect_in old)) (open_window (dialect_in old) x)) (sym c.marks_are) in
    let done = is_some before.under_way && is_none lane.under_way in
    let closed : done ≡ closes (dialect_in old) ms ls
    = ends_same (text_on d old.hand) before.under_way lane.under_way ∙ closes_shown (dialect_in old) window (window_by old.hand d lane) ms (ms ++ map Line ls) shows shows_then in
    let quiet_noted : probe_noted n ≡ None
    = ap probe_noted (w.noted_is r.seen r.fits ∙ ap (λ (x : Role). noted_of x (station_seen (setting_of old.station) r.seen) f) i.role_is) ∙ data_noted (station_seen (setting_of old.station) r.seen) f o.data_is in
    let shown : ℕ → ChannelState = λ e. state_shown st false e in
    let b = has_ended v now in
    let says = told_by (happened.Got n) b shown in
    let same_shown : (e : ℕ) → e < 62 → state_shown st false e ≡ state_shown old.station false e = shown_data old l past r f st (seen_then old r.seen f) i live o.data_is role there refl in
    let waits : list_all (λ (q : Request). may_wait shown q.ask) old.hand ≡ true = waits_same shown (state_shown old.station false) same_shown old.hand ∙ r.waits in
    let quiet : Quiet says old.hand = all_quiet n b shown old.hand quiet_noted waits in
    let all : AllSay v now (Got f) says old.hand = all_told old l past r f n st i live m.fits.hand_is m.run role there w.noted_is in
    let told : tolds v now (Got f) ≡ []
    = ap (filter_map (told_later v now (Got f))) m.fits.hand_is ∙ (tolds_are v now (Got f) says old.hand all ∙ ap (map act_of) quiet.untold) in
    let fs : frames_in s past (Got f) ≡ []
    = ap (λ (x : Bool). if x then [] else by_frame Initiator (λ e. state_of Initiator e (wire past)) f) live ∙ data_frames (λ e. state_of Initiator e (wire past)) f o.data_is in
    let said : lines_said s v (Got f) ≡ by_lines s d (first_on d old.hand) ms ls
    = ap (λ (x : Bool). if x then by_lines s d (first_on d v.waiting) (v.marks d) (lines (v.run d ++ f.info)) else []) read
    ∙ (ap (λ (hand : List Request). by_lines s d (first_on d hand) ms (lines (run_on Initiator d past ++ f.info))) m.fits.hand_is
    ∙ ap (λ (x : List ℕ). by_lines s d (first_on d old.hand) ms (lines (x ++ f.info))) fits_lane.kept_is) in
    let called : acts ≡ Got f ∷ calls s past (Got f)
    = lr.acts_are
    ∙ sym (
    ap (λ (x : List Frame). Got f ∷ (map Sent x ++ (lines_said s v (Got f) ++ tolds v now (Got f)))) fs
    ∙ (ap (λ (x : List Act). Got f ∷ (x ++ tolds v now (Got f))) said
    ∙ (ap (λ (x : List Act). Got f ∷ (by_lines s d (first_on d old.hand) ms ls ++ x)) told ∙ ap (λ (x : List Act). Got f ∷ x) (append-nil (by_lines s d (first_on d old.hand) ms ls))))) in
    let distinct : are_distinct old.hand ≡ true = ap are_distinct (sym m.fits.hand_is) ∙ hand_distinct s past m.run in
    let left : filter (stays v now (Got f)) (in_hand past) ≡ old.hand
    = ap (filter (stays v now (Got f))) m.fits.hand_is ∙ (stays_left v now (Got f) says old.hand all ∙ quiet.left) in
    let fin = finished (record old { station = st; lanes = slice_set old.lanes d lane }) new d done w.ends in
    let hand : in_hand (ended s past (Got f)) ≡ hand_then done d old.hand
    = data_hand s past f read (hand_distinct s past m.run)
    ∙ (ap (λ (x : List ℕ). owning.left_by (closes (dialect_in old) ms (lines (x ++ f.info))) (first_on d (in_hand past)) (filter (stays v now (Got f)) (in_hand past))) fits_lane.kept_is
    ∙ (ap (λ (x : Bool). owning.left_by x (first_on d (in_hand past)) (filter (stays v now (Got f)) (in_hand past))) (sym closed)
    ∙ (ap (λ (q : List Request). owning.left_by done (first_on d q) (filter (stays v now (Got f)) (in_hand past))) m.fits.hand_is
    ∙ hand_is done d old.hand (filter (stays v now (Got f)) (in_hand past)) left distinct))) in
    let empty : done ≡ true → (channel_at st d).waiting ≡ []
    = λ e. ring_answered old l past r f before st i live o.no_zero w.in_range run o.ended_now o.now fits_lane c (sym closed ∙ e) role there in
    let given = handed_by st fin.station d done (first_on d (hand_then done d old.hand)) (seen_then old r.seen f) role there w.in_range o.no_zero o.now empty fin.next in
    let final : fin.station.role ≡ Initiator = ap (λ x. x.role) given.setting ∙ role in
    let more : offered Initiator d given.seen ≡ concat (texts (take (answered (dialect_in old) (marks Initiator d (ended s past (Got f))) + 1) (accepted Initiator d (ended s past (Got f)))))
    = given.own
    ∙ (ap (λ (q : List Request). offered Initiator d (seen_then old r.seen f) ++ (if done then text_next (first_on d q) else [])) (sym hand)
    ∙ offered_then old l past r f before done lost_then o.no_zero run o.ended_now fits_lane c (sym closed)) in
    let lanes = data_lanes old l past r f lane given.seen [] i w.in_range live o c lr.kept_is shows_ended more given.others in
    let after_it : Core = record old { station = fin.station; lanes = slice_set old.lanes d lane; hand = hand_then done d old.hand } in
    let opened_zero : (q : Waiting) → old.station.probe ≡ Some q → says (Probe q.data_octets) ≡ None
    = λ q p.
    probe_waits (state_shown st false 0) n _ quiet_noted
    (ap cores.shows_opened (same_shown 0 (omega arith))
    ∙ (shown_opened (channel_at old.station 0).state
    ∙ (ap is_opened (state_in old.station r.seen 0 i.role_is r.fits (omega arith)) ∙ (ap (λ (x : Role). is_opened (state_of x 0 r.seen)) (sym i.role_is) ∙ needs_open (setting_of old.station) r.seen q (r.fits.probe_is ∙ p))))) in
    let probe_same : st.probe ≡ old.station.probe
    = probe_then old.station st r.seen f (station_calls (setting_of old.station) r.seen (station.Got f)) n b i.role_is w.handles.setting r.fits there (noted_says old past r f n i w.noted_is) ∙ still_waits says old.station.probe opened_zero in
    let goes : Runs after_it (ended s past (Got f)) = record {
      seen = given.seen;
      fits = given.fits;
      same = given.same ∙ same_then old l past r f i live;
      waits = all_then (λ (q : Request). may_wait (state_shown fin.station false) q.ask) done d old.hand
          (waits_same (state_shown fin.station false) (state_shown old.station false) (shown_data old l past r f fin.station given.seen i live o.data_is final given.fits given.same) old.hand ∙ r.waits);
      probe_is =
          probe_along past (ended s past (Got f)) (λ q. ticks_said q (calls s past (Got f)) (Got f ∷ past) (calls_said s v (Got f))) (hand_then done d old.hand)
          ∙ (probe_hand past done d old.hand ∙ (r.probe_is ∙ (sym probe_same ∙ sym given.probe)));
      lanes_fit = lanes;
    } in
    let fits : Fits after_it (ended s past (Got f)) = record { hand_is = hand; lost_is = lost_on s past (Got f) ∙ m.fits.lost_is; runs = subst (λ (x : Bool). RunsUnless x after_it (ended s past (Got f))) (sym w.live) goes } in
    let setting : IsSettingOf s after_it = record { role_is = refl; n1_is = ap (λ x. x.n1) (sym w.handles.setting) ∙ ap (λ x. x.n1) (sym given.setting); dialect_is = refl; listens_are = m.setting.listens_are } in
    record {
      called = called;
      setting = subst (λ (x : Core). IsSettingOf s x) (sym fin.new_is) setting;
      fits = subst (λ (x : Core). Fits x (after past acts)) (sym fin.new_is) (subst (λ (x : List Act). Fits after_it (after past x)) (sym called) fits);
      run = subst (λ (x : List Act). IsRun s (after past x)) (sym called) run;
    }

-- the core handles data of an open connection by the acts that its octets bring
pub data_handles : (old new : Core) (f : Frame) (n : Noted) (lane : Lane) (st : Station) (acts : List Act) → IsSound old → DataCame old new f n lane st acts → Handles old new (Got f) acts
unfolding Handles
data_handles old new f n lane st acts i w s past m =
    let e = own_is s old m.setting in
    subst (λ (x : Setting). GoesOn x new past (Got f) acts) (sym e) (data_own old new s.listens past f n lane st acts i w (subst (λ (x : Setting). MayCome x old past (Got f)) e m))
