-- A request is taken: told at once, or in hand from then on.
use Rattle.std.specs.Prelude.{◌≡◌, ℕ, ◌+◌, ◌<◌, ◌==◌, ◌&&◌, not, nat_le, Bool, true, false, List, [], ◌∷◌, ◌++◌, length, map, take, refl, Option, Some, None, is_none, if◌then◌else◌}
use Rattle.std.specs.List.{list_all, concat}
use Rattle.std.proofs.Common.{ap, sym, ◌∙◌, subst, append-nil}
use Rattle.std.proofs.lemmas.Bool.{and_parts, and_from}
use Rattle.std.proofs.lemmas.List.Folds.{list_all-append}
use Rattle.mux_frame.specs.Frames.{Frame}
use Rattle.at_text.specs.Dialects.{Dialect}
use Rattle.at_text.specs.Lines.{kept_run}
use Rattle.at_text.specs.Windows.{answered}
use Rattle.at_text.specs.UnderWay.{FitsUnderWay}
use Rattle.mux_station.specs.declared.role.Role.{Role}
use Rattle.mux_station.specs.declared.role.Role.TheVariants.{Initiator}
use Rattle.mux_station.specs.declared.role.ChannelState.{ChannelState}
use Rattle.mux_station.specs.declared.role.ChannelState.TheVariants as is
use Rattle.mux_station.specs.Acts as station
use Rattle.mux_station.specs.Opening.{since, is_open}
use Rattle.mux_station.specs.States.{State, state_of}
use Rattle.mux_station.specs.Stages.{as_shown}
use Rattle.mux_station.specs.Tables.{octets_of}
use Rattle.mux_station.specs.Offering.{offered}
use Rattle.mux_station.specs.Sending.{queue, sent_after}
use Rattle.mux_station.specs.Stations.{channel_at}
use Rattle.modem_desk.specs.declared.request.Ask.{Ask}
use Rattle.modem_desk.specs.declared.request.Ask.TheVariants.{OpenChannel, CloseChannel, Command, Probe, Stop}
use Rattle.modem_desk.specs.declared.request.Request.{Request}
use Rattle.modem_desk.specs.declared.request.Answer.{Answer}
use Rattle.modem_desk.specs.declared.request.Answer.TheVariants.{Busy}
use Rattle.modem_core.specs.declared.telling.Happened.TheVariants as happened
use Rattle.modem_history.specs.Acts.{Act, Took, Sent, act_of, after, wire, told, in_hand}
use Rattle.modem_history.specs.Information.{accepted, command_on, texts, info_got}
use Rattle.modem_history.specs.Placing.{marks}
use Rattle.modem_history.specs.Calls.{Setting, HistoryView, seen, is_lost, ticks_since, asking, at_once, said_of, calls, tolds, states_now}
use Rattle.modem_core.specs.Telling.{told_by, said_to, told_to, left_by}
use Rattle.modem_history.specs.Requests.{is_apart, are_distinct}
use Rattle.modem_history.specs.Wholes.{taken_requests}
use Rattle.modem_core.specs.Lanes.{Lane}
use Rattle.modem_core.specs.Cores.{dialect_in, Core, Fits, Runs, RunsUnless, LaneFits, IsRun, MayCome, GoesOn, lane_at, may_wait, state_shown, probe_in}
use Rattle.modem_history.proofs.calls.CalledActs.{calls_said}
use Rattle.modem_history.proofs.requests.RequestsInHand.{all_swap_back}
use Rattle.modem_history.proofs.requests.StepsOfHistory.{few_once, few_hand, distinct_few}
use Rattle.modem_history.proofs.requests.RequestsAfterCalls.{distinct_ends}
use Rattle.modem_history.proofs.calls.CallEnds.{frames_in, now_in, now_is, ended, end_of}
use Rattle.modem_history.proofs.requests.CommandsInStep.{seen_open, left_in}
use Rattle.modem_history.proofs.requests.StepOfRequest.{if_none, took_hand, command_once, less_not}
use Rattle.modem_core.proofs.requests.LaterOutcomes.{Says, AllSay, has_ended, later_is, tolds_are, all_say}
use Rattle.modem_core.proofs.cores.WholeCalls.{run_on as goes_on, lost_on}
use Rattle.modem_core.proofs.cores.LineLoss.{stays_left}
use Rattle.modem_core.proofs.cores.StationPasts.{state_seen, queue_seen, wire_sent}
use Rattle.modem_core.proofs.cores.UnchangedParts.{info_same, ticks_behind, EachSame, probe_same}

-- ## What is known of the past while the line isn't lost

pub record Live (s : Setting) (v : Core) (past : List Act) : Type 0 where
  pub runs : Runs v past
  pub role_is : s.role ≡ Initiator
  pub same_role : s.role ≡ v.station.role
  pub n1_is : s.n1 ≡ v.station.n1
  pub dialect_is : s.dialect ≡ dialect_in v
  pub states_are : (d : ℕ) → d < 62 → state_of s.role d (wire past) ≡ (channel_at v.station d).state
  pub queued_is : octets_of (queue (wire past)) ≡ octets_of v.station.queue
  pub lost_is : is_lost past ≡ false
  pub hand_is : in_hand past ≡ v.hand

-- that is so of each past in which an act may come
pub live_of : (s : Setting) (v : Core) (past : List Act) (a : Act) → v.station.role ≡ Initiator → v.lost ≡ false → MayCome s v past a → Live s v past
live_of s v past a e l m =
    let r : Runs v past = subst (λ (b : Bool). RunsUnless b v past) l m.fits.runs in
    let role : s.role ≡ v.station.role = m.setting.role_is ∙ sym e in
    record {
      runs = r;
      role_is = m.setting.role_is;
      same_role = role;
      n1_is = m.setting.n1_is;
      dialect_is = m.setting.dialect_is;
      states_are = λ d b. sym (state_seen s.role d r.seen past r.same) ∙ (ap (λ (x : Role). state_of x d r.seen) role ∙ (r.fits.channels_are d b).state_is);
      queued_is = ap octets_of (sym (queue_seen r.seen past r.same) ∙ r.fits.queue_is);
      lost_is = m.fits.lost_is ∙ l;
      hand_is = m.fits.hand_is;
    }

-- with the request no two are of one caller and number
pub distinct_with : (s : Setting) (v : Core) (past : List Act) (q : Request) → MayCome s v past (Took q) → are_distinct (in_hand past ++ q ∷ []) ≡ true
distinct_with s v past q m = distinct_few (in_hand (Took q ∷ past)) (few_hand (Took q ∷ past) (few_once (taken_requests (Took q ∷ past)) m.numbers))

-- ## Who may wait

-- who may wait is told nothing
pub waits_none : (now : ℕ → ChannelState) (e : Bool) (ask : Ask) → may_wait now ask ≡ true → told_by happened.Took e now ask ≡ None
waits_none now e (OpenChannel d) h = by_state (now d.number) h
  where
    by_state : (c : ChannelState) → may_wait (λ n. c) (OpenChannel d) ≡ true → told_by happened.Took e (λ n. c) (OpenChannel d) ≡ None
    by_state is.Shut k = cc
    by_state is.Opening k = refl
    by_state is.Opened k = cc
    by_state is.Closing k = cc
    by_state is.Stopping k = cc
waits_none now e (CloseChannel d) h = by_state (now d.number) h
  where
    by_state : (c : ChannelState) → may_wait (λ n. c) (CloseChannel d) ≡ true → told_by happened.Took e (λ n. c) (CloseChannel d) ≡ None
    by_state is.Shut k = cc
    by_state is.Opening k = cc
    by_state is.Opened k = cc
    by_state is.Closing k = refl
    by_state is.Stopping k = cc
waits_none now e (Command d line) h = by_state (now d.number) h
  where
    by_state : (c : ChannelState) → may_wait (λ n. c) (Command d line) ≡ true → told_by happened.Took e (λ n. c) (Command d line) ≡ None
    by_state is.Shut k = cc
    by_state is.Opening k = cc
    by_state is.Opened k = refl
    by_state is.Closing k = cc
    by_state is.Stopping k = cc
waits_none now e (Probe octets) h = by_state (now 0) h
  where
    by_state : (c : ChannelState) → may_wait (λ n. c) (Probe octets) ≡ true → told_by happened.Took e (λ n. c) (Probe octets) ≡ None
    by_state is.Shut k = cc
    by_state is.Opening k = cc
    by_state is.Opened k = refl
    by_state is.Closing k = cc
    by_state is.Stopping k = cc
waits_none now e Stop h = by_state (now 0) h
  where
    by_state : (c : ChannelState) → may_wait (λ n. c) Stop ≡ true → told_by happened.Took e (λ n. c) Stop ≡ None
    by_state is.Shut k = cc
    by_state is.Opening k = cc
    by_state is.Opened k = cc
    by_state is.Closing k = cc
    by_state is.Stopping k = refl

-- who is told nothing may wait
pub none_waits : (now : ℕ → ChannelState) (e : Bool) (ask : Ask) → is_none (told_by happened.Took e now ask) ≡ true → may_wait now ask ≡ true
none_waits now e (OpenChannel d) h = by_state (now d.number) h
  where
    by_state : (c : ChannelState) → is_none (told_by happened.Took e (λ n. c) (OpenChannel d)) ≡ true → may_wait (λ n. c) (OpenChannel d) ≡ true
    by_state is.Shut k = cc
    by_state is.Opening k = refl
    by_state is.Opened k = cc
    by_state is.Closing k = cc
    by_state is.Stopping k = cc
none_waits now e (CloseChannel d) h = by_state (now d.number) h
  where
    by_state : (c : ChannelState) → is_none (told_by happened.Took e (λ n. c) (CloseChannel d)) ≡ true → may_wait (λ n. c) (CloseChannel d) ≡ true
    by_state is.Shut k = cc
    by_state is.Opening k = cc
    by_state is.Opened k = cc
    by_state is.Closing k = refl
    by_state is.Stopping k = cc
none_waits now e (Command d line) h = by_state (now d.number) h
  where
    by_state : (c : ChannelState) → is_none (told_by happened.Took e (λ n. c) (Command d line)) ≡ true → may_wait (λ n. c) (Command d line) ≡ true
    by_state is.Shut k = cc
    by_state is.Opening k = cc
    by_state is.Opened k = refl
    by_state is.Closing k = cc
    by_state is.Stopping k = cc
none_waits now e (Probe octets) h = by_state (now 0) h
  where
    by_state : (c : ChannelState) → is_none (told_by happened.Took e (λ n. c) (Probe octets)) ≡ true → may_wait (λ n. c) (Probe octets) ≡ true
    by_state is.Shut k = cc
    by_state is.Opening k = cc
    by_state is.Opened k = refl
    by_state is.Closing k = cc
    by_state is.Stopping k = cc
none_waits now e Stop h = by_state (now 0) h
  where
    by_state : (c : ChannelState) → is_none (told_by happened.Took e (λ n. c) Stop) ≡ true → may_wait (λ n. c) Stop ≡ true
    by_state is.Shut k = cc
    by_state is.Opening k = cc
    by_state is.Opened k = cc
    by_state is.Closing k = cc
    by_state is.Stopping k = refl

-- all of these requests may wait
abbrev pub AllWait : (ℕ → ChannelState) → List Request → Type 0
AllWait now rs = list_all (λ (r : Request). may_wait now r.ask) rs ≡ true

-- those who may wait are told nothing, and stay
pub none_told : (now : ℕ → ChannelState) (e : Bool) (rs : List Request) → AllWait now rs → told_to (told_by happened.Took e now) rs ≡ []
none_told now e [] h = refl
none_told now e (r ∷ rs) h =
    let hs = and_parts (may_wait now r.ask) (list_all (λ (x : Request). may_wait now x.ask) rs) h in
    ap (λ (o : Option Answer). said_to r o ++ told_to (told_by happened.Took e now) rs) (waits_none now e r.ask hs.0) ∙ none_told now e rs hs.1

-- so all of them are left
pub all_left : (now : ℕ → ChannelState) (e : Bool) (rs : List Request) → AllWait now rs → left_by (told_by happened.Took e now) rs ≡ rs
all_left now e [] h = refl
all_left now e (r ∷ rs) h =
    let hs = and_parts (may_wait now r.ask) (list_all (λ (x : Request). may_wait now x.ask) rs) h in
    let left = left_by (told_by happened.Took e now) rs in
    ap (λ (o : Option Answer). if is_none o then r ∷ left else left) (waits_none now e r.ask hs.0) ∙ ap (λ (v : List Request). r ∷ v) (all_left now e rs hs.1)

-- those who are left may wait
pub left_wait : (now : ℕ → ChannelState) (e : Bool) (rs : List Request) → AllWait now (left_by (told_by happened.Took e now) rs)
left_wait now e [] = refl
left_wait now e (r ∷ rs) = by_told (is_none (told_by happened.Took e now r.ask)) refl (left_wait now e rs)
  where
    by_told : (b : Bool) → is_none (told_by happened.Took e now r.ask) ≡ b → AllWait now (left_by (told_by happened.Took e now) rs)
        → AllWait now (if b then r ∷ left_by (told_by happened.Took e now) rs else left_by (told_by happened.Took e now) rs)
    by_told true k h = and_from (may_wait now r.ask) _ (none_waits now e r.ask k) h
    by_told false k h = h

-- with one more that may wait all may
pub wait_with : (now : ℕ → ChannelState) (rs : List Request) (q : Request) → AllWait now rs → may_wait now q.ask ≡ true → AllWait now (rs ++ q ∷ [])
wait_with now rs q h k =
    list_all-append (λ (r : Request). may_wait now r.ask) rs (q ∷ [])
    ∙ and_from (list_all (λ (r : Request). may_wait now r.ask) rs) (may_wait now q.ask && true) h (and_from (may_wait now q.ask) true k refl)

-- ## What is said

took_says : (v : HistoryView) (now : ℕ → State) (q : Request) → Says v now (Took q) happened.Took
took_says v now q = record { cause_is = λ why. refl; stop_is = refl }

-- each in hand is told what the states say that there are then
pub took_all : (s : Setting) (past : List Act) (q : Request) (shown : ℕ → ChannelState) → ((d : ℕ) → d < 62 → as_shown (now_in s past (Took q) d) ≡ shown d) → (rs : List Request)
    → AllSay (seen s past) (now_in s past (Took q)) (Took q) (told_by happened.Took (has_ended (seen s past) (now_in s past (Took q))) shown) rs
took_all s past q shown h rs = all_say (seen s past) (now_in s past (Took q)) (Took q) happened.Took shown (took_says (seen s past) (now_in s past (Took q)) q) h (λ r octets. refl) rs

-- the acts of a request by what it is told at once, and the frames
abbrev said : Setting → List Act → Request → List Frame → Option Answer → List Act
said s past q fs once = map Sent fs ++ (said_of q once ++ tolds (seen s past) (states_now s (seen s past) (Took q ∷ map Sent fs)) (Took q))

none_either : (b : Bool) → (let none : List Frame = [] in if b then none else none) ≡ []
none_either true = refl
none_either false = refl

-- a request that is told at once sends no frame
pub once_frames : (s : Setting) (past : List Act) (q : Request) (why : Answer) → at_once s (seen s past) q ≡ Some why → frames_in s past (Took q) ≡ []
once_frames s past q why h = ap (λ (o : Option Answer). if (seen s past).lost then [] else (if is_none o then asking s.role q.ask else [])) h ∙ none_either (seen s past).lost

-- any other sends the frames that it asks for, while the line isn't lost
pub asked_frames : (s : Setting) (past : List Act) (q : Request) → is_lost past ≡ false → at_once s (seen s past) q ≡ None → frames_in s past (Took q) ≡ asking s.role q.ask
asked_frames s past q l h =
    ap (λ (o : Option Answer). if (seen s past).lost then [] else (if is_none o then asking s.role q.ask else [])) h
    ∙ ap (λ (b : Bool). if b then [] else asking s.role q.ask) l

-- ## Ticks and the probe

each_same : (s : Setting) (past : List Act) (q : Request) (rs : List Request) → list_all (is_apart q) rs ≡ true → EachSame past (ended s past (Took q)) rs
unfolding EachSame
each_same s past q [] h = tt
each_same s past q (r ∷ rs) h =
    let hs = and_parts (is_apart q r) (list_all (is_apart q) rs) h in
    (record { ticks_same = ticks_behind r (calls s past (Took q)) (Took q ∷ past) (calls_said s (seen s past) (Took q)) ∙ apart (is_same_one r) hs.0 }, each_same s past q rs hs.1)
  where
    is_same_one : Request → Bool
    is_same_one x = (q.caller == x.caller) && (q.number == x.number)

    apart : (b : Bool) → not b ≡ true → (if b then 0 else ticks_since r past) ≡ ticks_since r past
    apart true k = cc
    apart false k = refl

-- those in hand, without the one that is taken, have their probe as before
pub probe_kept : (s : Setting) (v : Core) (past : List Act) (q : Request) → MayCome s v past (Took q) → probe_in (ended s past (Took q)) v.hand ≡ probe_in past v.hand
probe_kept s v past q m =
    let apart = (distinct_ends (in_hand past) q (distinct_with s v past q m)).1 in
    let of_hand : list_all (is_apart q) v.hand ≡ true = subst (λ (rs : List Request). list_all (is_apart q) rs ≡ true) m.fits.hand_is (all_swap_back q (in_hand past) apart) in
    probe_same past (ended s past (Took q)) v.hand (each_same s past q v.hand of_hand)

-- ## Lanes

-- an open connection goes on
pub lane_on : (dialect : Dialect) (s : Setting) (past : List Act) (q : Request) (d : ℕ) (lane : Lane) (old new : List station.Act) (fs : List Frame) → s.role ≡ Initiator → frames_in s past (Took q) ≡ fs
    → is_open Initiator d (sent_after fs (wire past)) ≡ true
    → LaneFits dialect d old past lane → offered Initiator d new ≡ concat (texts (take (answered dialect (marks Initiator d past) + 1) (accepted Initiator d (Took q ∷ past))))
    → LaneFits dialect d new (ended s past (Took q)) lane
lane_on dialect s past q d lane old new fs r f o l h =
    let e = end_of s past (Took q) d in
    let wires : wire (ended s past (Took q)) ≡ sent_after fs (wire past) = e.wire_is ∙ (ap (λ (gs : List Frame). wire (after (Took q ∷ past) (map Sent gs))) f ∙ wire_sent fs (Took q ∷ past)) in
    let marked : marks Initiator d (ended s past (Took q)) ≡ marks Initiator d past = subst (λ (x : Role). marks x d (ended s past (Took q)) ≡ marks x d past) r e.marks_are in
    let taken_on : accepted Initiator d (ended s past (Took q)) ≡ accepted Initiator d (Took q ∷ past) = subst (λ (x : Role). accepted x d (ended s past (Took q)) ≡ accepted x d (Took q ∷ past)) r e.accepted_is in
    record {
      kept_is = ap (λ (w : List station.Act). kept_run (info_got d (since Initiator d w))) wires ∙ (ap kept_run (info_same Initiator d fs (wire past) o) ∙ l.kept_is);
      under_way_fits = subst (FitsUnderWay dialect lane.under_way) (sym marked) l.under_way_fits;
      offered_is = h ∙ (ap (λ (n : ℕ). concat (texts (take (n + 1) (accepted Initiator d (Took q ∷ past))))) (ap (answered dialect) (sym marked))
          ∙ ap (λ (qs : List Request). concat (texts (take (answered dialect (marks Initiator d (ended s past (Took q))) + 1) qs))) (sym taken_on));
    }

not_more : {X : Type 0} → (io on full : Bool) (o : Option Answer) (why : Answer) (acc more : X) → o ≡ Some why → (on ≡ true → o ≡ (if full then Some Busy else None)) → (if io && (on && not full) then more else acc) ≡ acc
not_more io true false o why acc more e h = absurd (let k : Some why ≡ None = sym e ∙ h refl in cc)
not_more true false full o why acc more e h = refl
not_more false false full o why acc more e h = refl
not_more true true true o why acc more e h = refl
not_more false true true o why acc more e h = refl

-- what is told at once isn't accepted
once_unaccepted : (s : Setting) (v : Core) (past : List Act) (q : Request) (why : Answer) (d : ℕ) → Live s v past → (d == 0) ≡ false → is_open s.role d (wire past) ≡ true → at_once s (seen s past) q ≡ Some why
    → accepted s.role d (Took q ∷ past) ≡ accepted s.role d past
once_unaccepted s v past q why d live z o h =
    let full = nat_le 128 (length (in_hand past)) in
    ap (λ (b : Bool). if is_open s.role d (wire past) && (command_on d q.ask && b) then accepted s.role d past ++ q ∷ [] else accepted s.role d past) (less_not (length (in_hand past)) 128)
    ∙ not_more (is_open s.role d (wire past)) (command_on d q.ask) full (at_once s (seen s past) q) why (accepted s.role d past) (accepted s.role d past ++ q ∷ []) h
    (λ c. command_once s (seen s past) q d live.lost_is z (seen_open s d past o) q.ask refl c)

-- ## Told at once

-- everyone in hand waits on
abbrev none_says : Ask → Option Answer
none_says ask = None

none_said : (rs : List Request) → told_to none_says rs ≡ []
none_said [] = refl
none_said (r ∷ rs) = none_said rs

none_go : (rs : List Request) → left_by none_says rs ≡ rs
none_go [] = refl
none_go (r ∷ rs) = ap (λ (v : List Request). r ∷ v) (none_go rs)

all_quiet : (s : Setting) (past : List Act) (q : Request) (shown : ℕ → ChannelState) → ((d : ℕ) → d < 62 → as_shown (now_in s past (Took q) d) ≡ shown d) → (rs : List Request) → AllWait shown rs
    → AllSay (seen s past) (now_in s past (Took q)) (Took q) none_says rs
all_quiet s past q shown h [] w = tt
all_quiet s past q shown h (r ∷ rs) w =
    let v = seen s past in
    let now = now_in s past (Took q) in
    let ws = and_parts (may_wait shown r.ask) (list_all (λ (x : Request). may_wait shown x.ask) rs) w in
    (later_is v now (Took q) happened.Took shown (took_says v now q) h r r.ask (λ octets. refl) ∙ waits_none shown (has_ended v now) r.ask ws.0, all_quiet s past q shown h rs ws.1)

-- by a request that is told at once no state changes
pub once_now : (s : Setting) (past : List Act) (q : Request) (why : Answer) (d : ℕ) → at_once s (seen s past) q ≡ Some why → now_in s past (Took q) d ≡ state_of s.role d (wire past)
once_now s past q why d h = ap (λ (fs : List Frame). states_now s (seen s past) (Took q ∷ map Sent fs) d) (once_frames s past q why h) ∙ now_is s past (Took q ∷ []) d

-- what is left to show of a request that is told at once
once_by : (s : Setting) (v : Core) (past : List Act) (q : Request) (why : Answer) → MayCome s v past (Took q) → at_once s (seen s past) q ≡ Some why
    → AllSay (seen s past) (now_in s past (Took q)) (Took q) none_says v.hand → RunsUnless v.lost v (ended s past (Took q))
    → GoesOn s v past (Took q) (Took q ∷ told q why ∷ [])
once_by s v past q why m h quiet runs =
    let see = seen s past in
    let now = now_in s past (Took q) in
    let hand0 : AllSay see now (Took q) none_says (in_hand past) = subst (AllSay see now (Took q) none_says) (sym m.fits.hand_is) quiet in
    let nothing : tolds see now (Took q) ≡ [] = tolds_are see now (Took q) none_says (in_hand past) hand0 ∙ ap (map act_of) (none_said (in_hand past)) in
    let called : Took q ∷ told q why ∷ [] ≡ Took q ∷ calls s past (Took q)
    = ap (λ (w : List Act). Took q ∷ w)
    (sym (ap (λ (fs : List Frame). map Sent fs ++ (said_of q (at_once s see q) ++ tolds see now (Took q))) (once_frames s past q why h)
    ∙ (ap (λ (o : Option Answer). said_of q o ++ tolds see now (Took q)) h ∙ ap (λ (w : List Act). told q why ∷ w) nothing))) in
    let hand : in_hand (ended s past (Took q)) ≡ v.hand
    = took_hand s past q (distinct_with s v past q m)
    ∙ (ap (λ (o : Option Answer). left_in s past (Took q) ++ if_none o q) h
    ∙ (append-nil (left_in s past (Took q)) ∙ (stays_left see now (Took q) none_says (in_hand past) hand0 ∙ (none_go (in_hand past) ∙ m.fits.hand_is)))) in
    let there : Fits v (ended s past (Took q)) = record { hand_is = hand; lost_is = lost_on s past (Took q) ∙ m.fits.lost_is; runs = runs } in
    record {
      called = called;
      setting = m.setting;
      fits = subst (λ (w : List Act). Fits v (after past w)) (sym called) there;
      run = subst (λ (w : List Act). IsRun s (after past w)) (sym called) (goes_on s past (Took q) refl tt m.run m.numbers);
    }

-- while the line isn't lost
pub once_live : (s : Setting) (v : Core) (past : List Act) (q : Request) (why : Answer) → v.station.role ≡ Initiator → v.lost ≡ false → MayCome s v past (Took q) → at_once s (seen s past) q ≡ Some why
    → GoesOn s v past (Took q) (Took q ∷ told q why ∷ [])
once_live s v past q why e l m h =
    let live = live_of s v past (Took q) e l m in
    let r = live.runs in
    let none = once_frames s past q why h in
    let shown : (d : ℕ) → d < 62 → as_shown (now_in s past (Took q) d) ≡ state_shown v.station false d = λ d b. ap as_shown (once_now s past q why d h ∙ live.states_are d b) in
    let wires : wire (ended s past (Took q)) ≡ wire past = (end_of s past (Took q) 0).wire_is ∙ ap (λ (fs : List Frame). wire (after (Took q ∷ past) (map Sent fs))) none in
    let runs : Runs v (ended s past (Took q)) = record {
      seen = r.seen;
      fits = r.fits;
      same = r.same ∙ sym wires;
      waits = r.waits;
      probe_is = probe_kept s v past q m ∙ r.probe_is;
      lanes_fit = λ d b z o.
          let was : is_open Initiator d (wire past) ≡ true = ap (is_open Initiator d) (sym wires) ∙ o in
          let l = r.lanes_fit d b z was in
          let open_there : is_open s.role d (wire past) ≡ true = ap (λ (x : Role). is_open x d (wire past)) live.role_is ∙ was in
          let same : accepted Initiator d (Took q ∷ past) ≡ accepted Initiator d past
          = subst (λ (x : Role). accepted x d (Took q ∷ past) ≡ accepted x d past) live.role_is (once_unaccepted s v past q why d live z open_there h) in
          lane_on (dialect_in v) s past q d (lane_at v d) r.seen r.seen [] live.role_is none was l (l.offered_is ∙ ap (λ (qs : List Request). concat (texts (take (answered (dialect_in v) (marks Initiator d past) + 1) qs))) (sym same));
    } in
    once_by s v past q why m h (all_quiet s past q (state_shown v.station false) shown v.hand r.waits) (subst (λ (b : Bool). RunsUnless b v (ended s past (Took q))) (sym l) runs)

-- and after a loss
pub once_lost : (s : Setting) (v : Core) (past : List Act) (q : Request) (why : Answer) → v.lost ≡ true → MayCome s v past (Took q) → at_once s (seen s past) q ≡ Some why
    → GoesOn s v past (Took q) (Took q ∷ told q why ∷ [])
once_lost s v past q why l m h =
    let none : v.hand ≡ [] = subst (λ (b : Bool). RunsUnless b v past) l m.fits.runs in
    once_by s v past q why m h (subst (AllSay (seen s past) (now_in s past (Took q)) (Took q) none_says) (sym none) tt) (subst (λ (b : Bool). RunsUnless b v (ended s past (Took q))) (sym l) none)
