-- A request that the station's call accepts is in hand from then on.
use Rattle.std.specs.Prelude.{◌≡◌, ℕ, ◌+◌, ◌<◌, ◌==◌, ◌&&◌, nat_le, nat_lt, Bool, true, false, List, [], ◌∷◌, ◌++◌, length, map, filter, filter_map, take, refl, Option, Some, None, if◌then◌else◌, Result, Ok, Err, IfOk}
use Rattle.std.specs.List.{concat}
use Rattle.std.proofs.Common.{ap, sym, ◌∙◌, subst, arith, append-nil}
use Rattle.std.proofs.lemmas.Bool.Decides.{nat_tests}
use Rattle.mux_frame.specs.Frames.{Frame}
use Rattle.at_text.specs.Windows.{answered}
use Rattle.mux_station.specs.declared.role.Role.{Role}
use Rattle.mux_station.specs.declared.role.Role.TheVariants.{Initiator}
use Rattle.mux_station.specs.Acts as station
use Rattle.mux_station.specs.Opening.{is_open}
use Rattle.mux_station.specs.States.{States, state_of}
use Rattle.mux_station.specs.Stages.{as_shown}
use Rattle.mux_station.specs.Offering.{octets_offered, offered}
use Rattle.mux_station.specs.Sending as sending
use Rattle.mux_station.specs.Sending.{refused, sent_after}
use Rattle.mux_station.specs.Stations.{Station, setting_of, seen_in}
use Rattle.mux_station.specs.Fitting as station_fits
use Rattle.mux_station.specs.Fitting.{call_dlci}
use Rattle.mux_station.specs.Traces.{without_calls}
use Rattle.mux_station.proofs.user_calls.OpenAndClose.{calls_asked}
use Rattle.mux_station.proofs.user_calls.ProbeStopFlowOffer.{sees_the_past}
use Rattle.mux_station.proofs.law_proofs.PastsWithoutCalls.{same_states}
use Rattle.modem_desk.specs.declared.request.Ask.{Ask}
use Rattle.modem_desk.specs.declared.request.Request.{Request}
use Rattle.modem_desk.specs.declared.request.Answer.{Answer}
use Rattle.modem_desk.specs.declared.request.Answer.TheVariants.{LineLost, Busy}
use Rattle.modem_history.specs.declared.act.Act as code
use Rattle.modem_core.specs.declared.telling.Happened.TheVariants as happened
use Rattle.modem_history.specs.Acts.{Act, Took, Sent, act_of, after, wire, told, in_hand}
use Rattle.modem_history.specs.Information.{accepted, command_on, texts}
use Rattle.modem_history.specs.Placing.{marks}
use Rattle.modem_history.specs.Calls.{Setting, seen, asking, at_once, refused_ask, said_of, calls, told_later, tolds}
use Rattle.modem_core.specs.Telling.{told_by, told_to, left_by}
use Rattle.modem_core.specs.ActLists.{ActList}
use Rattle.modem_core.specs.Doing.{AsksAlone, MayTake}
use Rattle.modem_core.specs.Cores.{dialect_in, Core, Fits, Runs, RunsUnless, IsRun, MayCome, GoesOn, Handles, lane_at, may_wait, state_shown, probe_in}
use Rattle.modem_history.proofs.requests.RequestsAfterCalls.{stays}
use Rattle.modem_history.proofs.calls.CallEnds.{frames_in, now_in, now_is, ended, end_of}
use Rattle.modem_history.proofs.requests.CommandsInStep.{left_in}
use Rattle.modem_history.proofs.requests.StepOfRequest.{if_none, took_hand}
use Rattle.modem_core.proofs.requests.LaterOutcomes.{AllSay, has_ended, tolds_are}
use Rattle.modem_core.proofs.cores.WholeCalls.{run_on, lost_on}
use Rattle.modem_core.proofs.cores.LineLoss.{stays_left}
use Rattle.modem_core.proofs.cores.StationPasts.{wire_sent}
use Rattle.modem_core.proofs.cores.UnchangedParts.{open_plain, all_was, offered_same, offered_called}
use Rattle.modem_core.proofs.requests.TakenRequests.{Live, live_of, distinct_with, left_wait, wait_with, took_all, asked_frames, lane_on, once_live, once_lost}

-- ## The station's call

-- the station fits its past with the call and the frames that it asks for
pub called_fits : (v w : Station) (past : List station.Act) (c : station.Call) → station_fits.StationFits v past → call_dlci c < 62 → refused (setting_of v) (seen_in v) c ≡ None
    → station_fits.StationHandles v w (station.Called c) → station_fits.StationFits w (sent_after (sending.frames_asked v.role c) (station.Called c ∷ past))
called_fits v w past c f l n h =
    subst (λ (fs : List Frame). station_fits.StationFits w (sent_after fs (station.Called c ∷ past))) (calls_asked (setting_of v) past c f.live (sym (sees_the_past v past c f l) ∙ n)) (h.fits past f)

-- ## What a request is told at once

-- fewer than 128 requests leave room in hand
pub few_not : (n : ℕ) → n < 128 → nat_le 128 n ≡ false
few_not n h = grind (arith, nat_tests)

-- while the line isn't lost and there is room in hand, it is told at once just what refuses it
pub once_is : (s : Setting) (v : Core) (past : List Act) (q : Request) → Live s v past → length v.hand < 128 → at_once s (seen s past) q ≡ refused_ask s (seen s past) q.ask
once_is s v past q l h =
    ap (λ (b : Bool). if b then Some LineLost else (if nat_le 128 (length (in_hand past)) then Some Busy else refused_ask s (seen s past) q.ask)) l.lost_is
    ∙ ap (λ (b : Bool). if b then Some Busy else refused_ask s (seen s past) q.ask) (ap (λ (rs : List Request). nat_le 128 (length rs)) l.hand_is ∙ few_not (length v.hand) h)

-- what is told at once by every past changes nothing
told_at_once : (v new : Core) (q : Request) (why : Answer) → new ≡ v → ((s : Setting) (past : List Act) → MayCome s v past (Took q) → GoesOn s v past (Took q) (Took q ∷ told q why ∷ [])) → AsksAlone v new q (Some why)
unfolding Handles
told_at_once v new q why n goes = record {
  past = λ s past m. subst (λ (c : Core). GoesOn s c past (Took q) (Took q ∷ told q why ∷ [])) (sym n) (goes s past m);
  lanes = ap (λ (c : Core). c.lanes) n;
  n1 = ap (λ (c : Core). c.station.n1) n;
}

-- what refuses it by every past it is told at once
pub refused_alone : (v new : Core) (q : Request) (a : Ask) (why : Answer) → v.station.role ≡ Initiator → MayTake v q a → new ≡ v
    → ((s : Setting) (past : List Act) → Live s v past → refused_ask s (seen s past) a ≡ Some why) → AsksAlone v new q (Some why)
refused_alone v new q a why e may n refuses = told_at_once v new q why n (λ s past m.
    let live = live_of s v past (Took q) e may.live m in
    once_live s v past q why e may.live m (once_is s v past q live may.few ∙ (ap (refused_ask s (seen s past)) may.asks ∙ refuses s past live)))

-- 128 are in hand
pub full_alone : (v : Core) (q : Request) → v.station.role ≡ Initiator → v.lost ≡ false → nat_le 128 (length v.hand) ≡ true → AsksAlone v v q (Some Busy)
full_alone v q e l full = told_at_once v v q Busy refl (λ s past m.
    let live = live_of s v past (Took q) e l m in
    once_live s v past q Busy e l m
    (ap (λ (b : Bool). if b then Some LineLost else (if nat_le 128 (length (in_hand past)) then Some Busy else refused_ask s (seen s past) q.ask)) live.lost_is
    ∙ ap (λ (b : Bool). if b then Some Busy else refused_ask s (seen s past) q.ask) (ap (λ (rs : List Request). nat_le 128 (length rs)) live.hand_is ∙ full)))

-- the line is lost
pub lost_alone : (v : Core) (q : Request) → v.lost ≡ true → AsksAlone v v q (Some LineLost)
lost_alone v q l = told_at_once v v q LineLost refl (λ s past m.
    once_lost s v past q LineLost l m
    (ap (λ (b : Bool). if b then Some LineLost else (if nat_le 128 (length (in_hand past)) then Some Busy else refused_ask s (seen s past) q.ask)) (m.fits.lost_is ∙ l)))

-- ## A request that is accepted

-- it is told nothing at once, and the station goes on with the frames that it asks for; e says whether 0 is Opened no more
pub record Accepts (s : Setting) (v : Core) (past : List Act) (q : Request) (w : Station) (e : Bool) : Type 0 where
  pub once : at_once s (seen s past) q ≡ None
  pub acts_seen : List station.Act
  pub fits : station_fits.StationFits w acts_seen
  pub setting : setting_of w ≡ setting_of v.station
  pub same : without_calls acts_seen ≡ sent_after (asking s.role q.ask) (wire past)
  pub ends : has_ended (seen s past) (now_in s past (Took q)) ≡ e
  pub waits : may_wait (state_shown w false) q.ask ≡ true
  pub probe_is : probe_in (ended s past (Took q)) (left_by (told_by happened.Took e (state_shown w false)) v.hand ++ q ∷ []) ≡ w.probe
  pub offered_are : (d : ℕ) → d < 62 → (d == 0) ≡ false → is_open Initiator d (sent_after (asking s.role q.ask) (wire past)) ≡ true
      → offered Initiator d acts_seen ≡ concat (texts (take (answered (dialect_in v) (marks Initiator d past) + 1) (accepted Initiator d (Took q ∷ past))))

-- the states that there are at the end of the call
pub state_then : (s : Setting) (past : List Act) (q : Request) (fs : List Frame) (d : ℕ) → frames_in s past (Took q) ≡ fs → now_in s past (Took q) d ≡ state_of s.role d (sent_after fs (wire past))
state_then s past q fs d h =
    now_is s past (Took q ∷ map Sent (frames_in s past (Took q))) d
    ∙ (ap (λ (gs : List Frame). state_of s.role d (wire (after (Took q ∷ past) (map Sent gs)))) h ∙ ap (state_of s.role d) (wire_sent fs (Took q ∷ past)))

-- each connection has the same state with the station's calls and without them
pub plain_state : (r : Role) (d : ℕ) (x : List station.Act) → state_of r d (without_calls x) ≡ state_of r d x
plain_state r d x = ap (λ (s : States). s.own) (same_states r d x)

-- then the core goes on, with the request in hand behind those that are told nothing
pub accept_on : (s : Setting) (v : Core) (past : List Act) (q : Request) (w : Station) (e : Bool) → Live s v past → MayCome s v past (Took q) → Accepts s v past q w e → v.lost ≡ false
    → GoesOn s (record v { station = w; hand = left_by (told_by happened.Took e (state_shown w false)) v.hand ++ q ∷ [] }) past (Took q)
    (Took q ∷ (map Sent (asking s.role q.ask) ++ map act_of (told_to (told_by happened.Took e (state_shown w false)) v.hand)))
accept_on s v past q w e live m a lost =
    let see = seen s past in
    let now = now_in s past (Took q) in
    let fs = asking s.role q.ask in
    let says = told_by happened.Took e (state_shown w false) in
    let new : Core = record v { station = w; hand = left_by says v.hand ++ q ∷ [] } in
    let framed : frames_in s past (Took q) ≡ fs = asked_frames s past q live.lost_is a.once in
    let wires : wire (ended s past (Took q)) ≡ sent_after fs (wire past)
    = (end_of s past (Took q) 0).wire_is ∙ (ap (λ (gs : List Frame). wire (after (Took q ∷ past) (map Sent gs))) framed ∙ wire_sent fs (Took q ∷ past)) in
    let role : s.role ≡ w.role = live.same_role ∙ sym (ap (λ (x : sending.StationSetting). x.role) a.setting) in
    let shown : (d : ℕ) → d < 62 → as_shown (now d) ≡ state_shown w false d
    = λ d b. ap as_shown (state_then s past q fs d framed
    ∙ (ap (state_of s.role d) (sym a.same) ∙ (plain_state s.role d a.acts_seen ∙ (ap (λ (x : Role). state_of x d a.acts_seen) role ∙ (a.fits.channels_are d b).state_is)))) in
    let all : AllSay see now (Took q) says v.hand
    = subst (λ (b : Bool). AllSay see now (Took q) (told_by happened.Took b (state_shown w false)) v.hand) a.ends (took_all s past q (state_shown w false) shown v.hand) in
    let later : tolds see now (Took q) ≡ map act_of (told_to says v.hand) = ap (filter_map (told_later see now (Took q))) live.hand_is ∙ tolds_are see now (Took q) says v.hand all in
    let called : Took q ∷ (map Sent fs ++ map act_of (told_to says v.hand)) ≡ Took q ∷ calls s past (Took q)
    = ap (λ (x : List Act). Took q ∷ x)
    (sym (ap (λ (o : Option Answer). map Sent (frames_in s past (Took q)) ++ (said_of q o ++ tolds see now (Took q))) a.once
    ∙ (ap (λ (x : List Act). map Sent (frames_in s past (Took q)) ++ x) later ∙ ap (λ (gs : List Frame). map Sent gs ++ map act_of (told_to says v.hand)) framed))) in
    let stay : left_in s past (Took q) ≡ left_by says v.hand = ap (filter (stays see now (Took q))) live.hand_is ∙ stays_left see now (Took q) says v.hand all in
    let hand : in_hand (ended s past (Took q)) ≡ left_by says v.hand ++ q ∷ []
    = took_hand s past q (distinct_with s v past q m)
    ∙ (ap (λ (o : Option Answer). left_in s past (Took q) ++ if_none o q) a.once ∙ ap (λ (rs : List Request). rs ++ q ∷ []) stay) in
    let runs : Runs new (ended s past (Took q)) = record {
      seen = a.acts_seen;
      fits = a.fits;
      same = a.same ∙ sym wires;
      waits = wait_with (state_shown w false) (left_by says v.hand) q (left_wait (state_shown w false) e v.hand) a.waits;
      probe_is = a.probe_is;
      lanes_fit = λ d b z o.
          let here : is_open Initiator d (sent_after fs (wire past)) ≡ true = ap (is_open Initiator d) (sym wires) ∙ o in
          let was = live.runs.lanes_fit d b z (all_was Initiator d fs (wire past) here) in
          lane_on (dialect_in v) s past q d (lane_at v d) live.runs.seen a.acts_seen fs live.role_is framed here was (a.offered_are d b z here);
    } in
    let there : Fits new (ended s past (Took q)) = record { hand_is = hand; lost_is = lost_on s past (Took q) ∙ m.fits.lost_is; runs = subst (λ (b : Bool). RunsUnless b new (ended s past (Took q))) (sym lost) runs } in
    record {
      called = called;
      setting = record { role_is = m.setting.role_is; n1_is = m.setting.n1_is ∙ sym (ap (λ (x : sending.StationSetting). x.n1) a.setting); dialect_is = m.setting.dialect_is; listens_are = m.setting.listens_are };
      fits = subst (λ (x : List Act). Fits new (after past x)) (sym called) there;
      run = subst (λ (x : List Act). IsRun s (after past x)) (sym called) (run_on s past (Took q) refl tt m.run m.numbers);
    }

-- what the code comes to, by what the past says of the station
pub record Becomes (v new : Core) (q : Request) (w : Station) (e : Bool) (acts : List code.Act) : Type 0 where
  pub new_is : new ≡ record v { station = w; hand = left_by (told_by happened.Took e (state_shown w false)) v.hand ++ q ∷ [] }
  pub acts_are : map act_of acts ≡ Took q ∷ (map Sent (asking Initiator q.ask) ++ map act_of (told_to (told_by happened.Took e (state_shown w false)) v.hand))

-- and handles it, by the acts that the code comes to
pub accepted_handles : (v new : Core) (q : Request) (w : Station) (e : Bool) (acts : List code.Act) → v.station.role ≡ Initiator → v.lost ≡ false
    → ((s : Setting) (past : List Act) → Live s v past → MayCome s v past (Took q) → Accepts s v past q w e)
    → ((s : Setting) (past : List Act) → Live s v past → MayCome s v past (Took q) → Becomes v new q w e acts) → Handles v new (Took q) (map act_of acts)
unfolding Handles
accepted_handles v new q w e acts role lost accepts becomes s past m =
    let live = live_of s v past (Took q) role lost m in
    let b = becomes s past live m in
    let says = told_by happened.Took e (state_shown w false) in
    let there = accept_on s v past q w e live m (accepts s past live m) lost in
    let acts_are : map act_of acts ≡ Took q ∷ (map Sent (asking s.role q.ask) ++ map act_of (told_to says v.hand))
    = b.acts_are ∙ ap (λ (r : Role). Took q ∷ (map Sent (asking r q.ask) ++ map act_of (told_to says v.hand))) (sym live.role_is) in
    subst (λ (x : List Act). GoesOn s new past (Took q) x) (sym acts_are)
    (subst (λ (c : Core). GoesOn s c past (Took q) (Took q ∷ (map Sent (asking s.role q.ask) ++ map act_of (told_to says v.hand)))) (sym b.new_is) there)

-- ## Asks other than commands

-- what isn't a command on the connection isn't accepted there
pub unaccepted_by : {X : Type 0} → (io on room : Bool) (acc more : X) → on ≡ false → (if io && (on && room) then more else acc) ≡ acc
unaccepted_by true true room acc more h = cc
unaccepted_by false true room acc more h = cc
unaccepted_by true false room acc more h = refl
unaccepted_by false false room acc more h = refl

-- nothing more is accepted, and nothing more offered
pub plain_offered : (s : Setting) (v : Core) (past : List Act) (q : Request) (c : station.Call) (fs : List Frame) (d : ℕ) → (live : Live s v past) → d < 62 → (d == 0) ≡ false
    → without_calls (sent_after fs (station.Called c ∷ live.runs.seen)) ≡ sent_after (asking s.role q.ask) (wire past) → is_open Initiator d (sent_after (asking s.role q.ask) (wire past)) ≡ true
    → octets_offered d (station.Called c) ≡ [] → command_on d q.ask ≡ false
    → offered Initiator d (sent_after fs (station.Called c ∷ live.runs.seen)) ≡ concat (texts (take (answered (dialect_in v) (marks Initiator d past) + 1) (accepted Initiator d (Took q ∷ past))))
plain_offered s v past q c fs d live b z same o none off =
    let before = live.runs.seen in
    let here : is_open Initiator d (sent_after fs (station.Called c ∷ before)) ≡ true = open_plain Initiator d (sent_after fs (station.Called c ∷ before)) ∙ (ap (is_open Initiator d) same ∙ o) in
    let called : is_open Initiator d (station.Called c ∷ before) ≡ true = all_was Initiator d fs (station.Called c ∷ before) here in
    let lane = live.runs.lanes_fit d b z (all_was Initiator d (asking s.role q.ask) (wire past) o) in
    offered_same Initiator d fs (station.Called c ∷ before) here
    ∙ (offered_called Initiator d c before called
    ∙ (ap (λ (x : List ℕ). offered Initiator d before ++ x) none
    ∙ (append-nil (offered Initiator d before)
    ∙ (lane.offered_is
    ∙ ap (λ (qs : List Request). concat (texts (take (answered (dialect_in v) (marks Initiator d past) + 1) qs)))
    (sym (unaccepted_by (is_open Initiator d (wire past)) (command_on d q.ask) (nat_lt (length (in_hand past)) 128) (accepted Initiator d past) (accepted Initiator d past ++ q ∷ []) off))))))

-- ## The acts as they are put together

-- one act more behind those that there are
pub pushed_on : (start pushed : ActList) (begun items : List code.Act) (a b : code.Act) (n m : ℕ) → start ≡ record { acts = begun; left = n } → pushed ≡ record { acts = start.acts ++ a ∷ []; left = m } → a ≡ b → items ≡ pushed.acts
    → items ≡ begun ++ b ∷ []
pushed_on start pushed begun items a b n m s p e i =
    i ∙ (ap (λ (v : ActList). v.acts) p ∙ (ap (λ (v : ActList). v.acts ++ a ∷ []) s ∙ ap (λ (x : code.Act). begun ++ x ∷ []) e))

-- where a call succeeds, what follows from its promise of the result is so too
pub ok_too : {X E : Type 0} (P Q : X → Type 0) (r : Result X E) → ((x : X) → P x → Q x) → IfOk r P → IfOk r Q
ok_too P Q (Ok x) h k = h x k
ok_too P Q (Err e) h k = k
