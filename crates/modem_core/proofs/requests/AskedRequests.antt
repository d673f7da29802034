-- Requests that are taken without memory.
use Rattle.std.specs.Prelude.{◌≡◌, ◌<◌, ◌≤◌, ℕ, Bool, false, List, [], ◌∷◌, ◌++◌, length, map, refl, Option, Some, None}
use Rattle.std.proofs.Common.{ap, sym, ◌∙◌, subst, append-nil, arith}
use Rattle.mux_frame.specs.declared.dlci.Dlci.{Dlci}
use Rattle.mux_station.specs.declared.role.Role.{Role}
use Rattle.mux_station.specs.declared.role.Role.TheVariants.{Initiator}
use Rattle.mux_station.specs.Sending.{StationSetting}
use Rattle.mux_station.specs.Stations.{Station, setting_of}
use Rattle.modem_desk.specs.declared.request.Ask.TheVariants.{OpenChannel, Probe}
use Rattle.modem_desk.specs.declared.request.Request.{Request}
use Rattle.modem_history.specs.declared.act.Act as code
use Rattle.modem_core.specs.declared.telling.Happened.TheVariants as happened
use Rattle.modem_history.specs.Acts.{Act, Took, Sent, Told, act_of}
use Rattle.modem_history.specs.Calls.{Setting, asking}
use Rattle.modem_core.specs.Telling.{told_by, told_to, left_by}
use Rattle.modem_core.specs.Cores.{Core, GoesOn, Handles, MayCome, state_shown}
use Rattle.modem_core.specs.TakenActs.{taken_acts}
use Rattle.modem_core.proofs.requests.AcceptedRequests.{Accepts, accept_on}
use Rattle.modem_core.proofs.requests.OpenRequests.{Opens, open_waits, open_accepts}
use Rattle.modem_core.specs.Doing.{Adds, Asked, Asks, AsksAlone, AsksOn, MayTake, Takes, outcomes_to}
use Rattle.modem_core.proofs.holds.OtherCalls.{keeps_sent}
use Rattle.modem_history.specs.Turns.{outcomes_told, lines_heard}
use Rattle.mux_frame.specs.Frames.{Frame}
use Rattle.modem_desk.specs.declared.request.Answer.{Answer}
use Rattle.modem_desk.specs.declared.request.Outcome.{Outcome}
use Rattle.modem_core.proofs.requests.ToldOutcomes.{few_outcomes, told_back}
use Rattle.modem_core.proofs.requests.ProbeRequests.{Probes, probe_accepts, probe_wait}
use Rattle.modem_core.proofs.requests.TakenRequests.{AllWait, Live, live_of, all_left, none_told}

-- what the station took on is handled by what it asks for, where all in hand may wait
asked_alone : (v new : Core) (w : Station) (q : Request) → v.station.role ≡ Initiator → v.lost ≡ false
    → ((s : Setting) (past : List Act) → Live s v past → AllWait (state_shown w false) v.hand)
    → ((s : Setting) (past : List Act) → Live s v past → MayCome s v past (Took q) → Accepts s v past q w false)
    → setting_of w ≡ setting_of v.station → new ≡ record v { station = w; hand = v.hand ++ q ∷ [] } → AsksAlone v new q None
unfolding Handles
asked_alone v new w q role lost wait accepts setting n = record {
  past = λ s past m.
      let live = live_of s v past (Took q) role lost m in
      let waits = wait s past live in
      let says = told_by happened.Took false (state_shown w false) in
      let there = accept_on s v past q w false live m (accepts s past live m) lost in
      let new_is = n ∙ ap (λ (rs : List Request). record v { station = w; hand = rs ++ q ∷ [] }) (sym (all_left (state_shown w false) false v.hand waits)) in
      let acts_are : Took q ∷ map Sent (asking Initiator q.ask) ≡ Took q ∷ (map Sent (asking s.role q.ask) ++ map act_of (told_to says v.hand))
      = ap (λ (x : List Act). Took q ∷ x) (sym (append-nil (map Sent (asking Initiator q.ask))))
      ∙ (ap (λ (x : List code.Act). Took q ∷ (map Sent (asking Initiator q.ask) ++ map act_of x)) (sym (none_told (state_shown w false) false v.hand waits))
      ∙ ap (λ (r : Role). Took q ∷ (map Sent (asking r q.ask) ++ map act_of (told_to says v.hand))) (sym live.role_is)) in
      subst (λ (x : List Act). GoesOn s new past (Took q) x) (sym acts_are)
      (subst (λ (c : Core). GoesOn s c past (Took q) (Took q ∷ (map Sent (asking s.role q.ask) ++ map act_of (told_to says v.hand)))) (sym new_is) there);
  lanes = ap (λ (c : Core). c.lanes) n;
  n1 = ap (λ (c : Core). c.station.n1) n ∙ ap (λ (x : StationSetting). x.n1) setting;
}

-- an opening that the station took
pub asked_open : (v new : Core) (w : Station) (q : Request) (d : Dlci) → v.station.role ≡ Initiator → MayTake v q (OpenChannel d) → Opens v w q d
    → new ≡ record v { station = w; hand = v.hand ++ q ∷ [] } → AsksAlone v new q None
asked_open v new w q d role may o n = asked_alone v new w q role may.live (λ s past l. open_waits v w q d s past o l) (open_accepts v w q d may.few o) o.goes_on.setting n

-- a probe that it took
pub asked_probe : (v new : Core) (w : Station) (q : Request) (octets : List ℕ) → v.station.role ≡ Initiator → MayTake v q (Probe octets) → Probes v w q octets
    → new ≡ record v { station = w; hand = v.hand ++ q ∷ [] } → AsksAlone v new q None
asked_probe v new w q octets role may o n = asked_alone v new w q role may.live (λ s past l. probe_wait v w q octets s past o l) (probe_accepts v w q octets may.few o) o.goes_on.setting n

-- ## What it tells others

-- the station took it on
pub asked_on : (v new : Core) (w : Station) (q : Request) (e : Bool) (was now : List Outcome) → v.station.role ≡ Initiator → v.lost ≡ false
    → ((s : Setting) (past : List Act) → Live s v past → MayCome s v past (Took q) → Accepts s v past q w e) → setting_of w ≡ setting_of v.station
    → new ≡ record v { station = w; hand = left_by (told_by happened.Took e (state_shown w false)) v.hand ++ q ∷ [] }
    → Adds was now (outcomes_to (told_by happened.Took e (state_shown w false)) v.hand) → Asked v new was now q None
unfolding Handles
asked_on v new w q e was now role lost accepts setting n adds =
    let says = told_by happened.Took e (state_shown w false) in
    let handled : Handles v new (Took q) (taken_acts q None ++ map Told (outcomes_to says v.hand)) = λ s past m.
    let live = live_of s v past (Took q) role lost m in
    let there = accept_on s v past q w e live m (accepts s past live m) lost in
    let acts_are : Took q ∷ (map Sent (asking Initiator q.ask) ++ map Told (outcomes_to says v.hand)) ≡ Took q ∷ (map Sent (asking s.role q.ask) ++ map act_of (told_to says v.hand))
    = ap (λ (x : List Act). Took q ∷ (map Sent (asking Initiator q.ask) ++ x)) (told_back says v.hand)
    ∙ ap (λ (r : Role). Took q ∷ (map Sent (asking r q.ask) ++ map act_of (told_to says v.hand))) (sym live.role_is) in
    subst (λ (x : List Act). GoesOn s new past (Took q) x) (sym acts_are)
    (subst (λ (c : Core). GoesOn s c past (Took q) (Took q ∷ (map Sent (asking s.role q.ask) ++ map act_of (told_to says v.hand)))) (sym n) there) in
    record {
      asks = record { told = outcomes_to says v.hand; few = few_outcomes says v.hand; past = handled; adds = adds };
      lanes = ap (λ (c : Core). c.lanes) n;
      n1 = ap (λ (c : Core). c.station.n1) n ∙ ap (λ (x : StationSetting). x.n1) setting;
    }

-- where nobody else is told anything, nothing more waits
pub alone : (old new : Core) (os : List Outcome) (q : Request) (answer : Option Answer) → AsksAlone old new q answer → Asked old new os os q answer
alone old new os q (Some why) a = record { asks = (a.past, refl); lanes = a.lanes; n1 = a.n1 }
alone old new os q None a = record {
  asks = record {
    told = [];
    few = omega arith;
    past = subst (Handles old new (Took q)) (sym (append-nil (taken_acts q None))) a.past;
    adds = λ _. sym (append-nil os);
  };
  lanes = a.lanes;
  n1 = a.n1;
}

-- ## Any request

outcomes_asked : (fs : List Frame) (os : List Outcome) → outcomes_told (map Sent fs ++ map Told os) ≡ os
outcomes_asked [] [] = refl
outcomes_asked [] (o ∷ os) = ap (λ (x : List Outcome). o ∷ x) (outcomes_asked [] os)
outcomes_asked (f ∷ fs) os = outcomes_asked fs os

none_asked : (fs : List Frame) (os : List Outcome) → lines_heard (map Sent fs ++ map Told os) ≡ []
none_asked [] [] = refl
none_asked [] (o ∷ os) = none_asked [] os
none_asked (f ∷ fs) os = none_asked fs os

-- a request that was taken on, and left the lanes as they were, is taken
pub takes_on : (old new : Core) (was now : List Outcome) (q : Request) → new.lanes ≡ old.lanes → AsksOn old new was now q → Takes old new was now q
takes_on old new was now q lanes a = record {
  acts = taken_acts q None ++ map Told a.told;
  past = a.past;
  holds = keeps_sent old new q _ lanes a.past;
  adds = subst (Adds was now) (sym (outcomes_asked (asking Initiator q.ask) a.told)) a.adds;
  unheard = none_asked (asking Initiator q.ask) a.told;
}

-- so is one that is told at once, once its outcome waits
pub takes_once : (old new : Core) (was mid now : List Outcome) (q : Request) (why : Answer) → new.lanes ≡ old.lanes → Handles old new (Took q) (taken_acts q (Some why)) → mid ≡ was
    → (o : Outcome) → o ≡ record { caller = q.caller; number = q.number; answer = why } → (length mid < 128 → now ≡ mid ++ o ∷ []) → Takes old new was now q
takes_once old new was mid now q why lanes h same o is put = record {
  acts = taken_acts q (Some why);
  past = h;
  holds = keeps_sent old new q _ lanes h;
  adds = λ few. put (let m = ap (length {A = Outcome}) same in omega (arith, few, m)) ∙ (ap (λ (x : List Outcome). x ++ o ∷ []) same ∙ ap (λ (x : Outcome). was ++ x ∷ []) is);
  unheard = refl;
}

-- ## Its acts, written down

-- what others are told is no more than were in hand
pub few_asked : (old new : Core) (now : List Outcome) (q : Request) (answer : Option Answer) → length old.hand ≤ 128 → Asks old new [] now q answer → length now ≤ length old.hand
few_asked old new now q (Some why) few asks = let none = ap (length {A = Outcome}) asks.1 in omega (arith, none)
few_asked old new now q None few asks =
    let less = asks.few in
    let told = ap (length {A = Outcome}) (asks.adds (omega (arith, few, less))) in
    omega (arith, less, told)

-- the request was taken, it was told this or its frame was sent, and others were told
pub asked_all : (old new : Core) (now : List Outcome) (q : Request) (answer : Option Answer) → length old.hand ≤ 128 → Asks old new [] now q answer → Handles old new (Took q) (taken_acts q answer ++ map Told now)
asked_all old new now q (Some why) few asks =
    subst (λ (os : List Outcome). Handles old new (Took q) (taken_acts q (Some why) ++ map Told os)) (sym asks.1) asks.0
asked_all old new now q None few asks =
    let less = asks.few in
    subst (λ (os : List Outcome). Handles old new (Took q) (taken_acts q None ++ map Told os)) (sym (asks.adds (omega (arith, few, less)))) asks.past
