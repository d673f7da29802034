-- A call of the core, and what it tells and announces waits: the session fits its history with it.
use Rattle.std.proofs.Common.{ap, sym, ◌∙◌, subst, arith}
use Rattle.std.proofs.lemmas.List.{length-append}
use Rattle.std.specs.Prelude.{◌≡◌, ◌+◌, ◌≤◌, nat_lt, true, List, ◌∷◌, ◌++◌, length, filter, map, refl}
use Rattle.std.specs.List.{list_all}
use Rattle.modem_desk.specs.declared.request.Request.{Request}
use Rattle.modem_desk.specs.declared.request.Outcome.{Outcome}
use Rattle.modem_desk.specs.Ends.{DriverView}
use Rattle.modem_history.specs.Acts.{Act, after, in_hand}
use Rattle.modem_history.specs.Calls.{Setting}
use Rattle.modem_history.specs.GoingOut.{SendsInTurn}
use Rattle.modem_history.specs.Requests.{are_distinct}
use Rattle.modem_history.specs.Wholes.{UsesOnce, taken_requests}
use Rattle.modem_history.specs.Sessions.{Beginning, LineView, FitsWith, FitsLoss, FitsReceived, TakesWithRoom, driving, given_on, heard_as}
use Rattle.modem_history.specs.Turns.{outcomes_told, lines_heard}
use Rattle.modem_history.proofs.calls.CalledActs.{Saids}
use Rattle.modem_history.proofs.outcomes.SingleOutcomes.{uses_once}
use Rattle.modem_history.proofs.law_proofs.SessionLaws.{distinct_taken, since_are}
use Rattle.modem_driver.specs.WaitingTicks.{AreDelays}
use Rattle.modem_driver.proofs.sessions.steps.WaitedTicks.{delays_after}
use Rattle.modem_core.specs.Cores.{MayCome, GoesOn, IsRun}
use Rattle.modem_core.specs.Holding.{HoldsFit}
use Rattle.modem_driver.specs.Endings.{HasCome}
use Rattle.modem_queues.specs.Stops.{is_stop}
use Rattle.modem_driver.specs.SessionStates.{Machine, MachineFits, seen_by, end_of}
use Rattle.modem_core.proofs.sessions.steps.LongerHistories.{taken_after, given_after, room_after, turn_after, has_listener}
use Rattle.modem_core.proofs.sessions.steps.OutcomeCounts.{is_caller, hand_counts, callers_told}
use Rattle.modem_core.proofs.sessions.steps.ListenedLines.{Hear, all_listened}
use Rattle.modem_driver.proofs.sessions.steps.WaitingDeliveries.{told_part, heard_part, sent_part}
use Rattle.modem_driver.proofs.sessions.polls.StopsInHand.{said_stops}
use Rattle.modem_history.proofs.rules.MadeLaws.{laws_of, takes_octet}
use Rattle.modem_history.proofs.rules.LawfulHistories.{made_by}

-- the session fits the history
abbrev pub FitsMachine : Beginning → LineView → DriverView → Machine → List Act → Type 0
FitsMachine b l d k past = FitsWith b (seen_by l (end_of d) k) (MachineFits b l d k) past

-- ## Before it

-- each request that was taken is of a caller of the desk
pub callers_taken : (b : Beginning) (l : LineView) (d : DriverView) (k : Machine) (past : List Act) → FitsMachine b l d k past → list_all (is_caller b.callers) (taken_requests past) ≡ true
callers_taken b l d k past f = sym (ap (list_all (is_caller b.callers)) (since_are b (seen_by l (end_of d) k) past f.session)) ∙ f.session.requests.callers

-- what the session fits is a history of whole calls
pub is_run : (b : Beginning) (l : LineView) (d : DriverView) (k : Machine) (past : List Act) → FitsMachine b l d k past → IsRun (driving b) past
is_run b l d k past f = record {
  lawful = (laws_of f.session.history).lawful;
  complete = (laws_of f.session.history).complete;
  whole = (laws_of f.session.history).calls;
  numbers = uses_once (taken_requests past) (distinct_taken b (seen_by l (end_of d) k) past f.session);
}

-- an act that takes no request may come after it
pub may_come : (b : Beginning) (l : LineView) (d : DriverView) (k : Machine) (past : List Act) (a : Act) → FitsMachine b l d k past → taken_requests (a ∷ past) ≡ taken_requests past → MayCome (driving b) k.core past a
may_come b l d k past a f same = record {
  setting = f.inside.setting;
  fits = f.inside.fits;
  run = is_run b l d k past f;
  numbers = subst UsesOnce (sym same) (uses_once (taken_requests past) (distinct_taken b (seen_by l (end_of d) k) past f.session));
}

-- ## After it

-- an act that takes no request, hands over no frame to the line, and is no outcome or line itself
pub record IsBare (a : Act) (past : List Act) : Type 0 where
  pub taken_is : taken_requests (a ∷ past) ≡ taken_requests past
  pub given_is : given_on (a ∷ past) ≡ given_on past
  pub hand_is : in_hand (a ∷ past) ≡ in_hand past
  pub room_is : TakesWithRoom past → TakesWithRoom (a ∷ past)
  pub turn_is : (s : Setting) → SendsInTurn s past → SendsInTurn s (a ∷ past)
  pub told_is : (more : List Act) → outcomes_told (a ∷ more) ≡ outcomes_told more
  pub heard_is : (more : List Act) → lines_heard (a ∷ more) ≡ lines_heard more

-- what was told and heard waits behind the others
pub record KeepsMore (old new : Machine) (acts : List Act) : Type 0 where
  pub outcomes : length old.unplaced + length (outcomes_told acts) ≤ 128 → new.unplaced ≡ old.unplaced ++ outcomes_told acts
  pub lines : map heard_as new.unannounced ≡ map heard_as old.unannounced ++ lines_heard acts

-- so few are told that there is room for them
pub few_told : (b : Beginning) (l : LineView) (d : DriverView) (old new : Machine) (past more : List Act) (a : Act) → FitsMachine b l d old past → IsBare a past → GoesOn (driving b) new.core past a (a ∷ more) → Saids more
    → length (in_hand (after past (a ∷ more))) + length (outcomes_told (a ∷ more)) ≤ length (in_hand past)
few_told b l d old new past more a f bare goes said =
    let distinct : are_distinct (taken_requests (a ∷ past)) ≡ true = ap are_distinct bare.taken_is ∙ distinct_taken b (seen_by l (end_of d) old) past f.session in
    let count = hand_counts (driving b) more (a ∷ past) goes.run.lawful distinct said in
    let same = ap (length {A = Request}) bare.hand_is in
    let told = ap (length {A = Outcome}) (bare.told_is more) in
    omega arith

-- the session fits the history with the act and all that it called for
pub call_fits : (b : Beginning) (l : LineView) (d : DriverView) (old new : Machine) (past more : List Act) (a : Act)
    → FitsMachine b l d old past → IsBare a past → GoesOn (driving b) new.core past a (a ∷ more) → HoldsFit new.core (after past (a ∷ more)) → AreDelays new.delays (a ∷ past) → Saids more → Hear (driving b) more → KeepsMore old new (a ∷ more)
    → new.unwritten ≡ old.unwritten → new.faulty ≡ old.faulty → HasCome b (seen_by l (end_of d) new) (after past (a ∷ more)) new.course
    → FitsLoss b (seen_by l (end_of d) new) (after past (a ∷ more)) → FitsReceived b (seen_by l (end_of d) new) (after past (a ∷ more))
    → FitsMachine b l d new (after past (a ∷ more))
call_fits b l d old new past more a f bare goes holds delays said hear keeps unwritten faulty come loss received =
    let s = f.session in
    let few = few_told b l d old new past more a f bare goes said in
    let fewer = s.requests.few in
    let unplaced : new.unplaced ≡ old.unplaced ++ outcomes_told (a ∷ more) = keeps.outcomes (omega arith) in
    let long : length new.unplaced ≡ length old.unplaced + length (outcomes_told (a ∷ more)) = ap length unplaced ∙ length-append old.unplaced (outcomes_told (a ∷ more)) in
    let callers : list_all (is_caller b.callers) (taken_requests (a ∷ past)) ≡ true = ap (list_all (is_caller b.callers)) bare.taken_is ∙ callers_taken b l d old past f in
    record {
      session = record {
        history = made_by (driving b) (after past (a ∷ more)) (takes_octet (driving b) past s.history) (record {
          lawful = goes.run.lawful;
          complete = goes.run.complete;
          calls = goes.run.whole;
          room = room_after more (a ∷ past) said (bare.room_is (laws_of s.history).room);
          in_turn = turn_after (driving b) more (a ∷ past) said (bare.turn_is (driving b) (laws_of s.history).in_turn);
        });
        loss = loss;
        requests = record {
          taken_are = s.requests.taken_are ∙ ap (λ (qs : List Request). b.desk.taken ++ qs) (sym bare.taken_is ∙ sym (taken_after more (a ∷ past) said));
          once = s.requests.once;
          callers = s.requests.callers;
          few = omega arith;
        };
        received = received;
        sent = sent_part b (seen_by l (end_of d) old) (seen_by l (end_of d) new) past (after past (a ∷ more)) s.sent refl unwritten (given_after more (a ∷ past) said ∙ bare.given_is);
        told = told_part b (seen_by l (end_of d) old) (seen_by l (end_of d) new) past (a ∷ more) s.told refl unplaced (ap (list_all (λ (o : Outcome). nat_lt o.caller b.callers)) (bare.told_is more) ∙ callers_told (driving b) b.callers more (a ∷ past) goes.run.lawful callers said);
        heard = heard_part b (seen_by l (end_of d) old) (seen_by l (end_of d) new) past (a ∷ more) s.heard refl keeps.lines (ap (list_all (has_listener b.kinds)) (bare.heard_is more) ∙ all_listened b more hear);
      };
      inside = record {
        setting = goes.setting;
        fits = goes.fits;
        holds = holds;
        kinds_are = f.inside.kinds_are;
        callers_are = f.inside.callers_are;
        sound = λ e. f.inside.sound (sym faulty ∙ e);
        by_fault = λ e. f.inside.by_fault (sym faulty ∙ e);
        one_stop = let few = said_stops more (a ∷ past) said in let same = ap (λ (qs : List Request). length (filter is_stop qs)) bare.hand_is in let before = f.inside.one_stop in omega (arith, few, same, before);
        come = come;
        delays_are = delays_after new.delays more (a ∷ past) said delays;
      };
    }
