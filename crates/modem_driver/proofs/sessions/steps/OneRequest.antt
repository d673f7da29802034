-- A request is taken.
use Rattle.std.proofs.Common.{ap, sym, ◌∙◌, subst, arith}
use Rattle.std.proofs.lemmas.Bool.{and_from, lt-ltb}
use Rattle.std.proofs.lemmas.List.{append_assoc, length-append}
use Rattle.std.proofs.lemmas.List.Folds.{list_all-append}
use Rattle.std.specs.Prelude.{◌≡◌, ℕ, ◌+◌, ◌≤◌, true, List, [], ◌∷◌, ◌++◌, length, refl, drop}
use Rattle.std.specs.List.{list_all}
use Rattle.modem_desk.specs.declared.request.Request.{Request}
use Rattle.modem_desk.specs.declared.request.Urc.{Urc}
use Rattle.modem_desk.specs.Ends.{DeskId, DriverView}
use Rattle.modem_history.specs.Acts.{Act, Took, after, in_hand}
use Rattle.modem_history.specs.Requests.{are_distinct}
use Rattle.modem_history.specs.Calls.{calls, seen}
use Rattle.modem_history.specs.Wholes.{taken_requests}
use Rattle.modem_history.specs.Sessions.{Beginning, LineView, driving, taken_since}
use Rattle.modem_history.specs.Turns.{outcomes_told, lines_heard}
use Rattle.modem_history.proofs.calls.CalledActs.{calls_said}
use Rattle.modem_history.proofs.outcomes.SingleOutcomes.{uses_once}
use Rattle.modem_history.proofs.law_proofs.SessionLaws.{since_are, since_more}
use Rattle.modem_driver.proofs.sessions.steps.WaitedTicks.{delays_after}
use Rattle.modem_core.specs.Cores.{Core, Handles, GoesOn, MayCome}
use Rattle.modem_core.specs.Holding.{HoldsFit, KeepsHeld}
use Rattle.modem_driver.specs.SessionStates.{Machine, seen_by, end_of}
use Rattle.modem_driver.specs.TurnSteps.{Adds}
use Rattle.modem_driver.specs.TurnTakes.{MachineTakes, TakesNext}
use Rattle.modem_core.specs.WaitingLists.{WaitingLists, Keeps}
use Rattle.modem_core.proofs.sessions.steps.LongerHistories.{gots_after, taken_after, given_after, losses_after, lost_after}
use Rattle.modem_driver.proofs.sessions.steps.CoreCalls.{FitsMachine, callers_taken, is_run}
use Rattle.modem_core.proofs.sessions.steps.OutcomeCounts.{is_caller, hand_counts, callers_told}
use Rattle.modem_driver.proofs.sessions.polls.StopProgress.{come_on, grows_none}
use Rattle.modem_driver.proofs.sessions.steps.OneBacklog.{said_may}
use Rattle.modem_core.proofs.sessions.steps.ListenedLines.{calls_hear, lines_of_call, all_listened}
use Rattle.modem_driver.proofs.sessions.steps.WaitingDeliveries.{told_part, heard_part, sent_part, received_part}
use Rattle.modem_driver.proofs.sessions.steps.OneFrame.{said_few}
use Rattle.modem_driver.proofs.sessions.polls.EndedStops.{took_ends_none, took_stops}
use Rattle.mux_station.specs.declared.role.Role.TheVariants.{Initiator}
use Rattle.modem_history.proofs.rules.MadeLaws.{laws_of}
use Rattle.modem_history.specs.Rules.{call}

-- what was taken since the session began is what the history has then
all_taken : (b : Beginning) (l : LineView) (d later : DriverView) (old k : Machine) (q : Request) (past : List Act) → FitsMachine b l d old past → TakesNext b l d later old q → taken_since b (seen_by l (end_of later) k) ≡ taken_requests (Took q ∷ past)
all_taken b l d later old k q past f next =
    let v = seen_by l (end_of d) old in
    since_more b v (seen_by l (end_of later) k) past (q ∷ []) f.session next.taken
    ∙ ap (λ (qs : List Request). qs ++ q ∷ []) (since_are b v past f.session)

with_caller : (n : ℕ) (qs : List Request) (q : Request) → list_all (is_caller n) qs ≡ true → is_caller n q ≡ true → list_all (is_caller n) (qs ++ q ∷ []) ≡ true
with_caller n qs q all one = list_all-append (is_caller n) qs (q ∷ []) ∙ and_from (list_all (is_caller n) qs) (list_all (is_caller n) (q ∷ [])) all (and_from (is_caller n q) true one refl)

took_may : (b : Beginning) (l : LineView) (d : DriverView) (k : Machine) (q : Request) (past : List Act) → are_distinct (taken_requests (Took q ∷ past)) ≡ true → FitsMachine b l d k past → MayCome (driving b) k.core past (Took q)
took_may b l d k q past distinct f = record {
  setting = f.inside.setting;
  fits = f.inside.fits;
  run = is_run b l d k past f;
  numbers = uses_once (taken_requests (Took q ∷ past)) distinct;
}

-- what taking it comes to
record Taken (b : Beginning) (l : LineView) (later : DriverView) (old new : Machine) (past acts : List Act) : Type 0 where
  fits : FitsMachine b l later new (after past acts)
  adds : (waiting : List Urc) → Adds old new waiting 0 acts

-- the request, and what the core's acts are after their first
abbrev acts_of : Request → List Act → List Act
acts_of q acts = Took q ∷ drop 1 acts

takes_all : (old : Machine) (core : Core) (q : Request) (w : WaitingLists) (acts : List Act) → old.core.station.role ≡ Initiator
    → Handles old.core core (Took q) acts → KeepsHeld old.core core (Took q) acts → Keeps (record { outcomes = old.unplaced; lines = old.unannounced }) w acts
    → (b : Beginning) (l : LineView) (d later : DriverView) (past : List Act) → FitsMachine b l d old past → TakesNext b l d later old q
    → Taken b l later old (record old { core = core; unplaced = w.outcomes; unannounced = w.lines }) past (acts_of q acts)
unfolding Handles KeepsHeld
takes_all old core q w acts role handles held keeps b l d later past f next =
    let new : Machine = record old { core = core; unplaced = w.outcomes; unannounced = w.lines } in
    let s = driving b in
    let v = seen_by l (end_of d) old in
    let u = seen_by l (end_of later) new in
    let all = all_taken b l d later old new q past f next in
    let distinct : are_distinct (taken_requests (Took q ∷ past)) ≡ true = sym (ap are_distinct all) ∙ next.once in
    let desk_callers : length d.desk.rings ≡ b.callers = f.inside.callers_are in
    let callers : list_all (is_caller b.callers) (taken_requests (Took q ∷ past)) ≡ true = with_caller b.callers (taken_requests past) q (callers_taken b l d old past f) (subst (λ (n : ℕ). is_caller n q ≡ true) desk_callers next.caller) in
    let may = took_may b l d old q past distinct f in
    let on = handles s past may in
    let more = calls s past (Took q) in
    let said = calls_said s (seen s past) (Took q) in
    let here : GoesOn s core past (Took q) (Took q ∷ more) = subst (GoesOn s core past (Took q)) on.called on in
    let count = hand_counts s more (Took q ∷ past) here.run.lawful distinct said in
    let few = next.room in
    let hand = ap (length {A = Request}) f.inside.fits.hand_is in
    let one : length (in_hand past ++ q ∷ []) ≡ length (in_hand past) + 1 = length-append (in_hand past) (q ∷ []) in
    let none : lines_heard acts ≡ [] = ap lines_heard on.called ∙ lines_of_call s (seen s past) (Took q) in
    let kept : Keeps (record { outcomes = old.unplaced; lines = old.unannounced }) w (Took q ∷ more) = subst (Keeps (record { outcomes = old.unplaced; lines = old.unannounced }) w) on.called keeps in
    let silent : lines_heard (Took q ∷ more) ≡ [] = sym (ap lines_heard on.called) ∙ none in
    let unplaced : w.outcomes ≡ old.unplaced ++ outcomes_told more = kept.outcomes (omega arith) in
    let long : length w.outcomes ≡ length old.unplaced + length (outcomes_told more) = ap length unplaced ∙ length-append old.unplaced (outcomes_told more) in
    let lines = kept.lines in
    let are : acts_of q acts ≡ Took q ∷ more = ap (acts_of q) on.called in
    subst (Taken b l later old new past) (sym are) (record {
      fits = record {
        session = record {
          history = call past (Took q) f.session.history (lt-ltb (length (in_hand past)) 128 (omega arith));
          loss = record {
            one = subst (λ (xs : List Act). length xs ≤ 1) (sym (losses_after more (Took q ∷ past) said)) f.session.loss.one;
            by_fault = λ gone. f.session.loss.by_fault (sym (lost_after more (Took q ∷ past) said) ∙ gone);
          };
          requests = record {
            taken_are =
                next.taken
                ∙ (ap (λ (qs : List Request). qs ++ q ∷ []) f.session.requests.taken_are
                ∙ (append_assoc b.desk.taken (taken_requests past) (q ∷ [])
                ∙ ap (λ (qs : List Request). b.desk.taken ++ qs) (sym (taken_after more (Took q ∷ past) said))));
            once = next.once;
            callers = ap (list_all (is_caller b.callers)) all ∙ callers;
            few = omega arith;
          };
          received = received_part b v u past (after past (Took q ∷ more)) f.session.received refl refl refl (gots_after more (Took q ∷ past) said);
          sent = sent_part b v u past (after past (Took q ∷ more)) f.session.sent refl refl (given_after more (Took q ∷ past) said);
          told = told_part b v u past (Took q ∷ more) f.session.told next.told_stays unplaced (callers_told s b.callers more (Took q ∷ past) here.run.lawful callers said);
          heard = heard_part b v u past (Took q ∷ more) f.session.heard next.announced_stays lines (all_listened b more (calls_hear s (seen s past) (Took q)));
        };
        inside = record {
          setting = here.setting;
          fits = here.fits;
          holds = subst (λ (xs : List Act). HoldsFit core (after past xs)) on.called (held s past may f.inside.holds);
          kinds_are = ap (λ (x : DeskId). x.kinds) next.desk_stays ∙ f.inside.kinds_are;
          callers_are = ap (λ (x : DeskId). length x.rings) next.desk_stays ∙ f.inside.callers_are;
          sound = f.inside.sound;
          by_fault = f.inside.by_fault;
          one_stop = took_stops s old.core past q role may f.inside.one_stop;
          delays_are = delays_after old.delays more (Took q ∷ past) said f.inside.delays_are;
          come = come_on b v u past (Took q ∷ more) old.course (took_ends_none s old.core past q role may (laws_of f.session.history).lawful said distinct) (grows_none v u refl next.told_stays) f.inside.come;
        };
      };
      adds = λ waiting. record { outcomes = unplaced; lines = lines; may = said_may waiting more said; few_got = said_few more 0 said };
    })

-- the core took it, and what that told waits
pub takes : (old : Machine) (core : Core) (q : Request) (w : WaitingLists) (acts : List Act) → old.core.station.role ≡ Initiator
    → Handles old.core core (Took q) acts → KeepsHeld old.core core (Took q) acts → Keeps (record { outcomes = old.unplaced; lines = old.unannounced }) w acts
    → MachineTakes old (record old { core = core; unplaced = w.outcomes; unannounced = w.lines }) q
takes old core q w acts role handles held keeps = record {
  acts = acts_of q acts;
  goes = λ b l d later past f next. (takes_all old core q w acts role handles held keeps b l d later past f next).fits;
  adds = λ waiting b l d later past f next. (takes_all old core q w acts role handles held keeps b l d later past f next).adds waiting;
  moves = refl;
  stays = refl;
}
