-- The line is lost.
use Rattle.std.proofs.Common.{ap, sym, ◌∙◌, subst, arith}
use Rattle.std.specs.Prelude.{◌≡◌, ℕ, ◌≤◌, ◌||◌, Bool, true, false, List, [], ◌∷◌, ◌++◌, length, filter, filter_map, map, refl, Option, None, Some, option_map, if◌then◌else◌}
use Rattle.std.specs.List.{list_all, list_any, cons_option}
use Rattle.std.proofs.lemmas.Bool.{and_from, and_parts}
use Rattle.mux_frame.specs.Frames.{Frame}
use Rattle.mux_station.specs.States.{State, IsShut, IsOpening, IsOpened, IsClosing, IsStopping, is_opened, is_stopping}
use Rattle.modem_desk.specs.declared.request.Ask.{Ask}
use Rattle.modem_desk.specs.declared.request.Ask.TheVariants.{OpenChannel, CloseChannel, Command, Probe, Stop}
use Rattle.modem_desk.specs.declared.request.Answer.TheVariants.{LineLost}
use Rattle.modem_desk.specs.declared.request.Answer.{Answer}
use Rattle.modem_desk.specs.declared.request.Request.{Request}
use Rattle.modem_desk.specs.declared.request.Urc.{Urc}
use Rattle.modem_history.specs.Acts.{Act, Took, Got, Sent, Told, Heard, Tick, Lost, Held, Freed, Given, after, told}
use Rattle.modem_history.specs.Calls.{Setting, HistoryView, calls, calls_seeing, seen, is_loss, is_lost, frames, frames_by, later, open_later, close_later, states_now, told_later, tolds}
use Rattle.modem_history.specs.Sessions.{FitsLoss, driving, gots}
use Rattle.modem_history.specs.Turns.{lines_heard, outcomes_told, may_act, may_fail}
use Rattle.modem_history.proofs.calls.CalledActs.{calls_said}
use Rattle.modem_core.specs.Cores.{Core, Fits, Handles, GoesOn, RunsUnless}
use Rattle.modem_core.specs.Holding.{HoldsFit, KeepsHeld}
use Rattle.modem_driver.specs.SessionStates.{Machine, MachineGoes, MachineLoses, seen_by, end_of}
use Rattle.modem_core.specs.WaitingLists.{WaitingLists, Keeps}
use Rattle.modem_core.proofs.sessions.steps.LongerHistories.{gots_after, losses_after, lost_after, taken_after}
use Rattle.modem_driver.proofs.sessions.steps.CoreCalls.{FitsMachine, IsBare, KeepsMore, call_fits, few_told, may_come}
use Rattle.modem_driver.proofs.sessions.polls.StopProgress.{come_on, grows_none}
use Rattle.modem_driver.proofs.sessions.steps.OneBacklog.{said_may}
use Rattle.modem_core.proofs.sessions.steps.ListenedLines.{calls_hear, lines_of_call}
use Rattle.modem_driver.proofs.sessions.steps.WaitingDeliveries.{received_part}
use Rattle.modem_driver.proofs.sessions.steps.OneFrame.{said_none}
use Rattle.modem_driver.proofs.sessions.polls.StopsInHand.{ends, ends_by, later_ends, none_ends, unless_ends}

lost_bare : (past : List Act) → IsBare Lost past
lost_bare past = record { taken_is = refl; given_is = refl; hand_is = refl; room_is = λ h. h; turn_is = λ s h. (tt, h); told_is = λ more. refl; heard_is = λ more. refl }

none_lost : (past : List Act) → is_lost past ≡ false → filter is_loss past ≡ []
none_lost [] h = refl
none_lost (a ∷ past) h = by_test (is_loss a) h (none_lost past)
  where
    by_test : (c : Bool) → (c || list_any is_loss past) ≡ false → (is_lost past ≡ false → filter is_loss past ≡ []) → (if c then a ∷ filter is_loss past else filter is_loss past) ≡ []
    by_test false e go = go e
    by_test true e go = cc

-- once the line is lost none is in hand
none_runs : (v : Core) (past : List Act) → v.lost ≡ true → Fits v past → v.hand ≡ []
none_runs v past h f = subst (λ (c : Bool). RunsUnless c v past) h f.runs

-- what a turn may have, one in which the line is lost may have
fail_one : (us : List Urc) (a : Act) → may_act us a ≡ true → may_fail us a ≡ true
fail_one us Lost h = refl
fail_one us Tick h = h
fail_one us (Took r) h = h
fail_one us (Got f) h = h
fail_one us (Sent f) h = h
fail_one us (Told o) h = h
fail_one us (Heard k d line) h = h
fail_one us (Held d) h = h
fail_one us (Freed d) h = h
fail_one us Given h = h

-- and so all of its acts
pub fail_all : (us : List Urc) (acts : List Act) → list_all (may_act us) acts ≡ true → list_all (may_fail us) acts ≡ true
fail_all us [] h = refl
fail_all us (a ∷ acts) h =
    let parts = and_parts (may_act us a) (list_all (may_act us) acts) h in
    and_from (may_fail us a) (list_all (may_fail us) acts) (fail_one us a parts.0) (fail_all us acts parts.1)

-- what a loss calls for are outcomes alone
tells_later : (v : HistoryView) (now : ℕ → State) (a : Act) (rs : List Request) → filter_map (told_later v now a) rs ≡ map Told (outcomes_told (filter_map (told_later v now a) rs))
tells_later v now a [] = refl
tells_later v now a (r ∷ rs) = by_answer (later v now a r r.ask) (tells_later v now a rs)
  where
    rest : List Act
    rest = filter_map (told_later v now a) rs

    by_answer : (o : Option Answer) → rest ≡ map Told (outcomes_told rest) → cons_option (option_map (told r) o) rest ≡ map Told (outcomes_told (cons_option (option_map (told r) o) rest))
    by_answer None h = h
    by_answer (Some why) h = ap (λ (xs : List Act). told r why ∷ xs) h

no_frames : (s : Setting) (v : HistoryView) → frames s v Lost ≡ []
no_frames s v = by_loss v.lost
  where
    by_loss : (c : Bool) → (if c then [] else frames_by s v Lost) ≡ []
    by_loss true = refl
    by_loss false = refl

tells_alone : (s : Setting) (v : HistoryView) → calls_seeing s v Lost ≡ map Told (outcomes_told (calls_seeing s v Lost))
tells_alone s v =
    let lone : calls_seeing s v Lost ≡ tolds v (states_now s v (Lost ∷ [])) Lost =
    ap (λ (fs : List Frame). map Sent fs ++ tolds v (states_now s v (Lost ∷ map Sent fs)) Lost) (no_frames s v) in
    lone ∙ (tells_later v (states_now s v (Lost ∷ [])) Lost v.waiting ∙ ap (λ (xs : List Act). map Told (outcomes_told xs)) (sym lone))

-- and none of them ends a Stop
answer_ends : (v : HistoryView) (now : ℕ → State) (r : Request) (ask : Ask) → ends_by (later v now Lost r ask) ≡ false
answer_ends v now r (OpenChannel d) = by_state (now d.number)
  where
    by_state : (x : State) → ends_by (open_later x LineLost) ≡ false
    by_state IsShut = refl
    by_state (IsOpening n) = refl
    by_state IsOpened = refl
    by_state (IsClosing n) = refl
    by_state (IsStopping n) = refl
answer_ends v now r (CloseChannel d) = by_state (now d.number)
  where
    by_state : (x : State) → ends_by (close_later x LineLost) ≡ false
    by_state IsShut = refl
    by_state (IsOpening n) = refl
    by_state IsOpened = refl
    by_state (IsClosing n) = refl
    by_state (IsStopping n) = refl
answer_ends v now r (Command d line) = unless_ends (is_opened (now d.number)) None (Some LineLost) refl refl
answer_ends v now r (Probe octets) = unless_ends (is_opened (now 0)) None (Some LineLost) refl refl
answer_ends v now r Stop = unless_ends (is_stopping (now 0)) None (Some LineLost) refl refl

lost_ends : (s : Setting) (v : HistoryView) → list_any ends (outcomes_told (Lost ∷ calls_seeing s v Lost)) ≡ false
lost_ends s v =
    ap (λ (fs : List Frame). list_any ends (outcomes_told (map Sent fs ++ tolds v (states_now s v (Lost ∷ map Sent fs)) Lost))) (no_frames s v)
    ∙ later_ends (Unit {0}) v (states_now s v (Lost ∷ [])) Lost v.waiting (λ r _. answer_ends v (states_now s v (Lost ∷ [])) r r.ask) (λ _. tt)

-- all in hand are told, and what they are told waits
pub loses : (old : Machine) (core : Core) (w : WaitingLists) (acts : List Act)
    → Handles old.core core Lost acts → KeepsHeld old.core core Lost acts → Keeps (record { outcomes = old.unplaced; lines = old.unannounced }) w acts → old.faulty ≡ true → old.core.lost ≡ false
    → MachineLoses old (record old { core = core; unplaced = w.outcomes; unannounced = w.lines })
unfolding MachineGoes Handles KeepsHeld
loses old core w acts handles held keeps faulty live =
    let new : Machine = record old { core = core; unplaced = w.outcomes; unannounced = w.lines } in
    record {
      acts = acts;
      goes = λ b l d past f.
          let s = driving b in
          let on = handles s past (may_come b l d old past Lost f refl) in
          let more = calls s past Lost in
          let said = calls_said s (seen s past) Lost in
          let none : lines_heard acts ≡ [] = ap lines_heard on.called ∙ lines_of_call s (seen s past) Lost in
          let here : GoesOn s core past Lost (Lost ∷ more) = subst (GoesOn s core past Lost) on.called on in
          let hold : HoldsFit core (after past (Lost ∷ more)) = subst (λ (xs : List Act). HoldsFit core (after past xs)) on.called (held s past (may_come b l d old past Lost f refl) f.inside.holds) in
          let keep : KeepsMore old new (Lost ∷ more) = subst (KeepsMore old new) on.called (record {
            outcomes = keeps.outcomes;
            lines = keeps.lines;
          }) in
          let before : filter is_loss past ≡ [] = none_lost past (f.inside.fits.lost_is ∙ live) in
          let one : filter is_loss (after past (Lost ∷ more)) ≡ Lost ∷ [] = losses_after more (Lost ∷ past) said ∙ ap (λ (xs : List Act). Lost ∷ xs) before in
          let lost : FitsLoss b (seen_by l (end_of d) new) (after past (Lost ∷ more)) = record {
            one = subst (λ (xs : List Act). length xs ≤ 1) (sym one) (omega arith);
            by_fault = λ gone. f.inside.by_fault faulty;
          } in
          let come = come_on b (seen_by l (end_of d) old) (seen_by l (end_of d) new) past (Lost ∷ more) old.course (none_ends (Lost ∷ more) past (taken_after more (Lost ∷ past) said) (lost_ends s (seen s past))) (grows_none (seen_by l (end_of d) old) (seen_by l (end_of d) new) refl refl) f.inside.come in
          subst (λ (xs : List Act). FitsMachine b l d new (after past xs)) (sym on.called)
          (call_fits b l d old new past more Lost f (lost_bare past) here hold f.inside.delays_are said (calls_hear s (seen s past) Lost) keep refl refl come lost
          (received_part b (seen_by l (end_of d) old) (seen_by l (end_of d) new) past (after past (Lost ∷ more)) f.session.received refl refl refl (gots_after more (Lost ∷ past) said)));
      loses = λ b l d past f.
          let s = driving b in
          let on = handles s past (may_come b l d old past Lost f refl) in
          let more = calls s past Lost in
          let gone : is_lost (after past acts) ≡ true = ap (λ (xs : List Act). is_lost (after past xs)) on.called ∙ lost_after (calls s past Lost) (Lost ∷ past) (calls_said s (seen s past) Lost) in
          record {
            live = f.inside.fits.lost_is ∙ live;
            gone = gone;
            by_fault = f.inside.by_fault faulty;
            none_taken = refl;
            before = [];
            told = outcomes_told more;
            acts_are = on.called ∙ ap (λ (xs : List Act). Lost ∷ xs) (tells_alone s (seen s past));
            none_in_hand = on.fits.hand_is ∙ none_runs core (after past acts) (sym on.fits.lost_is ∙ gone) on.fits;
          };
      adds = λ b l d past f.
          let s = driving b in
          let on = handles s past (may_come b l d old past Lost f refl) in
          let more = calls s past Lost in
          let said = calls_said s (seen s past) Lost in
          let none : lines_heard acts ≡ [] = ap lines_heard on.called ∙ lines_of_call s (seen s past) Lost in
          let here : GoesOn s core past Lost (Lost ∷ more) = subst (GoesOn s core past Lost) on.called on in
          let few = few_told b l d old new past more Lost f (lost_bare past) here said in
          let fewer = f.session.requests.few in
          let told : length (outcomes_told acts) ≡ length (outcomes_told (Lost ∷ more)) = ap (λ (xs : List Act). length (outcomes_told xs)) on.called in
          record {
            outcomes = keeps.outcomes (omega (arith, few, fewer, told));
            lines = keeps.lines;
            may = λ us. ap (list_all (may_fail us)) on.called ∙ fail_all us more (said_may us more said);
            none_got = ap gots on.called ∙ said_none more said;
          };
      stays = refl;
    }
