-- A backlog is looked at.
use Rattle.std.proofs.Common.{ap, sym, ◌∙◌, inl, inr, subst, arith}
use Rattle.std.proofs.lemmas.Bool.{and_from, and_parts, eq-eqb, ne_eqb, eqb-true, le-leb, le-ltb, lt-leb, ltb-true, leb-true, leb-false}
use Rattle.std.proofs.lemmas.List.{append-nil, length-append, nil_from_length}
use Rattle.std.specs.Prelude.{◌≡◌, ℕ, ◌+◌, ◌*◌, ◌<◌, ◌≤◌, ◌==◌, ◌&&◌, ◌||◌, ◌⊎◌, ◌++◌, not, nat_le, nat_lt, Bool, true, false, List, [], ◌∷◌, length, map, filter, refl, Option, None, Some, if◌then◌else◌}
use Rattle.std.specs.List.{list_all, list_any}
use Rattle.mux_frame.specs.Frames.{Frame}
use Rattle.mux_station.specs.declared.role.Role.{Role}
use Rattle.mux_station.specs.declared.role.Role.TheVariants.{Initiator}
use Rattle.mux_station.specs.States.{is_opened}
use Rattle.mux_station.specs.Sending.{queue}
use Rattle.mux_station.specs.Written.{written_length}
use Rattle.mux_station.specs.Tables.{by_flow, msc_frame, has_room, octets_of, ready, held_up}
use Rattle.modem_desk.specs.declared.request.Outcome.{Outcome}
use Rattle.modem_desk.specs.declared.request.Urc.{Urc}
use Rattle.modem_desk.specs.Ends.{DriverView}
use Rattle.modem_history.specs.Acts.{Act, Took, Got, Sent, Told, Heard, Tick, Lost, Held, Freed, Given, after, wire}
use Rattle.modem_history.specs.Calls.{Setting, calls, seen, is_loss, is_lost, all_have_room}
use Rattle.modem_history.specs.Wholes.{is_said}
use Rattle.modem_history.specs.Sessions.{Beginning, LineView, FitsLoss, driving, backlog_in, gots, heard_as}
use Rattle.mux_station.proofs.queues.ControlQueues.{octets_more}
use Rattle.modem_history.specs.Turns.{LacksMscRoom, outcomes_told, lines_heard, may_act}
use Rattle.modem_history.proofs.calls.CalledActs.{Saids, calls_said}
use Rattle.modem_driver.specs.WaitingTicks.{AreDelays}
use Rattle.modem_driver.specs.declared.machine.delays.Delay.{Delay}
use Rattle.modem_driver.proofs.sessions.steps.WaitedTicks.{delays_flow}
use Rattle.modem_core.specs.Cores.{Core, GoesOn, Fits, Runs, RunsUnless, IsSettingOf}
use Rattle.modem_core.specs.Holding.{HoldsFit, Flows, FlowsOn, HasNoRoom, LacksRoom, NeverDue, MayAsk, acts_due, due_by, flow_due, flow_act}
use Rattle.modem_driver.specs.Endings.{HasCome}
use Rattle.modem_driver.specs.BacklogChecks.{ChecksOne, SettlesOne}
use Rattle.modem_history.specs.EveryTurn.{is_check}
use Rattle.modem_history.specs.Holding.{is_held, last_held}
use Rattle.mux_station.specs.Acts as station
use Rattle.mux_station.specs.Opening.{is_open}
use Rattle.mux_station.proofs.states.OpeningSteps.{is_open_after}
use Rattle.mux_station.specs.Messages.{msc}
use Rattle.mux_station.proofs.user_calls.ProbeStopFlowOffer.{no_close_down}
use Rattle.modem_driver.specs.TurnSteps.{is_more}
use Rattle.modem_driver.specs.SessionStates.{Machine, MachineGoes, seen_by, end_of}
use Rattle.modem_core.proofs.cores.StationPasts.{queue_seen}
use Rattle.modem_core.proofs.sessions.steps.LongerHistories.{gots_after, losses_after, lost_after, taken_after}
use Rattle.modem_driver.proofs.sessions.steps.CoreCalls.{FitsMachine, IsBare, KeepsMore, call_fits, is_run}
use Rattle.modem_driver.proofs.sessions.polls.StopProgress.{come_on, grows_none}
use Rattle.modem_driver.proofs.sessions.steps.LineOctets.{session_with, loss_with}
use Rattle.modem_core.proofs.sessions.steps.ListenedLines.{calls_hear}
use Rattle.modem_driver.proofs.sessions.steps.WaitingDeliveries.{received_part, sent_part}
use Rattle.modem_driver.proofs.sessions.polls.StopsInHand.{ends, none_ends}

-- the core may be asked in each history that the session fits
pub may_ask : (b : Beginning) (l : LineView) (d : DriverView) (k : Machine) (past : List Act) → FitsMachine b l d k past → MayAsk (driving b) k.core past
may_ask b l d k past f = record { setting = f.inside.setting; fits = f.inside.fits; holds = f.inside.holds; run = is_run b l d k past f }

flow_bare : (n : ℕ) (go : Bool) (past : List Act) → IsBare (flow_act n go) past
flow_bare n true past = record { taken_is = refl; given_is = refl; hand_is = refl; room_is = λ h. h; turn_is = λ s h. (tt, h); told_is = λ more. refl; heard_is = λ more. refl }
flow_bare n false past = record { taken_is = refl; given_is = refl; hand_is = refl; room_is = λ h. h; turn_is = λ s h. (tt, h); told_is = λ more. refl; heard_is = λ more. refl }

no_loss : (n : ℕ) (go : Bool) (past : List Act) → filter is_loss (flow_act n go ∷ past) ≡ filter is_loss past
no_loss n true past = refl
no_loss n false past = refl

not_lost : (n : ℕ) (go : Bool) (past : List Act) → is_lost (flow_act n go ∷ past) ≡ is_lost past
not_lost n true past = refl
not_lost n false past = refl

no_frame : (n : ℕ) (go : Bool) (past : List Act) → gots (flow_act n go ∷ past) ≡ gots past
no_frame n true past = refl
no_frame n false past = refl

-- ## Which acts they are

true_false : true ≡ false → ⊥
true_false e = cc

out : {P : Type 0} → false ≡ true → P
out e = cc

-- what is said in a call a turn may have
pub said_may : (us : List Urc) (more : List Act) → Saids more → list_all (may_act us) more ≡ true
said_may us [] h = refl
said_may us (Sent f ∷ more) h = said_may us more (and_parts (is_said (Sent f)) (list_all is_said more) h).1
said_may us (Told o ∷ more) h = said_may us more h
said_may us (Heard k d line ∷ more) h = said_may us more h
said_may us (Took r ∷ more) h = out h
said_may us (Got f ∷ more) h = out h
said_may us (Tick ∷ more) h = out h
said_may us (Lost ∷ more) h = out h
said_may us (Held d ∷ more) h = out h
said_may us (Freed d ∷ more) h = out h
said_may us (Given ∷ more) h = out h

same_go : (x y : Bool) → Some x ≡ Some y → x ≡ y
same_go x y h = cc

-- a connection is held by a backlog of 256 or more, and freed by one below 128
flow_may : (us : List Urc) (n : ℕ) (opened held go : Bool) → flow_due opened held (backlog_in n us) ≡ Some go → may_act us (flow_act n go) ≡ true
flow_may us n false held go e = cc
flow_may us n true false go e = by_test (nat_le 256 (backlog_in n us)) refl e
  where
    by_test : (c : Bool) → nat_le 256 (backlog_in n us) ≡ c → (if c then Some false else None) ≡ Some go → may_act us (flow_act n go) ≡ true
    by_test true t h = subst (λ (x : Bool). may_act us (flow_act n x) ≡ true) (same_go false go h) t
    by_test false t h = cc
flow_may us n true true go e = by_test (nat_lt (backlog_in n us) 128) refl e
  where
    by_test : (c : Bool) → nat_lt (backlog_in n us) 128 ≡ c → (if c then Some true else None) ≡ Some go → may_act us (flow_act n go) ≡ true
    by_test true t h = subst (λ (x : Bool). may_act us (flow_act n x) ≡ true) (same_go true go h) t
    by_test false t h = cc

due_may : (us : List Urc) (n : ℕ) (lost opened held go : Bool) → (if lost then None else flow_due opened held (backlog_in n us)) ≡ Some go → may_act us (flow_act n go) ≡ true
due_may us n true opened held go e = cc
due_may us n false opened held go e = flow_may us n opened held go e

-- ## The step

-- where nothing is called for
none_fits : (b : Beginning) (l : LineView) (d : DriverView) (old new : Machine) (past : List Act) → FitsMachine b l d old past → new.core ≡ old.core → new.delays ≡ old.delays → new.unplaced ≡ old.unplaced → map heard_as new.unannounced ≡ map heard_as old.unannounced
    → new.unfed ≡ old.unfed → new.deframer ≡ old.deframer → new.unwritten ≡ old.unwritten → new.faulty ≡ old.faulty → new.course ≡ old.course → FitsMachine b l d new past
none_fits b l d old new past f core delays unplaced lines unfed deframer unwritten faulty course =
    let v = seen_by l (end_of d) old in
    let w = seen_by l (end_of d) new in
    record {
      session = session_with b v w past f.session refl unplaced lines (loss_with b v w past f.session (omega arith)) (received_part b v w past past f.session.received refl unfed deframer refl) (sent_part b v w past past f.session.sent refl unwritten refl);
      inside = record {
        setting = subst (λ (c : Core). IsSettingOf (driving b) c) (sym core) f.inside.setting;
        fits = subst (λ (c : Core). Fits c past) (sym core) f.inside.fits;
        holds = subst (λ (c : Core). HoldsFit c past) (sym core) f.inside.holds;
        kinds_are = f.inside.kinds_are;
        callers_are = f.inside.callers_are;
        sound = λ h. f.inside.sound (sym faulty ∙ h);
        by_fault = λ h. f.inside.by_fault (sym faulty ∙ h);
        one_stop = f.inside.one_stop;
        delays_are = subst (λ (ds : List (Option Delay)). AreDelays ds past) (sym delays) f.inside.delays_are;
        come = subst (HasCome b w past) (sym course) (come_on b v w past [] old.course (λ h. h) (grows_none v w refl refl) f.inside.come);
      };
    }

-- ## What is due

-- the control queue is that of the history
pub live_queue : (v : Core) (past : List Act) → Fits v past → v.lost ≡ false → queue (wire past) ≡ v.station.queue
live_queue v past f live = by_runs (subst (λ (c : Bool). RunsUnless c v past) live f.runs)
  where
    by_runs : Runs v past → queue (wire past) ≡ v.station.queue
    by_runs r = sym (queue_seen r.seen past r.same) ∙ r.fits.queue_is

due_live : (lost zero : Bool) (o : Option Bool) (go : Bool) → (if lost || zero then None else o) ≡ Some go → lost ≡ false
due_live true zero o go e = cc
due_live false zero o go e = refl

behind_one : (fs : List Frame) (f : Frame) → fs ++ f ∷ [] ≡ [] → ⊥
behind_one fs f e = let long : length (fs ++ f ∷ []) ≡ 0 = ap length e in let all = length-append fs (f ∷ []) in omega arith

-- an MSC waits behind the others
not_empty : (n : ℕ) (go : Bool) (past : List Act) → queue (wire (after past (acts_due n (Some go)))) ≡ [] → ⊥
not_empty n true past e = behind_one (queue (wire past)) (msc_frame Initiator n ready) e
not_empty n false past e = behind_one (queue (wire past)) (msc_frame Initiator n held_up) e

-- and it fits into an empty one
msc_fits : (n1 n signals : ℕ) (r : Role) → has_room n1 0 (msc_frame r n signals) ≡ true
msc_fits n1 n signals r = le-leb (0 + written_length (msc_frame r n signals)) (4096 + n1) (omega arith)

has_place : (s : Setting) (past : List Act) (n : ℕ) (go : Bool) → queue (wire past) ≡ [] → all_have_room s (seen s past) (by_flow s.role (seen s past).state n (if go then ready else held_up)) ≡ false → ⊥
has_place s past n go e none = by_open (is_opened ((seen s past).state n)) none
  where
    fits : has_room s.n1 (octets_of (queue (wire past))) (msc_frame s.role n (if go then ready else held_up)) ≡ true
    fits = ap (λ (fs : List Frame). has_room s.n1 (octets_of fs) (msc_frame s.role n (if go then ready else held_up))) e ∙ msc_fits s.n1 n (if go then ready else held_up) s.role

    by_open : (c : Bool) → all_have_room s (seen s past) (if c then msc_frame s.role n (if go then ready else held_up) ∷ [] else []) ≡ false → ⊥
    by_open true h = true_false (sym (ap (λ (x : Bool). x && true) fits) ∙ h)
    by_open false h = true_false h

no_act : (n : ℕ) (go : Bool) (rest : List Act) → [] ≡ flow_act n go ∷ rest → ⊥
no_act n go rest e = let long : 0 ≡ length (flow_act n go ∷ rest) = ap length e in omega arith

-- ## The step

-- what a call of a backlog comes to
record Flown (b : Beginning) (l : LineView) (d : DriverView) (old new : Machine) (n : ℕ) (past acts : List Act) : Type 0 where
  fits : FitsMachine b l d new (after past acts)
  may : list_all (may_act old.unannounced) acts ≡ true
  settles : new.core.station.queue ≡ [] → (acts ≡ []) × ((new ≡ old) × (due_by (driving b) past n (backlog_in n old.unannounced) ≡ None))
  flows : SettlesOne b past acts n old.unannounced

-- what was held or freed calls for nothing more
flow_settled : (opened held go : Bool) (lines : ℕ) → flow_due opened held lines ≡ Some go → flow_due opened (opened && not go) lines ≡ None
flow_settled false held go lines e = cc
flow_settled true false go lines e = by_test (nat_le 256 lines) refl e
  where
    by_test : (c : Bool) → nat_le 256 lines ≡ c → (if c then Some false else None) ≡ Some go → flow_due true (not go) lines ≡ None
    by_test true t h = subst (λ (x : Bool). flow_due true (not x) lines ≡ None) (same_go false go h) (let many = leb-true 256 lines t in ap (λ (c : Bool). if c then Some true else None) (le-ltb lines 128 (omega (arith, many))))
    by_test false t h = cc
flow_settled true true go lines e = by_test (nat_lt lines 128) refl e
  where
    by_test : (c : Bool) → nat_lt lines 128 ≡ c → (if c then Some true else None) ≡ Some go → flow_due true (not go) lines ≡ None
    by_test true t h = subst (λ (x : Bool). flow_due true (not x) lines ≡ None) (same_go true go h) (let few = ltb-true lines 128 t in ap (λ (c : Bool). if c then Some false else None) (lt-leb 256 lines (omega (arith, few))))
    by_test false t h = cc

-- whether it is held by these acts
held_now : (n : ℕ) (go : Bool) (past : List Act) → last_held Initiator n (after past (acts_due n (Some go))) ≡ not go
held_now n true past = ap (λ (c : Bool). not c && last_held Initiator n past) (eq-eqb n n refl)
held_now n false past = ap (λ (c : Bool). c || last_held Initiator n past) (eq-eqb n n refl)

held_else : (n m : ℕ) (go : Bool) (past : List Act) → (n == m) ≡ false → last_held Initiator m (after past (acts_due n (Some go))) ≡ last_held Initiator m past
held_else n m true past other = ap (λ (c : Bool). not c && last_held Initiator m past) other
held_else n m false past other = ap (λ (c : Bool). c || last_held Initiator m past) other

-- which connections are open stays
still_open : (o zero : Bool) → (o && not (false || (not zero && false))) ≡ o
still_open true true = refl
still_open true false = refl
still_open false zero = refl

open_now : (n m : ℕ) (go : Bool) (past : List Act) → is_open Initiator m (wire (after past (acts_due n (Some go)))) ≡ is_open Initiator m (wire past)
open_now n m true past =
    is_open_after Initiator m (wire past) (station.Sent (msc_frame Initiator n ready))
    ∙ ap (λ (b : Bool). is_open Initiator m (wire past) && not (b || (not (m == 0) && b))) (no_close_down Initiator msc ((4 * n + 3) ∷ ready ∷ []) refl)
    ∙ still_open (is_open Initiator m (wire past)) (m == 0)
open_now n m false past =
    is_open_after Initiator m (wire past) (station.Sent (msc_frame Initiator n held_up))
    ∙ ap (λ (b : Bool). is_open Initiator m (wire past) && not (b || (not (m == 0) && b))) (no_close_down Initiator msc ((4 * n + 3) ∷ held_up ∷ []) refl)
    ∙ still_open (is_open Initiator m (wire past)) (m == 0)

lost_now : (n : ℕ) (go : Bool) (past : List Act) → is_lost (after past (acts_due n (Some go))) ≡ is_lost past
lost_now n true past = refl
lost_now n false past = refl

-- a queue that grew has no more room
full_now : (b : Beginning) (n : ℕ) (go : Bool) (past : List Act) → LacksMscRoom b past → LacksMscRoom b (after past (acts_due n (Some go)))
full_now b n true past full d =
    let q = queue (wire past) in
    let one = octets_more q (msc_frame Initiator d ready) in
    let more = octets_more q (msc_frame Initiator n ready) in
    let two = octets_more (q ++ msc_frame Initiator n ready ∷ []) (msc_frame Initiator d ready) in
    let over = full d in
    omega (arith, one, more, two, over)
full_now b n false past full d =
    let q = queue (wire past) in
    let one = octets_more q (msc_frame Initiator d ready) in
    let more = octets_more q (msc_frame Initiator n held_up) in
    let two = octets_more (q ++ msc_frame Initiator n held_up ∷ []) (msc_frame Initiator d ready) in
    let over = full d in
    omega (arith, one, more, two, over)

settles_one : (b : Beginning) (n : ℕ) (go : Bool) (past : List Act) (us : List Urc) → due_by (driving b) past n (backlog_in n us) ≡ Some go → SettlesOne b past (acts_due n (Some go)) n us
settles_one b n go past us e = record {
  here = inl (
      ap (λ (c : Bool). if c || (n == 0) then None else flow_due (is_open Initiator n (wire now)) (is_held Initiator n now) (backlog_in n us)) (lost_now n go past)
      ∙ (ap (λ (o : Bool). if is_lost past || (n == 0) then None else flow_due o (o && last_held Initiator n now) (backlog_in n us)) (open_now n n go past)
      ∙ (ap (λ (h : Bool). if is_lost past || (n == 0) then None else flow_due (is_open Initiator n (wire past)) (is_open Initiator n (wire past) && h) (backlog_in n us)) (held_now n go past)
      ∙ by_live (is_lost past || (n == 0)) (is_open Initiator n (wire past)) (is_held Initiator n past) e)));
  others = λ m lines other.
      ap (λ (c : Bool). if c || (m == 0) then None else flow_due (is_open Initiator m (wire now)) (is_held Initiator m now) lines) (lost_now n go past)
      ∙ (ap (λ (o : Bool). if is_lost past || (m == 0) then None else flow_due o (o && last_held Initiator m now) lines) (open_now n m go past)
      ∙ ap (λ (h : Bool). if is_lost past || (m == 0) then None else flow_due (is_open Initiator m (wire past)) (is_open Initiator m (wire past) && h) lines) (held_else n m go past (ne_eqb n m (λ same. other (sym same)))));
  full = full_now b n go past;
}
  where
    now : List Act
    now = after past (acts_due n (Some go))

    by_live : (c o h : Bool) → (if c then None else flow_due o h (backlog_in n us)) ≡ Some go → (if c then None else flow_due o (o && not go) (backlog_in n us)) ≡ None
    by_live true o h k = refl
    by_live false o h k = flow_settled o h go (backlog_in n us) k

settles_none : (b : Beginning) (n : ℕ) (past : List Act) (us : List Urc) → (due_by (driving b) past n (backlog_in n us) ≡ None) ⊎ LacksMscRoom b past → SettlesOne b past [] n us
settles_none b n past us h = record { here = h; others = λ m lines other. refl; full = λ full. full }

checks_due : (n : ℕ) (o : Option Bool) → list_all is_check (acts_due n o) ≡ true
checks_due n None = refl
checks_due n (Some true) = refl
checks_due n (Some false) = refl

same_way : (n : ℕ) (way go : Bool) (rest more : List Act) → flow_act n way ∷ rest ≡ flow_act n go ∷ more → way ≡ go
same_way n true true rest more e = refl
same_way n false false rest more e = refl
same_way n true false rest more e = cc
same_way n false true rest more e = cc

told_due : (n : ℕ) (o : Option Bool) → outcomes_told (acts_due n o) ≡ []
told_due n None = refl
told_due n (Some true) = refl
told_due n (Some false) = refl

heard_due : (n : ℕ) (o : Option Bool) → lines_heard (acts_due n o) ≡ []
heard_due n None = refl
heard_due n (Some true) = refl
heard_due n (Some false) = refl

got_due : (n : ℕ) (o : Option Bool) → gots (acts_due n o) ≡ []
got_due n None = refl
got_due n (Some true) = refl
got_due n (Some false) = refl

flown : (old : Machine) (core : Core) (n : ℕ) (acts : List Act) (x : Option Bool) → acts ≡ acts_due n x
    → (b : Beginning) (l : LineView) (d : DriverView) (past : List Act) → FitsMachine b l d old past → (due : Option Bool) → due_by (driving b) past n (backlog_in n old.unannounced) ≡ due → FlowsOn (driving b) old.core core past n due acts
    → Flown b l d old (record old { core = core }) n past acts
flown old core n acts x are b l d past f None e on =
    let new : Machine = record old { core = core } in
    let here = none_fits b l d old new past f on.1 refl refl refl refl refl refl refl refl in
    record {
      fits = subst (λ (xs : List Act). FitsMachine b l d new (after past xs)) (sym on.0) here;
      may = ap (list_all (may_act old.unannounced)) on.0;
      settles = λ empty. (on.0, (ap (λ (v : Core). record old { core = v }) on.1, e));
      flows = subst (λ (xs : List Act). SettlesOne b past xs n old.unannounced) (sym on.0) (settles_none b n past old.unannounced (inl e));
    }
flown old core n acts x are b l d past f (Some go) e on =
    let s = driving b in
    let new : Machine = record old { core = core } in
    let a = flow_act n go in
    let more = calls s past a in
    let called : acts ≡ a ∷ more = on.0.called in
    let said = calls_said s (seen s past) a in
    let here : GoesOn s core past a (a ∷ more) = subst (GoesOn s core past a) called on.0 in
    let hold : HoldsFit core (after past (a ∷ more)) = subst (λ (xs : List Act). HoldsFit core (after past xs)) called on.1 in
    let none_told : outcomes_told acts ≡ [] = ap outcomes_told are ∙ told_due n x in
    let none_heard : lines_heard acts ≡ [] = ap lines_heard are ∙ heard_due n x in
    let keep : KeepsMore old new (a ∷ more) = subst (KeepsMore old new) called (record {
      outcomes = λ few. sym (append-nil old.unplaced) ∙ ap (λ (os : List Outcome). old.unplaced ++ os) (sym none_told);
      lines = sym (append-nil (map heard_as old.unannounced)) ∙ ap (λ (hs : List Act). map heard_as old.unannounced ++ hs) (sym none_heard);
    }) in
    let gone : is_lost (after past (a ∷ more)) ≡ is_lost past = lost_after more (a ∷ past) said ∙ not_lost n go past in
    let lost : FitsLoss b (seen_by l (end_of d) new) (after past (a ∷ more)) = record {
      one = subst (λ (xs : List Act). length xs ≤ 1) (sym (losses_after more (a ∷ past) said ∙ no_loss n go past)) f.session.loss.one;
      by_fault = λ h. f.session.loss.by_fault (sym gone ∙ h);
    } in
    let live : core.lost ≡ false = sym here.fits.lost_is ∙ (gone ∙ due_live (is_lost past) (n == 0) _ go e) in
    let waits : queue (wire (after past acts)) ≡ core.station.queue = ap (λ (xs : List Act). queue (wire (after past xs))) called ∙ live_queue core (after past (a ∷ more)) here.fits live in
    let come = come_on b (seen_by l (end_of d) old) (seen_by l (end_of d) new) past (a ∷ more) old.course (none_ends (a ∷ more) past (taken_after more (a ∷ past) said ∙ (flow_bare n go past).taken_is) (ap (list_any ends) (sym (ap outcomes_told called) ∙ none_told))) (grows_none (seen_by l (end_of d) old) (seen_by l (end_of d) new) refl refl) f.inside.come in
    record {
      fits = subst (λ (xs : List Act). FitsMachine b l d new (after past xs)) (sym called)
          (call_fits b l d old new past more a f (flow_bare n go past) here hold (delays_flow old.delays n go past f.inside.delays_are) said (calls_hear s (seen s past) a) keep refl refl come lost
          (received_part b (seen_by l (end_of d) old) (seen_by l (end_of d) new) past (after past (a ∷ more)) f.session.received refl refl refl (gots_after more (a ∷ past) said ∙ no_frame n go past)));
      may = ap (list_all (may_act old.unannounced)) called ∙ and_from (may_act old.unannounced a) (list_all (may_act old.unannounced) more) (due_may old.unannounced n _ _ _ go e) (said_may old.unannounced more said);
      settles = λ empty. absurd (queued x are (sym are ∙ called) (waits ∙ empty));
      flows = flows_by x are (sym are ∙ called);
    }
  where
    flows_by : (y : Option Bool) → acts ≡ acts_due n y → acts_due n y ≡ flow_act n go ∷ calls (driving b) past (flow_act n go) → SettlesOne b past acts n old.unannounced
    flows_by None same called = absurd (no_act n go _ called)
    flows_by (Some way) same called =
        let way_is : way ≡ go = same_way n way go _ _ called in
        subst (λ (xs : List Act). SettlesOne b past xs n old.unannounced) (sym (same ∙ ap (λ (w : Bool). acts_due n (Some w)) way_is)) (settles_one b n go past old.unannounced e)

    queued : (y : Option Bool) → acts ≡ acts_due n y → acts_due n y ≡ flow_act n go ∷ calls (driving b) past (flow_act n go) → queue (wire (after past acts)) ≡ [] → ⊥
    queued None same called empty = no_act n go _ called
    queued (Some way) same called empty = not_empty n way past (sym (ap (λ (xs : List Act). queue (wire (after past xs))) same) ∙ empty)

more_is : (n : ℕ) (x : Option Bool) → not (length (acts_due n x) == 0) ≡ list_any is_more (acts_due n x)
more_is n None = refl
more_is n (Some true) = refl
more_is n (Some false) = refl

-- where nothing was done a backlog called for nothing
none_due : (b : Beginning) (past : List Act) (n lines : ℕ) (old core : Core) (acts : List Act) (due : Option Bool) → due_by (driving b) past n lines ≡ due → acts ≡ [] → FlowsOn (driving b) old core past n due acts → due_by (driving b) past n lines ≡ None
none_due b past n lines old core acts None e none on = e
none_due b past n lines old core acts (Some go) e none on = absurd (no_act n go _ (sym none ∙ on.0.called))

-- nothing moved, so there were no acts
no_acts : (acts : List Act) → not (length acts == 0) ≡ false → acts ≡ []
no_acts acts e = nil_from_length acts (eqb-true (length acts) 0 (not_false (length acts == 0) e))
  where
    not_false : (c : Bool) → not c ≡ false → c ≡ true
    not_false true h = refl
    not_false false h = absurd (true_false h)

-- the core did what the backlog called for
pub checks_one : (old : Machine) (core : Core) (n : ℕ) (acts : List Act) (x : Option Bool) → acts ≡ acts_due n x → Flows old.core core n (backlog_in n old.unannounced) acts → ChecksOne n old (record old { core = core }) (not (length acts == 0))
unfolding MachineGoes Flows
checks_one old core n acts x are flows = record {
  acts = acts;
  goes = λ b l d past f. (flown old core n acts x are b l d past f (due_by (driving b) past n (backlog_in n old.unannounced)) refl (flows (driving b) past (may_ask b l d old past f))).fits;
  none_told = ap outcomes_told are ∙ told_due n x;
  none_heard = ap lines_heard are ∙ heard_due n x;
  none_got = ap gots are ∙ got_due n x;
  moved_is = ap (λ (xs : List Act). not (length xs == 0)) are ∙ (more_is n x ∙ ap (list_any is_more) (sym are));
  may = λ b l d past f. (flown old core n acts x are b l d past f (due_by (driving b) past n (backlog_in n old.unannounced)) refl (flows (driving b) past (may_ask b l d old past f))).may;
  settles = λ b l d past f. (flown old core n acts x are b l d past f (due_by (driving b) past n (backlog_in n old.unannounced)) refl (flows (driving b) past (may_ask b l d old past f))).settles;
  are_checks = ap (list_all is_check) are ∙ checks_due n x;
  flows = λ b l d past f. (flown old core n acts x are b l d past f (due_by (driving b) past n (backlog_in n old.unannounced)) refl (flows (driving b) past (may_ask b l d old past f))).flows;
  looks = λ still. (
    no_acts acts still,
    λ b l d past f.
        inl (none_due b past n (backlog_in n old.unannounced) old.core core acts (due_by (driving b) past n (backlog_in n old.unannounced)) refl (no_acts acts still) (flows (driving b) past (may_ask b l d old past f))),
  );
  stays = refl;
}

-- nothing was done
checks_none : (old : Machine) (n : ℕ)
    → ((b : Beginning) (l : LineView) (d : DriverView) (past : List Act) → FitsMachine b l d old past → old.core.station.queue ≡ [] → due_by (driving b) past n (backlog_in n old.unannounced) ≡ None)
    → ((b : Beginning) (l : LineView) (d : DriverView) (past : List Act) → FitsMachine b l d old past → (due_by (driving b) past n (backlog_in n old.unannounced) ≡ None) ⊎ LacksMscRoom b past)
    → ChecksOne n old old false
unfolding MachineGoes
checks_none old n h looks = record {
  acts = [];
  goes = λ b l d past f. f;
  none_told = refl;
  none_heard = refl;
  none_got = refl;
  moved_is = refl;
  may = λ b l d past f. refl;
  settles = λ b l d past f empty. (refl, (refl, h b l d past f empty));
  looks = λ still. (refl, looks);
  are_checks = refl;
  flows = λ b l d past f. settles_none b n past old.unannounced (looks b l d past f);
  stays = refl;
}

-- no backlog of the connection calls for anything
pub checks_never : (old : Machine) (n : ℕ) → NeverDue old.core n → ChecksOne n old old false
unfolding NeverDue
checks_never old n never =
    checks_none old n (λ b l d past f empty. never (driving b) past (backlog_in n old.unannounced) (may_ask b l d old past f))
    (λ b l d past f. inl (never (driving b) past (backlog_in n old.unannounced) (may_ask b l d old past f)))

-- no room for the MSC of one connection is none for any
no_msc : (b : Beginning) (past : List Act) (n signals : ℕ) → all_have_room (driving b) (seen (driving b) past) (by_flow Initiator (seen (driving b) past).state n signals) ≡ false → LacksMscRoom b past
no_msc b past n signals none d = by_open (is_opened ((seen (driving b) past).state n)) none
  where
    full : has_room b.n1 (octets_of (queue (wire past))) (msc_frame Initiator n signals) && true ≡ false → 4096 + b.n1 < octets_of (queue (wire past) ++ msc_frame Initiator d ready ∷ [])
    full h =
        let one : octets_of (queue (wire past) ++ msc_frame Initiator d ready ∷ []) ≡ octets_of (queue (wire past)) + 10 = octets_more (queue (wire past)) (msc_frame Initiator d ready) in
        let over : 4096 + b.n1 < octets_of (queue (wire past)) + 10 = leb-false (octets_of (queue (wire past)) + 10) (4096 + b.n1) (and_false _ h) in
        omega (arith, one, over)
      where
        and_false : (x : Bool) → (x && true) ≡ false → x ≡ false
        and_false true e = e
        and_false false e = refl

    by_open : (c : Bool) → all_have_room (driving b) (seen (driving b) past) (if c then msc_frame Initiator n signals ∷ [] else []) ≡ false → 4096 + b.n1 < octets_of (queue (wire past) ++ msc_frame Initiator d ready ∷ [])
    by_open true h = full h
    by_open false h = absurd (true_false h)

-- what the backlog calls for has no place in the control queue
pub checks_full : (old : Machine) (n : ℕ) → HasNoRoom old.core n (backlog_in n old.unannounced) → ChecksOne n old old false
unfolding HasNoRoom
checks_full old n full = checks_none old n (λ b l d past f empty.
    by_due b past (due_by (driving b) past n (backlog_in n old.unannounced)) refl f.inside.fits empty (full (driving b) past (may_ask b l d old past f)))
    (λ b l d past f. by_room b past (due_by (driving b) past n (backlog_in n old.unannounced)) refl (full (driving b) past (may_ask b l d old past f)))
  where
    by_room : (b : Beginning) (past : List Act) (due : Option Bool) → due_by (driving b) past n (backlog_in n old.unannounced) ≡ due → LacksRoom (driving b) past n due → (due_by (driving b) past n (backlog_in n old.unannounced) ≡ None) ⊎ LacksMscRoom b past
    by_room b past None e lacks = inl e
    by_room b past (Some go) e lacks = inr (no_msc b past n (if go then ready else held_up) lacks)

    by_due : (b : Beginning) (past : List Act) (due : Option Bool) → due_by (driving b) past n (backlog_in n old.unannounced) ≡ due → Fits old.core past → old.core.station.queue ≡ [] → LacksRoom (driving b) past n due → due ≡ None
    by_due b past None e f empty lacks = refl
    by_due b past (Some go) e f empty lacks =
        let live : old.core.lost ≡ false = sym f.lost_is ∙ due_live (is_lost past) (n == 0) _ go e in
        absurd (has_place (driving b) past n go (live_queue old.core past f live ∙ empty) lacks)
