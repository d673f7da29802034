-- The frame at hand is handled.
use Rattle.std.proofs.Common.{ap, sym, ◌∙◌, subst, arith}
use Rattle.std.proofs.lemmas.List.{append-nil}
use Rattle.std.specs.Prelude.{◌≡◌, ℕ, ◌≤◌, Bool, true, false, List, [], ◌∷◌, ◌++◌, length, drop, map, refl, find, option_map, option_to_list, None, Some, if◌then◌else◌}
use Rattle.mux_frame.specs.Frames.{Frame}
use Rattle.mux_frame.specs.Deframing.{Deframing, Deframes, HandsOver}
use Rattle.mux_station.specs.States.{state_of}
use Rattle.mux_station.specs.Sending.{queue}
use Rattle.mux_station.specs.Tables.{by_frame, have_room, octets_of}
use Rattle.mux_station.specs.declared.role.Role.TheVariants.{Initiator}
use Rattle.modem_desk.specs.declared.request.Outcome.{Outcome}
use Rattle.modem_desk.specs.declared.request.Urc.{Urc}
use Rattle.modem_desk.specs.Ends.{DriverView}
use Rattle.modem_history.specs.Acts.{Act, Got, after, wire}
use Rattle.modem_history.specs.Calls.{calls, seen, is_lost}
use Rattle.modem_history.specs.Sessions.{Beginning, LineView, FitsLoss, FitsReceived, driving, gots, heard_as}
use Rattle.modem_history.proofs.calls.CalledActs.{calls_said}
use Rattle.modem_core.specs.Cores.{Core, Handles, GoesOn}
use Rattle.modem_core.specs.Holding.{HoldsFit, KeepsHeld}
use Rattle.modem_driver.specs.Endings.{HasCome, course_after}
use Rattle.modem_queues.specs.Stops.{asker_of, is_answered, is_stop}
use Rattle.modem_core.specs.Receiving.{HasRoom, brings_data}
use Rattle.modem_core.specs.Running.{CoreIsIdle}
use Rattle.modem_driver.specs.SessionStates.{Machine, seen_by, end_of}
use Rattle.modem_driver.specs.TurnSteps.{Leads, Adds, AddsAll}
use Rattle.modem_driver.specs.GettingSteps.{HasData, MachineGets}
use Rattle.modem_core.specs.Doing.{GetsData}
use Rattle.modem_core.specs.WaitingLists.{WaitingLists, Keeps}
use Rattle.modem_driver.specs.declared.machine.course.Course.{Course}
use Rattle.modem_driver.specs.declared.machine.course.Course.TheVariants as course
use Rattle.modem_core.proofs.sessions.steps.LongerHistories.{gots_after, losses_after, lost_after}
use Rattle.modem_driver.proofs.sessions.steps.CoreCalls.{FitsMachine, IsBare, KeepsMore, call_fits, few_told, may_come}
use Rattle.modem_driver.proofs.sessions.polls.StopProgress.{come_noted, ended_after, grows_none}
use Rattle.modem_driver.proofs.sessions.steps.OneBacklog.{said_may}
use Rattle.modem_core.proofs.sessions.steps.ListenedLines.{calls_hear}
use Rattle.modem_driver.proofs.sessions.steps.NextFrame.{stands_in}
use Rattle.modem_driver.proofs.sessions.steps.OneFrame.{one_few, said_none}
use Rattle.modem_driver.proofs.sessions.polls.EndedStops.{none_noted}
use Rattle.modem_history.specs.Lawful.{Lawful}

got_bare : (f : Frame) (past : List Act) → IsBare (Got f) past
got_bare f past = record { taken_is = refl; given_is = refl; hand_is = refl; room_is = λ h. h; turn_is = λ s h. (tt, h); told_is = λ more. refl; heard_is = λ more. refl }

-- what came, whatever the core says first of it
abbrev came : Frame → List Act → List Act
came f acts = Got f ∷ drop 1 acts

-- what handling it comes to
record Gotten (b : Beginning) (l : LineView) (d : DriverView) (old new : Machine) (past : List Act) (f : Frame) (acts : List Act) : Type 0 where
  fits : FitsMachine b l d new (after past (came f acts))
  adds : (waiting : List Urc) → Adds old new waiting 1 (came f acts)
  got : gots (came f acts) ≡ f ∷ []

gotten : (old : Machine) (core : Core) (fed : Deframing) (w : WaitingLists) (acts : List Act) (f : Frame)
    → Handles old.core core (Got f) acts → KeepsHeld old.core core (Got f) acts → Keeps (record { outcomes = old.unplaced; lines = old.unannounced }) w acts
    → old.deframer.next ≡ Some f → fed.n1 ≡ old.deframer.n1 → HandsOver old.deframer fed
    → (b : Beginning) (l : LineView) (d : DriverView) (past : List Act) → FitsMachine b l d old past → Gotten b l d old (record old { core = core; deframer = fed; unplaced = w.outcomes; unannounced = w.lines; course = course_after old.course (is_answered (option_map asker_of (find is_stop old.core.hand)) acts) }) past f acts
unfolding Handles KeepsHeld
gotten old core fed w acts f handles held keeps at_hand bound over b l d past fit =
    let new : Machine = record old { core = core; deframer = fed; unplaced = w.outcomes; unannounced = w.lines; course = course_after old.course (is_answered (option_map asker_of (find is_stop old.core.hand)) acts) } in
    let s = driving b in
    let a = Got f in
    let may = may_come b l d old past a fit refl in
    let on = handles s past may in
    let more = calls s past a in
    let said = calls_said s (seen s past) a in
    let same : came f acts ≡ a ∷ more = ap (λ (xs : List Act). Got f ∷ drop 1 xs) on.called in
    let here : GoesOn s core past a (a ∷ more) = subst (GoesOn s core past a) on.called on in
    let hold : HoldsFit core (after past (a ∷ more)) = subst (λ (xs : List Act). HoldsFit core (after past xs)) on.called (held s past may fit.inside.holds) in
    let keep : KeepsMore old new (a ∷ more) = subst (KeepsMore old new) on.called (record {
      outcomes = keeps.outcomes;
      lines = keeps.lines;
    }) in
    let lost : FitsLoss b (seen_by l (end_of d) new) (after past (a ∷ more)) = record {
      one = subst (λ (xs : List Act). length xs ≤ 1) (sym (losses_after more (a ∷ past) said)) fit.session.loss.one;
      by_fault = λ gone. fit.session.loss.by_fault (sym (lost_after more (a ∷ past) said) ∙ gone);
    } in
    let r = fit.session.received in
    let all : gots (after past (a ∷ more)) ≡ gots past ++ f ∷ [] = gots_after more (a ∷ past) said in
    let received : FitsReceived b (seen_by l (end_of d) new) (after past (a ∷ more)) = record {
      fed = r.fed;
      received_are = r.received_are;
      bound = bound ∙ r.bound;
      deframes = subst (λ (fs : List Frame). Deframes r.fed fs fed) (sym all) (over r.fed (gots past) f at_hand r.deframes);
    } in
    let come : HasCome b (seen_by l (end_of d) new) (after past (a ∷ more)) new.course =
    subst (λ (xs : List Act). HasCome b (seen_by l (end_of d) new) (after past xs) new.course) on.called
    (come_noted b (seen_by l (end_of d) old) (seen_by l (end_of d) new) past acts old.core.hand old.course fit.inside.fits.hand_is (none_noted b l d old past acts more a fit on.called refl (subst (λ (xs : List Act). Lawful s (after past xs)) (sym on.called) here.run.lawful) said refl) (grows_none (seen_by l (end_of d) old) (seen_by l (end_of d) new) refl refl) fit.inside.come) in
    let told = few_told b l d old new past more a fit (got_bare f past) here said in
    let fewer = fit.session.requests.few in
    record {
      fits = subst (λ (xs : List Act). FitsMachine b l d new (after past xs)) (sym same)
          (call_fits b l d old new past more a fit (got_bare f past) here hold fit.inside.delays_are said (calls_hear s (seen s past) a) keep refl refl come lost received);
      adds = λ waiting. subst (Adds old new waiting 1) (sym same) (record {
        outcomes = keep.outcomes (omega (arith, told, fewer));
        lines = keep.lines;
        may = said_may waiting more said;
        few_got = one_few f more said;
      });
      got = ap gots same ∙ ap (λ (fs : List Frame). fs ++ f ∷ []) (said_none more said);
    }

-- the core handled it, and what that told and announced waits
pub gets_moved : (old : Machine) (core : Core) (fed : Deframing) (w : WaitingLists) (acts : List Act) (f : Frame)
    → Handles old.core core (Got f) acts → KeepsHeld old.core core (Got f) acts → Keeps (record { outcomes = old.unplaced; lines = old.unannounced }) w acts
    → old.deframer.next ≡ Some f → fed.n1 ≡ old.deframer.n1 → HandsOver old.deframer fed
    → MachineGets old (record old { core = core; deframer = fed; unplaced = w.outcomes; unannounced = w.lines; course = course_after old.course (is_answered (option_map asker_of (find is_stop old.core.hand)) acts) }) true
unfolding MachineGets Leads AddsAll
gets_moved old core fed w acts f handles held keeps at_hand bound over l d = record {
  acts = came f acts;
  leads = λ b past fit. (gotten old core fed w acts f handles held keeps at_hand bound over b l d past fit).fits;
  adds = λ waiting b past fit. (gotten old core fed w acts f handles held keeps at_hand bound over b l d past fit).adds waiting;
  moved_is = refl;
  still = λ e. absurd (let x : true ≡ false = e in cc);
  got = λ b past fit moved. (gotten old core fed w acts f handles held keeps at_hand bound over b l d past fit).got ∙ ap option_to_list (sym at_hand);
  ended = ended_after old.course (is_answered (option_map asker_of (find is_stop old.core.hand)) acts);
  no_room = λ g e. absurd (let x : true ≡ false = e in cc);
  stays = refl;
}

-- data of an open connection is handled: it ends no Stop
pub gets_data : (old : Machine) (core : Core) (fed : Deframing) (w : WaitingLists) (f : Frame) → GetsData old.core core (record { outcomes = old.unplaced; lines = old.unannounced }) w (Got f)
    → old.deframer.next ≡ Some f → fed.n1 ≡ old.deframer.n1 → HandsOver old.deframer fed
    → MachineGets old (record old { core = core; deframer = fed; unplaced = w.outcomes; unannounced = w.lines }) true
gets_data old core fed w f g at_hand bound over =
    let same : course_after old.course (is_answered (option_map asker_of (find is_stop old.core.hand)) g.acts) ≡ old.course = ap (course_after old.course) g.answered_is ∙ unanswered old.course in
    subst (λ (c : Course). MachineGets old (record old { core = core; deframer = fed; unplaced = w.outcomes; unannounced = w.lines; course = c }) true) same
    (gets_moved old core fed w g.acts f g.past g.holds g.keeps at_hand bound over)
  where
    unanswered : (c : Course) → course_after c false ≡ c
    unanswered course.GoesOn = refl
    unanswered course.Stopped = refl
    unanswered (course.Ended end) = refl

-- ## Where it isn't handled

-- why it isn't: none is at hand, or there is no room for what it calls for
pub record Remains (v : Machine) : Type 0 where
  pub busy : (f : Frame) → v.deframer.next ≡ Some f → ¬ CoreIsIdle v.core
  pub full : (f : Frame) → v.deframer.next ≡ Some f → HasRoom v.core (Got f) false

-- none is at hand
pub none_at_hand : (v : Machine) → v.deframer.next ≡ None → Remains v
none_at_hand v none = record { busy = λ f e. absurd (apart f (sym none ∙ e)); full = λ f e. absurd (apart f (sym none ∙ e)) }
  where
    apart : (f : Frame) → None ≡ Some f → ⊥
    apart f e = cc

-- there is no room for what it calls for
pub stays_at_hand : (v : Machine) (f : Frame) → Some f ≡ v.deframer.next → ¬ CoreIsIdle v.core → HasRoom v.core (Got f) false → Remains v
stays_at_hand v f at_hand idle full = record {
  busy = λ g e. idle;
  full = λ g e. subst (λ (x : Frame). HasRoom v.core (Got x) false) (same f g (at_hand ∙ e)) full;
}
  where
    same : (f g : Frame) → Some f ≡ Some g → f ≡ g
    same f g e = cc

no_frames : (n q : ℕ) (fs : List Frame) (gone : Bool) → have_room n q (if gone then [] else fs) ≡ false → have_room n q fs ≡ false
no_frames n q fs false h = h
no_frames n q fs true h = absurd (let x : true ≡ false = h in cc)

still_gets : (old : Machine) → Remains old → MachineGets old old false
unfolding MachineGets Leads AddsAll HasRoom
still_gets old stays l d = record {
  acts = [];
  leads = λ b past fit. fit;
  adds = λ waiting b past fit. record { outcomes = sym (append-nil old.unplaced); lines = sym (append-nil (map heard_as old.unannounced)); may = refl; few_got = omega arith };
  moved_is = refl;
  still = λ e. (refl, refl);
  got = λ b past fit e. absurd (let x : false ≡ true = e in cc);
  ended = λ end e. e;
  no_room = λ f e at_hand. (
    stays.busy f at_hand,
    (λ b past fit. no_frames b.n1 (octets_of (queue (wire past))) (by_frame Initiator (λ (n : ℕ). state_of Initiator n (wire past)) f) (is_lost past) (stays.full f at_hand (driving b) past (stands_in b l d old past fit))),
  );
  stays = refl;
}

-- then nothing is done
pub gets_none : (old : Machine) (core : Core) (fed : Deframing) (outcomes : List Outcome) (lines : List Urc) → Remains old → core ≡ old.core → fed ≡ old.deframer → outcomes ≡ old.unplaced → lines ≡ old.unannounced
    → MachineGets old (record old { core = core; deframer = fed; unplaced = outcomes; unannounced = lines }) false
gets_none old core fed outcomes lines stays same_core same_fed same_outcomes same_lines =
    subst (λ (v : Core). MachineGets old (record old { core = v; deframer = fed; unplaced = outcomes; unannounced = lines }) false) (sym same_core)
    (subst (λ (v : Deframing). MachineGets old (record old { deframer = v; unplaced = outcomes; unannounced = lines }) false) (sym same_fed)
    (subst (λ (v : List Outcome). MachineGets old (record old { unplaced = v; unannounced = lines }) false) (sym same_outcomes)
    (subst (λ (v : List Urc). MachineGets old (record old { unannounced = v }) false) (sym same_lines) (still_gets old stays))))

-- it is data
pub has_data : (k : Machine) (f : Frame) (brings : Bool) → Some f ≡ k.deframer.next → brings ≡ brings_data k.core f → brings ≡ true → HasData k
has_data k f brings next is h = record { frame = f; at_hand = sym next; brings = sym is ∙ h }
