-- A poll of a session: its turns one after the other, and the end to which they lead.
use Rattle.std.proofs.Common.{ap, sym, ◌∙◌, subst, eqb-true}
use Rattle.std.proofs.lemmas.Bool.{and_parts}
use Rattle.std.proofs.lemmas.List.{append-nil, nil_from_length}
use Rattle.std.specs.Prelude.{◌≡◌, ◌==◌, ◌&&◌, not, Bool, true, false, List, [], ◌++◌, length, refl, None, Some, IfSome, Result, Ok, Err}
use Rattle.mux_station.specs.Sending.{queue}
use Rattle.modem_desk.specs.declared.request.Outcome.{Outcome}
use Rattle.modem_history.specs.Acts.{Act, wire}
use Rattle.modem_history.specs.Calls.{is_lost}
use Rattle.modem_history.specs.Wholes.{IsPrefixOf, outcomes}
use Rattle.modem_history.specs.Sessions.{Beginning, LineView, caller_outcomes, at_place}
use Rattle.modem_history.specs.Turns.{TurnAnswer, TurnFault, says_moved}
use Rattle.modem_history.proofs.law_proofs.SessionLaws.{runs_on}
use Rattle.modem_driver.specs.declared.machine.course.Course.{Course}
use Rattle.modem_driver.specs.declared.machine.course.Course.TheVariants as course
use Rattle.modem_driver.specs.declared.session.polling.Progress.{Progress}
use Rattle.modem_driver.specs.declared.session.polling.Progress.TheVariants as progress
use Rattle.modem_driver.specs.declared.session.ending.Ended.{Ended}
use Rattle.modem_driver.specs.declared.session.ending.Ended.TheVariants.{Stopped}
use Rattle.modem_driver.specs.declared.session.error.SessionFault.{SessionFault}
use Rattle.modem_driver.specs.declared.session.error.SessionFault.TheVariants as fault
use Rattle.modem_driver.specs.Endings.{HasCome, HasEnded, IsEnd}
use Rattle.modem_queues.specs.Stops.{has_stopped}
use Rattle.modem_driver.specs.Polls.{Gives, Polls, PollsFrom, PollsOn, SaysEnd, SessionGoesOn, PollSays, end_given, end_in, has_ended, is_stopped, waits_none, waits_once, with_end}
use Rattle.modem_driver.specs.SessionStates.{SessionState, FitsAll, FitsInside, session_view}
use Rattle.modem_driver.specs.SessionTurns.{Faults, HasTurned, LeavesLost, TakesTurn, standing_of}
use Rattle.modem_driver.proofs.sessions.polls.StopProgress.{begins_whole}
use Rattle.modem_driver.proofs.sessions.steps.OneBacklog.{live_queue}
use Rattle.modem_driver.proofs.sessions.meanings.TurnAnswers.{all_given, all_sent}

-- the one answer that says so
pub moved_is : (says : TurnAnswer) → says_moved says ≡ true → says ≡ TurnAnswer.Moved
moved_is TurnAnswer.Moved e = refl
moved_is TurnAnswer.WriterFull e = cc
moved_is (TurnAnswer.Waiting c) e = cc
moved_is (TurnAnswer.Blocked k) e = cc
moved_is TurnAnswer.Idle e = cc

-- where an earlier poll gave an end the session has come to that end
pub given_is : (c : Course) (end : Result Ended SessionFault) → end_given c ≡ Some end → c ≡ course.Ended end
given_is course.GoesOn end e = cc
given_is course.Stopped end e = cc
given_is (course.Ended other) end e = cc

module _ {X : Type 0} (look : X → LineView) where
  -- ## One turn after the other

  -- where nothing is done a session goes on to itself
  pub goes_none : (s : SessionState X) → SessionGoesOn look s s
  unfolding SessionGoesOn
  goes_none s = record { acts = []; more = []; takes_more = sym (append-nil s.driver.taken); goes = λ b past f. f }

  -- a session that goes on, and then goes on again, goes on from the first to the last
  pub goes_then : (old mid new : SessionState X) → SessionGoesOn look old mid → SessionGoesOn look mid new → SessionGoesOn look old new
  unfolding SessionGoesOn
  goes_then old mid new g h = runs_on (session_view look old) (session_view look mid) (session_view look new) (λ b. FitsInside b look old) (λ b. FitsInside b look mid) (λ b. FitsInside b look new) g h

  -- by a turn that ends in an answer a session goes on
  pub turn_goes : (old new : SessionState X) (says : TurnAnswer) → TakesTurn look old new says → HasTurned (standing_of look old) (standing_of look new) → SessionGoesOn look old new
  unfolding SessionGoesOn TakesTurn
  turn_goes old new says t h = record { acts = t.acts; more = h.taken.rest; takes_more = sym h.taken.joins; goes = t.goes }

  -- by one that ends in a fault it goes on too
  pub fault_goes : (old new : SessionState X) (why : TurnFault) → Faults look old new why → HasTurned (standing_of look old) (standing_of look new) → SessionGoesOn look old new
  unfolding SessionGoesOn Faults
  fault_goes old new why t h = record { acts = t.acts; more = h.taken.rest; takes_more = sym h.taken.joins; goes = t.goes }

  -- ## The end

  -- it goes on to an end where every history says so
  comes_to : (s : SessionState X) (end : Result Ended SessionFault) → ((b : Beginning) (past : List Act) → FitsAll b look s past → IsEnd b (session_view look s) past end) → SessionGoesOn look s (record s { machine = record s.machine { course = course.Ended end } })
  unfolding SessionGoesOn
  comes_to s end says = record {
    acts = [];
    more = [];
    takes_more = sym (append-nil s.driver.taken);
    goes = λ b past f. record {
      session = f.session;
      inside = record {
        setting = f.inside.setting;
        fits = f.inside.fits;
        holds = f.inside.holds;
        kinds_are = f.inside.kinds_are;
        callers_are = f.inside.callers_are;
        sound = f.inside.sound;
        by_fault = f.inside.by_fault;
        one_stop = f.inside.one_stop;
        delays_are = f.inside.delays_are;
        come = says b past f;
      };
    };
  }

  is_stop_noted : (b : Beginning) (s : SessionState X) (past : List Act) (c : Course) → is_stopped c ≡ true → HasCome b (session_view look s) past c → has_stopped past ≡ true
  is_stop_noted b s past course.GoesOn e h = cc
  is_stop_noted b s past course.Stopped e h = h
  is_stop_noted b s past (course.Ended end) e h = cc

  not_so : (c : Bool) → not c ≡ true → c ≡ false
  not_so false e = refl
  not_so true e = cc

  -- where it has ended, every history says so
  pub has_ended_says : (s : SessionState X) → has_ended s.machine ≡ true → (b : Beginning) (past : List Act) → FitsAll b look s past → HasEnded b (session_view look s) past
  has_ended_says s e b past f =
      let k = s.machine in
      let p1 = and_parts (is_stopped k.course) (not k.core.lost && ((length k.unwritten == 0) && ((length k.core.station.queue == 0) && (length k.unplaced == 0)))) e in
      let p2 = and_parts (not k.core.lost) ((length k.unwritten == 0) && ((length k.core.station.queue == 0) && (length k.unplaced == 0))) p1.1 in
      let p3 = and_parts (length k.unwritten == 0) ((length k.core.station.queue == 0) && (length k.unplaced == 0)) p2.1 in
      let p4 = and_parts (length k.core.station.queue == 0) (length k.unplaced == 0) p3.1 in
      let live : k.core.lost ≡ false = not_so k.core.lost p2.0 in
      let written : k.unwritten ≡ [] = nil_from_length k.unwritten (eqb-true (length k.unwritten) 0 p3.0) in
      let empty : k.core.station.queue ≡ [] = nil_from_length k.core.station.queue (eqb-true (length k.core.station.queue) 0 p4.0) in
      let placed : k.unplaced ≡ [] = nil_from_length k.unplaced (eqb-true (length k.unplaced) 0 p4.1) in
      let here : is_lost past ≡ false = f.inside.fits.lost_is ∙ live in
      let none : queue (wire past) ≡ [] = live_queue k.core past f.inside.fits live ∙ empty in
      let at = standing_of look s in
      let sent = all_sent b at past f written (all_given b at past f here none) in
      record {
        before = past;
        since = [];
        past_is = refl;
        stopped = is_stop_noted b s past k.course p1.0 f.inside.come;
        written = subst (IsPrefixOf _) (sym sent) (begins_whole _);
        placed = λ c.
            let t = f.session.told.each c in
            let all : t.since ≡ caller_outcomes c (outcomes past) = sym (append-nil t.since) ∙ (ap (λ (os : List Outcome). t.since ++ caller_outcomes c os) (sym placed) ∙ t.outcomes_are) in
            subst (IsPrefixOf _) (sym (t.told_are ∙ ap (λ (os : List Outcome). at_place c b.desk.told ++ os) all)) (begins_whole _);
      }

  -- a session that has ended goes on to one that keeps Stopped as its end
  pub ends_stopped : (s : SessionState X) → has_ended s.machine ≡ true → SessionGoesOn look s (with_end (Ok Stopped) s)
  ends_stopped s e = comes_to s (Ok Stopped) (has_ended_says s e)

  -- after a fault it goes on to one that keeps the fault as its end, but for want of memory
  pub ends_failing : (s : SessionState X) (why : SessionFault) → LeavesLost why s → SessionGoesOn look s (with_end (Err why) s)
  ends_failing s fault.NoMemory lost = goes_none s
  ends_failing s fault.Line lost = comes_to s (Err fault.Line) (λ b past f. f.inside.fits.lost_is ∙ lost)
  ends_failing s fault.Failed lost = comes_to s (Err fault.Failed) (λ b past f. f.inside.fits.lost_is ∙ lost)

  -- ## What is given

  says_end : (b : Beginning) (s : SessionState X) (past : List Act) (end : Result Ended SessionFault) → IsEnd b (session_view look s) past end → PollSays b (session_view look s) past end
  says_end b s past (Ok Stopped) h = h
  says_end b s past (Err fault.NoMemory) h = tt
  says_end b s past (Err fault.Line) h = h
  says_end b s past (Err fault.Failed) h = h

  -- the end that is kept
  pub ended_says : (s : SessionState X) (end : Result Ended SessionFault) → s.machine.course ≡ course.Ended end → SaysEnd look s end
  ended_says s end e b past f = says_end b s past end (subst (HasCome b (session_view look s) past) e f.inside.come)

  -- where a fault is kept as the end, each history says so; of want of memory nothing is said
  pub failing_says : (s : SessionState X) (why : SessionFault) → SaysEnd look (with_end (Err why) s) (Err why)
  failing_says s fault.NoMemory b past f = tt
  failing_says s fault.Line b past f = ended_says (with_end (Err fault.Line) s) (Err fault.Line) refl b past f
  failing_says s fault.Failed b past f = ended_says (with_end (Err fault.Failed) s) (Err fault.Failed) refl b past f

  -- a poll after an end, and one after none
  pub polls_again : (s : SessionState X) (end : Result Ended SessionFault) → s.machine.course ≡ course.Ended end → Polls look s s (progress.Ended end)
  polls_again s end e = subst (λ (c : Course). PollsFrom look c s s (progress.Ended end)) (sym e) (refl, refl)

  -- where no earlier poll gave an end, one that makes its turns is a poll
  pub polls_on : (old new : SessionState X) (given : Progress) → end_given old.machine.course ≡ None → PollsOn look old new given → Polls look old new given
  polls_on old new given none p = by old.machine.course none
    where
      by : (c : Course) → end_given c ≡ None → PollsFrom look c old new given
      by course.GoesOn e = p
      by course.Stopped e = p
      by (course.Ended end) e = let x : Some end ≡ None = e in absurd (let y : Some end ≡ None = x in cc)

  -- an end that the first poll gives is an end that the session gives
  pub gives_now : (old new : SessionState X) (end : Result Ended SessionFault) → Polls look old new (progress.Ended end) → SessionGoesOn look old new → SaysEnd look new end → Gives look old end
  gives_now old new end p g h = record { mid = old; new = new; waits = waits_none old; polls = p; goes = g; says = h }

  -- if what the first poll gives is an end, the session gives it
  pub gives_some : (old new : SessionState X) (given : Progress) → Polls look old new given → SessionGoesOn look old new → IfSome (end_in given) (SaysEnd look new) → IfSome (end_in given) (Gives look old)
  gives_some old new progress.More p g h = h
  gives_some old new progress.Idle p g h = h
  gives_some old new (progress.Ended end) p g h = gives_now old new end p g h

  -- what it gives from here on it gave before
  pub gives_before : (old new : SessionState X) (given : Progress) (end : Result Ended SessionFault) → Polls look old new given → end_in given ≡ None → SessionGoesOn look old new → Gives look new end → Gives look old end
  gives_before old new given end p none g h =
      record { mid = h.mid; new = h.new; waits = waits_once old new h.mid given p none h.waits; polls = h.polls; goes = goes_then old new h.new g h.goes; says = h.says }
