-- The calls of a session make one history.
use Rattle.std.proofs.Common.{ap, sym, ◌∙◌, subst}
use Rattle.std.specs.Prelude.{◌≡◌, ℕ, Bool, true, false, List, [], ◌∷◌, ◌++◌, refl, Result, Ok, Err, if◌then◌else◌}
use Rattle.modem_history.specs.Acts.{Act, after}
use Rattle.modem_history.specs.Sessions.{Beginning, FitsWith, LineView, SessionView}
use Rattle.modem_history.specs.Turns.{TurnAnswer}
use Rattle.modem_driver.specs.declared.machine.course.Course.{Course}
use Rattle.modem_driver.specs.declared.machine.course.Course.TheVariants as course
use Rattle.modem_driver.specs.declared.session.ending.Ended.{Ended}
use Rattle.modem_driver.specs.declared.session.ending.Ended.TheVariants.{Stopped}
use Rattle.modem_driver.specs.declared.session.error.SessionFault.{SessionFault}
use Rattle.modem_driver.specs.declared.session.error.SessionFault.TheVariants as fault
use Rattle.modem_driver.specs.declared.session.polling.Progress.{Progress}
use Rattle.modem_driver.specs.declared.session.polling.Progress.TheVariants as progress
use Rattle.modem_driver.specs.Endings.{IsEnd}
use Rattle.modem_driver.specs.Polls.{MovesOn, Polls, PollsFrom, PollsOn, RunsTurns, Waits, end_in, ends, fails, given_by, goes_on, has_ended, moves_none, moves_once, rests, waits_none, waits_once, with_end, with_given}
use Rattle.modem_driver.specs.SessionStates.{FitsAll, MachineFits, SessionState, Ticks, end_of, seen_by, session_view}
use Rattle.modem_driver.specs.SessionTurns.{Faults, LeavesLost, TakesTurn, fault_of}
use Rattle.modem_driver.specs.OneSession.{Adds, CallKind, Called, HasCalls, HasOne, OneSession, SessionCall, Polled, begun, by_fault, by_tick, by_turn, call_of, fault_called, fault_more, line_lent, lived_on, no_turn, none_called, poll_called, tick_called, turn_called, turn_more}
use Rattle.modem_driver.proofs.sessions.polls.Polls.{has_ended_says}

-- ## A poll

module _ {X : Type 0} (look : X → LineView) where
  record Gone (b : Beginning) (old : SessionState X) (past : List Act) (new : SessionState X) : Type 0 where
    now : List Act
    adds : Adds b (session_view look old) past (session_view look new) Polled now
    fits : FitsAll b look new now

  moves : (b : Beginning) (past : List Act) (old new : SessionState X) (n : ℕ) → FitsAll b look old past → MovesOn look old n new → Gone b old past new
  unfolding TakesTurn
  moves b past old _ _ f moves_none = record { now = past; adds = no_turn (session_view look old) past; fits = f }
  moves b past old _ _ f (moves_once n mid new before turn) =
      let w = moves b past old mid n f before in
      let here = turn.turn.goes b w.now w.fits in
      let one = by_turn (session_view look mid) (session_view look new) turn.turn.exchange w.now turn.turn.acts TurnAnswer.Moved (turn.turn.turn b w.now w.fits) (turn.turn.steps b w.now w.fits) here.session in
      record {
        now = after w.now turn.turn.acts;
        adds = turn_more (session_view look old) (session_view look mid) (session_view look new) past w.now (after w.now turn.turn.acts) TurnAnswer.Moved w.adds one;
        fits = here;
      }

  -- where the turns failed the line is lost, but for want of memory
  abbrev LostBy : Result Bool SessionFault → SessionState X → Type 0
  LostBy (Ok more) s = Unit {0}
  LostBy (Err why) s = LeavesLost why s

  record Ran (b : Beginning) (old : SessionState X) (past : List Act) (new : SessionState X) (ran : Result Bool SessionFault) : Type 0 where
    gone : Gone b old past new
    lost : LostBy ran new

  runs : (b : Beginning) (past : List Act) (old new : SessionState X) (ran : Result Bool SessionFault) → FitsAll b look old past → RunsTurns look old new ran → Ran b old past new ran
  unfolding TakesTurn Faults
  runs b past old new _ f (goes_on m) = record { gone = moves b past old new 64 f m; lost = tt }
  runs b past old new _ f (ends n few m e) = record { gone = moves b past old new n f m; lost = tt }
  runs b past old new _ f (rests n mid says few m turn other) =
      let w = moves b past old mid n f m in
      let here = turn.turn.goes b w.now w.fits in
      let one = by_turn (session_view look mid) (session_view look new) turn.turn.exchange w.now turn.turn.acts says (turn.turn.turn b w.now w.fits) (turn.turn.steps b w.now w.fits) here.session in
      record {
        gone = record {
          now = after w.now turn.turn.acts;
          adds = turn_more (session_view look old) (session_view look mid) (session_view look new) past w.now (after w.now turn.turn.acts) says w.adds one;
          fits = here;
        };
        lost = tt;
      }
  runs b past old new _ f (fails n mid why few m turn) =
      let w = moves b past old mid n f m in
      let here = turn.fault.goes b w.now w.fits in
      let one = by_fault (session_view look mid) (session_view look new) turn.fault.exchange w.now turn.fault.acts (fault_of why) (turn.fault.fault b w.now w.fits) (turn.fault.offers b w.now w.fits) here.session in
      record {
        gone = record {
          now = after w.now turn.fault.acts;
          adds = fault_more (session_view look old) (session_view look mid) (session_view look new) past w.now (after w.now turn.fault.acts) (fault_of why) w.adds one;
          fits = here;
        };
        lost = turn.lost;
      }

  -- what is given is kept, and changes nothing that is seen
  kept : (b : Beginning) (past : List Act) (s : SessionState X) (end : Result Ended SessionFault) → FitsAll b look s past → IsEnd b (session_view look s) past end → FitsAll b look (record s { machine = record s.machine { course = course.Ended end } }) past
  kept b past s end f says = record {
    session = f.session;
    inside = record {
      setting = f.inside.setting;
      fits = f.inside.fits;
      holds = f.inside.holds;
      kinds_are = f.inside.kinds_are;
      callers_are = f.inside.callers_are;
      sound = f.inside.sound;
      by_fault = f.inside.by_fault;
      one_stop = f.inside.one_stop;
      delays_are = f.inside.delays_are;
      come = says;
    };
  }

  kept_fault : (b : Beginning) (past : List Act) (s : SessionState X) (why : SessionFault) → FitsAll b look s past → LeavesLost why s → FitsAll b look (with_end (Err why) s) past
  kept_fault b past s fault.NoMemory f lost = f
  kept_fault b past s fault.Line f lost = kept b past s (Err fault.Line) f (f.inside.fits.lost_is ∙ lost)
  kept_fault b past s fault.Failed f lost = kept b past s (Err fault.Failed) f (f.inside.fits.lost_is ∙ lost)

  same_view : (s : SessionState X) (end : Result Ended SessionFault) → session_view look (with_end end s) ≡ session_view look s
  same_view s (Ok Stopped) = refl
  same_view s (Err fault.NoMemory) = refl
  same_view s (Err fault.Line) = refl
  same_view s (Err fault.Failed) = refl

  -- what is kept of a poll
  record Kept (b : Beginning) (past : List Act) (mid new : SessionState X) : Type 0 where
    view : session_view look new ≡ session_view look mid
    fits : FitsAll b look new past

  keeps : (b : Beginning) (past : List Act) (mid : SessionState X) (ran : Result Bool SessionFault) → FitsAll b look mid past → LostBy ran mid → Kept b past mid (with_given (end_in (given_by mid.machine ran)) mid)
  keeps b past mid (Err why) f lost = record { view = same_view mid (Err why); fits = kept_fault b past mid why f lost }
  keeps b past mid (Ok more) f lost = by (has_ended mid.machine) more refl
    where
      by : (ended m : Bool) → has_ended mid.machine ≡ ended → Kept b past mid (with_given (end_in (if ended then progress.Ended (Ok Stopped) else if m then progress.More else progress.Idle)) mid)
      by true m e = record { view = refl; fits = kept b past mid (Ok Stopped) f (has_ended_says look mid e b past f) }
      by false true e = record { view = refl; fits = f }
      by false false e = record { view = refl; fits = f }

  polls_on : (b : Beginning) (past : List Act) (old new : SessionState X) (given : Progress) → FitsAll b look old past → PollsOn look old new given → Gone b old past new
  polls_on b past old new given f p =
      let r = runs b past old p.mid p.ran f p.runs in
      let k = keeps b r.gone.now p.mid p.ran r.gone.fits r.lost in
      let same : with_given (end_in (given_by p.mid.machine p.ran)) p.mid ≡ new = ap (λ (g : Progress). with_given (end_in g) p.mid) (sym p.given_is) ∙ sym p.stays in
      let view : session_view look new ≡ session_view look p.mid = ap (session_view look) (sym same) ∙ k.view in
      record {
        now = r.gone.now;
        adds = subst (λ (v : SessionView). Adds b (session_view look old) past v Polled r.gone.now) (sym view) r.gone.adds;
        fits = subst (λ (s : SessionState X). FitsAll b look s r.gone.now) same k.fits;
      }

  polls_by : (b : Beginning) (past : List Act) (old new : SessionState X) (given : Progress) → FitsAll b look old past → (c : Course) → PollsFrom look c old new given → Gone b old past new
  polls_by b past old new given f course.GoesOn p = polls_on b past old new given f p
  polls_by b past old new given f course.Stopped p = polls_on b past old new given f p
  polls_by b past old new given f (course.Ended end) p = record {
    now = past;
    adds = subst (λ (s : SessionState X). Adds b (session_view look old) past (session_view look s) Polled past) (sym p.1) (no_turn (session_view look old) past);
    fits = subst (λ (s : SessionState X). FitsAll b look s past) (sym p.1) f;
  }

  -- ## All calls

  lent_fits : (b : Beginning) (past : List Act) (old : SessionState X) (line : X) → look line ≡ look old.line → FitsAll b look old past → FitsAll b look (record old { line = line }) past
  lent_fits b past old line e f = subst (λ (l : LineView). FitsWith b (seen_by l (end_of old.driver) old.machine) (MachineFits b l old.driver old.machine) past) (sym e) f

  one : (b : Beginning) (first last : SessionState X) (calls : List SessionCall) → FitsAll b look first [] → Called look first last calls → HasOne look b first last calls
  unfolding TakesTurn Faults Ticks
  one b first _ _ f none_called = record { past = []; lived = begun f.session; seen = refl; fits = f }
  one b first _ _ f (turn_called old new calls says before t) =
      let w = one b first old calls f before in
      let here = t.goes b w.past w.fits in
      let adds = by_turn (session_view look old) (session_view look new) t.exchange w.past t.acts says (t.turn b w.past w.fits) (t.steps b w.past w.fits) here.session in
      record {
        past = after w.past t.acts;
        lived = lived_on calls (call_of look (CallKind.Turned says) new) w.past (after w.past t.acts) w.lived
            (subst (λ (v : SessionView). Adds b v w.past (session_view look new) (CallKind.Turned says) (after w.past t.acts)) (sym w.seen) adds);
        seen = refl;
        fits = here;
      }
  one b first _ _ f (fault_called old new calls why before t) =
      let w = one b first old calls f before in
      let here = t.goes b w.past w.fits in
      let adds = by_fault (session_view look old) (session_view look new) t.exchange w.past t.acts why (t.fault b w.past w.fits) (t.offers b w.past w.fits) here.session in
      record {
        past = after w.past t.acts;
        lived = lived_on calls (call_of look (CallKind.Failed why) new) w.past (after w.past t.acts) w.lived
            (subst (λ (v : SessionView). Adds b v w.past (session_view look new) (CallKind.Failed why) (after w.past t.acts)) (sym w.seen) adds);
        seen = refl;
        fits = here;
      }
  one b first _ _ f (poll_called old new calls given before p) =
      let w = one b first old calls f before in
      let g = polls_by b w.past old new given w.fits old.machine.course p in
      record {
        past = g.now;
        lived = lived_on calls (call_of look Polled new) w.past g.now w.lived
            (subst (λ (v : SessionView). Adds b v w.past (session_view look new) Polled g.now) (sym w.seen) g.adds);
        seen = refl;
        fits = g.fits;
      }
  one b first _ _ f (tick_called old new calls before t) =
      let w = one b first old calls f before in
      let here = t.goes b w.past w.fits in
      let adds = by_tick (session_view look old) (session_view look new) w.past t.acts (t.tick b w.past w.fits) here.session in
      record {
        past = after w.past t.acts;
        lived = lived_on calls (call_of look CallKind.Ticked new) w.past (after w.past t.acts) w.lived
            (subst (λ (v : SessionView). Adds b v w.past (session_view look new) CallKind.Ticked (after w.past t.acts)) (sym w.seen) adds);
        seen = refl;
        fits = here;
      }
  one b first _ _ f (line_lent old line calls before same) =
      let w = one b first old calls f before in
      record {
        past = w.past;
        lived = w.lived;
        seen = w.seen ∙ ap (λ (l : LineView). seen_by l (end_of old.driver) old.machine) (sym same);
        fits = lent_fits b w.past old line same w.fits;
      }

  -- a session that has just begun has one history, to which its turns, polls and ticks add their acts
  pub one_session : OneSession look
  unfolding OneSession
  one_session b first last calls f called = one b first last calls f called

  -- ## Calls, one after the other

  -- by no calls a session comes to itself
  pub calls_none : (s : SessionState X) → HasCalls look s s
  calls_none s = record { calls = []; called = none_called }

  -- what a session comes to by a tick it comes to by calls
  pub tick_calls : (old new : SessionState X) → Ticks look old new → HasCalls look old new
  tick_calls old new t = record { calls = call_of look CallKind.Ticked new ∷ []; called = tick_called old new [] none_called t }

  -- what it comes to by a poll, whatever that gave, it comes to by calls too
  pub poll_calls : (old new : SessionState X) (given : Progress) → Polls look old new given → HasCalls look old new
  poll_calls old new given p = record { calls = call_of look Polled new ∷ []; called = poll_called old new [] given none_called p }

  called_then : (first mid last : SessionState X) (xs ys : List SessionCall) → Called look first mid xs → Called look mid last ys → Called look first last (ys ++ xs)
  called_then first mid _ xs _ x none_called = x
  called_then first mid _ xs _ x (turn_called old new calls says before t) = turn_called old new (calls ++ xs) says (called_then first mid old xs calls x before) t
  called_then first mid _ xs _ x (fault_called old new calls why before t) = fault_called old new (calls ++ xs) why (called_then first mid old xs calls x before) t
  called_then first mid _ xs _ x (poll_called old new calls given before p) = poll_called old new (calls ++ xs) given (called_then first mid old xs calls x before) p
  called_then first mid _ xs _ x (tick_called old new calls before t) = tick_called old new (calls ++ xs) (called_then first mid old xs calls x before) t
  called_then first mid _ xs _ x (line_lent old line calls before same) = line_lent old line (calls ++ xs) (called_then first mid old xs calls x before) same

  -- calls, and then more calls, lead from the first session to the last
  pub calls_then : (first mid last : SessionState X) → HasCalls look first mid → HasCalls look mid last → HasCalls look first last
  calls_then first mid last x y = record { calls = y.calls ++ x.calls; called = called_then first mid last x.calls y.calls x.called y.called }

  waits_on : (first old new : SessionState X) → HasCalls look first old → Waits look old new → HasCalls look first new
  waits_on first old _ h (waits_none _) = h
  waits_on first old _ h (waits_once _ mid new given polls none rest) = waits_on first mid new (calls_then first old mid h (poll_calls old mid given polls)) rest

  -- what it comes to by polls that gave no end it comes to by calls
  pub waits_call : (old new : SessionState X) → Waits look old new → HasCalls look old new
  waits_call old new w = waits_on old old new (calls_none old) w
