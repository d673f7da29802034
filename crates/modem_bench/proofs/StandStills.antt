-- The polls of a bench: what each comes to, and what they come to one after the other.
use Rattle.std.specs.Prelude.{◌≡◌, ℕ, ◌+◌, ◌<◌, ◌≤◌, ◌==◌, ◌||◌, not, nat_le, nat_lt, Bool, true, false, List, [], ◌∷◌, ◌++◌, length, refl, None, Some, Result, Ok, Err, IfOk, OnOk, if◌then◌else◌}
use Rattle.std.specs.List.{list_any}
use Rattle.std.proofs.Common.{ap, sym, ◌∙◌, subst, arith, eqb-true}
use Rattle.std.proofs.lemmas.Bool.{or_parts}
use Rattle.std.proofs.lemmas.Bool.Decides.{nat_tests}
use Rattle.std.proofs.lemmas.List.{append-nil, length-append}
use Rattle.serial_line.specs.OtherSide.{OtherSide}
use Rattle.modem_desk.specs.declared.request.Request.{Request}
use Rattle.modem_history.specs.Acts.{Act, Took, Got, Sent, Told, Heard, Tick, Lost, Held, Freed, Given, after}
use Rattle.modem_history.specs.Sessions.{Beginning, LineView}
use Rattle.modem_history.specs.Turns.{TurnAnswer, amount, is_mark, says_moved}
use Rattle.modem_history.specs.Wholes.{taken_requests}
use Rattle.modem_driver.specs.declared.session.ending.Ended.TheVariants.{Stopped}
use Rattle.modem_driver.specs.declared.session.error.SessionFault.{SessionFault}
use Rattle.modem_driver.specs.declared.session.polling.Progress.{Progress}
use Rattle.modem_driver.specs.declared.session.polling.Progress.TheVariants.{Ended, Idle, More}
use Rattle.modem_driver.specs.Polls.{Polls, SessionGoesOn}
use Rattle.modem_driver.specs.SessionStates.{FitsAll, SessionState, TakesMore, session_view}
use Rattle.modem_driver.specs.SessionTurns.{Faults, HasTurned, TakesTurn, fault_of, standing_of}
use Rattle.modem_driver.proofs.sessions.polls.Polls.{fault_goes, goes_none, goes_then, moved_is, turn_goes}
use Rattle.modem_driver.proofs.sessions.steps.TakenRequests.{takes_none, takes_then}
use Rattle.modem_bench.specs.Driving.{Advances, Continues, Goes, GoesOnce, Halts, IsCounted, IsRefused, MakesPolls, MovesAndPolls, MovesNothing, Steps, StopsAtLine, at_once, behind, led_to, moves, no_poll, one_more, stays}
use Rattle.modem_bench.specs.Faults.{session_fault}
use Rattle.modem_bench.specs.Limits.{cause_at, fresh_limit}
use Rattle.modem_bench.specs.declared.cause.Cause.{Cause}
use Rattle.modem_bench.specs.declared.cause.Cause.TheVariants as reason
use Rattle.modem_bench.specs.declared.driving.Halt.{Halt}
use Rattle.modem_bench.specs.declared.driving.Halt.TheVariants as halt
use Rattle.modem_bench.specs.declared.limit.Limit.{Limit}
use Rattle.modem_bench.specs.declared.limit.Limits.{Limits}
use Rattle.modem_bench.specs.declared.signals.Fault.{Fault}
use Rattle.modem_bench.proofs.CallerThreads.{kept_ok, on_ok}

-- ## A turn that doesn't answer Moved

not_more : (a b : ℕ) → nat_lt a b ≡ false → b ≤ a
not_more a b h = grind (arith, nat_tests)

at_least : (a b : ℕ) → nat_le a b ≡ true → a ≤ b
at_least a b h = grind (arith, nat_tests)

more_left : (n : ℕ) → (n == 0) ≡ false → 0 < n
more_left n e = grind (arith, nat_tests)

same_cause : (a b : Cause) → Some a ≡ Some b → a ≡ b
same_cause a b e = cc

-- a list that didn't become longer by what stands behind it is the same
same_list : {A : Type 0} (old more new : List A) → new ≡ old ++ more → nat_lt (length old) (length new) ≡ false → new ≡ old
same_list old [] new is none = is ∙ append-nil old
same_list {A} old (x ∷ more) new is none =
    let long : length new ≡ length old + length (x ∷ more) = ap (length {A = A}) is ∙ length-append old (x ∷ more) in
    let few : length new ≤ length old = not_more (length old) (length new) none in
    absurd (omega (arith, long, few))

-- a mark takes no request
mark_takes_none : (a : Act) (past : List Act) → not (is_mark a) ≡ false → taken_requests (a ∷ past) ≡ taken_requests past
mark_takes_none Given past e = refl
mark_takes_none (Took r) past e = cc
mark_takes_none (Got f) past e = refl
mark_takes_none (Sent f) past e = refl
mark_takes_none (Told o) past e = refl
mark_takes_none (Heard k d line) past e = refl
mark_takes_none Tick past e = refl
mark_takes_none Lost past e = refl
mark_takes_none (Held d) past e = refl
mark_takes_none (Freed d) past e = refl

marks_take_none : (past acts : List Act) → list_any (λ a. not (is_mark a)) acts ≡ false → taken_requests (after past acts) ≡ taken_requests past
marks_take_none past [] e = refl
marks_take_none past (a ∷ acts) e =
    let parts = or_parts (not (is_mark a)) (list_any (λ b. not (is_mark b)) acts) e in
    marks_take_none (a ∷ past) acts parts.1 ∙ mark_takes_none a past parts.0

-- the same requests of the history: nothing was taken
same_taken : (base olds news : List Request) (old new : List Request) → old ≡ base ++ olds → new ≡ base ++ news → news ≡ olds → new ≡ old
same_taken base olds news old new was is same = is ∙ (ap (λ (qs : List Request). base ++ qs) same ∙ sym was)

module _ {X : Type 0} (look : X → LineView) where
  nothing_moves : (old new : SessionState X) (says : TurnAnswer) → TakesTurn look old new says → says_moved says ≡ false → (b : Beginning) (past : List Act) → FitsAll b look old past
      → MovesNothing (session_view look old) (session_view look new)
  unfolding TakesTurn
  nothing_moves old new says turn still b past fits =
      let vo = session_view look old in
      let vn = session_view look new in
      let it = turn.turn b past fits in
      let later_fits = turn.goes b past fits in
      let none = it.moved ∙ still in
      let p1 = or_parts (list_any (λ a. not (is_mark a)) turn.acts) (nat_lt (length vo.line.received) (length vn.line.received) || (nat_lt (length vo.line.sent) (length vn.line.sent) || (nat_lt (amount vo.desk.told) (amount vn.desk.told) || (nat_lt (amount vo.desk.announced) (amount vn.desk.announced) || nat_lt (length vn.unfed) (length vo.unfed))))) none in
      let p2 = or_parts (nat_lt (length vo.line.received) (length vn.line.received)) (nat_lt (length vo.line.sent) (length vn.line.sent) || (nat_lt (amount vo.desk.told) (amount vn.desk.told) || (nat_lt (amount vo.desk.announced) (amount vn.desk.announced) || nat_lt (length vn.unfed) (length vo.unfed)))) p1.1 in
      let p3 = or_parts (nat_lt (length vo.line.sent) (length vn.line.sent)) (nat_lt (amount vo.desk.told) (amount vn.desk.told) || (nat_lt (amount vo.desk.announced) (amount vn.desk.announced) || nat_lt (length vn.unfed) (length vo.unfed))) p2.1 in
      let p4 = or_parts (nat_lt (amount vo.desk.told) (amount vn.desk.told)) (nat_lt (amount vo.desk.announced) (amount vn.desk.announced) || nat_lt (length vn.unfed) (length vo.unfed)) p3.1 in
      let p5 = or_parts (nat_lt (amount vo.desk.announced) (amount vn.desk.announced)) (nat_lt (length vn.unfed) (length vo.unfed)) p4.1 in
      record {
        received = same_list vo.line.received _ vn.line.received it.exchanges.came p2.0;
        sent = same_list vo.line.sent _ vn.line.sent it.exchanges.went p3.0;
        taken = same_taken b.desk.taken (taken_requests past) (taken_requests (after past turn.acts)) vo.desk.taken vn.desk.taken
            fits.session.requests.taken_are later_fits.session.requests.taken_are (marks_take_none past turn.acts p1.0);
        told = not_more (amount vo.desk.told) (amount vn.desk.told) p4.0;
        announced = not_more (amount vo.desk.announced) (amount vn.desk.announced) p5.0;
      }

  -- ## One poll

  -- a turn that answered otherwise than Moved is a poll that moves nothing
  pub advances_still : (old new : SessionState X) (says : TurnAnswer) → TakesTurn look old new says → HasTurned (standing_of look old) (standing_of look new) → TakesMore old.driver new.driver
      → says_moved says ≡ false → Advances look old new (Ok None)
  advances_still old new says turn turned takes still = record {
    takes = takes;
    goes = turn_goes look old new says turn turned;
    polled = record { says = says; turn = turn; not_moved = still; nothing = nothing_moves old new says turn still };
  }

  -- a turn that answered Moved, and what the session does behind it, are a poll that comes to what that gave
  pub advances_moved : (old mid new : SessionState X) (says : TurnAnswer) (given : Progress) → TakesTurn look old mid says → HasTurned (standing_of look old) (standing_of look mid) → TakesMore old.driver mid.driver
      → says_moved says ≡ true → Polls look mid new given → SessionGoesOn look mid new → TakesMore mid.driver new.driver → Advances look old new (Ok (Some given))
  advances_moved old mid new says given turn turned takes moved polls goes more = record {
    takes = takes_then old.driver mid.driver new.driver takes more;
    goes = goes_then look old mid new (turn_goes look old mid says turn turned) goes;
    polled = record { mid = mid; turn = subst (TakesTurn look old mid) (moved_is says moved) turn; polls = polls };
  }

  -- a turn that gave a fault is a poll that gives it
  pub advances_fails : (old new : SessionState X) (why : SessionFault) → Faults look old new (fault_of why) → HasTurned (standing_of look old) (standing_of look new) → TakesMore old.driver new.driver
      → Advances look old new (Err why)
  advances_fails old new why faults turned takes = record {
    takes = takes;
    goes = fault_goes look old new (fault_of why) faults turned;
    polled = faults;
  }

  -- ## One poll that is counted

  -- a counted poll that moved something leads where its progress does, and polls that move nothing count anew
  pub steps_moved : (old new : SessionState X) (limit counted later : Limit) (given : Progress) (led : Result Bool Halt) → Advances look old new (Ok (Some given)) → IsCounted limit counted → later ≡ record counted { quiet = 0 }
      → led ≡ led_to given → Steps look old new limit later led
  steps_moved old new limit counted later given led a is reset e = subst (Steps look old new limit later) (sym e) (by given a)
    where
      goes_on : (p : Progress) → MovesAndPolls look old new p → TakesMore old.driver new.driver → SessionGoesOn look old new → Goes look old limit.quiet new 0 → GoesOnce look old new limit later
      goes_on p polled takes goes so = record {
        takes = takes;
        goes = goes;
        polled = subst (λ (l : Limit). Goes look old limit.quiet new l.quiet) (sym reset) so;
        left = ap (λ (l : Limit). l.left + 1) reset ∙ is.left;
        most = ap (λ (l : Limit). l.most) reset ∙ is.most;
      }

      by : (p : Progress) → Advances look old new (Ok (Some p)) → Steps look old new limit later (led_to p)
      by (Ended (Ok Stopped)) h = record { takes = h.takes; goes = h.goes; stops = h.polled }
      by (Ended (Err why)) h = behind why h.polled
      by More h = goes_on More h.polled h.takes h.goes (moves new More h.polled refl)
      by Idle h = goes_on Idle h.polled h.takes h.goes (moves new Idle h.polled refl)

  -- by a counted poll that moved nothing the multiplexer hasn't ended
  pub steps_still : (old new : SessionState X) (limit later : Limit) → Advances look old new (Ok None) → IsCounted limit later → Steps look old new limit later (Ok false)
  steps_still old new limit later a is = record {
    takes = a.takes;
    goes = a.goes;
    polled = subst (Goes look old limit.quiet new) (sym is.quiet) (stays new a.polled);
    left = is.left;
    most = is.most;
  }

  -- a poll that gave a fault ends the bench with the fault that it tells for that
  pub steps_fails : (old new : SessionState X) (limit later : Limit) (why : SessionFault) → Advances look old new (Err why) → Steps look old new limit later (Err (halt.Failed (session_fault why)))
  steps_fails old new limit later why a = at_once why a.polled

  -- where no poll may be made, the bench ends for that reason, and the session stays
  pub steps_refused : (old new : SessionState X) (limit later : Limit) (why : Halt) → IsRefused limit why → new ≡ old → Steps look old new limit later (Err why)
  steps_refused old new limit later (halt.Told given) is same = tt
  steps_refused old new limit later (halt.Failed fault) is same = absurd is
  steps_refused old new limit later (halt.Limited cause) is same = (is, same)

  -- ## Polls one after the other

  -- what was done within these limits so far
  pub record Driven (limits : Limits) (old new : SessionState X) (limit : Limit) : Type 0 where
    pub count : ℕ
    pub made : MakesPolls look old count limit.quiet new
    pub left : count + limit.left ≡ limits.polls
    pub most : limit.most ≡ limits.still
    pub takes : TakesMore old.driver new.driver
    pub goes : SessionGoesOn look old new

  -- before the first poll nothing was done, and all polls are left
  pub driven_none : (limits : Limits) (s : SessionState X) → Driven limits s s (fresh_limit limits)
  driven_none limits s = record { count = 0; made = no_poll; left = omega arith; most = refl; takes = takes_none s.driver; goes = goes_none look s }

  -- a step by which the multiplexer hasn't ended is one poll more within the limits
  pub driven_on : (limits : Limits) (old mid new : SessionState X) (limit later : Limit) → Driven limits old mid limit → Steps look mid new limit later (Ok false) → Driven limits old new later
  driven_on limits old mid new limit later d g =
      let was = d.left in
      let is = g.left in
      record {
        count = d.count + 1;
        made = one_more d.count limit.quiet later.quiet mid new d.made g.polled;
        left = omega (arith, was, is);
        most = g.most ∙ d.most;
        takes = takes_then old.driver mid.driver new.driver d.takes g.takes;
        goes = goes_then look old mid new d.goes g.goes;
      }

  -- where the next step ends the multiplexer, the session went on until it stopped
  pub driven_stops : (limits : Limits) (old mid new : SessionState X) (limit later : Limit) → Driven limits old mid limit → Steps look mid new limit later (Ok true) → Continues look old new
  driven_stops limits old mid new limit later d s = record {
    count = d.count;
    quiet = limit.quiet;
    mid = mid;
    waits = d.made;
    stops = s.stops;
    takes = takes_then old.driver mid.driver new.driver d.takes s.takes;
    goes = goes_then look old mid new d.goes s.goes;
  }

  -- what the cause of a limit says
  limited_so : (limits : Limits) (old new : SessionState X) (limit : Limit) (cause : Cause) → Driven limits old new limit → cause_at limit ≡ Some cause → Halts look limits old new (halt.Limited cause)
  limited_so limits old new limit cause d e = by (limit.left == 0) (nat_le limit.most limit.quiet) refl refl e
    where
      by : (none full : Bool) → (limit.left == 0) ≡ none → nat_le limit.most limit.quiet ≡ full → (if none then Some reason.UsedUp else if full then Some reason.Quiet else None) ≡ Some cause → Halts look limits old new (halt.Limited cause)
      by true full l q h =
          let zero_left : limit.left ≡ 0 = eqb-true limit.left 0 l in
          let was = d.left in
          let all : d.count ≡ limits.polls = omega (arith, zero_left, was) in
          subst (λ (c : Cause). Halts look limits old new (halt.Limited c)) (same_cause reason.UsedUp cause h)
          (record { quiet = limit.quiet; made = subst (λ n. MakesPolls look old n limit.quiet new) all d.made })
      by false true l q h =
          let some = more_left limit.left l in
          let was = d.left in
          let most = d.most in
          let many = at_least limit.most limit.quiet q in
          subst (λ (c : Cause). Halts look limits old new (halt.Limited c)) (same_cause reason.Quiet cause h)
          (record { count = d.count; quiet = limit.quiet; fewer = omega (arith, some, was); many = omega (arith, most, many); made = d.made })
      by false false l q h = absurd (let x : None ≡ Some cause = h in cc)

  -- where the next step gives a reason to end the bench, all that was done bears that reason out
  pub driven_halts : (limits : Limits) (old mid new : SessionState X) (limit later : Limit) (why : Halt) → Driven limits old mid limit → Steps look mid new limit later (Err why) → Halts look limits old new why
  driven_halts limits old mid new limit later (halt.Told given) d s = tt
  driven_halts limits old mid new limit later (halt.Failed told) d s = record { count = d.count; quiet = limit.quiet; mid = mid; waits = d.made; fails = s }
  driven_halts limits old mid new limit later (halt.Limited cause) d s = subst (λ (x : SessionState X). Halts look limits old x (halt.Limited cause)) (sym s.1) (limited_so limits old mid limit cause d s.0)

  -- where it stopped at the line at which it was, what is given back is the session as it stopped
  pub stopped_back : (side : X → OtherSide) (old new : SessionState X) (ended : Result (Unit {0}) Fault) (back : Result (SessionState X) Fault) → OnOk ended (Continues look old new) → side new.line ≡ side old.line
      → IfOk back (λ _. ended ≡ Ok tt) → IfOk back (λ s. s ≡ new) → IfOk back (StopsAtLine look side old)
  stopped_back side old new ended back so same done kept = kept_ok (StopsAtLine look side old) ended back new (on_ok ended so (λ d. record { driven = d; same_line = same })) done kept
