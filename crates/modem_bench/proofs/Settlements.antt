-- The run of a bench: its session begins, goes on and is finished, and then its desk is settled.
use Rattle.std.specs.Prelude.{◌≡◌, ℕ, zero, suc, replicate, true, List, [], ◌∷◌, ◌++◌, Ok, drop, length, map, nat_lt, refl, vec_items, slice_index_or}
use Rattle.std.specs.List.{list_all}
use Rattle.std.proofs.Common.{ap, ◌∙◌, sym, subst}
use Rattle.std.proofs.lemmas.List.{length-map}
use Rattle.std.specs.declared.vec.Vec.{Vec}
use Rattle.std.specs.declared.alloc.Global.{Global}
use Rattle.at_text.specs.declared.unsolicited.UrcKind.{UrcKind}
use Rattle.modem_desk.specs.declared.request.Outcome.{Outcome}
use Rattle.modem_desk.specs.declared.request.Request.{Request}
use Rattle.modem_desk.specs.declared.settling.Settled.{Settled}
use Rattle.modem_desk.specs.Ends.{AreSubscribed, CallerView, DeskId, DriverView, IsWhole, ListenerView, Opened, subscription_of, place_of}
use Rattle.modem_history.specs.Sessions.{EndView, LineView, at_place, taken_since}
use Rattle.modem_history.specs.Turns.{TurnAnswer}
use Rattle.modem_driver.specs.DeskHeadline.{DeskRun, IsDeskHeadline, IsDeskSettled, RestsOf, Spell, whole_rest}
use Rattle.modem_driver.specs.OneSession.{CallKind, HasCalls, HasOne, LivedGrows, OneSession, call_of, none_called, poll_called, seen_by_calls, turn_called}
use Rattle.modem_driver.specs.declared.session.ending.Ended.TheVariants.{Stopped}
use Rattle.modem_driver.specs.declared.session.polling.Progress.{Progress}
use Rattle.modem_driver.specs.declared.session.polling.Progress.TheVariants as progress
use Rattle.modem_driver.specs.SessionStates.{FitsAll, SessionState, beginning_of, end_of, session_view}
use Rattle.modem_driver.proofs.law_proofs.GrownHistories.{lived_grows}
use Rattle.modem_driver.proofs.law_proofs.DeskHeadlines.{desk_headline}
use Rattle.modem_driver.proofs.law_proofs.OneSessions.{one_session}
use Rattle.modem_sim.specs.Sims.{SimState}
use Rattle.modem_bench.specs.Driving.{Continues, Goes, GoesByStandard, IsBegun, IsOver, MakesPolls, MovesAndPolls, moves, no_poll, one_more, stays}
use Rattle.modem_bench.specs.Lines.{AreConnected}
use Rattle.modem_bench.specs.Running.{AreCalled, RanFor}
use Rattle.modem_bench.specs.Simulating.{IsSimulated}
use Rattle.modem_bench.specs.declared.calling.Worked.{Worked}
use Rattle.modem_bench.specs.declared.submission.Submission.{Submission}
use Rattle.modem_bench.proofs.CallerThreads.{called_long, lists_through}

none_at : {A : Type 0} → (n i : ℕ) → at_place {A = A} i (replicate n []) ≡ []
none_at zero zero = refl
none_at zero (suc i) = refl
none_at (suc n) zero = refl
none_at (suc n) (suc i) = none_at n i

module _ {X : Type 0} (look : X → LineView) where
  -- ## It begins, and goes on

  -- a session with N1 31 and an empty history, on a desk as it was opened, has just begun
  pub begins : (l : LineView) (count : ℕ) (kinds : List UrcKind) (first : ℕ) (d : DriverView) (cs : List CallerView) (ls : List ListenerView) (s : SessionState X)
      → Opened count kinds first d cs ls → FitsAll (beginning_of 31 l d) look s [] → s.driver ≡ d → IsBegun look s
  begins l count kinds first d cs ls s o fits same = record {
    start = beginning_of 31 l d;
    n1_is = refl;
    dialect_is = refl;
    fits = fits;
    none_taken = o.taken;
    none_told = λ c. ap (λ xss. slice_index_or xss c []) o.told ∙ none_at count c;
    none_announced = λ i. ap (λ xss. slice_index_or xss i []) o.announced ∙ none_at (length kinds) i;
    desk = ap end_of same;
    kinds = ap (λ (v : DriverView). v.desk.kinds) same;
  }

  -- ## Its polls, as calls

  -- a turn that moved something, and what was done behind it
  pub turn_before : (first old new : SessionState X) (given : Progress) → HasCalls look first old → (m : MovesAndPolls look old new given) → HasCalls look first m.mid
  turn_before first old new given h m = record {
    calls = call_of look (CallKind.Turned TurnAnswer.Moved) m.mid ∷ h.calls;
    called = turn_called old m.mid h.calls TurnAnswer.Moved h.called m.turn;
  }

  -- a turn that moved something and the poll behind it are two calls more
  pub poll_then : (first old new : SessionState X) (given : Progress) → HasCalls look first old → MovesAndPolls look old new given → HasCalls look first new
  poll_then first old new given h m =
      let w = turn_before first old new given h m in
      record { calls = call_of look CallKind.Polled new ∷ w.calls; called = poll_called m.mid new w.calls given w.called m.polls }

  -- a poll of the bench that gave no end adds its calls, whether it moved something or not
  pub goes_then : (first old new : SessionState X) (quiet later : ℕ) → HasCalls look first old → Goes look old quiet new later → HasCalls look first new
  goes_then first old new quiet later h (moves after given m none) = poll_then first old after given h m
  goes_then first old new quiet later h (stays after s) = record {
    calls = call_of look (CallKind.Turned s.says) after ∷ h.calls;
    called = turn_called old after h.calls s.says h.called s.turn;
  }

  -- polls of the bench that gave no end, one after the other, are calls of its session
  pub made_calls : (first last : SessionState X) (count quiet : ℕ) → MakesPolls look first count quiet last → HasCalls look first last
  made_calls first last count quiet no_poll = record { calls = []; called = none_called }
  made_calls first last count quiet (one_more before was later mid new made goes) = goes_then first mid new was later (made_calls first mid before was made) goes

  -- ## It is over

  -- its calls before the last one
  abbrev pub before_of : (s0 s1 : SessionState X) (h : Continues look s0 s1) → HasCalls look s0 h.stops.mid
  before_of s0 s1 h = turn_before s0 h.mid s1 (progress.Ended (Ok Stopped)) (made_calls s0 h.mid h.count h.quiet h.waits) h.stops

  abbrev pub calls_of : (s0 s1 : SessionState X) → Continues look s0 s1 → HasCalls look s0 s1
  calls_of s0 s1 h =
      let w = before_of s0 s1 h in
      record { calls = call_of look CallKind.Polled s1 ∷ w.calls; called = poll_called h.stops.mid s1 w.calls (progress.Ended (Ok Stopped)) w.called h.stops.polls }

  -- a session that had just begun, and went on until it stopped, has one history by all its calls
  pub one_of : (s0 s1 : SessionState X) (begun : IsBegun look s0) (h : Continues look s0 s1) → HasOne look begun.start s0 s1 (calls_of s0 s1 h).calls
  unfolding OneSession
  one_of s0 s1 begun h = one_session look begun.start s0 s1 (calls_of s0 s1 h).calls begun.fits (calls_of s0 s1 h).called

  -- the session as it was
  abbrev pub spell_of : (s0 s1 : SessionState X) (cs : List CallerView) (ls : List ListenerView) (settled : Settled) → IsBegun look s0 → Continues look s0 s1 → IsOver look s1 cs ls settled → Spell
  spell_of s0 s1 cs ls settled begun h over = record {
    start = begun.start;
    session = session_view look s1;
    earlier = seen_by_calls (session_view look s0) (before_of s0 s1 h).calls;
    past = (one_of s0 s1 begun h).past;
    leftovers = over.leftovers;
    rest = whole_rest over.leftovers;
  }

  -- the run that it was
  abbrev pub run_of : (s0 s1 : SessionState X) (cs : List CallerView) (ls : List ListenerView) (settled : Settled) → IsBegun look s0 → Continues look s0 s1 → IsOver look s1 cs ls settled → DeskRun
  run_of s0 s1 cs ls settled begun h over = record {
    first = begun.start.desk;
    spells = spell_of s0 s1 cs ls settled begun h over ∷ [];
    last = over.leftovers.desk;
    driver = s1.driver;
    callers = cs;
    listeners = ls;
    settlement = record { left = settled.left.items; untaken = map vec_items settled.untaken.items; unheard = map vec_items settled.unheard.items };
  }

  -- all that it took since it began is of its desk's callers
  of_callers : (s0 s1 : SessionState X) (begun : IsBegun look s0) → Continues look s0 s1 → list_all (λ (q : Request). nat_lt q.caller (length s1.driver.desk.rings)) (taken_since begun.start (session_view look s1)) ≡ true
  of_callers s0 s1 begun h =
      let none : s0.driver.taken ≡ [] = ap (λ (e : EndView). e.taken) begun.desk ∙ begun.none_taken in
      let more : s1.driver.taken ≡ h.takes.more = h.takes.taken ∙ ap (λ (qs : List Request). qs ++ h.takes.more) none in
      let since : taken_since begun.start (session_view look s1) ≡ h.takes.more = ap (λ (qs : List Request). drop (length qs) s1.driver.taken) begun.none_taken ∙ more in
      ap (list_all (λ (q : Request). nat_lt q.caller (length s1.driver.desk.rings))) since
      ∙ subst (λ (d : DeskId). list_all (λ (q : Request). nat_lt q.caller (length d.rings)) h.takes.more ≡ true) (sym h.takes.desk) h.takes.callers

  -- a session that stopped and is over, with all callers of its desk, makes a run whose desk is settled
  pub settles : (s0 s1 : SessionState X) (cs : List CallerView) (ls : List ListenerView) (settled : Settled) (begun : IsBegun look s0) (h : Continues look s0 s1)
      → IsWhole s1.driver.desk (map place_of cs) → AreSubscribed s1.driver.desk (map subscription_of ls) → (over : IsOver look s1 cs ls settled) → IsDeskSettled (run_of s0 s1 cs ls settled begun h over)
  unfolding LivedGrows
  settles s0 s1 cs ls settled begun h whole subscribed over =
      record {
        none_taken = begun.none_taken;
        none_told = begun.none_told;
        none_announced = begun.none_announced;
        follow =
            let o = one_of s0 s1 begun h in (
              record {
                begins = refl;
                kinds_are = sym (ap (λ (d : DeskId). d.kinds) h.takes.desk ∙ begun.kinds);
                callers_are = of_callers s0 s1 begun h;
                grown = lived_grows begun.start (session_view look s0) (calls_of s0 s1 h).calls o.past o.lived;
                finishes = over.ends begun.start o.past o.fits;
                rests = RestsOf.rests_whole over.leftovers;
              },
              refl,
            );
        taken = ap (λ (e : EndView). e.taken) (sym over.desk);
        told = ap (λ (e : EndView). e.told) (sym over.desk);
        announced = ap (λ (e : EndView). e.announced) (sym over.desk);
        whole = whole;
        subscribed = subscribed;
        books = over.books;
      }

  -- where the callers worked, the session stopped and is over, and the modem came to its end at the same line, the bench ran for them
  pub ran_for : (all : List Submission) (fresh cs : List CallerView) (ws : List Worked) (vs : List (Vec Outcome Global)) (s0 s1 : SessionState X) (m0 m1 : SimState X) (ls : List ListenerView) (settled : Settled)
      → AreCalled all fresh ws → cs ≡ map (λ (w : Worked). w.caller) ws → vs ≡ map (λ (w : Worked). w.outcomes) ws
      → IsBegun look s0 → Continues look s0 s1 → IsSimulated look m0 m1 → AreConnected (look s1.line) (look m1.line)
      → IsWhole s1.driver.desk (map place_of cs) → AreSubscribed s1.driver.desk (map subscription_of ls) → IsOver look s1 cs ls settled
      → RanFor look all fresh s0 m0 (map vec_items vs)
  unfolding IsDeskHeadline
  ran_for all fresh cs ws vs s0 s1 m0 m1 ls settled h callers e begun on simulated connected whole subscribed over =
      let done = settles s0 s1 cs ls settled begun on whole subscribed over in
      record {
        worked = ws;
        called = h;
        outcomes_are = lists_through ws vs e;
        one_each = ap (length {A = List Outcome}) (lists_through ws vs e) ∙ length-map ws (λ (w : Worked). w.outcomes.items) ∙ called_long all fresh ws h;
        begun = begun;
        stopped = s1;
        driven = on;
        ended = m1;
        simulated = simulated;
        connected = connected;
        calls = calls_of s0 s1 on;
        spell = spell_of s0 s1 cs ls settled begun on over;
        start_is = refl;
        session_is = refl;
        seen_are = refl;
        rest_is = refl;
        run = run_of s0 s1 cs ls settled begun on over;
        spells_are = refl;
        driver_is = refl;
        callers_are = callers;
        settled = done;
        headline = desk_headline (run_of s0 s1 cs ls settled begun on over) done;
      }

-- the core of a bench's session goes by the standard's codes, with N1 31
pub goes_by_standard : GoesByStandard
unfolding GoesByStandard
goes_by_standard s h = (sym h.fits.inside.setting.dialect_is ∙ h.dialect_is, sym h.fits.inside.setting.n1_is ∙ h.n1_is)
