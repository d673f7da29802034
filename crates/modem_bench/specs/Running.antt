-- Callers that are out in threads, and a bench as a whole.
use Rattle.std.specs.Prelude.{◌≡◌, ℕ, ◌+◌, List, [], ◌∷◌, ◌++◌, length, map, Result}
use Rattle.std.specs.declared.thread.PromisedHandle.{PromisedHandle}
use Rattle.serial_line.specs.ThreadLine.{AreEnds, EndState, IsNew, thread_view}
use Rattle.modem_desk.specs.declared.request.Ask.{Ask}
use Rattle.modem_desk.specs.declared.request.Outcome.{Outcome}
use Rattle.modem_desk.specs.Ends.{CallerView, Each, IsFresh}
use Rattle.modem_driver.specs.DeskHeadline.{DeskHeadline, DeskRun, IsDeskSettled, Spell, whole_rest}
use Rattle.modem_driver.specs.OneSession.{HasCalls, seen_by_calls}
use Rattle.modem_driver.specs.SessionStates.{SessionState, session_view}
use Rattle.modem_history.specs.Sessions.{LineView}
use Rattle.modem_sim.specs.Sims.{SimState}
use Rattle.modem_sim.specs.declared.script.Script.{Script}
use Rattle.modem_bench.specs.Asks.{asks_for}
use Rattle.modem_bench.specs.Calling.{OpensAll, Stops, Works}
use Rattle.modem_bench.specs.Driving.{Continues, IsBegun}
use Rattle.modem_bench.specs.Lines.{AreConnected}
use Rattle.modem_bench.specs.Simulating.{IsSimulated, IsStarted}
use Rattle.modem_bench.specs.declared.calling.Worked.{Worked}
use Rattle.modem_bench.specs.declared.crew.HasWorked.{HasWorked}
use Rattle.modem_bench.specs.declared.signals.Fault.{Fault}
use Rattle.modem_bench.specs.declared.submission.Submission.{Submission}

-- the thread of a caller
abbrev pub Work : Type 0
Work = PromisedHandle (Result Worked Fault) HasWorked

-- this caller is out in a thread, with what the submissions ask of the caller of this number
pub record IsOut (all : List Submission) (n : ℕ) (c : CallerView) (h : Work) : Type 0 where
  pub was : h.promise.was.value ≡ c
  pub asks : h.promise.asks.value.items ≡ asks_for n all

-- a caller goes out in a thread, with these asks, behind those that are out
pub record GoesOut (c : CallerView) (asks : List Ask) (old new : List Work) : Type 0 where
  pub handle : Work
  pub was : handle.promise.was.value ≡ c
  pub asks_are : handle.promise.asks.value.items ≡ asks
  pub items : new ≡ old ++ handle ∷ []

-- the callers from this number on are out, each in the thread at its place
unfoldable pub AreOut : List Submission → ℕ → List CallerView → List Work → Type 0
AreOut all n [] [] = Unit {0}
AreOut all n [] (h ∷ hs) = ⊥
AreOut all n (c ∷ cs) [] = ⊥
AreOut all n (c ∷ cs) (h ∷ hs) = IsOut all n c h × AreOut all (n + 1) cs hs

-- this caller is back from the thread, and has worked
abbrev pub IsBack : Work → Worked → Type 0
IsBack h w = Works h.promise.was.value w.caller h.promise.asks.value.items w.outcomes.items

-- a caller comes back from its thread, behind those that were back before
pub record ComesBack (h : Work) (old new : List Worked) : Type 0 where
  pub worked : Worked
  pub is_back : IsBack h worked
  pub items : new ≡ old ++ worked ∷ []

-- all callers are back, each from the thread at its place
unfoldable pub AreBack : List Work → List Worked → Type 0
AreBack [] [] = Unit {0}
AreBack [] (w ∷ ws) = ⊥
AreBack (h ∷ hs) [] = ⊥
AreBack (h ∷ hs) (w ∷ ws) = IsBack h w × AreBack hs ws

-- each of the callers from this number on has worked on what the submissions ask of it
unfoldable pub AllWork : List Submission → ℕ → List CallerView → List Worked → Type 0
AllWork all n [] [] = Unit {0}
AllWork all n [] (w ∷ ws) = ⊥
AllWork all n (c ∷ cs) [] = ⊥
AllWork all n (c ∷ cs) (w ∷ ws) =
    Works c w.caller (asks_for n all) w.outcomes.items × AllWork all (n + 1) cs ws

-- caller 0 opened the connections, and the others stay
unfoldable pub OpensFirst : List Submission → (old new : List CallerView) → Type 0
OpensFirst all [] new = ⊥
OpensFirst all (c ∷ cs) [] = ⊥
OpensFirst all (c ∷ cs) (d ∷ ds) = OpensAll all 62 c d × (ds ≡ cs)

-- caller 0 stopped, and the others stay
unfoldable pub StopsFirst : (old new : List Worked) → Type 0
StopsFirst [] new = ⊥
StopsFirst (w ∷ ws) [] = ⊥
StopsFirst (w ∷ ws) (v ∷ vs) = Stops w.caller v.caller × (v.outcomes ≡ w.outcomes) × (vs ≡ ws)

-- caller 0 opened the connections, worked, and stopped
pub record Leads (all : List Submission) (old new : CallerView) (outcomes : List Outcome) : Type 0 where
  pub first : CallerView
  pub later : CallerView
  pub opens : OpensAll all 62 old first
  pub works : Works first later (asks_for 0 all) outcomes
  pub stops : Stops later new

-- caller 0 opened the connections before the others worked, and stopped once all were done
unfoldable pub AreCalled : List Submission → List CallerView → List Worked → Type 0
AreCalled all [] ws = ⊥
AreCalled all (c ∷ cs) [] = ⊥
AreCalled all (c ∷ cs) (w ∷ ws) = Leads all c w.caller w.outcomes.items × AllWork all 1 cs ws

-- These callers did what the submissions ask of them, and these are the outcomes that each took for it, each
-- for the line at its place. The session was polled in its thread until it stopped, and the simulated modem
-- until it had ended. Of the octets that each of them sent the other received the first. The session, the only one of its desk, had done nothing before, and neither had the desk, of which
-- these are all the callers; it was finished, nothing was done with what that gave, and then the desk was settled with the
-- driver's end and with them: so the headline holds of that run.
pub record RanFor {X : Type 0} (look : X → LineView) (all : List Submission)
    (fresh : List CallerView) (session : SessionState X) (sim : SimState X)
    (outcomes : List (List Outcome)) : Type 0 where
  pub worked : List Worked
  pub called : AreCalled all fresh worked
  pub outcomes_are : outcomes ≡ map (λ (w : Worked). w.outcomes.items) worked
  pub one_each : length outcomes ≡ length fresh
  pub begun : IsBegun look session
  pub stopped : SessionState X
  pub driven : Continues look session stopped
  pub calls : HasCalls look session stopped
  pub ended : SimState X
  pub simulated : IsSimulated look sim ended
  pub connected : AreConnected (look stopped.line) (look ended.line)
  pub spell : Spell
  pub start_is : spell.start ≡ begun.start
  pub session_is : spell.session ≡ session_view look stopped
  pub seen_are : spell.session ∷ spell.earlier ≡ seen_by_calls (session_view look session) calls.calls
  pub rest_is : spell.rest ≡ whole_rest spell.leftovers
  pub run : DeskRun
  pub spells_are : run.spells ≡ spell ∷ []
  pub driver_is : run.driver ≡ stopped.driver
  pub callers_are : run.callers ≡ map (λ (w : Worked). w.caller) worked
  pub settled : IsDeskSettled run
  pub headline : DeskHeadline run

-- so many callers, which have done nothing yet
pub record AreFresh (count : ℕ) (cs : List CallerView) : Type 0 where
  pub many : length cs ≡ count
  pub fresh : Each (λ i c. IsFresh c) cs

-- the ends of a new line between two threads, with room for so many octets each way
pub record IsLine (cut : ℕ) (near far : EndState) : Type 0 where
  pub ends : AreEnds near far
  pub near_is_new : IsNew cut near
  pub far_is_new : IsNew cut far

-- So many callers, which had done nothing before, did what the submissions ask of them, by a session at one end
-- of a new line with this room, to its end. A simulated modem that had just started, with this script, began at the
-- line's other end, and came to its end too.
pub record Ran (all : List Submission) (count cut : ℕ) (script : Script) (outcomes : List (List Outcome)) :
    Type 0 where
  pub near : EndState
  pub far : EndState
  pub line : IsLine cut near far
  pub session : SessionState EndState
  pub at_line : session.line ≡ near
  pub sim : SimState EndState
  pub started : IsStarted thread_view far script sim
  pub callers : List CallerView
  pub fresh : AreFresh count callers
  pub ran : RanFor thread_view all callers session sim outcomes
