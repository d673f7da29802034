-- What contracts see of a session, and which histories it fits.
use Rattle.std.specs.Prelude.{◌≡◌, ℕ, ◌<◌, ◌≤◌, ◌++◌, filter, map, Bool, true, false, List, [], ◌∷◌, length, Option, None, nat_lt, replicate}
use Rattle.std.specs.List.{list_all}
use Rattle.mux_frame.specs.Deframing.{Deframing}
use Rattle.at_text.specs.Dialects.{Dialect, standard}
use Rattle.at_text.specs.Rules.{Rules, no_rules}
use Rattle.at_text.specs.declared.unsolicited.UrcKind.{UrcKind}
use Rattle.at_text.specs.Commands.{refusal_of}
use Rattle.modem_desk.specs.declared.request.Ask.{Ask}
use Rattle.modem_desk.specs.declared.request.Ask.TheVariants.{Command, Probe}
use Rattle.modem_desk.specs.declared.request.Request.{Request}
use Rattle.modem_desk.specs.declared.request.Outcome.{Outcome}
use Rattle.modem_desk.specs.declared.request.Urc.{Urc}
use Rattle.modem_desk.specs.Ends.{DriverView}
use Rattle.modem_history.specs.Acts.{Act, in_hand}
use Rattle.modem_history.specs.Sessions.{LineView, EndView, Beginning, SessionView, Leftovers, FitsWith, Finishes, GoesBy, driving, gots, heard_as}
use Rattle.modem_history.specs.Turns.{GoesTick, IsTick, LosesLine, may_fail, outcomes_told, lines_heard}
use Rattle.modem_core.specs.Cores.{Core, Fits, IsSettingOf, core_by}
use Rattle.modem_core.specs.Holding.{HoldsFit}
use Rattle.modem_driver.specs.Endings.{HasCome, KeepsEnd}
use Rattle.modem_queues.specs.Stops.{is_stop}
use Rattle.modem_driver.specs.declared.machine.course.Course.{Course}
use Rattle.modem_driver.specs.declared.machine.delays.Delay.{Delay}
use Rattle.modem_driver.specs.WaitingTicks.{AreDelays}
use Rattle.modem_driver.specs.declared.machine.course.Course.TheVariants.{GoesOn}

-- ## What is kept

-- what a session keeps beside its line and its desk's end: the core, the octets read and not yet fed, the deframer, the
-- octets, outcomes and lines that wait, whether a call on the line has failed, how far it has come on the way to its
-- end, and how long the first command of each connection has waited
pub record Machine : Type 0 where
  pub core : Core
  pub unfed : List ℕ
  pub deframer : Deframing
  pub unwritten : List ℕ
  pub unplaced : List Outcome
  pub unannounced : List Urc
  pub faulty : Bool
  pub course : Course
  pub delays : List (Option Delay)

-- what a new session keeps, with these rules of a dialect
abbrev pub machine_by : Rules → ℕ → List UrcKind → Machine
machine_by rules n1 kinds = record {
  core = core_by rules n1 kinds;
  unfed = [];
  deframer = record { n1 = n1; undecided = []; next = None };
  unwritten = [];
  unplaced = [];
  unannounced = [];
  faulty = false;
  course = GoesOn;
  delays = replicate 62 None;
}

-- what a new session keeps, by the standard's codes
abbrev pub new_machine : ℕ → List UrcKind → Machine
new_machine n1 kinds = machine_by no_rules n1 kinds

-- a session: its line, which may be of any type, its desk's end, and what it keeps beside them
pub record SessionState (X : Type 0) : Type 0 where
  pub line : X
  pub driver : DriverView
  pub machine : Machine

-- the session's line is lost: each history that it fits says so too
abbrev pub has_lost_line : {X : Type 0} → SessionState X → Bool
has_lost_line s = s.machine.core.lost

-- an end that a poll gave stays
abbrev pub KeepsItsEnd : {X : Type 0} → (old new : SessionState X) → Type 0
KeepsItsEnd old new = KeepsEnd old.machine.course new.machine.course

-- ## What a history speaks of

-- what a history sees of the desk's end
abbrev pub end_of : DriverView → EndView
end_of d = record {
  taken = d.taken;
  told = d.told;
  announced = d.announced;
  found_none = d.found_none;
  told_back = d.told_back;
  announced_back = d.announced_back;
}

abbrev pub seen_by : LineView → EndView → Machine → SessionView
seen_by l e k = record {
  line = l;
  desk = e;
  unfed = k.unfed;
  deframer = k.deframer;
  unwritten = k.unwritten;
  unplaced = k.unplaced;
  unannounced = k.unannounced;
}

abbrev pub session_view : {X : Type 0} → (X → LineView) → SessionState X → SessionView
session_view look s = seen_by (look s.line) (end_of s.driver) s.machine

-- ## Which histories it fits

-- What the view doesn't show: the core fits the history, for this N1 and this desk's kinds and callers, and knows which
-- connections are held. The session knows whether a call on the line has failed since it began, how far it has come on
-- the way to its end, and how long commands have waited. At most one request in hand is a Stop.
pub record MachineFits (b : Beginning) (l : LineView) (d : DriverView) (k : Machine)
    (past : List Act) : Type 0 where
  pub setting : IsSettingOf (driving b) k.core
  pub fits : Fits k.core past
  pub holds : HoldsFit k.core past
  pub kinds_are : d.desk.kinds ≡ b.kinds
  pub callers_are : length d.desk.rings ≡ b.callers
  pub sound : k.faulty ≡ false → l.failures ≡ b.line.failures
  pub by_fault : k.faulty ≡ true → b.line.failures < l.failures
  pub one_stop : length (filter is_stop (in_hand past)) ≤ 1
  pub come : HasCome b (seen_by l (end_of d) k) past k.course
  pub delays_are : AreDelays k.delays past

abbrev pub FitsInside : {X : Type 0} → Beginning → (X → LineView) → SessionState X → List Act → Type 0
FitsInside b look s past = MachineFits b (look s.line) s.driver s.machine past

-- the session fits the history
abbrev pub FitsAll : {X : Type 0} → Beginning → (X → LineView) → SessionState X → List Act → Type 0
FitsAll b look s past = FitsWith b (session_view look s) (FitsInside b look s) past

-- a session that begins over a line and a desk's end, at a modem with these codes
abbrev pub beginning_by : Dialect → ℕ → LineView → DriverView → Beginning
beginning_by dialect n1 l d = record {
  n1 = n1;
  dialect = dialect;
  callers = length d.desk.rings;
  kinds = d.desk.kinds;
  line = l;
  desk = end_of d;
}

-- a session that begins over a line and a desk's end, at a modem of the standard's codes
abbrev pub beginning_of : ℕ → LineView → DriverView → Beginning
beginning_of n1 l d = beginning_by standard n1 l d

-- ## Calls

-- a tick of a session, whatever it began with
unfoldable pub Ticks : {X : Type 0} → (X → LineView) → (old new : SessionState X) → Type 0
Ticks look old new =
    GoesTick (session_view look old) (session_view look new) (λ b. FitsInside b look old)
    (λ b. FitsInside b look new)

-- a command is a command line (V.250, 5.2.1), and a probe has at most 16 octets
abbrev pub IsFormedAsk : Ask → Type 0
IsFormedAsk (Command d line) = refusal_of line ≡ None
IsFormedAsk (Probe octets) = length octets ≤ 16
IsFormedAsk _ = Unit {0}

-- each of the requests is well formed
abbrev pub AreFormed : List Request → Type 0
AreFormed [] = Unit {0}
AreFormed (q ∷ qs) = IsFormedAsk q.ask × AreFormed qs

-- the desk's end keeps its desk, and took some requests more, each well formed and of a caller of that desk
pub record TakesMore (old new : DriverView) : Type 0 where
  pub desk : new.desk ≡ old.desk
  pub more : List Request
  pub taken : new.taken ≡ old.taken ++ more
  pub callers : list_all (λ (q : Request). nat_lt q.caller (length old.desk.rings)) more ≡ true
  pub formed : AreFormed more

-- what is left of a session that ended is what each history that it fits says
abbrev pub SessionEnds : {X : Type 0} → (X → LineView) → SessionState X → Leftovers → Type 0
SessionEnds look s f =
    (b : Beginning) (past : List Act) → FitsAll b look s past → Finishes (session_view look s) past f

-- ## What is kept goes on

-- what is kept goes on by these acts, whatever history it had, over the same line and the same desk's end
unfoldable pub MachineGoes : (old new : Machine) → List Act → Type 0
MachineGoes old new acts =
    (b : Beginning) (l : LineView) (d : DriverView)
    → GoesBy b (seen_by l (end_of d) old) (seen_by l (end_of d) new) (MachineFits b l d old)
    (MachineFits b l d new) acts

-- a tick of what is kept, by some acts
pub record MachineTicks (old new : Machine) : Type 0 where
  pub acts : List Act
  pub goes : MachineGoes old new acts
  pub tick : (b : Beginning) (l : LineView) (d : DriverView) (past : List Act)
      → FitsWith b (seen_by l (end_of d) old) (MachineFits b l d old) past
      → IsTick (seen_by l (end_of d) old) (seen_by l (end_of d) new) past acts

-- what is kept goes on by a call on the line, without an act
unfoldable pub MachineMoves : (before later : LineView) → (old new : Machine) → Type 0
MachineMoves before later old new =
    (b : Beginning) (d : DriverView)
    → GoesBy b (seen_by before (end_of d) old) (seen_by later (end_of d) new) (MachineFits b before d old)
    (MachineFits b later d new) []

-- What the acts told and heard waits behind what waited. A turn in which the line is lost may have these acts. No frame
-- was handled.
pub record AddsLost (old new : Machine) (acts : List Act) : Type 0 where
  pub outcomes : new.unplaced ≡ old.unplaced ++ outcomes_told acts
  pub lines : map heard_as new.unannounced ≡ map heard_as old.unannounced ++ lines_heard acts
  pub may : (waiting : List Urc) → list_all (may_fail waiting) acts ≡ true
  pub none_got : gots acts ≡ []

-- the line is lost in this step, and no request is in hand any more
pub record MachineLoses (old new : Machine) : Type 0 where
  pub acts : List Act
  pub goes : MachineGoes old new acts
  pub loses : (b : Beginning) (l : LineView) (d : DriverView) (past : List Act)
      → FitsWith b (seen_by l (end_of d) old) (MachineFits b l d old) past
      → LosesLine b (seen_by l (end_of d) old) (seen_by l (end_of d) new) past acts
  pub adds : (b : Beginning) (l : LineView) (d : DriverView) (past : List Act)
      → FitsWith b (seen_by l (end_of d) old) (MachineFits b l d old) past → AddsLost old new acts
  pub stays : new ≡ record old { core = new.core; unplaced = new.unplaced; unannounced = new.unannounced }
