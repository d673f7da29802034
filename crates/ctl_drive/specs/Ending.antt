-- How a drive ends.
use Rattle.std.specs.Prelude.{◌≡◌, ◌==◌, ℕ, Bool, true, false, List, [], ◌∷◌, Option, None, Some, Ok, Err, length, map, vec_items}
use Rattle.std.specs.List.{list_all}
use Rattle.std.specs.declared.alloc.Global.{Global}
use Rattle.std.specs.declared.time.Instant.{Instant}
use Rattle.std.specs.declared.vec.Vec.{Vec}
use Rattle.modem_desk.specs.declared.request.Urc.{Urc}
use Rattle.modem_desk.specs.declared.settling.Settled.{Settled}
use Rattle.modem_desk.specs.declared.request.Request.{Request}
use Rattle.modem_desk.specs.Books.{DeskBooks}
use Rattle.modem_desk.specs.Ends.{DriverView}
use Rattle.modem_history.specs.Sessions.{Leftovers, LineView}
use Rattle.modem_driver.specs.SessionStates.{SessionEnds, SessionState, end_of}
use Rattle.modem_driver.specs.TurningAway.{Offline, TurnsAway, offline_from}
use Rattle.modem_driver.specs.declared.machine.course.Course.{Course}
use Rattle.modem_driver.specs.declared.machine.course.Course.TheVariants as course
use Rattle.modem_driver.specs.declared.session.ending.Ended.TheVariants.{Stopped}
use Rattle.modem_driver.specs.declared.session.error.SessionFault.{SessionFault}
use Rattle.modem_driver.specs.declared.session.error.SessionFault.TheVariants as error
use Rattle.modem_driver.specs.declared.session.polling.Progress.{Progress}
use Rattle.modem_driver.specs.declared.session.polling.Progress.TheVariants as progress
use Rattle.ctl_drive.specs.Asking.{AsksOn, PlanView}
use Rattle.ctl_drive.specs.Driving.{DrivesOn}
use Rattle.ctl_drive.specs.declared.fault.DriveFault.{DriveFault}
use Rattle.ctl_drive.specs.declared.fault.DriveFault.TheVariants as fault
use Rattle.ctl_drive.specs.Showing.{GoOn}
use Rattle.ctl_drive.specs.declared.users.Users.{Users}

-- some requests were turned away, and what waited was placed, or still waits
pub record TurnsSome (old new : Offline) (before after : DriverView) : Type 0 where
  pub taken : List Request
  pub turns : TurnsAway old new before after taken

-- no outcome waits for its caller, and no line for its listener
pub record NoneWaits (o : Offline) : Type 0 where
  pub outcomes : o.unplaced ≡ []
  pub lines : o.unannounced ≡ []

-- the same, until nothing waits
pub record TurnsLeft (first : Offline) (before after : DriverView) : Type 0 where
  pub last : Offline
  pub turned : TurnsSome first last before after
  pub placed : NoneWaits last

-- every listener has taken all that was announced to it
abbrev pub is_empty_list : Vec Urc Global → Bool
is_empty_list lines = length lines.items == 0

abbrev pub all_heard : Settled → Bool
all_heard settled = list_all is_empty_list settled.unheard.items

abbrev pub AllHeard : Settled → Type 0
AllHeard settled = all_heard settled ≡ true

-- The session was finished, which left what each of its histories says. Its desk turned away the requests that weren't
-- told yet, and all that came was printed, until no line was under way and nothing waited for a place. Then the desk was
-- settled with all callers and listeners, and every listener had taken all its lines.
pub record EndsDrive {X : Type 0} (look : X → LineView) (s : SessionState X) (users : Users)
    (before after : Option (List ℕ)) (settled : Settled) : Type 0 where
  pub leftovers : Leftovers
  pub ends : SessionEnds look s leftovers
  pub desk : leftovers.desk ≡ end_of s.driver
  pub offline : Offline
  pub driver : DriverView
  pub turned : TurnsSome (offline_from leftovers.in_hand leftovers.unplaced leftovers.unannounced) offline s.driver driver
  pub ended : Users
  pub goes : GoOn before after users ended
  pub submits_none : ended.caller.submitted ≡ users.caller.submitted
  pub none : ended.under_way.items ≡ []
  pub placed : NoneWaits offline
  pub none_unheard : AllHeard settled
  pub books : DeskBooks driver (ended.caller ∷ []) ended.listeners.items settled.left.items
      (map vec_items settled.untaken.items) (map vec_items settled.unheard.items)

-- an end that a poll gave is kept, but for want of memory, which is none
abbrev pub KeepsGiven : Progress → Course → Type 0
KeepsGiven (progress.Ended (Ok Stopped)) c = c ≡ course.Ended (Ok Stopped)
KeepsGiven (progress.Ended (Err error.NoMemory)) c = Unit {0}
KeepsGiven (progress.Ended (Err why)) c = c ≡ course.Ended (Err why)
KeepsGiven _ c = Unit {0}

-- the session failed with this fault, which is an end
abbrev pub FailedFor : SessionFault → Course → Type 0
FailedFor why c = c ≡ course.Ended (Err why)

-- Without a fault the session ended after a Stop, and the drive was through: the whole input was read, and the reader didn't
-- fail. A line that hung up is one that failed the session. The fault of the input is that its reader failed.
abbrev pub HasEndedBy : Course → PlanView → Option DriveFault → Type 0
HasEndedBy c p None = (c ≡ course.Ended (Ok Stopped)) × (p.stopping ≡ true) × (p.input.failed ≡ false)
HasEndedBy c p (Some fault.HungUp) = (why : SessionFault) × FailedFor why c
HasEndedBy c p (Some fault.Input) = p.input.failed ≡ true
HasEndedBy c p (Some _) = Unit {0}

-- neither of the faults that only a poll says
pub record IsToldFault (f : Option DriveFault) : Type 0 where
  pub not_line : f ≡ Some fault.HungUp → ⊥
  pub not_input : f ≡ Some fault.Input → ⊥

-- the same of what a poll gives
abbrev pub SaysBy : Progress → PlanView → Option DriveFault → Type 0
SaysBy said p None = (said ≡ progress.Ended (Ok Stopped)) × (p.stopping ≡ true) × (p.input.failed ≡ false)
SaysBy said p (Some fault.HungUp) = (why : SessionFault) × (said ≡ progress.Ended (Err why)) × (why ≡ error.NoMemory → ⊥)
SaysBy said p (Some fault.Input) = p.input.failed ≡ true
SaysBy said p (Some _) = Unit {0}

-- The session went on by polls, and by ticks of this period, while its users submitted what the input asks, took and printed, and bad lines were named;
-- it or the drive ended so, its line as it is last; and then all was settled.
pub record HasDriven {X : Type 0} (look : X → LineView) (period : ℕ) (s : SessionState X) (users : Users) (p q : PlanView)
    (before after said more : Option (List ℕ)) (end : Option DriveFault) (settled : Settled) (last : X) : Type 0 where
  pub stopped : SessionState X
  pub last_tick : Option Instant
  pub drives : DrivesOn look period s None stopped last_tick
  pub line_is : stopped.line ≡ last
  pub mid : Users
  pub between : Option (List ℕ)
  pub goes : GoOn before between users mid
  pub asks : AsksOn p q users.caller.submitted mid.caller.submitted said more
  pub by : HasEndedBy stopped.machine.course q end
  pub ends : EndsDrive look stopped mid between after settled
