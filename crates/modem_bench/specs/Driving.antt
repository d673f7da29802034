-- The session of a bench: how it begins, how it goes on in its thread, and how it ends.
use Rattle.std.specs.Prelude.{◌≡◌, ℕ, ◌+◌, ◌<◌, ◌≤◌, Bool, true, false, List, [], Option, None, Some, Result, Ok, Err, map, slice_index_or, vec_items}
use Rattle.at_text.specs.Dialects.{standard}
use Rattle.serial_line.specs.OtherSide.{OtherSide}
use Rattle.modem_desk.specs.declared.settling.Settled.{Settled}
use Rattle.modem_desk.specs.Books.{DeskBooks}
use Rattle.modem_desk.specs.Ends.{CallerView, ListenerView}
use Rattle.modem_history.specs.Acts.{Act}
use Rattle.modem_history.specs.Sessions.{Beginning, Leftovers, LineView, SessionView}
use Rattle.modem_history.specs.Turns.{TurnAnswer, amount, says_moved}
use Rattle.modem_driver.specs.declared.session.ending.Ended.TheVariants.{Stopped}
use Rattle.modem_driver.specs.declared.session.error.SessionFault.{SessionFault}
use Rattle.modem_driver.specs.declared.session.polling.Progress.{Progress}
use Rattle.modem_driver.specs.declared.session.polling.Progress.TheVariants.{Ended, Idle, More}
use Rattle.modem_core.specs.Cores.{dialect_in}
use Rattle.modem_driver.specs.Polls.{Polls, SessionGoesOn, end_in}
use Rattle.modem_driver.specs.SessionStates.{SessionEnds, FitsAll, SessionState, TakesMore, end_of, session_view}
use Rattle.modem_driver.specs.SessionTurns.{Faults, TakesTurn, fault_of}
use Rattle.modem_bench.specs.Faults.{session_fault}
use Rattle.modem_bench.specs.Limits.{cause_at}
use Rattle.modem_bench.specs.declared.cause.Cause.TheVariants as reason
use Rattle.modem_bench.specs.declared.driving.Halt.{Halt}
use Rattle.modem_bench.specs.declared.driving.Halt.TheVariants as halt
use Rattle.modem_bench.specs.declared.limit.Limit.{Limit}
use Rattle.modem_bench.specs.declared.limit.Limits.{Limits}
use Rattle.modem_bench.specs.declared.signals.Fault.{Fault}

-- a session at a modem of the standard's codes, with N1 31, has done nothing yet, and neither has its desk
pub record IsBegun {X : Type 0} (look : X → LineView) (s : SessionState X) : Type 0 where
  pub start : Beginning
  pub n1_is : start.n1 ≡ 31
  pub dialect_is : start.dialect ≡ standard
  pub fits : FitsAll start look s []
  pub none_taken : start.desk.taken ≡ []
  pub none_told : (c : ℕ) → slice_index_or start.desk.told c [] ≡ []
  pub none_announced : (i : ℕ) → slice_index_or start.desk.announced i [] ≡ []
  pub desk : end_of s.driver ≡ start.desk
  pub kinds : s.driver.desk.kinds ≡ start.kinds

-- the core of such a session goes by the standard's codes alone, and by no other N1
unfoldable pub GoesByStandard : Type 0
GoesByStandard =
    (s : SessionState LineView) → IsBegun (λ l. l) s
    → (dialect_in s.machine.core ≡ standard) × (s.machine.core.station.n1 ≡ 31)

-- ## One poll

-- no octet came or went, no request was taken, no outcome was told, and no line was announced
pub record MovesNothing (old new : SessionView) : Type 0 where
  pub received : new.line.received ≡ old.line.received
  pub sent : new.line.sent ≡ old.line.sent
  pub taken : new.desk.taken ≡ old.desk.taken
  pub told : amount new.desk.told ≤ amount old.desk.told
  pub announced : amount new.desk.announced ≤ amount old.desk.announced

-- a turn that answered otherwise than Moved, behind which nothing was done: in every history that the session fits it moved
-- nothing
pub record StaysStill {X : Type 0} (look : X → LineView) (old new : SessionState X) : Type 0 where
  pub says : TurnAnswer
  pub turn : TakesTurn look old new says
  pub not_moved : says_moved says ≡ false
  pub nothing : (b : Beginning) (past : List Act) → FitsAll b look old past
      → MovesNothing (session_view look old) (session_view look new)

-- a turn that answered Moved, and behind it what `Session::advance` does, which came to this
pub record MovesAndPolls {X : Type 0} (look : X → LineView) (old new : SessionState X)
    (given : Progress) : Type 0 where
  pub mid : SessionState X
  pub turn : TakesTurn look old mid TurnAnswer.Moved
  pub polls : Polls look mid new given

-- one poll: whether it moved something, and what it came to
abbrev pub IsPolled :
    {X : Type 0} → (X → LineView) → (old new : SessionState X) → Result (Option Progress) SessionFault → Type 0
IsPolled look old new (Ok (Some given)) = MovesAndPolls look old new given
IsPolled look old new (Ok None) = StaysStill look old new
IsPolled look old new (Err why) = Faults look old new (fault_of why)

-- by one poll it took requests of its desk, and went on by some acts, whatever history it had
pub record Advances {X : Type 0} (look : X → LineView) (old new : SessionState X)
    (says : Result (Option Progress) SessionFault) : Type 0 where
  pub takes : TakesMore old.driver new.driver
  pub goes : SessionGoesOn look old new
  pub polled : IsPolled look old new says

-- ## Polls that are counted

-- a poll may be made, and was counted as one that moves nothing
pub record IsCounted (old new : Limit) : Type 0 where
  pub may : cause_at old ≡ None
  pub left : new.left + 1 ≡ old.left
  pub quiet : new.quiet ≡ old.quiet + 1
  pub most : new.most ≡ old.most

-- why none may be made: the bench was given up, or the limit has this cause
abbrev pub IsRefused : Limit → Halt → Type 0
IsRefused limit (halt.Told given) = Unit {0}
IsRefused limit (halt.Limited cause) = cause_at limit ≡ Some cause
IsRefused limit (halt.Failed fault) = ⊥

-- where a poll that moved something leads: the multiplexer has ended, or not, or the session gave a fault
abbrev pub led_to : Progress → Result Bool Halt
led_to (Ended (Ok Stopped)) = Ok true
led_to (Ended (Err why)) = Err (halt.Failed (session_fault why))
led_to More = Ok false
led_to Idle = Ok false

-- a poll that gave no end, and how many in a row moved nothing before it and with it
pub data Goes {X : Type 0} (look : X → LineView) (old : SessionState X) (quiet : ℕ) : SessionState X → ℕ → Type 0 where
  moves : (new : SessionState X) (given : Progress) → MovesAndPolls look old new given → end_in given ≡ None
      → Goes look old quiet new 0
  stays : (new : SessionState X) → StaysStill look old new → Goes look old quiet new (quiet + 1)

-- so many polls that gave no end, one after the other, the last so many of which moved nothing
pub data MakesPolls {X : Type 0} (look : X → LineView) (old : SessionState X) : (count quiet : ℕ) → SessionState X → Type 0 where
  no_poll : MakesPolls look old 0 0 old
  one_more : (count quiet later : ℕ) (mid new : SessionState X) → MakesPolls look old count quiet mid
      → Goes look mid quiet new later → MakesPolls look old (count + 1) later new

-- by one poll the multiplexer has ended
pub record StopsOnce {X : Type 0} (look : X → LineView) (old new : SessionState X) : Type 0 where
  pub takes : TakesMore old.driver new.driver
  pub goes : SessionGoesOn look old new
  pub stops : MovesAndPolls look old new (Ended (Ok Stopped))

-- one poll that gave no end, with the limit before it and after it
pub record GoesOnce {X : Type 0} (look : X → LineView) (old new : SessionState X) (limit later : Limit) :
    Type 0 where
  pub takes : TakesMore old.driver new.driver
  pub goes : SessionGoesOn look old new
  pub polled : Goes look old limit.quiet new later.quiet
  pub left : later.left + 1 ≡ limit.left
  pub most : later.most ≡ limit.most

-- a turn of the session, or what was done behind one that answered Moved, gave a fault, which is told as this one
pub data FailsOnce {X : Type 0} (look : X → LineView) (old new : SessionState X) : (told : Fault) → Type 0 where
  at_once : (why : SessionFault) → Faults look old new (fault_of why) → FailsOnce look old new (session_fault why)
  behind : (why : SessionFault) → MovesAndPolls look old new (Ended (Err why))
      → FailsOnce look old new (session_fault why)

-- one more poll, if one may be made: whether the multiplexer has ended, or why the thread ends the bench
abbrev pub Steps :
    {X : Type 0} → (X → LineView) → (old new : SessionState X) → (limit later : Limit) → Result Bool Halt → Type 0
Steps look old new limit later (Ok true) = StopsOnce look old new
Steps look old new limit later (Ok false) = GoesOnce look old new limit later
Steps look old new limit later (Err (halt.Told given)) = Unit {0}
Steps look old new limit later (Err (halt.Failed told)) = FailsOnce look old new told
Steps look old new limit later (Err (halt.Limited cause)) = (cause_at limit ≡ Some cause) × (new ≡ old)

-- ## How it ends

-- The same session, once it has stopped: after polls that gave no end one gave Stopped. It took requests of its
-- desk, and went on by some acts, whatever history it had.
pub record Continues {X : Type 0} (look : X → LineView) (old new : SessionState X) : Type 0 where
  pub count : ℕ
  pub quiet : ℕ
  pub mid : SessionState X
  pub waits : MakesPolls look old count quiet mid
  pub stops : MovesAndPolls look mid new (Ended (Ok Stopped))
  pub takes : TakesMore old.driver new.driver
  pub goes : SessionGoesOn look old new

-- the same, at the line at which it was
pub record StopsAtLine {X : Type 0} (look : X → LineView) (side : X → OtherSide) (old new : SessionState X) :
    Type 0 where
  pub driven : Continues look old new
  pub same_line : side new.line ≡ side old.line

-- after polls that gave no end the session gave a fault, which is told as this one
pub record FailsLater {X : Type 0} (look : X → LineView) (old new : SessionState X) (told : Fault) :
    Type 0 where
  pub count : ℕ
  pub quiet : ℕ
  pub mid : SessionState X
  pub waits : MakesPolls look old count quiet mid
  pub fails : FailsOnce look mid new told

-- all polls were made that may be, and none gave an end
pub record UsesUp {X : Type 0} (look : X → LineView) (polls : ℕ) (old new : SessionState X) : Type 0 where
  pub quiet : ℕ
  pub made : MakesPolls look old polls quiet new

-- polls were made, fewer than may be, and none gave an end; as many of the last of them as may be moved nothing
pub record StandsStill {X : Type 0} (look : X → LineView) (polls still : ℕ) (old new : SessionState X) :
    Type 0 where
  pub count : ℕ
  pub quiet : ℕ
  pub fewer : count < polls
  pub many : still ≤ quiet
  pub made : MakesPolls look old count quiet new

-- why the session's thread ends the bench: of its own it does so only where the session fails, where all polls are
-- used up, or where it stands still
abbrev pub Halts :
    {X : Type 0} → (X → LineView) → Limits → (old new : SessionState X) → Halt → Type 0
Halts look limits old new (halt.Told given) = Unit {0}
Halts look limits old new (halt.Failed told) = FailsLater look old new told
Halts look limits old new (halt.Limited reason.UsedUp) = UsesUp look limits.polls old new
Halts look limits old new (halt.Limited reason.Quiet) = StandsStill look limits.polls limits.still old new
Halts look limits old new (halt.Limited _) = ⊥

-- the session was finished, which left what each of its histories says, and then its desk was settled with
-- these callers and listeners
pub record IsOver {X : Type 0} (look : X → LineView) (s : SessionState X) (cs : List CallerView)
    (ls : List ListenerView) (settled : Settled) : Type 0 where
  pub leftovers : Leftovers
  pub ends : SessionEnds look s leftovers
  pub desk : leftovers.desk ≡ end_of s.driver
  pub books :
      DeskBooks s.driver cs ls settled.left.items (map vec_items settled.untaken.items)
      (map vec_items settled.unheard.items)

-- the session was finished, its desk was settled with these callers and listeners, and some settlement came
-- of it
pub record WasSettled {X : Type 0} (look : X → LineView) (s : SessionState X) (cs : List CallerView)
    (ls : List ListenerView) : Type 0 where
  pub settled : Settled
  pub over : IsOver look s cs ls settled
