-- A session that has just begun, and what isn't a poll of it.
use Rattle.std.specs.Prelude.{◌≡◌, ℕ, ◌+◌, ◌-◌, ◌^◌, ◌<◌, ◌≤◌, Bool, true, false, List, [], ◌∷◌, length, filter, replicate, None, Result, Ok}
use Rattle.serial_line.specs.LineViews.{unused_line}
use Rattle.modem_desk.specs.Ends.{DeskId}
use Rattle.modem_history.specs.Acts.{Act, Tick}
use Rattle.modem_history.specs.Sessions.{Beginning, LineView}
use Rattle.modem_driver.specs.declared.machine.course.Course.TheVariants as course
use Rattle.modem_driver.specs.declared.session.ending.Ended.TheVariants.{Stopped}
use Rattle.modem_driver.specs.declared.session.error.SessionFault.{SessionFault}
use Rattle.modem_driver.specs.declared.session.polling.Progress.TheVariants as progress
use Rattle.modem_driver.specs.SessionStates.{SessionState, FitsAll, Ticks, beginning_of, new_machine}
use Rattle.modem_driver.specs.Polls.{PollsOn, RunsTurns, has_ended}
use Rattle.modem_driver.specs.PollLaws.{IsSession, RunsThrough}
use Rattle.modem_driver.specs.PollRows.{bare_desk, lost_session}

-- ## Of every session

-- Where all octets that came were fed, a poll calls the line: a body that makes no turn makes no poll.
unfoldable pub ReadsTheLine : {X : Type 0} → (X → LineView) → Type 0
ReadsTheLine {X} look =
    (old new : SessionState X) (more : Bool) → IsSession look old → old.machine.unfed ≡ []
    → has_ended old.machine ≡ false → (look old.line).calls < 2 ^ 64 - 1 → RunsTurns look old new (Ok more)
    → (look old.line).calls < (look new.line).calls

-- a body that ticks instead of a turn makes no poll
unfoldable pub NoTickIsAPoll : {X : Type 0} → (X → LineView) → Type 0
NoTickIsAPoll {X} look =
    (old new : SessionState X) (more : Bool) → IsSession look old → old.machine.unfed ≡ []
    → has_ended old.machine ≡ false → (look old.line).calls < 2 ^ 64 - 1 → Ticks look old new
    → ¬ RunsTurns look old new (Ok more)

abbrev pub is_tick : Act → Bool
is_tick Tick = true
is_tick _ = false

abbrev pub ticks_in : List Act → ℕ
ticks_in past = length (filter is_tick past)

-- no poll adds a tick to a session's history
unfoldable pub NoTickInAPoll : {X : Type 0} → (X → LineView) → Type 0
NoTickInAPoll {X} look =
    (b : Beginning) (past now : List Act) (old new : SessionState X) (ran : Result Bool SessionFault)
    → RunsThrough look b old past new now ran → ticks_in now ≡ ticks_in past

-- a poll asks the desk in vain at most 64 times: a body that makes more turns makes no poll
unfoldable pub AsksPerTurn : {X : Type 0} → (X → LineView) → Type 0
AsksPerTurn {X} look =
    (old new : SessionState X) (more : Bool) → IsSession look old → RunsTurns look old new (Ok more)
    → new.driver.found_none ≤ old.driver.found_none + 64

-- ## Of one

-- a session to which nothing has happened
abbrev pub new_session : DeskId → SessionState LineView
new_session at = record { line = unused_line; driver = bare_desk at; machine = new_machine 31 [] }

-- it is a session: its history is empty
unfoldable pub IsNewSession : Type 0
IsNewSession =
    (at : DeskId) → FitsAll (beginning_of 31 unused_line (bare_desk at)) (λ (l : LineView). l) (new_session at) []

-- the session after so many turns that found nothing to do
abbrev pub after_idle : ℕ → DeskId → SessionState LineView
after_idle n at = record (new_session at) {
  line = record unused_line { calls = n; empty_reads = n };
  driver = record (bare_desk at) { found_none = n };
}

-- the session after so many turns in each of which a flag came
abbrev pub after_flags : ℕ → DeskId → SessionState LineView
after_flags n at = record {
  line = record unused_line { received = replicate n 0xF9; calls = n };
  driver = record (bare_desk at) { found_none = n };
  machine = record (new_machine 31 []) { deframer = record { n1 = 31; undecided = 0xF9 ∷ []; next = None } };
}

-- the session whose line was lost, where a poll gave Stopped all the same
abbrev pub lost_and_stopped : DeskId → SessionState LineView
lost_and_stopped at = record (lost_session at) {
  machine = record (lost_session at).machine { course = course.Ended (Ok Stopped) };
}

-- No turn made, or a tick in its place; a loss of the line kept back, or given as Stopped; 65 turns; a turn
-- behind one that found nothing to do: none of this is a poll of it.
unfoldable pub AreNoLivePolls : Type 0
AreNoLivePolls =
    (at : DeskId) (more : Bool)
    → (¬ RunsTurns (λ (l : LineView). l) (new_session at) (new_session at) (Ok more))
    × (((new : SessionState LineView) → Ticks (λ (l : LineView). l) (new_session at) new
    → ¬ RunsTurns (λ (l : LineView). l) (new_session at) new (Ok more))
    × ((¬ RunsTurns (λ (l : LineView). l) (new_session at) (lost_session at) (Ok more))
    × ((¬ PollsOn (λ (l : LineView). l) (new_session at) (lost_and_stopped at) (progress.Ended (Ok Stopped)))
    × ((¬ RunsTurns (λ (l : LineView). l) (new_session at) (after_flags 65 at) (Ok more))
    × (¬ RunsTurns (λ (l : LineView). l) (new_session at) (after_idle 2 at) (Ok more))))))
