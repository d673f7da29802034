-- A session and a simulated modem, each at one of two lines in memory, in one thread and in rounds.
use Rattle.std.specs.Prelude.{◌≡◌, ◌⊎◌, ℕ, ◌+◌, ◌<◌, ◌≤◌, ◌&&◌, ◌||◌, not, nat_lt, Bool, true, false, List, ◌++◌, length, Option, None, Some, Result, Ok, Err, if◌then◌else◌}
use Rattle.serial_line.specs.CutLine.{CutState, after_carry, carried, cut_view}
use Rattle.modem_history.specs.Sessions.{Beginning, LineView}
use Rattle.modem_driver.specs.declared.session.ending.Ended.TheVariants.{Stopped}
use Rattle.modem_driver.specs.declared.session.polling.Progress.{Progress}
use Rattle.modem_driver.specs.declared.session.polling.Progress.TheVariants as progress
use Rattle.modem_driver.specs.Polls.{Polls}
use Rattle.modem_driver.specs.SessionStates.{FitsAll, SessionState}
use Rattle.modem_sim.specs.declared.error.SimError.{SimError}
use Rattle.modem_sim.specs.declared.sim.SimTurn.{SimTurn}
use Rattle.modem_sim.specs.declared.sim.SimTurn.TheVariants as turn
use Rattle.modem_sim.specs.Acts.{End}
use Rattle.modem_sim.specs.Polls.{MovesOn, Turned}
use Rattle.modem_sim.specs.Sims.{FitsSim, SimState}
use Rattle.one_modem.specs.OneModem.{EndAct, driver_past, modem_past}
use Rattle.modem_bench.specs.Faults.{session_fault, sim_fault}
use Rattle.modem_bench.specs.declared.rounds.Rest.{Rest}
use Rattle.modem_bench.specs.declared.rounds.Rest.TheVariants.{Still, Full, UsedUp}
use Rattle.modem_bench.specs.declared.signals.Fault.{Fault}

-- a session at its line, and a simulated modem at its
pub record Pair : Type 0 where
  pub near : SessionState CutState
  pub far : SimState CutState

-- a session and a simulated modem, each at its line
abbrev pub pair : SessionState CutState → SimState CutState → Pair
pair near far = record { near = near; far = far }

-- ## Rounds

-- octets are carried once between the two lines, at most so many each way, and nothing else changes
abbrev pub carried_between : ℕ → Pair → Pair
carried_between cut p =
    pair (record p.near { line = after_carry cut p.near.line p.far.line })
    (record p.far { line = after_carry cut p.far.line p.near.line })

-- The turns of a simulated modem in a round are those of a poll: 64 that answer Moved, or fewer and one that
-- answers otherwise.
pub data RunsFar (old new : SimState CutState) : Result SimTurn SimError → Type 0 where
  moves : MovesOn cut_view old 64 new → RunsFar old new (Ok turn.Moved)
  rests :
      (n : ℕ) (mid : SimState CutState) → n < 64 → MovesOn cut_view old n mid
      → Turned cut_view mid new (Ok turn.Idle) → RunsFar old new (Ok turn.Idle)
  ends :
      (n : ℕ) (mid : SimState CutState) → n < 64 → MovesOn cut_view old n mid
      → Turned cut_view mid new (Ok turn.Ended) → RunsFar old new (Ok turn.Ended)
  fails :
      (n : ℕ) (mid : SimState CutState) (why : SimError) → n < 64 → MovesOn cut_view old n mid
      → Turned cut_view mid new (Err why) → RunsFar old new (Err why)

-- what the two came to in a round, and whether octets were carried in it, or the modem sent some behind that
pub record Says : Type 0 where
  pub near : Progress
  pub far : Result SimTurn SimError
  pub moved : Bool

abbrev pub moved_in : ℕ → (near far later : CutState) → Bool
moved_in cut near far later =
    nat_lt 0 (carried cut near far + carried cut far near) || nat_lt (length far.sent) (length later.sent)

-- one round: the session is polled once, octets are carried once, and the simulated modem makes the turns of a
-- poll
pub record IsRound (cut : ℕ) (old new : Pair) (says : Says) : Type 0 where
  pub polled : SessionState CutState
  pub polls : Polls cut_view old.near polled says.near
  pub mid : Pair
  pub carries : mid ≡ carried_between cut (pair polled old.far)
  pub stays : new.near ≡ mid.near
  pub runs : RunsFar mid.far new.far says.far
  pub moved_is : says.moved ≡ moved_in cut polled.line old.far.line new.far.line

-- ## How they end

-- the session has stopped, or has nothing to do
abbrev pub near_rests : Progress → Bool
near_rests progress.Idle = true
near_rests (progress.Ended (Ok Stopped)) = true
near_rests _ = false

-- the simulated modem has ended, or has nothing to do
abbrev pub far_rests : SimTurn → Bool
far_rests turn.Idle = true
far_rests turn.Ended = true
far_rests turn.Moved = false

-- what ends the rounds: a fault, the session's first; or that both rest, and no octets are under way
abbrev pub judged_by : Progress → Result SimTurn SimError → (moved : Bool) → Option (Result Rest Fault)
judged_by (progress.Ended (Err why)) far moved = Some (Err (session_fault why))
judged_by near (Err why) moved = Some (Err (sim_fault why))
judged_by near (Ok says) moved =
    if not moved && (near_rests near && far_rests says) then Some (Ok Still) else None

abbrev pub judged : Says → Option (Result Rest Fault)
judged says = judged_by says.near says.far says.moved

-- one of the two has sent as many octets as there is room for
abbrev pub IsFull : ℕ → Pair → Type 0
IsFull room p = (room ≤ length p.near.line.sent) ⊎ (room ≤ length p.far.line.sent)

-- a round that ends nothing
pub record GoesOnRound (cut : ℕ) (old new : Pair) : Type 0 where
  pub says : Says
  pub round : IsRound cut old new says
  pub none : judged says ≡ None

-- a round by which the rounds end: by what the two came to in it; or, where that ends nothing, by a line
-- that is full
pub data IsLastRound (cut room : ℕ) (old new : Pair) : Result Rest Fault → Type 0 where
  judged_so :
      (says : Says) (end : Result Rest Fault) → IsRound cut old new says → judged says ≡ Some end
      → IsLastRound cut room old new end
  is_full :
      (says : Says) → IsRound cut old new says → judged says ≡ None → IsFull room new
      → IsLastRound cut room old new (Ok Full)

-- so many rounds that end nothing, one after the other
pub data Rounds (cut : ℕ) (old : Pair) : ℕ → Pair → Type 0 where
  no_round : Rounds cut old 0 old
  one_more :
      (n : ℕ) (mid new : Pair) → Rounds cut old n mid → GoesOnRound cut mid new
      → Rounds cut old (n + 1) new

-- the rounds end by the first round that ends them, or where all are used up
pub data EndsInRounds (cut room rounds : ℕ) (old new : Pair) : Result Rest Fault → Type 0 where
  by_round :
      (n : ℕ) (mid : Pair) (end : Result Rest Fault) → n < rounds → Rounds cut old n mid
      → IsLastRound cut room mid new end → EndsInRounds cut room rounds old new end
  used_up : Rounds cut old rounds new → EndsInRounds cut room rounds old new (Ok UsedUp)

-- ## Their joint list

-- each of the two fits its part of the list
pub record AreJoined (b : Beginning) (at : LineView) (e : End) (line : List EndAct) (p : Pair) : Type 0 where
  pub near : FitsAll b cut_view p.near (driver_past line)
  pub far : FitsSim cut_view at e p.far (modem_past line)

-- the two fit a joint list that goes on from this one
pub record JoinedFrom (b : Beginning) (at : LineView) (e : End) (line : List EndAct) (p : Pair) : Type 0 where
  pub newer : List EndAct
  pub joined : AreJoined b at e (newer ++ line) p

-- whatever joint list of acts the two had, it goes on to one that they have
unfoldable pub JoinsOn : (old new : Pair) → Type 0
JoinsOn old new =
    (b : Beginning) (at : LineView) (e : End) (line : List EndAct) → AreJoined b at e line old
    → JoinedFrom b at e line new
