-- What a poll of a simulated modem comes to.
use Rattle.std.specs.Prelude.{◌≡◌, ◌≢◌, ◌↔◌, ◌⊎◌, ℕ, ◌+◌, ◌<◌, true, false, List, Option, Some, None, Result, Ok, Err, IfOk, OnErr, IsErrOf}
use Rattle.serial_line.specs.LineViews.{LineView}
use Rattle.modem_sim.specs.declared.error.SimError.{SimError}
use Rattle.modem_sim.specs.declared.error.SimError.TheVariants as why
use Rattle.modem_sim.specs.declared.sim.SimTurn.{SimTurn}
use Rattle.modem_sim.specs.declared.sim.SimTurn.TheVariants.{Moved, Idle, Ended}
use Rattle.modem_sim.specs.Sims.{FitsSim, SimState, SimGoes, end_given, failed_by, has_ended, has_failed}
use Rattle.modem_sim.specs.Turns.{GoesTurn, TurnFrom, WantsMemory}
use Rattle.modem_sim.specs.Acts.{Act, End}
use Rattle.modem_sim.specs.Cores.{IsLater}

-- ## Its turns

-- What a turn comes to: Failed just where the line had failed before, and then nothing changes; Line where a call of
-- the line fails in it, and the line has failed from then on; else want of memory, or what was done.
pub record Turned {X : Type 0} (see : X → LineView) (old new : SimState X) (says : Result SimTurn SimError) :
    Type 0 where
  pub goes : SimGoes see old new
  pub turn : IfOk says (GoesTurn see old new)
  pub failed : IsErrOf says why.Failed ↔ (has_failed old ≡ true)
  pub fails : has_failed new ≡ failed_by (has_failed old) says
  pub still : has_failed old ≡ true → new ≡ old
  pub over : has_failed old ≡ false → has_ended old ≡ true → (says ≡ Ok Ended) × (new ≡ old)
  pub memory : IsErrOf says why.NoMemory → WantsMemory see new
  pub others : OnErr says (IsErrOf says why.Line ⊎ (IsErrOf says why.NoMemory ⊎ IsErrOf says why.Failed))
  pub sound : says ≢ Err why.Line → (see new.line).failures ≡ (see old.line).failures
  pub failure : says ≡ Err why.Line → (see new.line).failures ≡ (see old.line).failures + 1
  pub ended : IfOk says (λ turn. turn ≡ Ended → has_ended new ≡ true)
  pub goes_on : IfOk says (λ turn. has_ended new ≡ true → turn ≡ Ended)
  pub end : end_given new ≡ end_given old

-- so many turns, each of which answers Moved
pub data MovesOn {X : Type 0} (see : X → LineView) (old : SimState X) :
    ℕ → SimState X → Type 0 where
  moves_none : MovesOn see old 0 old
  moves_once :
      (n : ℕ) (mid new : SimState X) → MovesOn see old n mid
      → Turned see mid new (Ok Moved)
      → MovesOn see old (n + 1) new

-- The turns of a poll are 64 that answer Moved, or fewer and then one that answers otherwise. After 64, and after Idle,
-- the poll gives nothing yet; after Ended, and after a refusal, it gives that.
pub data Runs {X : Type 0} (see : X → LineView) (old new : SimState X) :
    Option (Result SimTurn SimError) → Type 0 where
  goes_on : MovesOn see old 64 new → Runs see old new None
  rests :
      (n : ℕ) (mid : SimState X) → n < 64 → MovesOn see old n mid
      → Turned see mid new (Ok Idle) → Runs see old new None
  ends :
      (n : ℕ) (mid : SimState X) → n < 64 → MovesOn see old n mid
      → Turned see mid new (Ok Ended)
      → Runs see old new (Some (Ok Ended))
  fails :
      (n : ℕ) (mid : SimState X) (why : SimError) → n < 64 → MovesOn see old n mid
      → Turned see mid new (Err why)
      → Runs see old new (Some (Err why))

-- ## Its turns in a history

-- a turn that goes on from a past to this one, and whose answer is true of it
pub record TurnsTo {X : Type 0} (see : X → LineView) (at : LineView) (e : End) (past now : List Act)
    (old new : SimState X) (says : SimTurn) : Type 0 where
  pub turned : Turned see old new (Ok says)
  pub from : TurnFrom see at e past old new turned.turn.exchange says
  pub now_is : from.now ≡ now

-- a turn that was refused and goes on to this past
pub record RefusedTo {X : Type 0} (see : X → LineView) (at : LineView) (e : End) (past now : List Act)
    (old new : SimState X) (why : SimError) : Type 0 where
  pub turned : Turned see old new (Err why)
  pub later : IsLater past now
  pub fits : FitsSim see at e new now

-- so many turns that answer Moved, through a history: the next one goes on from the past so far
pub data MovesThrough {X : Type 0} (see : X → LineView) (at : LineView) (e : End) (old : SimState X)
    (past : List Act) : ℕ → SimState X → List Act → Type 0 where
  moves_through_none : MovesThrough see at e old past 0 old past
  moves_through :
      (n : ℕ) (mid new : SimState X) (between now : List Act) → MovesThrough see at e old past n mid between
      → TurnsTo see at e between now mid new Moved → MovesThrough see at e old past (n + 1) new now

-- the turns of a poll through a history
pub data RunsThrough {X : Type 0} (see : X → LineView) (at : LineView) (e : End) (old : SimState X)
    (past : List Act) (new : SimState X) (now : List Act) : Option (Result SimTurn SimError) → Type 0 where
  goes_on_through :
      MovesThrough see at e old past 64 new now → RunsThrough see at e old past new now None
  rests_through :
      (n : ℕ) (mid : SimState X) (between : List Act) → n < 64 → MovesThrough see at e old past n mid between
      → TurnsTo see at e between now mid new Idle → RunsThrough see at e old past new now None
  ends_through :
      (n : ℕ) (mid : SimState X) (between : List Act) → n < 64 → MovesThrough see at e old past n mid between
      → TurnsTo see at e between now mid new Ended → RunsThrough see at e old past new now (Some (Ok Ended))
  fails_through :
      (n : ℕ) (mid : SimState X) (between : List Act) (why : SimError) → n < 64
      → MovesThrough see at e old past n mid between → RefusedTo see at e between now mid new why
      → RunsThrough see at e old past new now (Some (Err why))

-- the turns of a poll go on to a past that the simulated modem fits
pub record RunsFrom {X : Type 0} (see : X → LineView) (at : LineView) (e : End) (old : SimState X) (past : List Act)
    (new : SimState X) (given : Option (Result SimTurn SimError)) : Type 0 where
  pub now : List Act
  pub later : IsLater past now
  pub fits : FitsSim see at e new now
  pub runs : RunsThrough see at e old past new now given

-- the turns of a poll, whatever past the simulated modem fitted before
abbrev pub RunsInHistories :
    {X : Type 0} → (X → LineView) → (old new : SimState X) → Option (Result SimTurn SimError) → Type 0
RunsInHistories see old new given =
    (at : LineView) (e : End) (past : List Act) → FitsSim see at e old past
    → RunsFrom see at e old past new given

-- ## What it gives

-- what is given is kept as its end, but for want of memory
abbrev pub kept_end :
    Option (Result SimTurn SimError) → Result SimTurn SimError → Option (Result SimTurn SimError)
kept_end before (Err why.NoMemory) = before
kept_end before given = Some given

-- the simulated modem, which keeps what a poll gave as its end, but for want of memory
abbrev pub with_given : {X : Type 0} → Option (Result SimTurn SimError) → SimState X → SimState X
with_given None s = s
with_given (Some given) s = record s { machine = record s.machine { end = kept_end s.machine.end given } }

-- a poll makes its turns, gives what they lead to, and keeps that
pub record PollsOn {X : Type 0} (see : X → LineView) (old new : SimState X)
    (given : Option (Result SimTurn SimError)) : Type 0 where
  pub mid : SimState X
  pub runs : Runs see old mid given
  pub through : RunsInHistories see old mid given
  pub stays : new ≡ with_given given mid

-- a poll after an end gives that end, and does nothing
abbrev pub PollsFrom :
    {X : Type 0} → (X → LineView) → Option (Result SimTurn SimError)
    → (old new : SimState X) → Option (Result SimTurn SimError) → Type 0
PollsFrom see (Some end) old new given = (given ≡ Some end) × (new ≡ old)
PollsFrom see None old new given = PollsOn see old new given

-- a poll: an end that an earlier one gave is given again; else it makes its turns
unfoldable pub Polls :
    {X : Type 0} → (X → LineView) → (old new : SimState X)
    → Option (Result SimTurn SimError) → Type 0
Polls see old new given =
    PollsFrom see (end_given old) old new given

-- ## One poll after the other

-- polls that gave nothing
pub data Waits {X : Type 0} (see : X → LineView) :
    (old new : SimState X) → Type 0 where
  waits_none : (s : SimState X) → Waits see s s
  waits_once :
      (old mid new : SimState X) → Polls see old mid None
      → Waits see mid new → Waits see old new

-- no call of the line failed, in these polls and before them
pub record StaysSound {X : Type 0} (look : X → LineView) (old new : SimState X) : Type 0 where
  pub before : has_failed old ≡ false
  pub now : has_failed new ≡ false
  pub none_failed : (look new.line).failures ≡ (look old.line).failures

-- one call of the line failed in these polls, and none had failed before
pub record FailsOnce {X : Type 0} (look : X → LineView) (old new : SimState X) : Type 0 where
  pub before : has_failed old ≡ false
  pub now : has_failed new ≡ true
  pub one_failed : (look new.line).failures ≡ (look old.line).failures + 1

-- a call of the line had failed before these polls
pub record HadFailed {X : Type 0} (look : X → LineView) (old new : SimState X) : Type 0 where
  pub before : has_failed old ≡ true
  pub now : has_failed new ≡ true
  pub none_failed : (look new.line).failures ≡ (look old.line).failures

-- the simulated modem has closed down, all is written, and its line is sound
pub record EndsSound {X : Type 0} (look : X → LineView) (old new : SimState X) : Type 0 where
  pub ended : has_ended new ≡ true
  pub sound : StaysSound look old new

-- what an end says of the simulated modem, as it was before the polls and as it is
abbrev pub Says :
    {X : Type 0} → (look : X → LineView) → (old new : SimState X) → Result SimTurn SimError → Type 0
Says look old new (Ok Ended) = EndsSound look old new
Says look old new (Err why.NoMemory) = StaysSound look old new
Says look old new (Err why.Line) = FailsOnce look old new
Says look old new (Err why.Failed) = HadFailed look old new
Says look old new _ = ⊥

-- After polls that gave nothing one gave this end, which means what it says where none had given an end before.
-- Whatever past the simulated modem fitted before, it goes on to one that it fits before that poll, and from there to
-- one after it.
pub record Gives {X : Type 0} (see : X → LineView) (s : SimState X)
    (given : Result SimTurn SimError) : Type 0 where
  pub mid : SimState X
  pub new : SimState X
  pub waits : Waits see s mid
  pub waited : SimGoes see s mid
  pub polls : Polls see mid new (Some given)
  pub polled : SimGoes see mid new
  pub says : end_given s ≡ None → Says see s new given
