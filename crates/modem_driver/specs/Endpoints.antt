-- A driver that its caller drives: what it shows, which histories it fits, and what its calls do, whatever
-- line and desk's end a history sees.
use Rattle.std.specs.Prelude.{◌≡◌, ◌≢◌, ◌⊎◌, ◌&&◌, ◌==◌, ◌+◌, ◌-◌, ◌^◌, ◌≤◌, ℕ, Bool, true, false, List, [], ◌∷◌, ◌++◌, length, nat_lt, map, Option, None, Some}
use Rattle.std.specs.List.{list_all}
use Rattle.at_text.specs.Dialects.{Dialect, standard}
use Rattle.at_text.specs.Rules.{Rules, no_rules}
use Rattle.at_text.specs.declared.unsolicited.UrcKind.{UrcKind}
use Rattle.modem_desk.specs.declared.request.Ask.{Ask}
use Rattle.modem_desk.specs.declared.request.Ask.TheVariants.{Command}
use Rattle.modem_desk.specs.declared.request.Outcome.{Outcome}
use Rattle.modem_desk.specs.declared.request.Request.{Request}
use Rattle.modem_desk.specs.declared.request.Urc.{Urc}
use Rattle.modem_desk.specs.Ends.{DriverView, Announces, Appends}
use Rattle.modem_history.specs.Limits.{most_in_hand}
use Rattle.modem_history.specs.Acts.{Act, Told, Tick, Lost, after, in_hand}
use Rattle.modem_history.specs.Calls.{is_lost}
use Rattle.modem_history.specs.Sessions.{Beginning, LineView, gots, taken_since}
use Rattle.modem_history.specs.Turns.{HoldsWhereRoom, may_act, may_fail}
use Rattle.modem_history.specs.Wholes.{is_said}
use Rattle.modem_driver.specs.GettingSteps.{HasData}
use Rattle.modem_driver.specs.EndpointSteps.{HandLacksRoom, IsDrained, goes_out, with_received, with_sent}
use Rattle.modem_driver.specs.SessionStates.{Machine, beginning_by, machine_by, seen_by, end_of}
use Rattle.modem_driver.specs.TurnSteps.{StandingFits, turn_state, view_of}
use Rattle.modem_driver.specs.declared.endpoint.Blocked.{Blocked}
use Rattle.modem_driver.specs.declared.endpoint.Blocked.TheVariants.{OutputFirst, NoMemory}

-- ## What it shows

-- what a session keeps, and the number of its next request
pub record EndpointState : Type 0 where
  pub machine : Machine
  pub next : ℕ

-- an endpoint to which nothing has happened yet, with these rules of a dialect
abbrev pub endpoint_by : Rules → ℕ → List UrcKind → ℕ → EndpointState
endpoint_by rules n1 kinds first = record { machine = machine_by rules n1 kinds; next = first }

-- an endpoint to which nothing has happened yet, by the standard's codes
abbrev pub new_endpoint : ℕ → List UrcKind → ℕ → EndpointState
new_endpoint n1 kinds first = endpoint_by no_rules n1 kinds first

-- ## Which histories it fits

-- a request of caller 0, with a lower number than this
abbrev pub is_numbered : ℕ → Request → Bool
is_numbered next q = (q.caller == 0) && nat_lt q.number next

-- Over this line and this desk's end it fits the history as a session does, and the requests that the desk's
-- end took since are all of caller 0 and have lower numbers than the next.
pub record EndpointFits (b : Beginning) (l : LineView) (d : DriverView) (e : EndpointState)
    (past : List Act) : Type 0 where
  pub stands : StandingFits b (turn_state l d e.machine) past
  pub numbers : list_all (is_numbered e.next) (taken_since b (seen_by l (end_of d) e.machine)) ≡ true

-- by these acts the endpoint goes on from old to new, over these lines and desk's ends, whatever history it had
unfoldable pub LeadsOver : (before later : LineView) → (here there : DriverView) → (old new : EndpointState)
    → List Act → Type 0
LeadsOver before later here there old new acts =
    (b : Beginning) (past : List Act) → EndpointFits b before here old past
    → EndpointFits b later there new (after past acts)

-- an endpoint begins at a modem with these codes: over each line, and each desk's end that listens to these
-- kinds, it fits the empty history
unfoldable pub BeginsBy : Dialect → ℕ → List UrcKind → EndpointState → Type 0
BeginsBy dialect n1 kinds e =
    (l : LineView) (d : DriverView) → d.desk.kinds ≡ kinds
    → EndpointFits (beginning_by dialect n1 l d) l d e []

-- an endpoint begins at a modem of the standard's codes
abbrev pub Begins : ℕ → List UrcKind → EndpointState → Type 0
Begins n1 kinds e = BeginsBy standard n1 kinds e

-- ## Octets for the line

-- frames went out by some acts, and the line took these octets
pub record GivesOctets (l : LineView) (d : DriverView) (old new : EndpointState) (octets : List ℕ) : Type 0 where
  pub acts : List Act
  pub leads : LeadsOver l (with_sent l octets) d d old new acts
  pub are_out : (b : Beginning) (past : List Act) → EndpointFits b l d old past
      → list_all goes_out acts ≡ true

-- nothing waits for the line
unfoldable pub HoldsNothingBack : EndpointState → Type 0
HoldsNothingBack e = (l : LineView) (d : DriverView) → IsDrained (turn_state l d e.machine)

-- ## Octets of the line

-- The line gave these octets, with some acts. None of the acts is a tick or a loss. A connection is held only where 256
-- of its lines wait, and freed only where fewer than 128 do. Where the endpoint isn't blocked, each connection is held
-- so, or no MSC has a place.
pub record TakesOctets (l : LineView) (d : DriverView) (old new : EndpointState) (octets : List ℕ)
    (blocked : Option Blocked) : Type 0 where
  pub acts : List Act
  pub leads : LeadsOver l (with_received l octets) d d old new acts
  pub may : (b : Beginning) (past : List Act) → EndpointFits b l d old past
      → list_all (may_act new.machine.unannounced) acts ≡ true
  pub held : (b : Beginning) (past : List Act) → EndpointFits b l d old past → is_lost past ≡ false
      → blocked ≡ None
      → HoldsWhereRoom b (view_of (turn_state (with_received l octets) d new.machine)) (after past acts)

-- the frame at hand lacks room in the control queue for what it calls for
pub record WantsRoom (k : Machine) : Type 0 where
  pub at_hand : k.deframer.next ≢ None
  pub no_room : HandLacksRoom k

-- what is answered to input: nothing blocks it where all octets are taken and no frame is at hand; OutputFirst
-- where the frame at hand lacks room; NoMemory where data of an open connection is at hand
abbrev pub MachineSays : Machine → (all : Type 0) → Option Blocked → Type 0
MachineSays k all None = all × (k.deframer.next ≡ None)
MachineSays k all (Some OutputFirst) = WantsRoom k
MachineSays k all (Some NoMemory) = HasData k

-- ## Requests

-- a desk's end that took this request more
abbrev pub with_taken : DriverView → Request → DriverView
with_taken d q = record d { taken = d.taken ++ q ∷ [] }

-- frames at hand were handled, and nothing else changed
pub record HandlesAlone (l : LineView) (d : DriverView) (old new : EndpointState) : Type 0 where
  pub acts : List Act
  pub leads : LeadsOver l l d d old new acts
  pub may : (b : Beginning) (past : List Act) → EndpointFits b l d old past
      → (waiting : List Urc) → list_all (may_act waiting) acts ≡ true

-- frames at hand were handled until none was left, or one that lacks room, and nothing else changed
pub record HandlesAll (l : LineView) (d : DriverView) (old new : EndpointState) : Type 0 where
  pub alone : HandlesAlone l d old new
  pub lacks : HandLacksRoom new.machine

-- Frames at hand were handled, and then the request of this number, which asks for this, was taken from a desk that has a
-- caller 0. None of the acts is a tick or a loss, or holds or frees a connection.
pub record TakesRequest (l : LineView) (d : DriverView) (old new : EndpointState) (ask : Ask) (n : ℕ) : Type 0 where
  pub between : EndpointState
  pub frames : HandlesAll l d old between
  pub acts : List Act
  pub leads : 1 ≤ length d.desk.rings
      → LeadsOver l l d (with_taken d (record { caller = 0; number = n; ask = ask })) between new acts
  pub may : 1 ≤ length d.desk.rings → (b : Beginning) (past : List Act) → EndpointFits b l d between past
      → (waiting : List Urc) → list_all (may_act waiting) acts ≡ true

-- the requests in hand and the outcomes that wait are 128, or all numbers are used up
abbrev pub IsFull : EndpointState → Type 0
IsFull e = (most_in_hand ≤ length e.machine.core.hand + length e.machine.unplaced) ⊎ (e.next ≡ 2 ^ 64 - 1)

-- a request that asks for this is taken with the next number, which then is one more
pub record Numbers (old new : EndpointState) (ask : Ask) (n : ℕ) : Type 0 where
  pub number : n ≡ old.next
  pub later : new.next ≡ old.next + 1
  pub takes : (l : LineView) (d : DriverView) → TakesRequest l d old new ask n

-- only frames at hand were handled, and the next number stays
pub record Refuses (old new : EndpointState) : Type 0 where
  pub number : new.next ≡ old.next
  pub handles : (l : LineView) (d : DriverView) → HandlesAlone l d old new

-- ## Time, and the end of the line

abbrev pub asks_time : Ask → Bool
asks_time (Command d line) = false
asks_time _ = true

-- a tick may give the request up: it isn't a command
abbrev pub wants_time : Request → Bool
wants_time q = asks_time q.ask

-- after a past in which the line isn't lost, these acts are a tick and what it calls for
pub record IsOneTick (past acts : List Act) : Type 0 where
  pub live : is_lost past ≡ false
  pub more : List Act
  pub acts_are : acts ≡ Tick ∷ more
  pub follow : list_all is_said more ≡ true

-- frames at hand were handled, and then one tick passed
pub record Ticks (l : LineView) (d : DriverView) (old new : EndpointState) : Type 0 where
  pub between : EndpointState
  pub frames : HandlesAll l d old between
  pub acts : List Act
  pub leads : LeadsOver l l d d between new acts
  pub tick : (b : Beginning) (past : List Act) → EndpointFits b l d between past → IsOneTick past acts

-- The line wasn't lost before these acts, and is after them. Behind the loss there are outcomes alone. No frame was
-- handled, no tick passed, and no request is in hand any more.
pub record IsOneLoss (past acts : List Act) : Type 0 where
  pub live : is_lost past ≡ false
  pub gone : is_lost (after past acts) ≡ true
  pub before : List Act
  pub told : List Outcome
  pub acts_are : acts ≡ before ++ Lost ∷ map Told told
  pub may : (waiting : List Urc) → list_all (may_fail waiting) acts ≡ true
  pub none_got : gots acts ≡ []
  pub none_in_hand : in_hand (after past acts) ≡ []

-- a line of which one call more has failed
abbrev pub with_failure : LineView → LineView
with_failure l = record l { failures = l.failures + 1 }

-- frames at hand were handled, and then the line was lost, since a call on it had failed
pub record Loses (l : LineView) (d : DriverView) (old new : EndpointState) : Type 0 where
  pub between : EndpointState
  pub frames : HandlesAll l d old between
  pub acts : List Act
  pub leads : LeadsOver l (with_failure l) d d between new acts
  pub loss : (b : Beginning) (past : List Act) → EndpointFits b l d between past → IsOneLoss past acts

-- ## What came of it

-- a desk's end told this outcome more to its caller, and did nothing else
pub record TellsOne (o : Outcome) (old new : DriverView) : Type 0 where
  pub told : Appends o.caller o old.told new.told
  pub stays : new ≡ record old { told = new.told }

-- the outcome that waited first is given, and waits no more; nothing else changes. So it goes on over each
-- desk's end that told it.
pub record GivesOutcome (old new : EndpointState) (o : Outcome) : Type 0 where
  pub first : old.machine.unplaced ≡ o ∷ new.machine.unplaced
  pub stays : new ≡ record old { machine = record old.machine { unplaced = new.machine.unplaced } }
  pub leads : (l : LineView) (d e : DriverView) → TellsOne o d e → LeadsOver l l d e old new []

-- a desk's end announced this line more to each listener of its kind, and did nothing else
pub record AnnouncesOne (u : Urc) (old new : DriverView) : Type 0 where
  pub announced : Announces old.desk.kinds u old.announced new.announced
  pub stays : new ≡ record old { announced = new.announced }

-- The line that waited first is given, and waits no more; nothing else changes. So it goes on over each desk's
-- end that announced it.
pub record GivesLine (old new : EndpointState) (u : Urc) : Type 0 where
  pub first : old.machine.unannounced ≡ u ∷ new.machine.unannounced
  pub stays : new ≡ record old { machine = record old.machine { unannounced = new.machine.unannounced } }
  pub leads : (l : LineView) (d e : DriverView) → AnnouncesOne u d e → LeadsOver l l d e old new []

-- what is left: the requests taken and not told, in each history that it fits, and the outcomes and lines that
-- wait
pub record Leaves (e : EndpointState) (in_hand_left : List Request) (outcomes : List Outcome)
    (lines : List Urc) : Type 0 where
  pub hand : (b : Beginning) (l : LineView) (d : DriverView) (past : List Act) → EndpointFits b l d e past
      → in_hand_left ≡ in_hand past
  pub outcomes_are : outcomes ≡ e.machine.unplaced
  pub lines_are : lines ≡ e.machine.unannounced
