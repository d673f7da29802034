-- What a simulated modem keeps of a connection, and what acts make of it.
use Rattle.std.specs.Prelude.{◌≡◌, ℕ, ◌==◌, ◌&&◌, ◌||◌, nat_lt, Bool, true, false, List, [], ◌++◌, Option, Some, None, if◌then◌else◌}
use Rattle.mux_station.specs.declared.role.Role.TheVariants.{Responder}
use Rattle.mux_station.specs.Offering.{offered}
use Rattle.modem_sim.specs.declared.channel.Wanted.{Wanted}
use Rattle.modem_sim.specs.Acts.{Act, End, wire, is_open_at_modem}
use Rattle.modem_history.specs.Connections.{unfinished_on}
use Rattle.modem_sim.specs.Pieces.{framed, pieces_octets}
use Rattle.modem_sim.specs.Outboxes.{outbox, hold_on, in_call, is_holding}

-- a hold: the connection on which a command is waited for, and whether one has come there, which ends it
pub record Waited : Type 0 where
  pub dlci : ℕ
  pub over : Bool

-- the hold that the code keeps, as the definitions see it
abbrev pub waited_of : Wanted → Waited
waited_of w = record { dlci = w.dlci.number; over = w.over }

-- What is kept of a connection: the line that hasn't ended; the octets said that the station wasn't handed; those that
-- a hold holds back, kept apart also once it is over, until they are moved; the hold; and whether it is in a call.
pub record Box : Type 0 where
  pub run : List ℕ
  pub unsent : List ℕ
  pub held : List ℕ
  pub hold : Option Waited
  pub through : Bool

-- what is kept of a connection that has just opened
abbrev pub fresh_box : Box
fresh_box = record { run = []; unsent = []; held = []; hold = None; through = false }

-- what a hold that lasts waits for
abbrev pub lasting : Option Waited → Option ℕ
lasting None = None
lasting (Some w) = if w.over then None else Some w.dlci

-- while the connection is open, each part of its box is what the past says
pub record BoxFits (e : End) (d : ℕ) (past : List Act) (b : Box) : Type 0 where
  pub run_is : unfinished_on Responder d (wire past) ≡ b.run
  pub hold_is : hold_on d past ≡ lasting b.hold
  -- what is said and held back, all together
  pub all_is :
      pieces_octets (outbox e d past).said ++ pieces_octets (outbox e d past).held
      ≡ offered Responder d (wire past) ++ (b.unsent ++ b.held)
  -- while a hold lasts, what it holds back
  pub held_is : is_holding (hold_on d past) ≡ true → pieces_octets (outbox e d past).held ≡ b.held
  -- without a hold nothing is kept apart
  pub apart : b.hold ≡ None → b.held ≡ []
  pub call_is : in_call e d past ≡ b.through

abbrev pub FitsOpen : End → ℕ → List Act → Box → Type 0
FitsOpen e d past b = is_open_at_modem d past ≡ true → BoxFits e d past b

-- by the hold, the octets behind which goes what is said next
abbrev pub queue_by : Option Waited → Box → List ℕ
queue_by None b = b.unsent
queue_by (Some w) b = b.held

-- the octets behind which goes what is said next
abbrev pub queue_of : Box → List ℕ
queue_of b = queue_by b.hold b

-- more is said: behind what is kept apart, where there is a hold or was one
abbrev pub said_with : Option Waited → Box → List ℕ → Box
said_with None b octets = record b { unsent = b.unsent ++ octets }
said_with (Some w) b octets = record b { held = b.held ++ octets }

-- what a frame brings to its connection: the line that is unfinished after it, what is said to the lines that ended, and whether
-- one of them put a call through
pub record Brought : Type 0 where
  pub run : List ℕ
  pub said : List ℕ
  pub calls : Bool

-- the box after a frame's octets: the replies to the lines that ended stand behind what was said before
abbrev pub box_taken : Brought → Box → Box
box_taken x b = record (said_with b.hold b x.said) { run = x.run; through = b.through || x.calls }

-- what a frame makes of a box: it starts afresh where the connection opens, and another connection's isn't
-- touched
abbrev pub box_turned : (opens here : Bool) → Brought → Box → Box
box_turned opens here x b =
    if opens then fresh_box
    else if here then box_taken x b
    else b

-- so many lines have ended on n: a hold that waits for a command there is over, if there were any
abbrev pub hold_heard : ℕ → ℕ → Option Waited → Option Waited
hold_heard n count None = None
hold_heard n count (Some w) = Some (record w { over = w.over || ((n == w.dlci) && nat_lt 0 count) })

-- the box after so many lines have ended on n
abbrev pub box_heard : ℕ → ℕ → Box → Box
box_heard n count b = record b { hold = hold_heard n count b.hold }

-- a hold is over, and what it held back is still kept apart
abbrev pub is_released : Option Waited → Bool
is_released None = false
is_released (Some w) = w.over

-- what is kept apart goes behind the rest where the hold is over
abbrev pub released : Box → Box
released b =
    if is_released b.hold then record b { unsent = b.unsent ++ b.held; held = []; hold = None } else b

-- a line that no command asked for is said, which no hold holds back
abbrev pub box_announced : List ℕ → Box → Box
box_announced line b = record (released b) { unsent = (released b).unsent ++ framed line }

-- answers are held back until a command has come on n
abbrev pub box_holding : ℕ → Box → Box
box_holding n b = record (released b) { hold = Some (record { dlci = n; over = false }) }
