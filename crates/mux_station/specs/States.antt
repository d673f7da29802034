-- The initiator's and the responder's table, read over the past.
use Rattle.std.specs.Prelude.{ℕ, ◌==◌, ◌+◌, ◌&&◌, ◌||◌, Bool, true, false, List, [], ◌∷◌, if◌then◌else◌}
use Rattle.mux_frame.specs.declared.frame.Kind.{Kind}
use Rattle.mux_frame.specs.declared.frame.Kind.TheVariants.{Sabm, Ua, Dm, Disc}
use Rattle.mux_station.specs.declared.role.Role.{Role}
use Rattle.mux_station.specs.declared.role.Role.TheVariants.{Initiator, Responder}
use Rattle.mux_station.specs.Written.{is_on}
use Rattle.mux_station.specs.Messages.{cld, brings_command, brings_response}
use Rattle.mux_station.specs.Acts.{Act, Got, Sent, Tick, Lost}

-- the act ends d by itself, where zero says whether 0 is open before it
abbrev pub ends_itself : Bool → ℕ → Act → Bool
ends_itself zero d Lost = true
ends_itself zero d (Sent f) = is_on Disc d f || brings_command cld f
ends_itself zero d (Got f) =
    is_on Disc d f || (is_on Dm d f || (is_on Sabm d f || (zero && brings_command cld f)))
ends_itself zero d _ = false

-- the state of a connection: the counts are of the SABM or DISC sent again, and in Stopping of the ticks
pub data State : Type 0 where
  IsShut : State
  IsOpening : (again : ℕ) → State
  IsOpened : State
  IsClosing : (again : ℕ) → State
  IsStopping : (ticks : ℕ) → State

-- the state is Opened
abbrev pub is_opened : State → Bool
is_opened IsOpened = true
is_opened _ = false

-- the state is Shut
abbrev pub is_shut : State → Bool
is_shut IsShut = true
is_shut _ = false

abbrev pub is_stopping : State → Bool
is_stopping (IsStopping n) = true
is_stopping _ = false

-- at the fourth tick a closing and a stop are given up
abbrev pub at_tick : State → State
at_tick (IsClosing n) = if n == 3 then IsShut else IsClosing n
at_tick (IsStopping n) = if n == 3 then IsShut else IsStopping (n + 1)
at_tick s = s

-- the state after a frame on the connection is sent; what no lawful history has is read as Opening reads it
abbrev pub at_sent : State → Kind → State
at_sent IsShut Sabm = IsOpening 0
at_sent (IsOpening n) Sabm = IsOpening (n + 1)
at_sent (IsOpening n) Disc = IsShut
at_sent (IsOpening n) Ua = IsShut
at_sent (IsOpening n) Dm = IsShut
at_sent IsOpened Disc = IsClosing 0
at_sent (IsClosing n) Disc = IsClosing (n + 1)
at_sent (IsClosing n) Sabm = IsOpening 0
at_sent (IsStopping n) Sabm = IsOpening 0
at_sent s k = s

-- the state after an initiator got a frame on the connection
abbrev pub at_got : State → Kind → State
at_got (IsOpening n) Ua = IsOpened
at_got (IsOpening n) Dm = IsShut
at_got (IsOpening n) Disc = IsShut
at_got (IsOpening n) Sabm = IsShut
at_got IsOpened Dm = IsShut
at_got IsOpened Disc = IsShut
at_got IsOpened Sabm = IsShut
at_got (IsClosing n) Ua = IsShut
at_got (IsClosing n) Dm = IsShut
at_got (IsStopping n) Dm = IsShut
at_got s k = s

-- the state after a responder got one, where at_zero says whether d is 0, or 0 is Opened
abbrev pub at_answered : Bool → State → Kind → State
at_answered at_zero s Sabm = if at_zero then IsOpened else IsShut
at_answered at_zero IsOpened Disc = IsShut
at_answered at_zero (IsOpening n) Disc = IsShut
at_answered at_zero (IsClosing n) Ua = IsShut
at_answered at_zero s Dm = IsShut
at_answered at_zero s k = s

-- a CLD ends Opened, and a CLD or its response ends Stopping
abbrev pub at_close_down : Bool → Bool → State → State
at_close_down command response IsOpened = if command then IsShut else IsOpened
at_close_down command response (IsStopping n) = if command || response then IsShut else IsStopping n
at_close_down command response s = s

abbrev pub got_by : Role → Bool → State → Kind → State
got_by Initiator at_zero s k = at_got s k
got_by Responder at_zero s k = at_answered at_zero s k

-- what the act makes of the state of d by itself
abbrev pub own_after : Role → ℕ → Bool → State → Act → State
own_after r d at_zero s Lost = IsShut
own_after r d at_zero s Tick = at_tick s
own_after r d at_zero s (Sent f) =
    if (d == 0) && brings_command cld f then IsStopping 0
    else if f.dlci == d then at_sent s f.kind else s
own_after r d at_zero s (Got f) =
    if f.dlci == d
    then (if d == 0 then at_close_down (brings_command cld f) (brings_response cld f) (got_by r true s f.kind)
    else got_by r at_zero s f.kind)
    else s
own_after r d at_zero s _ = s

-- the states of 0 and of d
pub record States : Type 0 where
  pub zero : State
  pub own : State

-- what ends 0 makes every other connection Shut, whatever its state
abbrev pub joined : Role → ℕ → States → State → Act → States
joined r d s channel a =
    record {
      zero = channel;
      own = if d == 0 then channel
          else if ends_itself (is_opened s.zero) 0 a then IsShut
          else own_after r d (is_opened s.zero) s.own a;
    }

abbrev pub states_after : Role → ℕ → States → Act → States
states_after r d s a = joined r d s (own_after r 0 true s.zero a) a

abbrev pub states : Role → ℕ → List Act → States
states r d [] = record { zero = IsShut; own = IsShut }
states r d (a ∷ past) = states_after r d (states r d past) a

-- the state of d after the past
abbrev pub state_of : Role → ℕ → List Act → State
state_of r d past = (states r d past).own

-- the states after acts that follow, of which the first comes first
abbrev pub states_then : Role → ℕ → States → List Act → States
states_then r d s [] = s
states_then r d s (a ∷ acts) = states_then r d (states_after r d s a) acts
