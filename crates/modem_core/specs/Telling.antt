-- What the requests in hand are told, by what happened.
use Rattle.std.specs.Prelude.{◌≡◌, ℕ, ◌≤◌, Bool, List, [], ◌∷◌, ◌++◌, length, Option, Some, None, is_none, if◌then◌else◌}
use Rattle.mux_station.specs.declared.role.ChannelState.{ChannelState}
use Rattle.mux_station.specs.declared.role.ChannelState.TheVariants as is
use Rattle.mux_station.specs.declared.noted.Noted.{Noted}
use Rattle.mux_station.specs.declared.noted.Noted.TheVariants as noted
use Rattle.modem_desk.specs.declared.request.Request.{Request}
use Rattle.modem_history.specs.declared.act.Act.{Act}
use Rattle.modem_history.specs.declared.act.Act.TheVariants as act
use Rattle.modem_core.specs.ActLists.{ActList}
use Rattle.modem_desk.specs.declared.request.Ask.{Ask}
use Rattle.modem_desk.specs.declared.request.Ask.TheVariants.{OpenChannel, CloseChannel, Command, Probe, Stop}
use Rattle.modem_desk.specs.declared.request.Answer.{Answer}
use Rattle.modem_desk.specs.declared.request.Answer.TheVariants.{Opened, Shut, ProbeBack, Stopped, Refused, NoAnswer, Closed, LineLost}
use Rattle.modem_core.specs.declared.telling.Happened.{Happened}
use Rattle.modem_core.specs.declared.telling.Happened.TheVariants as happened

-- why a connection is Shut now; `ended` says whether 0 was Opened and isn't any more, and `why` is the answer where no
-- loss, no tick and no end of 0 is the cause
abbrev pub why_shut : Happened → (ended : Bool) → Answer → Answer
why_shut happened.Lost ended why = LineLost
why_shut (happened.Tick given_up) ended why = if ended then Closed else NoAnswer
why_shut happened.Took ended why = if ended then Closed else why
why_shut (happened.Got n) ended why = if ended then Closed else why

abbrev pub open_told : ChannelState → Answer → Option Answer
open_told is.Opened why = Some Opened
open_told is.Opening why = None
open_told _ why = Some why

abbrev pub close_told : ChannelState → Answer → Option Answer
close_told is.Closing why = None
close_told _ why = Some why

abbrev pub command_told : ChannelState → Answer → Option Answer
command_told is.Opened why = None
command_told _ why = Some why

-- what a probe is told by what was noted of a frame
abbrev pub probe_noted : Noted → Option Answer
probe_noted noted.ProbeBack = Some ProbeBack
probe_noted noted.ProbeRefused = Some Refused
probe_noted _ = None

-- what a probe that waits is told while 0 is Opened
abbrev pub probe_happened : Happened → Option Answer
probe_happened (happened.Got n) = probe_noted n
probe_happened (happened.Tick given_up) = if given_up then Some NoAnswer else None
probe_happened _ = None

abbrev pub probe_told : ChannelState → Happened → Answer → Option Answer
probe_told is.Opened h why = probe_happened h
probe_told _ h why = Some why

-- what a Stop that waits no more is told: LineLost at a loss, NoAnswer at a tick, else Stopped
abbrev pub stop_outcome : Happened → Answer
stop_outcome happened.Lost = LineLost
stop_outcome (happened.Tick given_up) = NoAnswer
stop_outcome _ = Stopped

abbrev pub stop_told : ChannelState → Happened → Option Answer
stop_told is.Stopping h = None
stop_told _ h = Some (stop_outcome h)

-- what a request that waits is told, by how the connections stand now
abbrev pub told_by : Happened → (ended : Bool) → (ℕ → ChannelState) → Ask → Option Answer
told_by h ended now (OpenChannel d) = open_told (now d.number) (why_shut h ended Refused)
told_by h ended now (CloseChannel d) = close_told (now d.number) (why_shut h ended Shut)
told_by h ended now (Command d line) = command_told (now d.number) (why_shut h ended Closed)
told_by h ended now (Probe octets) = probe_told (now 0) h (why_shut h ended Closed)
told_by h ended now Stop = stop_told (now 0) h

-- ## All in hand

-- what one request is told
abbrev pub said_to : Request → Option Answer → List Act
said_to r None = []
said_to r (Some answer) = act.Told (record { caller = r.caller; number = r.number; answer = answer }) ∷ []

-- what each of the requests is told, in their order
abbrev pub told_to : (Ask → Option Answer) → List Request → List Act
told_to says [] = []
told_to says (r ∷ rs) = said_to r (says r.ask) ++ told_to says rs

-- the requests that are told nothing
abbrev pub left_by : (Ask → Option Answer) → List Request → List Request
left_by says [] = []
left_by says (r ∷ rs) = if is_none (says r.ask) then r ∷ left_by says rs else left_by says rs

-- while they are told one after the other: those before the place are told nothing, and the others are still
-- to come
pub record Telling (says : Ask → Option Answer) (place : ℕ) (hand hand0 : List Request)
    (acts acts0 : ActList) : Type 0 where
  pub front : List Request
  pub back : List Request
  pub split : hand ≡ front ++ back
  pub place_is : place ≡ length front
  pub left_same : front ++ left_by says back ≡ left_by says hand0
  pub acts_same : acts.acts ++ told_to says back ≡ acts0.acts ++ told_to says hand0
  pub room : length back ≤ acts.left
