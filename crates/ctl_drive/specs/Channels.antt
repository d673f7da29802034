-- What is known of connections by what a drive was told of them, and when a command may be submitted.
use Rattle.std.specs.Prelude.{◌≡◌, ◌<◌, ℕ, Bool, true, false, List, [], ◌∷◌, length, set, slice_index_or, if◌then◌else◌}
use mathlib.Core.Option.{some}
use lib.ListN.{get_elem?}
use Rattle.mux_frame.specs.declared.dlci.Dlci.{Dlci}
use Rattle.modem_desk.specs.Ends.{CallerView, Each}
use Rattle.modem_desk.specs.declared.request.Answer.{Answer}
use Rattle.modem_desk.specs.declared.request.Answer.TheVariants as answer
use Rattle.modem_desk.specs.declared.request.Ask.TheVariants as ask
use Rattle.modem_desk.specs.declared.request.Outcome.{Outcome}
use Rattle.ctl_drive.specs.Asking.{IsAskedAs, is_on}
use Rattle.ctl_drive.specs.declared.channels.ChannelState.{ChannelState}
use Rattle.ctl_drive.specs.declared.channels.ChannelState.TheVariants as state

-- ## What is known of a connection

abbrev pub state_at : List ChannelState → ℕ → ChannelState
state_at states d = slice_index_or states d state.Untold

-- an opening of it was told something
abbrev pub is_told : ChannelState → Bool
is_told state.Untold = false
is_told state.Wanted = false
is_told state.Shut = true
is_told state.Refused = true
is_told state.Open = true

abbrev pub told_at : List ChannelState → ℕ → Bool
told_at states d = is_told (state_at states d)

-- it is to be opened though no command waits for it
abbrev pub is_wanted : ChannelState → Bool
is_wanted state.Wanted = true
is_wanted _ = false

-- these connections are wanted, and the others as they were
abbrev pub wanted_states : List Dlci → List ChannelState → List ChannelState
wanted_states [] states = states
wanted_states (d ∷ more) states = wanted_states more (set states d.number state.Wanted)

-- it isn't open any more
abbrev pub shut_of : ChannelState → ChannelState
shut_of state.Open = state.Shut
shut_of state.Shut = state.Shut
shut_of state.Refused = state.Refused
shut_of state.Untold = state.Untold
shut_of state.Wanted = state.Wanted

-- an opening that was told this has opened the connection, or it was open before
abbrev pub opens : Answer → Bool
opens answer.Opened = true
opens answer.AlreadyOpen = true
opens _ = false

-- a command that was told this found its connection not open, or was closed with it
abbrev pub closes : Answer → Bool
closes answer.NotOpen = true
closes answer.Closed = true
closes _ = false

-- its opening was told this
abbrev pub opened_by : Answer → ChannelState
opened_by a = if opens a then state.Open else state.Refused

-- a command on it was submitted: that its opening was refused counts for one command
abbrev pub submitted_by : ChannelState → ChannelState
submitted_by state.Untold = state.Untold
submitted_by state.Wanted = state.Wanted
submitted_by state.Shut = state.Shut
submitted_by state.Refused = state.Shut
submitted_by state.Open = state.Open

-- a command on it was told this
abbrev pub closed_by : Answer → ChannelState → ChannelState
closed_by a s = if closes a then shut_of s else s

-- ## What a caller was told before it submitted

-- one of the first n outcomes that the caller took is that of an opening of connection d
pub record HasToldOpening (c : CallerView) (n d : ℕ) : Type 0 where
  pub dlci : Dlci
  pub dlci_is : dlci.number ≡ d
  pub outcome : Outcome
  pub asked : IsAskedAs c.place.first c.submitted outcome.number (ask.OpenChannel dlci)
  pub place : ℕ
  pub taken : get_elem? c.got place ≡ some outcome
  pub early : place < n

-- before it submitted a command, the caller had taken what an opening of the command's connection was told
abbrev pub OpensFirst : CallerView → Type 0
OpensFirst c =
    Each (λ i r. (d : ℕ) → is_on d r.ask ≡ true → HasToldOpening c (slice_index_or c.got_before i 0) d) c.submitted

-- before it submitted a Stop, it had taken the outcomes of all that it had submitted
abbrev pub StopsLast : CallerView → Type 0
StopsLast c = Each (λ i r. r.ask ≡ ask.Stop → slice_index_or c.got_before i 0 ≡ i) c.submitted

-- That is so of this caller. Where an opening of a connection is known to have been told something, it was.
pub record KeepsOrder (states : List ChannelState) (c : CallerView) : Type 0 where
  pub one_each : length c.got_before ≡ length c.submitted
  pub long : length states ≡ 62
  pub told : (d : ℕ) → told_at states d ≡ true → HasToldOpening c (length c.got) d
  pub opens_first : OpensFirst c
  pub stops_last : StopsLast c
