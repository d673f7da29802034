-- What a drive prints, as it comes: what its lines are told, and what is announced.
use Rattle.std.specs.Prelude.{◌≡◌, ◌≢◌, ℕ, ◌+◌, ◌<◌, ◌≤◌, ◌==◌, Bool, true, false, List, [], ◌∷◌, ◌++◌, All, Option, None, Some, drop, filter, get_or, flat_map, length, map, set, slice_index_or, take, if◌then◌else◌}
use Rattle.std.specs.List.{list_any}
use Rattle.std.specs.Io.KnownBytes.{Appends}
use Rattle.modem_desk.specs.declared.request.Answer.{Answer}
use Rattle.modem_desk.specs.declared.request.Ask.{Ask}
use Rattle.modem_desk.specs.declared.request.Ask.TheVariants as ask
use Rattle.modem_desk.specs.declared.request.Request.{Request}
use Rattle.modem_desk.specs.declared.request.Outcome.{Outcome}
use Rattle.modem_desk.specs.declared.request.Urc.{Urc}
use Rattle.modem_desk.specs.Ends.{ListenerView, subscription_of}
use Rattle.at_text.specs.Rules.{Rules}
use Rattle.ctl_text.specs.Texts.{heard_text_by, told_text}
use Rattle.ctl_drive.specs.Asking.{IsAskedAs, is_on}
use Rattle.ctl_drive.specs.Channels.{KeepsOrder, closed_by, opened_by, shut_of, state_at}
use Rattle.ctl_drive.specs.declared.channels.ChannelState.{ChannelState}
use Rattle.ctl_drive.specs.declared.users.Asked.{Asked}
use Rattle.ctl_drive.specs.declared.users.Control.{Control}
use Rattle.ctl_drive.specs.declared.users.Control.TheVariants as control
use Rattle.ctl_drive.specs.declared.users.UnderWay.{UnderWay}
use Rattle.ctl_drive.specs.declared.users.Users.{Users}

-- one piece of the output: what the line at this place among its connection's lines was told, or a line that the
-- listener at this place heard; and no piece of it, what was told of something that was asked beside the lines
pub data Shown : Type 0 where
  Answered : (dlci place : ℕ) → Outcome → Shown
  Announced : (listener : ℕ) → Urc → Shown
  Unprinted : Control → Outcome → Shown

-- `D i answer` and the lines of the answer, or `heard KIND D TEXT`, where kinds of a dialect's own have their names
abbrev pub shown_text : Rules → Shown → List ℕ
shown_text rules (Answered d i o) = told_text d i o.answer
shown_text rules (Announced i u) = heard_text_by rules u
shown_text rules (Unprinted asked o) = []

-- the outcomes, in order
abbrev pub outcomes_in : List Shown → List Outcome
outcomes_in [] = []
outcomes_in (Answered d i o ∷ more) = o ∷ outcomes_in more
outcomes_in (Announced i u ∷ more) = outcomes_in more
outcomes_in (Unprinted asked o ∷ more) = o ∷ outcomes_in more

-- the lines of this listener that were printed, in order
abbrev pub lines_at : ℕ → List Shown → List Urc
lines_at n [] = []
lines_at n (Answered d i o ∷ more) = lines_at n more
lines_at n (Announced i u ∷ more) = if i == n then u ∷ lines_at n more else lines_at n more
lines_at n (Unprinted asked o ∷ more) = lines_at n more

-- the request that something beside the lines is
abbrev pub control_ask : Control → Ask
control_ask (control.Open d) = ask.OpenChannel d
control_ask (control.Close d) = ask.CloseChannel d
control_ask control.Stop = ask.Stop

abbrev pub count_on : ℕ → List Request → ℕ
count_on d rs = length (filter (λ (r : Request). is_on d r.ask) rs)

-- the request of this number is a command on d, and so many commands on d were submitted up to it
pub record IsLine (first : ℕ) (submitted : List Request) (number d place : ℕ) : Type 0 where
  pub before : List Request
  pub request : Request
  pub later : List Request
  pub submitted_are : submitted ≡ before ++ request ∷ later
  pub number_is : number ≡ first + length before
  pub on : is_on d request.ask ≡ true
  pub place_is : place ≡ count_on d before + 1

-- What was printed of an outcome names its line by the line's connection and its place there. One of which nothing was printed is no
-- line's.
abbrev pub IsRightPiece : (first : ℕ) → List Request → Shown → Type 0
IsRightPiece first submitted (Answered d i o) = IsLine first submitted o.number d i
IsRightPiece first submitted (Announced i u) = Unit {0}
IsRightPiece first submitted (Unprinted asked o) = IsAskedAs first submitted o.number (control_ask asked)

-- the lines that wait for their outcomes
abbrev pub AreUnderWay : (first : ℕ) → List Request → List UnderWay → Type 0
AreUnderWay first submitted = All (λ (u : UnderWay). IsLine first submitted u.number u.dlci.number u.place)

-- a line of connection d is among these
abbrev pub is_busy : ℕ → List UnderWay → Bool
is_busy d lines = list_any (λ (u : UnderWay). u.dlci.number == d) lines

-- at most one line of each connection waits for its outcome
unfoldable pub AreApart : List UnderWay → Type 0
AreApart lines = (d : ℕ) → length (filter (λ (u : UnderWay). u.dlci.number == d) lines) ≤ 1

-- what waits for its outcome beside the lines
abbrev pub IsAsked : (first : ℕ) → List Request → Option Asked → Type 0
IsAsked first submitted None = Unit {0}
IsAsked first submitted (Some a) = IsAskedAs first submitted a.number (control_ask a.control)

abbrev pub count_asked : Option Asked → ℕ
count_asked None = 0
count_asked (Some a) = 1

-- What was printed since the output was as at first: each outcome of a line that the caller took, in the order in which they
-- came, by the connection and the place of its line; and each line that a listener took, in its order, by its kind's
-- name in the dialect. Of what was submitted just the lines under way, and what was asked beside them, have no outcome yet, and so
-- many lines of each connection were submitted. Of each connection at most one line is under way.
pub record HasShown (first now : Option (List ℕ)) (u : Users) : Type 0 where
  pub shown : List Shown
  pub printed : Appends first now (flat_map (shown_text u.dialect) shown)
  pub outcomes_are : outcomes_in shown ≡ u.caller.got
  pub right : All (IsRightPiece u.caller.place.first u.caller.submitted) shown
  pub lines_are : (i : ℕ) (l : ListenerView) → i < length u.listeners.items
      → lines_at i shown ≡ (get_or u.listeners.items i l).heard
  pub under_way : AreUnderWay u.caller.place.first u.caller.submitted u.under_way.items
  pub apart : AreApart u.under_way.items
  pub asked : IsAsked u.caller.place.first u.caller.submitted u.asked
  pub rest : length u.caller.submitted ≡ length u.caller.got + length u.under_way.items + count_asked u.asked
  pub long : length u.counts ≡ 62
  pub counted : (d : ℕ) → d < 62 → slice_index_or u.counts d 0 ≡ count_on d u.caller.submitted

-- each keeps its place at the desk, and the dialect stays
pub record KeepPlaces (old new : Users) : Type 0 where
  pub caller : new.caller.place ≡ old.caller.place
  pub listeners : map subscription_of new.listeners.items ≡ map subscription_of old.listeners.items
  pub dialect : new.dialect ≡ old.dialect

-- each keeps its place, and whatever was printed before, what is printed now goes on from there; where the order of what was
-- submitted was kept, it still is
pub record GoOn (before after : Option (List ℕ)) (old new : Users) : Type 0 where
  pub shows : (first : Option (List ℕ)) → HasShown first before old → HasShown first after new
  pub orders : (first : Option (List ℕ)) → HasShown first before old → KeepsOrder old.channels old.caller
      → KeepsOrder new.channels new.caller
  pub places : KeepPlaces old new

-- the line of this number was under way, and isn't any more
pub record TakesLine (old new : Users) (number : ℕ) (line : UnderWay) : Type 0 where
  pub at : ℕ
  pub within : at < length old.under_way.items
  pub line_is : line ≡ get_or old.under_way.items at line
  pub number_is : line.number ≡ number
  pub under_way : new.under_way.items ≡ take at old.under_way.items ++ drop (at + 1) old.under_way.items
  pub stays : new ≡ record old { under_way = new.under_way }

-- what a line was told was printed, and it isn't under way any more
pub record TellsLine (before after : Option (List ℕ)) (old new : Users) (o : Outcome) : Type 0 where
  pub line : UnderWay
  pub mid : Users
  pub takes : TakesLine old mid o.number line
  pub printed : Appends before after (told_text line.dlci.number line.place o.answer)
  pub stays : new ≡ record mid {
    channels = set mid.channels line.dlci.number (closed_by o.answer (state_at mid.channels line.dlci.number));
  }

-- what is known of the connections once this was asked beside the lines
abbrev pub shut_for : Control → List ChannelState → List ChannelState
shut_for (control.Open d) states = states
shut_for (control.Close d) states = set states d.number (shut_of (state_at states d.number))
shut_for control.Stop states = states

-- and once it was told this
abbrev pub after_control : Control → Answer → List ChannelState → List ChannelState
after_control (control.Open d) a states = set states d.number (opened_by a)
after_control (control.Close d) a states = states
after_control control.Stop a states = states

-- ## What is looked for

-- the listener at this place
abbrev pub listener_at : Users → ℕ → ListenerView → ListenerView
listener_at u i l = get_or u.listeners.items i l

-- The listener at this place took a line; or it knew of none that waits, and knows of none now. Every other one stays.
pub record LooksAt (old new : Users) (place : ℕ) (took : Bool) : Type 0 where
  pub some : took ≡ true → (l : ListenerView) → length (listener_at new place l).heard ≡ length (listener_at old place l).heard + 1
  pub none : took ≡ false → (l : ListenerView) → ((listener_at old place l).seen ≡ []) × ((listener_at new place l).seen ≡ [])
  pub kept : took ≡ false → (l : ListenerView) → (listener_at new place l).heard ≡ (listener_at old place l).heard
  pub others : (i : ℕ) (l : ListenerView) → i ≢ place → listener_at new i l ≡ listener_at old i l
  pub caller : new.caller ≡ old.caller

-- some listener took a line
pub record HeardMore (old new : Users) : Type 0 where
  pub at : ℕ
  pub more : (l : ListenerView) → length (listener_at old at l).heard < length (listener_at new at l).heard

-- some of the first so many listeners took a line; or none of them knew of one that waits, nor does one now
pub record LooksThrough (old new : Users) (count : ℕ) (took : Bool) : Type 0 where
  pub some : took ≡ true → HeardMore old new
  pub none : took ≡ false → (i : ℕ) (l : ListenerView) → i < count → ((listener_at old i l).seen ≡ []) × ((listener_at new i l).seen ≡ [])
  pub others : (i : ℕ) (l : ListenerView) → count ≤ i → listener_at new i l ≡ listener_at old i l
  pub caller : new.caller ≡ old.caller

-- an outcome was taken; or the caller knew of none that waits, and knows of none now
pub record LooksForOutcome (old new : Users) (took : Bool) : Type 0 where
  pub some : took ≡ true → length new.caller.got ≡ length old.caller.got + 1
  pub none : took ≡ false → (old.caller.seen ≡ []) × (new.caller.seen ≡ [])
  pub listeners : new.listeners ≡ old.listeners

-- nobody knows of an outcome or a line that waits
pub record KnowNone (u : Users) : Type 0 where
  pub outcomes : u.caller.seen ≡ []
  pub lines : (i : ℕ) (l : ListenerView) → i < length u.listeners.items → (listener_at u i l).seen ≡ []
