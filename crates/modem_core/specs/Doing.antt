-- What a call of the core does, and its acts, read off that.
use Rattle.std.specs.Prelude.{◌≡◌, ℕ, ◌+◌, ◌<◌, ◌≤◌, Bool, true, false, List, [], ◌∷◌, ◌++◌, length, map, take, drop, find, Option, Some, None, option_map}
use Rattle.mux_frame.specs.Frames.{Frame}
use Rattle.modem_desk.specs.declared.request.Ask.{Ask}
use Rattle.modem_desk.specs.declared.request.Ask.TheVariants.{CloseChannel, Stop}
use Rattle.modem_desk.specs.declared.request.Answer.{Answer}
use Rattle.modem_desk.specs.declared.request.Request.{Request}
use Rattle.modem_desk.specs.declared.request.Outcome.{Outcome}
use Rattle.modem_history.specs.Limits.{most_in_hand}
use Rattle.modem_history.specs.Acts.{Act, Took, Sent, Told, act_of}
use Rattle.modem_history.specs.Turns.{outcomes_told, lines_heard}
use Rattle.modem_core.specs.ActLists.{ActList}
use Rattle.modem_history.specs.Calls.{Setting}
use Rattle.modem_core.specs.Cores.{Core, Handles, MayCome}
use Rattle.modem_queues.specs.Stops.{asker_of, is_answered, is_stop}
use Rattle.modem_core.specs.Holding.{KeepsHeld}
use Rattle.modem_core.specs.Receiving.{cut_to}
use Rattle.modem_core.specs.TakenActs.{taken_acts}
use Rattle.modem_core.specs.Telling.{told_to, Telling}
use Rattle.modem_core.specs.WaitingLists.{WaitingLists, Keeps}
use Rattle.modem_queues.specs.declared.asker.Asker.{Asker}

-- ## The acts

-- the frames queued since
abbrev pub new_frames : (old new : Core) → List Frame
new_frames old new = drop (length old.station.queue) new.station.queue

-- the acts of a call: its first, the frames queued since, and what was told
abbrev pub acts_since : Act → (old new : Core) → List Outcome → List Act
acts_since a old new told = a ∷ (map Sent (new_frames old new) ++ map Told told)

-- the first of them, at most so many, each with at most so much of its information
abbrev pub first_frames : (most room : ℕ) → (old new : Core) → List Frame
first_frames most room old new = map (cut_to room) (take most (new_frames old new))

-- after every past in which the act may come, those are all that was queued, and they are whole
unfoldable pub QueuesAtMost : (most room : ℕ) → (old new : Core) → Act → Type 0
QueuesAtMost most room old new a =
    (s : Setting) (past : List Act) → MayCome s old past a → first_frames most room old new ≡ new_frames old new

-- outcomes wait behind those that waited, where all are 128 at most
abbrev pub Adds : (was now told : List Outcome) → Type 0
Adds was now told = length was + length told ≤ 128 → now ≡ was ++ told

-- the asker of the Stop in hand, if there is one
abbrev pub stop_in : Core → Option Asker
stop_in v = option_map asker_of (find is_stop v.hand)

-- A call with this first act: the core handles it, what it told waits behind what waited, and `answered` says whether
-- the Stop that was in hand has ended by it
pub record Does (old new : Core) (was now : List Outcome) (a : Act) (answered : Bool) : Type 0 where
  pub told : List Outcome
  pub few : length told ≤ length old.hand
  pub past : Handles old new a (acts_since a old new told)
  pub holds : KeepsHeld old new a (acts_since a old new told)
  pub adds : Adds was now told
  pub answered_is : answered ≡ is_answered (stop_in old) (acts_since a old new told)

-- a request was taken on: what it asks for waits in the control queue, and what others were told for it waits behind
-- what waited
pub record AsksOn (old new : Core) (was now : List Outcome) (q : Request) : Type 0 where
  pub told : List Outcome
  pub few : length told ≤ length old.hand
  pub past : Handles old new (Took q) (taken_acts q None ++ map Told told)
  pub adds : Adds was now told

-- others in hand may be told for it: it closes a connection, or all
abbrev pub tells_others : Ask → Bool
tells_others (CloseChannel d) = true
tells_others Stop = true
tells_others _ = false

-- a request was taken: it is to be told this at once, or else it was taken on
abbrev pub Asks : (old new : Core) → (was now : List Outcome) → Request → Option Answer → Type 0
Asks old new was now q None = AsksOn old new was now q
Asks old new was now q (Some why) = Handles old new (Took q) (taken_acts q (Some why)) × (now ≡ was)

-- a request asks for this, and may be taken on: the line isn't lost, and there is room in hand
pub record MayTake (v : Core) (q : Request) (a : Ask) : Type 0 where
  pub asks : q.ask ≡ a
  pub live : v.lost ≡ false
  pub few : length v.hand < most_in_hand

-- a request was taken, and nobody else is told anything for it: it is to be told this at once, or else it was taken on
pub record AsksAlone (old new : Core) (q : Request) (answer : Option Answer) : Type 0 where
  pub past : Handles old new (Took q) (taken_acts q answer)
  pub lanes : new.lanes ≡ old.lanes
  pub n1 : new.station.n1 ≡ old.station.n1

-- a request was taken, which others may be told for; the lanes and N1 stay
pub record Asked (old new : Core) (was now : List Outcome) (q : Request) (answer : Option Answer) : Type 0 where
  pub asks : Asks old new was now q answer
  pub lanes : new.lanes ≡ old.lanes
  pub n1 : new.station.n1 ≡ old.station.n1

-- a request was taken, by some acts, which announce no line; what they tell waits behind what waited
pub record Takes (old new : Core) (was now : List Outcome) (q : Request) : Type 0 where
  pub acts : List Act
  pub past : Handles old new (Took q) acts
  pub holds : KeepsHeld old new (Took q) acts
  pub adds : Adds was now (outcomes_told acts)
  pub unheard : lines_heard acts ≡ []

-- data of an open connection: the core handles it by some acts, which end no Stop, and what they tell and announce waits behind
-- what waited
pub record GetsData (old new : Core) (was now : WaitingLists) (a : Act) : Type 0 where
  pub acts : List Act
  pub past : Handles old new a acts
  pub holds : KeepsHeld old new a acts
  pub keeps : Keeps was now acts
  pub answered_is : is_answered (stop_in old) acts ≡ false

-- ## While requests are told

-- the outcomes that requests are told
abbrev pub outcomes_to : (Ask → Option Answer) → List Request → List Outcome
outcomes_to says rs = outcomes_told (map act_of (told_to says rs))

-- while they are told one after the other, those told so far wait behind those that waited
pub record TellingOn (says : Ask → Option Answer) (stop : Option Asker) (place : ℕ) (hand hand0 : List Request)
    (told told0 : List Outcome) (answered : Bool) : Type 0 where
  pub acts : ActList
  pub telling : Telling says place hand hand0 acts (record { acts = []; left = length hand0 })
  pub answered_is : answered ≡ is_answered stop (map act_of acts.acts)
  pub told_is : length told0 + length (outcomes_to says hand0) ≤ 128 → told ≡ told0 ++ outcomes_told (map act_of acts.acts)
