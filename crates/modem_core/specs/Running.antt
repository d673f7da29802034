-- What a replay keeps between two events.
use Rattle.std.specs.Prelude.{◌≡◌, ℕ, ◌||◌, ◌==◌, true, false, length, List, [], ◌∷◌, ◌++◌, map, take, None, Some}
use Rattle.std.specs.List.{flat_map}
use Rattle.mux_frame.specs.Frames.{Frame}
use Rattle.mux_frame.specs.Deframing.{Deframing, Deframes}
use Rattle.mux_station.specs.GivenFrames.{with_freshness}
use Rattle.modem_history.specs.Acts.{Act, act_of, Took, Got, Sent, Tick, Lost, Given}
use Rattle.modem_history.specs.Calls.{Setting}
use Rattle.modem_history.specs.Wholes.{UsesOnce, taken_requests}
use Rattle.modem_core.specs.declared.replaying.Running as code
use Rattle.modem_core.specs.declared.event.Event.{Event}
use Rattle.modem_core.specs.declared.event.Event.TheVariants as event
use Rattle.modem_core.specs.Cores.{Core}
use Rattle.modem_core.specs.CoreGoing.{StandsIn}
use Rattle.modem_history.specs.GoingOut.{next_out}
use Rattle.modem_core.specs.Replays.{Piece, acts_in, first_of, with_piece, past_of, IsPiece, ArePieces, BegunBy, octets, requests}

-- ## What goes out

-- control frames are given on, and these data frames sent, one after the other as each is the next
pub data GoesTo (s : Setting) : List Act → List Frame → List Act → Type 0 where
  stays : (past : List Act) → GoesTo s past [] past
  marks : (past last : List Act) (f : Frame) (fs : List Frame)
      → next_out s past ≡ Some (with_freshness false f) → GoesTo s (Given ∷ past) fs last
      → GoesTo s past fs last
  sends : (past last : List Act) (f : Frame) (fs : List Frame)
      → next_out s past ≡ Some (with_freshness true f) → GoesTo s (Sent f ∷ past) fs last
      → GoesTo s past (f ∷ fs) last

-- from a history that the core fitted, data has gone out so far
pub record WentOut (s : Setting) (new : Core) (past : List Act) (fs : List Frame) : Type 0 where
  pub now : List Act
  pub goes : GoesTo s past fs now
  pub stands : StandsIn s new now

-- these data frames have gone out, whatever the history
pub record SendsSome (old new : Core) (before acts : List Act) : Type 0 where
  pub frames : List Frame
  pub acts_are : acts ≡ before ++ map Sent frames
  pub out : (s : Setting) (past : List Act) → StandsIn s old past → WentOut s new past frames

-- frames go out, and then none is left that may
pub record SendsAll (old new : Core) (before acts : List Act) : Type 0 where
  pub some : SendsSome old new before acts
  pub none_left : (s : Setting) (past : List Act) → (h : StandsIn s old past)
      → next_out s (some.out s past h).now ≡ None

-- ## One call and all that goes out then

-- the driver, and all acts so far
pub record Running : Type 0 where
  pub core : Core
  pub acts : List Act

-- what the code keeps between two events, as the definitions see it
abbrev pub running_of : code.Running → Running
running_of r = record { core = r.core; acts = map act_of r.acts.items }

-- the line is lost, or nothing waits in the control queue
unfoldable pub CoreIsIdle : Core → Type 0
CoreIsIdle v = (v.lost || (length v.station.queue == 0)) ≡ true

-- the core stands in the past, and nothing may go out
pub record Drained (s : Setting) (v : Core) (past : List Act) : Type 0 where
  pub stands : StandsIn s v past
  pub none_left : next_out s past ≡ None

-- a piece that begins with this act
pub record Goes (s : Setting) (past : List Act) (a : Act) (old new : Running) : Type 0 where
  pub piece : Piece
  pub first_is : piece.first ≡ a
  pub acts_are : new.acts ≡ old.acts ++ acts_in piece
  pub is_piece : IsPiece s past piece
  pub drained : Drained s new.core (with_piece past piece)

-- one act and all that it leads to, in every setting and past in which no caller uses a number twice
unfoldable pub Steps : Act → Running → Running → Type 0
Steps a old new =
    (s : Setting) (past : List Act) → Drained s old.core past → UsesOnce (taken_requests (a ∷ past))
    → Goes s past a old new

-- frames come, one after the other
pub data StepAll : List Frame → Running → Running → Type 0 where
  none_more : (v : Running) → StepAll [] v v
  one_more : (f : Frame) (fs : List Frame) (old mid new : Running) → Steps (Got f) old mid
      → StepAll fs mid new → StepAll (f ∷ fs) old new

-- ## Events

-- octets are taken by the deframer, and the frames that it hands out then come, one after the other
pub record Hears (x : List ℕ) (d d' : Deframing) (old new : Running) : Type 0 where
  pub frames : List Frame
  pub bound : d'.n1 ≡ d.n1
  pub past : (taken : List ℕ) (handed : List Frame) → Deframes taken handed d
      → Deframes (taken ++ x) (handed ++ frames) d'
  pub come : StepAll frames old new

pub record StepsAlone (a : Act) (d d' : Deframing) (old new : Running) : Type 0 where
  pub steps : Steps a old new
  pub same : d' ≡ d

-- what one event does to deframer and core
abbrev pub HandlesEvent : Event → Deframing → Deframing → Running → Running → Type 0
HandlesEvent (event.Ask q) d d' old new = StepsAlone (Took q) d d' old new
HandlesEvent (event.Octets x) d d' old new = Hears x d d' old new
HandlesEvent event.Tick d d' old new = StepsAlone Tick d d' old new
HandlesEvent event.Lost d d' old new = StepsAlone Lost d d' old new

-- the pieces of the events so far
pub record RunsReplay (s : Setting) (done : List Event) (v : Running) : Type 0 where
  pub pieces : List Piece
  pub joins : flat_map acts_in pieces ≡ v.acts
  pub begins : BegunBy s.n1 [] done (map first_of pieces)
  pub are_pieces : ArePieces s [] pieces
  pub drained : Drained s v.core (past_of [] pieces)
  pub taken_are : taken_requests (past_of [] pieces) ≡ requests done

-- so far the deframer has handed out these frames, and none is at hand
pub record SoFar (s : Setting) (events : List Event) (k : ℕ) (v : Running) (d : Deframing) : Type 0 where
  pub frames : List Frame
  pub deframes : Deframes (octets (take k events)) frames d
  pub idle : d.next ≡ None
  pub bound : d.n1 ≡ s.n1
  pub runs : UsesOnce (requests events) → RunsReplay s (take k events) v
