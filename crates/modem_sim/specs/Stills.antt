-- What the parts of a turn of a simulated modem did, or why they did nothing.
use Rattle.std.specs.Prelude.{◌≡◌, ◌≢◌, ℕ, ◌<◌, ◌≤◌, ◌==◌, nat_lt, Bool, true, false, List, [], ◌∷◌, ◌++◌, length, Option, Some, None}
use Rattle.std.specs.List.{list_any}
use Rattle.mux_frame.specs.Frames.{Frame}
use Rattle.mux_frame.specs.Spelling as spelling
use Rattle.mux_station.specs.Acts as station
use Rattle.mux_station.specs.Giving.{next_given}
use Rattle.mux_station.specs.Sending.{got_refused}
use Rattle.mux_station.specs.Stations.{seen_in, setting_of}
use Rattle.serial_line.specs.LineViews.{LineView}
use Rattle.modem_sim.specs.Acts.{Act, Wire, End, is_handing}
use Rattle.modem_sim.specs.Cores.{Core, Fits, GoesFrom, HasNoneToDo, HasReleased, IsGivenOn, IsHandedOn, IsLater, SaysNext, Wired, after_wire_act, box_at, holds_over}
use Rattle.modem_sim.specs.Sims.{SimMachine, SimMachineFits, SimState, FitsSim}
use Rattle.modem_sim.specs.Turns.{DoesEach, Exchanges, Exchange, HandsOn, Leaves, NoneIsThere, has_moved, left_of}
use Rattle.modem_history.specs.EveryTurn.{empty_after, stalled_after}
use Rattle.modem_history.specs.Turns.{Offers, Read, ReadHasRoom, Write, calls_made, counted, octets_read, octets_written}

-- a machine still fits whatever past it fitted
abbrev pub SimMachineStays : SimMachine → SimMachine → Type 0
SimMachineStays old new =
    (e : End) (came went : List ℕ) (past : List Act) → SimMachineFits e came went old past
    → SimMachineFits e came went new past

-- all that is said on each open connection is handed to the station, or some octets wait there
abbrev pub AllHanded : Core → Type 0
AllHanded c = (d : ℕ) → d < 62 → IsHandedOn c d

-- octets of a connection are handed to the station, of which there are some
pub record OffersFrom (e : End) (w : Wired) (past : List Act) (d : ℕ) (c : Core) : Type 0 where
  pub octets : List ℕ
  pub some : octets ≢ []
  pub fits : Fits e w c (Wire (station.Called (station.Offer d octets)) ∷ past)

-- octets of a connection are handed to the station, or none
pub data MayOffer (e : End) (w : Wired) (past : List Act) (d : ℕ) (c : Core) : (some : Bool) → Type 0 where
  offers_none : Fits e w c past → MayOffer e w past d c false
  offers_some : OffersFrom e w past d c → MayOffer e w past d c true

-- whatever past an end fits, octets of d were handed to its station
abbrev pub Offering : Core → Core → ℕ → Type 0
Offering old new d = (e : End) (w : Wired) (past : List Act) → Fits e w old past → OffersFrom e w past d new

-- octets of a connection are handed to the station, if any, and then all of it is handed on
pub record HandsOne (e : End) (w : Wired) (past : List Act) (d : ℕ) (c : Core) (some : Bool) : Type 0 where
  pub from : MayOffer e w past d c some
  pub all : IsHandedOn c d

-- octets are handed to the station on one connection, whatever past the end fits; moved says whether any
-- were, or a hold that was over was let go
pub record OffersOn (old new : Core) (d : ℕ) (moved : Bool) : Type 0 where
  pub some : Bool
  pub hands : (e : End) (w : Wired) (past : List Act) → Fits e w old past → HandsOne e w past d new some
  pub lets_go : moved ≡ true → some ≡ false → holds_over new.boxes < holds_over old.boxes
  pub none : moved ≡ false → some ≡ false
  pub no_more : holds_over new.boxes ≤ holds_over old.boxes

-- the boxes of other connections stay
abbrev pub OthersStay : Core → Core → ℕ → Type 0
OthersStay old new d = (n : ℕ) → (d == n) ≡ false → box_at new n ≡ box_at old n

-- octets are handed to the station, if any, and then all is handed on
pub record HandsFrom (e : End) (w : Wired) (past : List Act) (c : Core) (some : Bool) : Type 0 where
  pub from : GoesFrom is_handing e w past c
  pub brings : list_any is_handing from.later.newer ≡ some
  pub all : AllHanded c

-- octets are handed to the station on all connections, whatever past the end fits; moved says whether any
-- were, or a hold that was over was let go
pub record OffersAll (old new : Core) (moved : Bool) : Type 0 where
  pub some : Bool
  pub hands : (e : End) (w : Wired) (past : List Act) → Fits e w old past → HandsFrom e w past new some
  pub lets_go : moved ≡ true → some ≡ false → holds_over new.boxes < holds_over old.boxes
  pub none : moved ≡ false → some ≡ false

-- the past goes on: all is handed to the station, and a frame is given on whose octets are put into the
-- output
pub record PutsFrom (e : End) (came went : List ℕ) (past : List Act) (k : SimMachine) (some : Bool) : Type 0 where
  pub between : List Act
  pub hands : HandsOn e past between
  pub brings : list_any is_handing hands.later.newer ≡ some
  pub now : List Act
  pub frame : Frame
  pub given : IsGivenOn between frame now
  pub out : k.out ≡ spelling.spelled frame
  pub fits : SimMachineFits e came went k now

-- the past goes on: all is handed to the station, and no frame is there
pub record NoneFrom (e : End) (came went : List ℕ) (past : List Act) (k : SimMachine) (some : Bool) : Type 0 where
  pub now : List Act
  pub hands : HandsOn e past now
  pub brings : list_any is_handing hands.later.newer ≡ some
  pub none : NoneIsThere now
  pub out : k.out ≡ []
  pub fits : SimMachineFits e came went k now

-- where all is written the next frame is put into the output, if there is one
pub data Loads (old new : SimMachine) : (some : Bool) → Type 0 where
  some_wait : old.out ≢ [] → new ≡ old → Loads old new false
  puts :
      (some : Bool) → old.out ≡ []
      → ((e : End) (came went : List ℕ) (past : List Act) → SimMachineFits e came went old past
      → PutsFrom e came went past new some)
      → Loads old new some
  puts_none :
      (some : Bool) → old.out ≡ []
      → ((e : End) (came went : List ℕ) (past : List Act) → SimMachineFits e came went old past
      → NoneFrom e came went past new some)
      → Loads old new some

-- no frame is to go out
pub record HasNoneToLoad (k : SimMachine) : Type 0 where
  pub handed : AllHanded k.core
  pub none_next : next_given k.core.station k.core.station.queue ≡ None

-- nothing was to be loaded
pub record LoadsNone (old new : SimMachine) : Type 0 where
  pub same : new ≡ old
  pub none : old.out ≡ [] → HasNoneToLoad old

-- a frame stands ready to be written, or a hold that was over was let go
pub data HasLoaded (old new : SimMachine) : Type 0 where
  ready : length old.out < length new.out → HasLoaded old new
  let_go : new.out ≡ old.out → holds_over new.core.boxes < holds_over old.core.boxes → HasLoaded old new

-- moved says whether octets were handed to the station, or something was loaded
pub record LoadsBy (old new : SimMachine) (moved : Bool) : Type 0 where
  pub some : Bool
  pub loads : Loads old new some
  pub has_loaded : moved ≡ true → some ≡ false → HasLoaded old new
  pub none : moved ≡ false → some ≡ false

-- a frame at hand finds no room at the station
abbrev pub HasNoneToTake : SimMachine → Type 0
HasNoneToTake k =
    (f : Frame) → k.deframer.next ≡ Some f
    → got_refused (setting_of k.core.station) (seen_in k.core.station) f ≢ None

-- the frame at hand is taken, with all that it calls for
pub record TakesFrame (old new : SimMachine) : Type 0 where
  pub frame : Frame
  pub hand : old.deframer.next ≡ Some frame
  pub room : got_refused (setting_of old.core.station) (seen_in old.core.station) frame ≡ None
  pub goes :
      (e : End) (came went : List ℕ) (past : List Act) → SimMachineFits e came went old past
      → SimMachineFits e came went new (after_wire_act e past (station.Got frame))

-- no frame was taken, since there was none or no room for what it calls for
pub record TakesNone (old new : SimMachine) : Type 0 where
  pub same : new ≡ old
  pub none : HasNoneToTake old

-- the deframer took the first of the octets that wait for it, one at least unless a frame is at hand
pub record Feeds (old new : SimMachine) : Type 0 where
  pub stays : SimMachineStays old new
  pub fed : List ℕ
  pub feeds : old.unfed ≡ fed ++ new.unfed
  pub some : new.deframer.next ≡ None → old.unfed ≢ [] → fed ≢ []

-- the deframer took nothing: all was fed, or a frame is at hand
pub record FeedsNone (old new : SimMachine) : Type 0 where
  pub stays : SimMachineStays old new
  pub same_unfed : new.unfed ≡ old.unfed
  pub same_next : new.deframer.next ≡ old.deframer.next
  pub none : old.deframer.next ≡ None → old.unfed ≡ []

-- octets were offered to the line where some waited, and it took so many
pub record Writes (before later : LineView) (old new : SimMachine) (count : ℕ) : Type 0 where
  pub write : Option Write
  pub offers : Offers write (left_of write old.out)
  pub went : later.sent ≡ before.sent ++ octets_written write
  pub none_came : later.received ≡ before.received
  pub calls_are : later.calls ≡ counted before.calls (calls_made write)
  pub stalled_are : later.stalled_writes ≡ stalled_after write before.stalled_writes
  pub empty_stay : later.empty_reads ≡ before.empty_reads
  pub parts : octets_written write ++ left_of write old.out ≡ old.out
  pub count_is : count ≡ length (octets_written write)
  pub kept : new ≡ record old { out = left_of write old.out }
  pub none : old.out ≢ [] → count ≡ 0 → write ≡ Some (record { offered = old.out; count = 0 })

-- the line was read where nothing read waited, and these octets came
pub record ReadsOnce (before later : LineView) (old new : SimMachine) (came : Bool) : Type 0 where
  pub read : Option Read
  pub room : ReadHasRoom read
  pub some_room : (r : Read) → read ≡ Some r → 1 ≤ r.room
  pub reads : old.unfed ≡ [] → read ≢ None
  pub reads_fed : read ≢ None → old.unfed ≡ []
  pub came_are : later.received ≡ before.received ++ octets_read read
  pub none_went : later.sent ≡ before.sent
  pub calls_are : later.calls ≡ counted before.calls (calls_made read)
  pub empty_are : later.empty_reads ≡ empty_after read before.empty_reads
  pub stalled_stay : later.stalled_writes ≡ before.stalled_writes
  pub says : came ≡ nat_lt 0 (length (octets_read read))
  pub kept : new ≡ record old { unfed = old.unfed ++ octets_read read }
  pub none : old.unfed ≡ [] → came ≡ false → read ≡ Some (record { room = 512; octets = [] })

-- what takes memory is left undone: a step, the octets that a hold kept apart, or a frame at hand
pub data LeavesUndone (k : SimMachine) : Type 0 where
  leaves_step : SaysNext k.core → LeavesUndone k
  leaves_octets : HasReleased k.core → LeavesUndone k
  leaves_frame : k.deframer.next ≢ None → LeavesUndone k

-- ## All of them together

-- a machine, at this line
abbrev pub at_line : {X : Type 0} → X → SimMachine → SimState X
at_line line k = record { line = line; machine = k }

-- by all that a turn does, the past goes on to one that the simulated modem fits
pub record WentOn {X : Type 0} (see : X → LineView) (at : LineView) (e : End) (past : List Act) (old new : SimState X)
    (t : Exchange) (moved : Bool) : Type 0 where
  pub now : List Act
  pub later : IsLater past now
  pub fits : FitsSim see at e new now
  pub does : DoesEach e old.machine new.machine t past now
  pub moves : has_moved see old new later.newer ≡ moved

-- nothing was done, and nothing could be
pub record StoodStill (k : SimMachine) (t : Exchange) : Type 0 where
  pub steps : HasNoneToDo k.core
  pub take : HasNoneToTake k
  pub full : k.out ≢ [] → t.write ≡ Some (record { offered = k.out; count = 0 })
  pub rest : k.out ≡ [] → HasNoneToLoad k
  pub reads : k.unfed ≡ [] → t.read ≡ Some (record { room = 512; octets = [] })
  pub waits : k.deframer.next ≡ None → k.unfed ≡ []

-- each part of a turn was done once, and moved says whether anything came of it
pub record GoesOnce {X : Type 0} (see : X → LineView) (old new : SimState X) (moved : Bool) : Type 0 where
  pub exchange : Exchange
  pub exchanges : Exchanges see old new exchange
  pub leaves : Leaves old.machine new.machine exchange
  pub goes :
      (at : LineView) (e : End) (past : List Act) → FitsSim see at e old past
      → WentOn see at e past old new exchange moved
  pub still : moved ≡ false → StoodStill new.machine exchange
