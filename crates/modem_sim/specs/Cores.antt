-- What a simulated modem's end keeps, and the pasts that it fits.
use Rattle.std.specs.Prelude.{◌≡◌, ◌≢◌, ℕ, ◌+◌, ◌-◌, ◌^◌, ◌<◌, ◌≤◌, ◌==◌, ◌&&◌, ◌||◌, not, Bool, true, false, List, [], ◌∷◌, ◌++◌, None, Some, length, map, filter, min, slice_index_or, slice_set, if◌then◌else◌}
use Rattle.std.specs.List.{list_all}
use Rattle.mux_frame.specs.Frames.{Frame}
use Rattle.mux_station.specs.Acts as station
use Rattle.mux_station.specs.Stations as stations
use Rattle.mux_station.specs.Fitting as fitting
use Rattle.mux_station.specs.Sending as sending
use Rattle.mux_station.specs.States.{is_opened}
use Rattle.mux_station.specs.Giving.{station_after, next_given}
use Rattle.mux_station.specs.declared.noted.Noted.{Noted}
use Rattle.mux_station.specs.declared.noted.Noted.TheVariants.{AllClosed}
use Rattle.mux_frame.specs.declared.frame.Kind.TheVariants.{Sabm}
use Rattle.mux_station.specs.Written.{is_on, is_data_frame}
use Rattle.mux_station.specs.Messages.{cld, brings_command}
use Rattle.serial_line.specs.Counts.{saturated}
use Rattle.at_text.specs.Lines.{lines, kept_run}
use Rattle.modem_sim.specs.Laws.{after_lines}
use Rattle.modem_sim.specs.Pieces.{pieces_octets, replies}
use Rattle.modem_sim.specs.Outboxes.{any_call}
use Rattle.modem_sim.specs.declared.script.Step.{Step}
use Rattle.modem_sim.specs.declared.script.StepAct.{StepAct}
use Rattle.modem_sim.specs.declared.script.StepAct.TheVariants.{Announce, Hold, CloseDown}
use Rattle.modem_sim.specs.declared.state.ModemState.{ModemState}
use Rattle.modem_sim.specs.Acts.{Act, Wire, End, setting, wire}
use Rattle.modem_sim.specs.Heard.{heard, modem_after}
use Rattle.modem_sim.specs.Boxes.{Box, fresh_box, FitsOpen, Brought, box_turned, box_heard, box_announced, box_holding, is_released}
use Rattle.modem_sim.specs.Doing.{acts, call_of, call_owed, left, named_by, is_closed_down}
use Rattle.modem_sim.specs.Histories.{EachAllowed, got, sent}

-- What an end keeps: its station, its modem, whether it repeats commands, what it keeps of each connection, how many
-- lines came (a count that stops at u64::MAX), the steps that are left, and whether it has closed down.
pub record Core : Type 0 where
  pub station : stations.Station
  pub modem : ModemState
  pub echo : Bool
  pub boxes : List Box
  pub come : ℕ
  pub steps : List Step
  pub closed : Bool

-- steps without those that are passed over
abbrev pub that_act : List Step → List Step
that_act steps = filter (λ (s : Step). acts s.act) steps

-- what is kept of d
abbrev pub box_at : Core → ℕ → Box
box_at c d = slice_index_or c.boxes d fresh_box

-- the frames that came to it, and those that it gave on to the line
pub record Wired : Type 0 where
  pub came : List Frame
  pub gone : List Frame

-- no frame has come or gone
abbrev pub nothing_wired : Wired
nothing_wired = record { came = []; gone = [] }

-- an end fits a past, in which these frames came and went
pub record Fits (e : End) (w : Wired) (c : Core) (past : List Act) : Type 0 where
  pub setting_is : stations.setting_of c.station ≡ setting e
  pub echo_is : c.echo ≡ e.echo
  pub station_is : fitting.StationFits c.station (wire past)
  pub lawful : sending.StationLawful (setting e) (wire past)
  pub complete : sending.StationComplete (setting e) (wire past)
  pub allowed : EachAllowed e past
  pub free : call_owed past ≡ None
  pub modem_is : modem_after e past ≡ c.modem
  pub boxes_are : (d : ℕ) → d < 62 → FitsOpen e d past (box_at c d)
  pub come_is : saturated (length (heard past)) ≡ c.come
  pub left_is : left e past ≡ that_act c.steps
  pub closed_is : is_closed_down past ≡ c.closed
  pub came_are : got past ≡ w.came
  pub gone_are : sent past ≡ w.gone ++ c.station.queue

-- a past that went on
pub record IsLater (past now : List Act) : Type 0 where
  pub newer : List Act
  pub joins : newer ++ past ≡ now

-- an end fits what the past went on to by acts of a kind
pub record GoesFrom (may : Act → Bool) (e : End) (w : Wired) (past : List Act) (c : Core) : Type 0 where
  pub now : List Act
  pub later : IsLater past now
  pub only : list_all may later.newer ≡ true
  pub fits : Fits e w c now

-- whatever past it fits, an end goes on by acts of a kind to one that it fits
abbrev pub Goes : (Act → Bool) → Core → Core → Type 0
Goes may old new = (e : End) (w : Wired) (past : List Act) → Fits e w old past → GoesFrom may e w past new

-- ## A frame that comes

-- the past with a frame that comes, and the frames that it calls for
abbrev pub wire_after : List Frame → List Act → List Act
wire_after [] past = past
wire_after (f ∷ fs) past = wire_after fs (Wire (station.Sent f) ∷ past)

abbrev pub after_wire_act : End → List Act → station.Act → List Act
after_wire_act e past a = wire_after (sending.called_frames (setting e) (wire past) a) (Wire a ∷ past)

-- whatever past an end fits, it fits that past with the frame behind it and all that the frame calls for
abbrev pub EndGoesOn : Core → Core → Frame → Type 0
EndGoesOn old new f =
    (e : End) (w : Wired) (past : List Act) → Fits e w old past
    → Fits e (record w { came = w.came ++ f ∷ [] }) new (after_wire_act e past (station.Got f))

-- the octets that a frame brings to an open connection
abbrev pub octets_in : Core → Frame → List ℕ
octets_in c f =
    if is_data_frame f && is_opened (stations.channel_at c.station f.dlci).state then f.info else []

-- the lines that end in a frame
abbrev pub lines_in : Core → Frame → List (List ℕ)
lines_in c f = lines ((box_at c f.dlci).run ++ octets_in c f)

-- what a frame brings to its connection
abbrev pub brought : Core → Frame → Brought
brought c f = record {
  run = kept_run ((box_at c f.dlci).run ++ octets_in c f);
  said = pieces_octets (replies c.echo c.modem (lines_in c f));
  calls = any_call c.modem (lines_in c f);
}

-- the frame opens its connection: a SABM on 0, or while 0 is open
abbrev pub opens_in : Core → Frame → Bool
opens_in c f = is_on Sabm f.dlci f && ((f.dlci == 0) || is_opened (stations.channel_at c.station 0).state)

-- the frame closes the multiplexer down: a CLD while 0 is open
abbrev pub closes_in : Core → Frame → Bool
closes_in c f = is_opened (stations.channel_at c.station 0).state && brings_command cld f

-- what was noted says that all connections closed
abbrev pub closes_all : Noted → Bool
closes_all AllClosed = true
closes_all _ = false

-- so many lines ended on this connection: holds that wait for them are over
abbrev pub counted_in : Core → ℕ → ℕ → Core
counted_in c d count = record c { boxes = map (box_heard d count) c.boxes; come = saturated (c.come + count) }

-- the end with this modem and this box of a connection, on which so many lines ended
abbrev pub kept_in : Core → ℕ → ModemState → Box → ℕ → Bool → Core
kept_in c d m b count closes =
    counted_in (record c { modem = m; boxes = slice_set c.boxes d b; closed = c.closed || closes }) d count

-- an end takes a frame: its station does, its modem executes the lines, and its connection keeps what it
-- brought
pub record Takes (old new : Core) (f : Frame) : Type 0 where
  pub at_station : fitting.StationHandles old.station new.station (station.Got f)
  pub modem_is : new.modem ≡ after_lines old.modem (lines_in old f)
  pub echo_is : new.echo ≡ old.echo
  pub boxes_are :
      new.boxes
      ≡ map (box_heard f.dlci (length (lines_in old f)))
      (slice_set old.boxes f.dlci (box_turned (opens_in old f) true (brought old f) (box_at old f.dlci)))
  pub come_is : new.come ≡ saturated (old.come + length (lines_in old f))
  pub steps_are : new.steps ≡ old.steps
  pub closed_is : new.closed ≡ (old.closed || closes_in old f)

-- ## What is handed to the station

-- the end with this box of a connection
abbrev pub boxed : Core → ℕ → Box → Core
boxed c d b = record c { boxes = slice_set c.boxes d b }

-- all of an open connection's octets are handed on, or its send ring has some; and no hold is over there
pub record IsHanded (c : Core) (d : ℕ) : Type 0 where
  pub unsent : (d == 0) ≡ false → (stations.channel_at c.station d).waiting ≡ [] → (box_at c d).unsent ≡ []
  pub released : is_released (box_at c d).hold ≡ false

-- if d is open, all of its octets are handed on
abbrev pub IsHandedOn : Core → ℕ → Type 0
IsHandedOn c d = is_opened (stations.channel_at c.station d).state ≡ true → IsHanded c d

-- ## What goes out

-- the end after the next frame has gone out
abbrev pub gone_on : Core → Core
gone_on c = record c { station = station_after c.station c.station.queue }

-- a frame is given on: the first that waits in the control queue; where none waits, one that is sent now
pub data IsGivenOn (past : List Act) (f : Frame) : (now : List Act) → Type 0 where
  from_queue :
      (later : List Frame) → sending.queue (wire past) ≡ f ∷ later → IsGivenOn past f (Wire station.Given ∷ past)
  sent_now : sending.queue (wire past) ≡ [] → IsGivenOn past f (Wire (station.Sent f) ∷ past)

-- an end fits the past with a frame that it gives on
pub record GivesFrom (e : End) (w : Wired) (past : List Act) (f : Frame) (c : Core) : Type 0 where
  pub now : List Act
  pub given : IsGivenOn past f now
  pub fits : Fits e (record w { gone = w.gone ++ f ∷ [] }) c now

-- whatever past an end fits, it goes on with the frame that it gives on
abbrev pub GivesOut : Core → Type 0
GivesOut c =
    (f : Frame) → next_given c.station c.station.queue ≡ Some f → (e : End) (w : Wired) (past : List Act)
    → Fits e w c past → GivesFrom e w past f (gone_on c)

-- ## Steps

-- the boxes after a step, which says or holds back something on a connection
abbrev pub boxes_done : StepAct → List Box → List Box
boxes_done (Announce d line) boxes =
    slice_set boxes d.number (box_announced line (slice_index_or boxes d.number fresh_box))
boxes_done (Hold d e) boxes =
    slice_set boxes d.number (box_holding e.number (slice_index_or boxes d.number fresh_box))
boxes_done _ boxes = boxes

-- the step closes the multiplexer down
abbrev pub closes_by : StepAct → Bool
closes_by CloseDown = true
closes_by _ = false

-- what the station makes of a step: nothing, or the call, which it takes
pub data AtStation (old new : stations.Station) (act : StepAct) : Type 0 where
  asks_nothing : call_of act ≡ None → new ≡ old → AtStation old new act
  asks :
      (call : station.Call) → call_of act ≡ Some call
      → sending.refused (stations.setting_of old) (stations.seen_in old) call ≡ None
      → fitting.StationHandles old new (station.Called call)
      → AtStation old new act

-- the connections that a step names are open
abbrev pub are_open_in : stations.Station → StepAct → Bool
are_open_in v act = list_all (λ d. is_opened (stations.channel_at v d).state) (named_by act)

-- it announces nothing in a call
abbrev pub are_free_in : List Box → StepAct → Bool
are_free_in boxes (Announce d line) = not (slice_index_or boxes d.number fresh_box).through
are_free_in boxes _ = true

-- the station refuses what a step asks of it
pub record Refuses (v : stations.Station) (act : StepAct) : Type 0 where
  pub call : station.Call
  pub asked : call_of act ≡ Some call
  pub refused : sending.refused (stations.setting_of v) (stations.seen_in v) call ≢ None

-- why a step isn't done yet: more lines have to come, a connection that it names isn't open, or is in a call, or the station
-- refuses what it asks
pub data Waits (c : Core) (step : Step) : Type 0 where
  for_lines : c.come < step.after → step.after < 2 ^ 64 → Waits c step
  for_openings : are_open_in c.station step.act ≡ false → Waits c step
  for_calls : are_free_in c.boxes step.act ≡ false → Waits c step
  for_room : Refuses c.station step.act → Waits c step

-- no step can be done: none is left, or the next one isn't passed over and waits
pub data HasNoneToDo (c : Core) : Type 0 where
  none_left : c.steps ≡ [] → HasNoneToDo c
  waits :
      (step : Step) (later : List Step) → c.steps ≡ step ∷ later → acts step.act ≡ true → Waits c step
      → HasNoneToDo c

-- some steps were done or passed over
pub record HasPassed (old new : Core) : Type 0 where
  pub passed : List Step
  pub joins : old.steps ≡ passed ++ new.steps

-- ## What takes memory

-- the next step may be done, and says or holds back something: it asks nothing of the station
pub record SaysNext (c : Core) : Type 0 where
  pub step : Step
  pub later : List Step
  pub is_first : c.steps ≡ step ∷ later
  pub is_done : acts step.act ≡ true
  pub come : step.after ≤ c.come
  pub open_are : are_open_in c.station step.act ≡ true
  pub free : are_free_in c.boxes step.act ≡ true
  pub asks_nothing : call_of step.act ≡ None

-- on an open connection a hold is over, and what it held back is still kept apart
pub record HasReleased (c : Core) : Type 0 where
  pub dlci : ℕ
  pub small : dlci < 62
  pub opened : is_opened (stations.channel_at c.station dlci).state ≡ true
  pub released : is_released (box_at c dlci).hold ≡ true

-- ## Holds that are over

-- a hold is over, and isn't let go yet
abbrev pub over : Box → ℕ
over b = if is_released b.hold then 1 else 0

-- on how many connections a hold is over, and what it held back is still kept apart
abbrev pub holds_over : List Box → ℕ
holds_over [] = 0
holds_over (b ∷ boxes) = over b + holds_over boxes
