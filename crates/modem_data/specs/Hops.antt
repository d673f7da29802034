-- What passes a relay between the line and a driver, as octets and as frames. A past is written newest first.
use Rattle.std.specs.Prelude.{◌≡◌, ℕ, ◌==◌, ◌<◌, slice_index_or, Bool, true, false, List, [], ◌∷◌, ◌++◌, length, Option, Some, None, filter_map, flat_map, if◌then◌else◌}
use Rattle.std.specs.List.{list_all}
use Rattle.mux_frame.specs.Frames.{Frame}
use Rattle.mux_station.specs.declared.role.Role.{Role}
use Rattle.mux_station.specs.declared.role.Role.TheVariants.{Initiator}
use Rattle.mux_frame.specs.Spelling.{spelled}
use Rattle.mux_frame.specs.Reading.{Reads}
use Rattle.mux_frame.specs.Deframing.{Deframing, Deframes}
use Rattle.modem_data.specs.Switching.{Carries, released, before_of, behind_of, lines_of}
use Rattle.modem_data.specs.Passing.{Pass, Came, Went, Flowed, Left, Began, Gave, is_data, carries, IsDue}
use Rattle.modem_data.specs.Pipes.{Pipe, HasNoneToSend}
use Rattle.modem_data.specs.PipeSets.{PipeSet, PipesFit, InTurn, IsAmong, IsFreeAt, NoneLeaves, OfEachPast}

-- octets come from the line, or are given to the driver; octets come from the driver, or are given to the line; a frame or
-- octets of data pass
pub data Hop : Type 0 where
  Fed : List ℕ → Hop
  Handed : List ℕ → Hop
  Took : List ℕ → Hop
  Wrote : List ℕ → Hop
  Passed : Pass → Hop

abbrev pub pass_of : Hop → Option Pass
pass_of (Passed a) = Some a
pass_of _ = None

abbrev pub passes : List Hop → List Pass
passes past = filter_map pass_of past

-- ## Octets, in the order in which they came or were given

abbrev pub fed : List Hop → List ℕ
fed [] = []
fed (Fed octets ∷ past) = fed past ++ octets
fed (_ ∷ past) = fed past

abbrev pub handed_over : List Hop → List ℕ
handed_over [] = []
handed_over (Handed octets ∷ past) = handed_over past ++ octets
handed_over (_ ∷ past) = handed_over past

abbrev pub taken : List Hop → List ℕ
taken [] = []
taken (Took octets ∷ past) = taken past ++ octets
taken (_ ∷ past) = taken past

abbrev pub wrote : List Hop → List ℕ
wrote [] = []
wrote (Wrote octets ∷ past) = wrote past ++ octets
wrote (_ ∷ past) = wrote past

-- ## Frames

-- those that came from the line, and those of the driver that went to it
abbrev pub came_of : Hop → List Frame
came_of (Passed (Came f)) = f ∷ []
came_of _ = []

abbrev pub came : List Hop → List Frame
came [] = []
came (a ∷ past) = came past ++ came_of a

abbrev pub went_of : Hop → List Frame
went_of (Passed (Went f)) = f ∷ []
went_of _ = []

abbrev pub went : List Hop → List Frame
went [] = []
went (a ∷ past) = went past ++ went_of a

-- octets of lines, where there are any, in a frame of their own
abbrev pub with_lines : Frame → List ℕ → List Frame
with_lines f [] = []
with_lines f (c ∷ text) = record f { info = c ∷ text } ∷ []

-- the lines of a frame's information: a `>` that was held back, those before a CONNECT line's end or a prompt, and those behind it
abbrev pub line_frames : Carries → Frame → List Frame
line_frames m f = with_lines f (released m f.info) ++ (with_lines f (before_of m f.info) ++ with_lines f (behind_of m f.info))

-- they have all lines, in their order
abbrev pub JoinsLines : Carries → Frame → Type 0
JoinsLines m f = flat_map (λ g. g.info) (line_frames m f) ≡ lines_of m f.info

-- what the driver is due of a frame that comes: its lines where it is information of a lane, else all of it
abbrev pub due : Role → List Pass → Frame → List Frame
due role p f = if is_data role f.dlci p f then line_frames (carries role f.dlci p) f else f ∷ []

abbrev pub for_driver : Role → List Hop → List Frame
for_driver role [] = []
for_driver role (Passed (Came f) ∷ past) = for_driver role past ++ due role (passes past) f
for_driver role (_ ∷ past) = for_driver role past

-- the frames for the line: the driver's, those of data and the relay's own, as they passed
abbrev pub for_line_of : Hop → List Frame
for_line_of (Passed (Went f)) = f ∷ []
for_line_of (Passed (Left f)) = f ∷ []
for_line_of (Passed (Flowed f)) = f ∷ []
for_line_of _ = []

abbrev pub for_line : List Hop → List Frame
for_line [] = []
for_line (a ∷ past) = for_line past ++ for_line_of a

-- ## The laws

-- every frame that the driver's octets hold has gone, a DISC or CLD among them
pub record DriverFirst (n1 : ℕ) (past : List Hop) : Type 0 where
  pub rest : List ℕ
  pub all_went : Reads n1 (taken past) (went past) rest

-- frames of data and of the relay's own leave behind the driver's, and those of data in their connections' turns; lanes
-- begin on these connections alone
abbrev pub AllowsHop : Role → ℕ → List ℕ → List Hop → Hop → Type 0
AllowsHop role n1 ds past (Passed (Left f)) = DriverFirst n1 past × InTurn role ds (passes past) f
AllowsHop role n1 ds past (Passed (Flowed f)) = DriverFirst n1 past
AllowsHop role n1 ds past (Passed (Began d how until)) = IsAmong ds (length ds) d
AllowsHop role n1 ds past _ = Unit {0}

unfoldable pub LawfulHops : Role → ℕ → List ℕ → List Hop → Type 0
LawfulHops role n1 ds [] = Unit {0}
LawfulHops role n1 ds (a ∷ past) = AllowsHop role n1 ds past a × LawfulHops role n1 ds past

-- ## What a relay keeps

pub record Relay : Type 0 where
  pub outer : Deframing
  pub inner : Deframing
  pub pipes : PipeSet
  pub to_driver : List ℕ
  pub to_line : List ℕ

abbrev pub spell : List Frame → List ℕ
spell fs = flat_map spelled fs

-- A relay fits a past: the octets of the line are deframed to the frames that came, those of the driver to the frames that
-- went; what the driver was given, and then what waits for it, are the frames due to it, spelled whole and in order; what
-- the line was given, and then what waits for it, are the frames for it; and its pipes, which are those of these connections,
-- fit what passed.
pub record RelayFits (role : Role) (n1 : ℕ) (ds : List ℕ) (v : Relay) (past : List Hop) : Type 0 where
  pub outer_n1 : v.outer.n1 ≡ n1
  pub inner_n1 : v.inner.n1 ≡ n1
  pub lawful : LawfulHops role n1 ds past
  pub line_in : Deframes (fed past) (came past) v.outer
  pub driver_out : Deframes (taken past) (went past) v.inner
  pub to_driver_is : handed_over past ++ v.to_driver ≡ spell (for_driver role past)
  pub to_line_is : wrote past ++ v.to_line ≡ spell (for_line past)
  pub pipes_fit : PipesFit role n1 ds v.pipes (passes past)

-- ## Calls

-- a hop leads on, whatever passed before
unfoldable pub Hops : Relay → Relay → Hop → Type 0
Hops old new a =
    (role : Role) (n1 : ℕ) (ds : List ℕ) (past : List Hop) → RelayFits role n1 ds old past → RelayFits role n1 ds new (a ∷ past)

-- some frame hops so
pub record HopsBy (old new : Relay) (hop : Frame → Hop) : Type 0 where
  pub frame : Frame
  pub leads : Hops old new (hop frame)

-- nothing has passed this end of the line; or the client's end, which is the initiator's
unfoldable pub BeginsAs : Role → ℕ → List ℕ → Relay → Type 0
BeginsAs role n1 ds v = RelayFits role n1 ds v []

abbrev pub BeginsRelay : ℕ → List ℕ → Relay → Type 0
BeginsRelay n1 ds v = BeginsAs Initiator n1 ds v

-- ## What forces progress

-- every frame that the line's octets hold has come; what of it is the driver's is given or waits
unfoldable pub AllCame : Relay → Type 0
AllCame v = (role : Role) (n1 : ℕ) (ds : List ℕ) (past : List Hop) → RelayFits role n1 ds v past
    → Reads n1 (fed past) (came past) v.outer.undecided

-- nothing may go to the line: no octets wait, every frame of the driver has gone, nothing is to be said of the flow, and no
-- data may leave
pub record IsStill (role : Role) (n1 : ℕ) (past : List Hop) : Type 0 where
  pub all_given : wrote past ≡ spell (for_line past)
  pub first : DriverFirst n1 past
  pub none_due : (d : ℕ) (go : Bool) → ¬ IsDue role d (passes past) go
  pub no_data : (d : ℕ) → NoneLeaves role (passes past) d

unfoldable pub HoldsNothing : Relay → Type 0
HoldsNothing v = (role : Role) (n1 : ℕ) (ds : List ℕ) (past : List Hop) → RelayFits role n1 ds v past → IsStill role n1 past

-- ## Without data

-- frames pass as they come and go: the driver is due each that came, as it came, and the line the driver's alone
pub record PassesAll (role : Role) (past : List Hop) : Type 0 where
  pub to_driver : for_driver role past ≡ came past
  pub to_line : for_line past ≡ went past

-- a relay without connections of data changes no frame, holds none back and adds none
unfoldable pub AddsNothing : Type 0
AddsNothing = (role : Role) (n1 : ℕ) (v : Relay) (past : List Hop) → RelayFits role n1 [] v past → PassesAll role past

-- ## Whole calls

-- by some hops these octets came from the line, and frames of it passed; nothing else happened
abbrev pub is_line_in : Hop → Bool
is_line_in (Fed octets) = true
is_line_in (Passed (Came f)) = true
is_line_in _ = false

pub record LineIn (old new : Relay) (octets : List ℕ) : Type 0 where
  pub hops : List Hop
  pub only : list_all is_line_in hops ≡ true
  pub fed_are : fed hops ≡ octets
  pub leads : (role : Role) (n1 : ℕ) (ds : List ℕ) (past : List Hop) → RelayFits role n1 ds old past
      → RelayFits role n1 ds new (hops ++ past)

-- frames at hand passed: what came before them came
unfoldable pub PassesOn : Relay → Relay → Type 0
PassesOn old new = (first : Relay) (octets : List ℕ) → LineIn first old octets → LineIn first new octets

-- the driver's next frame for the line; or octets wait already, or there is none
pub data DriverOut (old new : Relay) : Type 0 where
  still_there : new ≡ old → DriverOut old new
  driver_out : HopsBy old new (λ f. Passed (Went f)) → DriverOut old new

-- the next frame for the line: the driver's, or one of data; or octets wait already, or there is none
pub data OneOut (old new : Relay) : Type 0 where
  still_out : new ≡ old → OneOut old new
  went_out : HopsBy old new (λ f. Passed (Went f)) → OneOut old new
  flow_out : HopsBy old new (λ f. Passed (Flowed f)) → OneOut old new
  left_out : HopsBy old new (λ f. Passed (Left f)) → OneOut old new

-- these octets went to the line: the first of those that wait, once one frame more was made for it, if none waited; then more, made
-- and gone so; or none went
pub data GoesOut : (old new : Relay) → (octets : List ℕ) → Type 0 where
  wrote_some : (old between new : Relay) (octets : List ℕ) → OneOut old between → Hops between new (Wrote octets) → GoesOut old new octets
  wrote_more : (old between new : Relay) (first more : List ℕ) → GoesOut old between first → GoesOut between new more → GoesOut old new (first ++ more)
  wrote_none : (old new : Relay) → OneOut old new → GoesOut old new []

-- ## Sent without a wait

-- nothing is before data: no octets wait for the line, no frame of the driver's is at hand, and no data waits that may leave
pub record IsClear (v : Relay) : Type 0 where
  pub first : v.inner.next ≡ None
  pub none_wait : (length v.to_line == 0) ≡ true
  pub none_to_send : (j : ℕ) (p : Pipe) → j < length v.pipes.each → HasNoneToSend (slice_index_or v.pipes.each j p)

-- what is given to a connection, whose pipe is at this place, may go to the line at once
pub record IsWayThrough (v : Relay) (place d : ℕ) : Type 0 where
  pub clear : IsClear v
  pub none_due : OfEachPast v.pipes (λ role past. (e : ℕ) (go : Bool) → ¬ IsDue role e past go)
  pub free : IsFreeAt v.pipes place d

-- these octets were given to a connection, and those went to the line behind them; then more, given and gone so; or nothing was done
pub data SendsOut : (old new : Relay) → (d : ℕ) → (gave out : List ℕ) → Type 0 where
  sent : (old between new : Relay) (d : ℕ) (gave out : List ℕ) → Hops old between (Passed (Gave d gave)) → GoesOut between new out → SendsOut old new d gave out
  sent_more : (old between new : Relay) (d : ℕ) (gave out more_gave more_out : List ℕ) → SendsOut old between d gave out → SendsOut between new d more_gave more_out → SendsOut old new d (gave ++ more_gave) (out ++ more_out)
  sent_none : (old : Relay) (d : ℕ) → SendsOut old old d [] []
