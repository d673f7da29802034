-- Several connections that carry data, and how they fit what passed.
use Rattle.std.specs.Prelude.{◌≡◌, ◌≢◌, ℕ, ◌+◌, ◌<◌, ◌≤◌, ◌==◌, ◌&&◌, ◌||◌, nat_le, nat_lt, Bool, true, false, List, [], ◌∷◌, length, map, All, Option, Some, None, slice_index_or, if◌then◌else◌}
use Rattle.mux_frame.specs.declared.dlci.Dlci.{Dlci}
use Rattle.mux_station.specs.declared.role.Role.{Role}
use Rattle.mux_frame.specs.Frames.{Frame}
use Rattle.modem_data.specs.declared.switch.LineCut.{LineCut}
use Rattle.modem_data.specs.Switching.{Idle, IsCut, lets_leave}
use Rattle.modem_data.specs.Watching.{may_leave}
use Rattle.modem_data.specs.Passing.{Pass, Left, wire, is_data, carries, given, left, holds, driver_holds, LawfulPasses}
use Rattle.modem_data.specs.Pipes.{Pipe, PipeFits, HasNoneToSend, IsFree, MayLeave, SaysFlow, next_data}

-- which end of the line it is, the pipes, and the place from which on the next is looked for that may send
pub record PipeSet : Type 0 where
  pub role : Role
  pub each : List Pipe
  pub turn : ℕ

-- their connections
abbrev pub connections : List Pipe → List ℕ
connections ps = map (λ p. p.watch.dlci) ps

-- none of them is this one
unfoldable pub NoneOf : List ℕ → ℕ → Type 0
NoneOf ds e = All (λ d. (d == e) ≡ false) ds

-- no two of them are one
unfoldable pub AreApart : List ℕ → Type 0
AreApart ds =
    (i j : ℕ) (x : ℕ) → i < length ds → j < length ds → j ≢ i → (slice_index_or ds j x == slice_index_or ds i x) ≡ false

-- these connections, in their order
abbrev pub numbers : List Dlci → List ℕ
numbers named = map (λ d. d.number) named

-- one of the first so many is this one
pub record IsAmong (ds : List ℕ) (count e : ℕ) : Type 0 where
  pub place : ℕ
  pub there : place < count
  pub here : (x : ℕ) → slice_index_or ds place x ≡ e

-- one is named twice
pub record IsTwice (ds : List ℕ) : Type 0 where
  pub place : ℕ
  pub there : place < length ds
  pub again : (x : ℕ) → IsAmong ds place (slice_index_or ds place x)

-- ## Turns

-- the place behind a connection's
abbrev pub place_behind : List ℕ → ℕ → ℕ
place_behind [] e = 0
place_behind (d ∷ ds) e = if d == e then 1 else place_behind ds e + 1

-- the place behind that of the connection whose data left last
abbrev pub turn_of : List ℕ → List Pass → ℕ
turn_of ds [] = 0
turn_of ds (Left f ∷ past) = place_behind ds f.dlci
turn_of ds (_ ∷ past) = turn_of ds past

-- nothing may leave a connection: it lets none, is shut or stopped, or all that was given has left
abbrev pub NoneLeaves : Role → List Pass → ℕ → Type 0
NoneLeaves role past d = lets_leave (carries role d past) ≡ true → may_leave role d (wire past) ≡ true → left d past ≡ given d past

-- counted from a turn on, and round, one place comes before another
abbrev pub comes_before : (turn one other : ℕ) → Bool
comes_before turn one other =
    if nat_le turn other then nat_le turn one && nat_lt one other else (nat_le turn one || nat_lt one other)

-- it is the turn of a frame's connection: no data may leave any that comes before it
pub record InTurn (role : Role) (ds : List ℕ) (past : List Pass) (f : Frame) : Type 0 where
  pub place : ℕ
  pub there : place < length ds
  pub here : (x : ℕ) → slice_index_or ds place x ≡ f.dlci
  pub none_before : (j x : ℕ) → j < length ds → comes_before (turn_of ds past) j place ≡ true
      → NoneLeaves role past (slice_index_or ds j x)

-- ## Fitting

-- a connection carries no lane, and no MSC but the driver's holds it
pub record IsPlain (role : Role) (e : ℕ) (past : List Pass) : Type 0 where
  pub idle : carries role e past ≡ Idle
  pub held_is : holds role e past ≡ driver_holds role e past

-- the pipes are those of these connections, each once; each fits the past, and every other connection is plain
pub record PipesFit (role : Role) (n1 : ℕ) (ds : List ℕ) (v : PipeSet) (past : List Pass) : Type 0 where
  pub role_is : v.role ≡ role
  pub lawful : LawfulPasses role n1 past
  pub connections_are : connections v.each ≡ ds
  pub apart : AreApart ds
  pub each : All (λ p. PipeFits role n1 p.watch.dlci p past) v.each
  pub others : (e : ℕ) → NoneOf ds e → IsPlain role e past
  pub turn_is : v.turn ≡ turn_of ds past

-- an act leads on, whatever passed before
unfoldable pub AllLead : PipeSet → PipeSet → Pass → Type 0
AllLead old new a = (role : Role) (n1 : ℕ) (ds : List ℕ) (past : List Pass) → PipesFit role n1 ds old past → PipesFit role n1 ds new (a ∷ past)

-- what of a frame that came goes on to the driver: of information of a lane its lines, else all of it
unfoldable pub AllHand : PipeSet → Frame → Option LineCut → Type 0
AllHand v f None = (role : Role) (n1 : ℕ) (ds : List ℕ) (past : List Pass) → PipesFit role n1 ds v past → is_data role f.dlci past f ≡ false
AllHand v f (Some cut) =
    (role : Role) (n1 : ℕ) (ds : List ℕ) (past : List Pass) → PipesFit role n1 ds v past
    → (is_data role f.dlci past f ≡ true) × IsCut cut (carries role f.dlci past) f.info

-- nothing has passed yet
unfoldable pub BeginsAll : Role → List ℕ → PipeSet → Type 0
BeginsAll role ds v = (n1 : ℕ) → PipesFit role n1 ds v []

-- so it is of each past that the pipes fit
unfoldable pub OfEachPast : PipeSet → (Role → List Pass → Type 0) → Type 0
OfEachPast v P = (role : Role) (n1 : ℕ) (ds : List ℕ) (past : List Pass) → PipesFit role n1 ds v past → P role past

-- the connection is none of them
unfoldable pub IsNotData : PipeSet → ℕ → Type 0
IsNotData v e = (role : Role) (n1 : ℕ) (ds : List ℕ) (past : List Pass) → PipesFit role n1 ds v past → NoneOf ds e

-- the connection is one of them
unfoldable pub HasPipe : PipeSet → ℕ → Type 0
HasPipe v e = (role : Role) (n1 : ℕ) (ds : List ℕ) (past : List Pass) → PipesFit role n1 ds v past → IsAmong ds (length ds) e

-- ## Data leaves

-- a frame of data leaves in its turn
unfoldable pub LeavesInTurn : ℕ → PipeSet → PipeSet → Frame → Type 0
LeavesInTurn n1 old new f =
    (role : Role) (ds : List ℕ) (past : List Pass) → PipesFit role n1 ds old past → PipesFit role n1 ds new (Left f ∷ past) × InTurn role ds past f

-- a frame is the next of the pipe at a place
unfoldable pub IsNextFrame : ℕ → PipeSet → (place : ℕ) → Frame → Type 0
IsNextFrame n1 v place f = (p : Pipe) → f ≡ next_data n1 (slice_index_or v.each place p)

-- none of the pipes from one place on, and before another, has any to send
unfoldable pub NonesIn : List Pipe → ℕ → ℕ → Type 0
NonesIn ps from to = (j : ℕ) (p : Pipe) → from ≤ j → j < to → HasNoneToSend (slice_index_or ps j p)

-- the pipe at a place may send, and none that comes before it
pub record IsNext (v : PipeSet) (place : ℕ) : Type 0 where
  pub there : place < length v.each
  pub may : (p : Pipe) → MayLeave (slice_index_or v.each place p)
  pub none_before : (j : ℕ) (p : Pipe) → j < length v.each → comes_before v.turn j place ≡ true
      → HasNoneToSend (slice_index_or v.each j p)

-- the pipe at a place is that of a connection, and free
pub record IsFreeAt (v : PipeSet) (place d : ℕ) : Type 0 where
  pub there : place < length v.each
  pub here : (p : Pipe) → (slice_index_or v.each place p).watch.dlci ≡ d
  pub free : (p : Pipe) → IsFree (slice_index_or v.each place p)

-- ## Flow

-- this is to be said of the flow of one of the pipes
pub record IsFlowOf (ps : List Pipe) (d : ℕ) (go : Bool) : Type 0 where
  pub place : ℕ
  pub there : place < length ps
  pub here : (p : Pipe) → (slice_index_or ps place p).watch.dlci ≡ d
  pub says : (p : Pipe) → SaysFlow (slice_index_or ps place p) (Some go)
