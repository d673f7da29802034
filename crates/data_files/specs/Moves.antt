-- What moves between a connection that carries data and its file.
use Rattle.std.specs.Prelude.{◌≡◌, ◌≢◌, ◌⊎◌, ◌==◌, ℕ, ◌+◌, ◌-◌, ◌^◌, ◌<◌, ◌≤◌, Bool, true, false, List, [], ◌++◌, drop, length, min, slice_index_or, slice_set}
use Rattle.std.specs.List.{list_all}
use Rattle.mux_station.specs.Opening.{is_open}
use Rattle.mux_station.specs.declared.role.Role.{Role}
use Rattle.serial_line.specs.Counts.{one_more}
use Rattle.serial_line.specs.LineViews.{LineView}
use Rattle.modem_data.specs.DataLanes.{most_to_go}
use Rattle.modem_data.specs.Switching.{is_behind_lines, takes_given}
use Rattle.modem_data.specs.Passing.{Pass, Began, Gave, Read, IsOver, carries, to_go, unread, wire}
use Rattle.modem_data.specs.PipeSets.{IsNotData, OfEachPast, PipeSet}
use Rattle.modem_data.specs.Hops.{Hop, Hops, Passed, Relay, passes}
use Rattle.modem_data_line.specs.DataLines.{Before, DataLineState, LineFits}
use Rattle.data_files.specs.Files.{FileFits, FileState, FiledState, begun, dlcis}

-- octets of data are given or read on this connection, or a lane begins there
abbrev pub is_of_file : ℕ → Hop → Bool
is_of_file d (Passed (Gave e octets)) = e == d
is_of_file d (Passed (Began e how until)) = e == d
is_of_file d (Passed (Read e octets)) = e == d
is_of_file d a = false

-- by some hops, by which no other connection's data is given or read, and no lane of another begins, the one line leads to the other, and
-- the file goes along
pub record FileMoves {X Y : Type 0} (look : X → LineView) (file_look : Y → LineView) (old new : DataLineState X)
    (f g : FileState Y) : Type 0 where
  pub hops : List Hop
  pub only : list_all (is_of_file f.dlci) hops ≡ true
  pub leads : (role : Role) (n1 : ℕ) (ds : List ℕ) (b : Before) (past : List Hop) → LineFits look role n1 ds b old past
      → LineFits look role n1 ds b new (hops ++ past)
  pub dlci_is : g.dlci ≡ f.dlci
  pub fits : (role : Role) (n1 : ℕ) (ds : List ℕ) (b : Before) (past : List Hop) → LineFits look role n1 ds b old past
      → FileFits file_look (passes past) f → FileFits file_look (passes (hops ++ past)) g

-- the first of these octets were given on d, and the others are left
pub record GaveFirst (old new : Relay) (d : ℕ) (before after : List ℕ) : Type 0 where
  pub octets : List ℕ
  pub split : before ≡ octets ++ after
  pub gave : Hops old new (Passed (Gave d octets))

-- Of the octets that wait to be given, the connection took as many as may wait to leave, where it is open and takes them.
abbrev pub GivesOn : PipeSet → ℕ → (before after : List ℕ) → Type 0
GivesOn pipes d before after = IsNotData pipes d ⊎ OfEachPast pipes (λ role past. takes_given (carries role d past) ≡ true → is_open role d (wire past) ≡ true
    → after ≡ drop (min (length before) (most_to_go - to_go d past)) before)

-- d, if it carries data, took so many octets that haven't left
abbrev pub IsUnsent : PipeSet → ℕ → (count : ℕ) → Type 0
IsUnsent pipes d count = IsNotData pipes d ⊎ OfEachPast pipes (λ role past. count ≡ to_go d past)

-- so many are all octets of data that wait to be read, up to 512
unfoldable pub IsUnread : PipeSet → ℕ → (count : ℕ) → Type 0
IsUnread pipes d count = OfEachPast pipes (λ role past. count ≡ min (unread role d past) 512)

-- these were read of d, and stand behind what was there
pub record KeepsOn (old new : Relay) (d : ℕ) (before after : List ℕ) : Type 0 where
  pub octets : List ℕ
  pub kept : after ≡ before ++ octets
  pub read : Hops old new (Passed (Read d octets))

-- as many came behind what was there as one piece of 512 has of what waited
abbrev pub ReadsSome : PipeSet → ℕ → (before after : List ℕ) → Type 0
ReadsSome pipes d before after = OfEachPast pipes (λ role past. length after ≡ length before + min (unread role d past) 512)

-- as many came so, where no data is under way on d
abbrev pub KeepsLeft : PipeSet → ℕ → (before after : List ℕ) → Type 0
KeepsLeft pipes d before after = OfEachPast pipes (λ role past. is_behind_lines (carries role d past) ≡ false
    → length after ≡ length before + min (unread role d past) 512)

-- the lane of a file's connection is over and read, and begins anew; what it took and didn't send is dropped, and counted
pub record Renews {X Y : Type 0} (old new : DataLineState X) (f g : FileState Y) : Type 0 where
  pub kept : ℕ
  pub kept_are : IsUnsent old.relay.pipes f.dlci kept
  pub begins : Hops old.relay new.relay (Passed (Began f.dlci f.how f.until))
  pub beside : new ≡ record old { relay = new.relay }
  pub now_is : g ≡ record f { is_over = false; renewals = one_more f.renewals; dropped = min (f.dropped + kept) (2 ^ 64 - 1) }

-- or nothing is done: it isn't to begin anew, or isn't over and read
abbrev pub StaysOver : Bool → PipeSet → ℕ → Type 0
StaysOver renews pipes d = (renews ≡ false) ⊎ (IsNotData pipes d ⊎ OfEachPast pipes (λ role past. IsOver role d past → ⊥))

-- these were read of d
abbrev pub ReadsOn : PipeSet → ℕ → (octets : List ℕ) → Type 0
ReadsOn pipes d octets = IsNotData pipes d ⊎ IsUnread pipes d (length octets)

-- the data that waits to be read of d is the same behind one line as before, whatever passed
pub record StaysUnread {X : Type 0} (look : X → LineView) (new : DataLineState X) (role : Role) (n1 : ℕ) (ds : List ℕ) (b : Before) (d : ℕ)
    (past : List Hop) : Type 0 where
  pub behind : List Hop
  pub fits : LineFits look role n1 ds b new behind
  pub same : unread role d (passes behind) ≡ unread role d (passes past)

-- that holds of each past
abbrev pub KeepsUnread : {X : Type 0} (look : X → LineView) → (old new : DataLineState X) → ℕ → Type 0
KeepsUnread look old new d = (role : Role) (n1 : ℕ) (ds : List ℕ) (b : Before) (past : List Hop) → LineFits look role n1 ds b old past
    → StaysUnread look new role n1 ds b d past

-- ## A turn

-- a file was asked for octets: it gave some, or had none and that was counted, or gives no more
abbrev pub IsAskedFile : {Y : Type 0} (look : Y → LineView) → (old new : FileState Y) → Type 0
IsAskedFile look old new = (new.has_ended ≡ true)
    ⊎ ((length (look old.file).received < length (look new.file).received) ⊎ (one_more (look old.file).empty_reads ≤ (look new.file).empty_reads))

-- a file was offered octets: it took some, or took none and that was counted, or takes no more
abbrev pub IsOfferedFile : {Y : Type 0} (look : Y → LineView) → (old new : FileState Y) → Type 0
IsOfferedFile look old new = (new.is_broken ≡ true)
    ⊎ ((length (look old.file).sent < length (look new.file).sent) ⊎ (one_more (look old.file).stalled_writes ≤ (look new.file).stalled_writes))

-- a count that stops at u64::MAX doesn't fall
abbrev pub IsKept : (before after : ℕ) → Type 0
IsKept before after = min before (2 ^ 64 - 1) ≤ after

-- Nothing of a file came back: what it gave and took only grows, and so does what was given of it and read for it, and the count of its
-- lanes; and one that gives or takes no more stays so.
pub record FileGrows {Y : Type 0} (look : Y → LineView) (f g : FileState Y) : Type 0 where
  pub came : length (look f.file).received ≤ length (look g.file).received
  pub given : length (look f.file).received + length g.ungiven ≤ length (look g.file).received + length f.ungiven
  pub went : length (look f.file).sent ≤ length (look g.file).sent
  pub read : length (look f.file).sent + length f.unwritten ≤ length (look g.file).sent + length g.unwritten
  pub empty : IsKept (look f.file).empty_reads (look g.file).empty_reads
  pub stalled : IsKept (look f.file).stalled_writes (look g.file).stalled_writes
  pub renewed : IsKept f.renewals g.renewals
  pub ended : f.has_ended ≡ true → g.has_ended ≡ true
  pub broken : f.is_broken ≡ true → g.is_broken ≡ true

-- d is open, takes octets, and has room for some
pub record HasRoom (role : Role) (d : ℕ) (past : List Pass) : Type 0 where
  pub takes : takes_given (carries role d past) ≡ true
  pub open_there : is_open role d (wire past) ≡ true
  pub room : to_go d past < most_to_go

-- Since a line was as it is here, a file had a turn. Where none of its octets waited it was asked for some; where some did, and its
-- connection had room, some more of them were given there. Where none waited for it, and there was data, some was read; where some
-- did, they were offered to it. Where the lane of one that begins anew was over and read, the next began. And nothing of it came back.
pub record HadTurn {X Y : Type 0} (look : X → LineView) (file_look : Y → LineView)
    (role : Role) (n1 : ℕ) (ds : List ℕ) (b : Before) (v : DataLineState X) (f g : FileState Y) : Type 0 where
  pub asked : f.ungiven ≡ [] → f.has_ended ≡ false → IsAskedFile file_look f g
  pub given : f.ungiven ≢ [] → (past : List Hop) → LineFits look role n1 ds b v past → HasRoom role f.dlci (passes past)
      → length (file_look f.file).received + length g.ungiven < length (file_look g.file).received + length f.ungiven
  pub read : f.unwritten ≡ [] → (past : List Hop) → LineFits look role n1 ds b v past → 0 < unread role f.dlci (passes past)
      → length (file_look f.file).sent + length f.unwritten < length (file_look g.file).sent + length g.unwritten
  pub offered : f.unwritten ≢ [] → IsOfferedFile file_look f g
  pub renewed : f.renews ≡ true → (past : List Hop) → LineFits look role n1 ds b v past → IsOver role f.dlci (passes past)
      → one_more f.renewals ≤ g.renewals
  pub grows : FileGrows file_look f g

-- so had each of a line's, which are so now
pub record HadTurns {X Y : Type 0} (look : X → LineView) (file_look : Y → LineView)
    (v : FiledState X Y) (now : List (FileState Y)) : Type 0 where
  pub count : length now ≡ length v.files
  pub dlcis_are : dlcis now ≡ dlcis v.files
  pub each : (i : ℕ) (f : FileState Y) → i < length v.files
      → HadTurn look file_look v.role v.n1 (dlcis v.files) v.before v.line
      (slice_index_or v.files i f) (slice_index_or now i f)

-- at one place the file moved on with the line, and no other changed
pub record MovesAt {X Y : Type 0} (look : X → LineView) (file_look : Y → LineView) (place : ℕ)
    (v w : FiledState X Y) : Type 0 where
  pub file : FileState Y
  pub moves : FileMoves look file_look v.line w.line (slice_index_or v.files place file) file
  pub turn : HadTurn look file_look v.role v.n1 (dlcis v.files) v.before v.line
      (slice_index_or v.files place file) file
  pub files_are : w.files ≡ slice_set v.files place file

-- the lanes of the first so many files began on a line, in order, and nothing else happened to it
pub record HasBegunTo {X Y : Type 0} (look : X → LineView) (files : List (FileState Y)) (old new : DataLineState X) : Type 0 where
  pub leads : (role : Role) (n1 : ℕ) (ds : List ℕ) (b : Before) (past : List Hop) → LineFits look role n1 ds b old past
      → LineFits look role n1 ds b new (begun files past)
  pub same : new ≡ record old { relay = new.relay }
