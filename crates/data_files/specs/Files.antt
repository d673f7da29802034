-- A line some of whose connections carry the data of files, as contracts see it. A past is written newest first.
use Rattle.std.specs.Prelude.{◌≡◌, ℕ, ◌+◌, ◌-◌, ◌^◌, ◌≤◌, ◌==◌, Bool, false, List, [], ◌∷◌, ◌++◌, All, length, map, min, take, if◌then◌else◌}
use Rattle.mux_station.specs.declared.role.Role.{Role}
use Rattle.serial_line.specs.LineViews.{LineView}
use Rattle.modem_data.specs.declared.begin.Begin.{Begin}
use Rattle.modem_data.specs.declared.begin.Until.{Until}
use Rattle.modem_data.specs.Passing.{Pass, Began, Gave, Read, to_go}
use Rattle.modem_data.specs.Hops.{Hop, Passed, Relay, passes}
use Rattle.modem_data_line.specs.DataLines.{Before, DataLineState, LineFits, data_view, new_data_line}
use Rattle.modem_data_line.specs.LineLaws.{before_of}

-- a file beside a connection, which is a line of its own
pub record FileState (Y : Type 0) : Type 0 where
  pub dlci : ℕ
  pub how : Begin  -- how its lane begins
  pub until : Until  -- and until when it lasts
  pub renews : Bool  -- it begins anew once it is over and read
  pub file : Y
  pub before : Before  -- what the file had given and taken when it was put beside the connection
  pub ungiven : List ℕ  -- what the file gave, and the connection hasn't taken yet
  pub unwritten : List ℕ  -- what was read of the connection, and the file hasn't taken yet
  pub has_ended : Bool  -- the file gives no more
  pub is_broken : Bool  -- the file takes no more
  pub is_over : Bool  -- the lane is over, and all of its data was read
  pub renewals : ℕ  -- how many lanes began behind the first
  pub dropped : ℕ  -- how many octets lanes took that were over before these left

-- nothing passes between it and its connection yet
abbrev pub new_file : {Y : Type 0} → (look : Y → LineView) → ℕ → (how : Begin) → (until : Until) → Y → FileState Y
new_file look dlci how until file = record {
  dlci = dlci;
  how = how;
  until = until;
  renews = false;
  file = file;
  before = before_of look file;
  ungiven = [];
  unwritten = [];
  has_ended = false;
  is_broken = false;
  is_over = false;
  renewals = 0;
  dropped = 0;
}

-- The same file for another line: what it gave and took before is all but what waits. Its counts begin anew.
abbrev pub again : {Y : Type 0} → (look : Y → LineView) → FileState Y → FileState Y
again look f = record f {
  before = record {
    received = take (length (look f.file).received - length f.ungiven) (look f.file).received;
    sent = (look f.file).sent ++ f.unwritten;
  };
  is_over = false;
  renewals = 0;
  dropped = 0;
}

abbrev pub dlcis : {Y : Type 0} → List (FileState Y) → List ℕ
dlcis files = map (λ f. f.dlci) files

-- a line with its relay, the files, which end of the line it is, N1, and what the line itself had given and taken before
pub record FiledState (X Y : Type 0) : Type 0 where
  pub line : DataLineState X
  pub files : List (FileState Y)
  pub role : Role
  pub n1 : ℕ
  pub before : Before

-- what the driver sees of it as of any line
abbrev pub filed_view : {X Y : Type 0} → FiledState X Y → LineView
filed_view v = data_view v.line

-- what was given to the lanes of d, to one after the other, and what was read of them
abbrev pub all_given : ℕ → List Pass → List ℕ
all_given d [] = []
all_given d (Gave e octets ∷ past) = if e == d then all_given d past ++ octets else all_given d past
all_given d (_ ∷ past) = all_given d past

abbrev pub all_read : ℕ → List Pass → List ℕ
all_read d [] = []
all_read d (Read e octets ∷ past) = if e == d then all_read d past ++ octets else all_read d past
all_read d (_ ∷ past) = all_read d past

-- how many lanes of d began
abbrev pub lanes_begun : ℕ → List Pass → ℕ
lanes_begun d [] = 0
lanes_begun d (Began e how until ∷ past) = if e == d then lanes_begun d past + 1 else lanes_begun d past
lanes_begun d (_ ∷ past) = lanes_begun d past

-- how many octets were given to lanes of d that ended before these left: the next lane doesn't send them
abbrev pub unsent_before : ℕ → List Pass → ℕ
unsent_before d [] = 0
unsent_before d (Began e how until ∷ past) = if e == d then unsent_before d past + to_go d past else unsent_before d past
unsent_before d (_ ∷ past) = unsent_before d past

-- All that the file gave since it was put beside its connection was given to the lanes there, in order, but for what waits; and what was
-- read of them went to the file, in order, but for what waits. No more lanes are counted than began; what was given to lanes and never
-- left is counted, to u64::MAX.
pub record FileFits {Y : Type 0} (look : Y → LineView) (past : List Pass) (f : FileState Y) : Type 0 where
  pub given_are : (look f.file).received ≡ f.before.received ++ (all_given f.dlci past ++ f.ungiven)
  pub read_are : f.before.sent ++ all_read f.dlci past ≡ (look f.file).sent ++ f.unwritten
  pub renewals_are : f.renewals ≤ lanes_begun f.dlci past
  pub dropped_are : f.dropped ≡ min (unsent_before f.dlci past) (2 ^ 64 - 1)

-- The line fits a past in which just the connections of the files may carry data, and each file fits that past too.
pub record HasMoved {X Y : Type 0} (look : X → LineView) (file_look : Y → LineView) (v : FiledState X Y) : Type 0 where
  pub past : List Hop
  pub fits : LineFits look v.role v.n1 (dlcis v.files) v.before v.line past
  pub files : All (FileFits file_look (passes past)) v.files

-- nothing has passed between a file and its connection, and nothing waits
pub record IsFresh {Y : Type 0} (look : Y → LineView) (f : FileState Y) : Type 0 where
  pub before_is : f.before ≡ before_of look f.file
  pub none_waits : f.ungiven ≡ []
  pub none_read : f.unwritten ≡ []
  pub none_renewed : f.renewals ≡ 0
  pub none_dropped : f.dropped ≡ 0

-- behind a past the lane of each file begins, in their order
abbrev pub begun : {Y : Type 0} → List (FileState Y) → List Hop → List Hop
begun [] past = past
begun (f ∷ files) past = begun files (Passed (Began f.dlci f.how f.until) ∷ past)

-- This line has these files, and on it nothing has passed but that each file's lane began.
pub record BeginsFiled {X Y : Type 0} (look : X → LineView) (line : X) (relay : Relay) (n1 : ℕ) (files : List (FileState Y))
    (v : FiledState X Y) : Type 0 where
  pub files_are : v.files ≡ files
  pub role_is : v.role ≡ relay.pipes.role
  pub n1_is : v.n1 ≡ n1
  pub before_is : v.before ≡ before_of look line
  pub line_is : v.line ≡ record (new_data_line line relay) { relay = v.line.relay }
  pub fits : LineFits look v.role n1 (dlcis files) v.before v.line (begun files [])
