-- How a modem with files beside connections ends, and what is said of its files.
use Rattle.std.specs.Prelude.{◌≡◌, ℕ, Bool, true, List, All, Option, codes, flat_map, map}
use Rattle.mux_station.specs.declared.role.Role.TheVariants.{Responder}
use Rattle.serial_line.specs.LineViews.{LineView}
use Rattle.serial_line.specs.StreamLine.{StreamState, stream_view}
use Rattle.ctl_text.specs.Writing.{IsBegun}
use Rattle.modem_data.specs.Hops.{Relay}
use Rattle.data_files.specs.Files.{BeginsFiled, FileState, FiledState, HasMoved, dlcis}
use Rattle.file_threads.specs.DataPaths.{IsFileOf}
use Rattle.file_threads.specs.FileEnds.{FileEnd, IsWritten, SaysEnds, SaysFull, count_texts, ends_texts}
use Rattle.file_threads.specs.Said.{AreSaid}
use Rattle.file_threads.specs.declared.data_path.DataPath.{DataPath}
use Rattle.file_threads.specs.declared.fault.FileFault.{FileFault}
use Rattle.ctl_sim.specs.DataSaying.{SaysUnopened, data_fault_line}
use Rattle.ctl_sim.specs.HeldLine.{HeldState, held_view, new_held}
use Rattle.ctl_sim.specs.declared.data_fault.DataFault.{DataFault}

-- a line in memory with these files, at the modem's end, where nothing has passed but that the lane of each began
pub record BeginsLine {Y : Type 0} (n1 : ℕ) (files : List (FileState Y)) (line : FiledState HeldState Y) : Type 0 where
  pub relay : Relay
  pub begins : BeginsFiled held_view new_held relay n1 files line
  pub role_is : line.role ≡ Responder

-- so many octets of a connection's file lanes took that were over before these left
pub record LaneLoss : Type 0 where
  pub dlci : ℕ
  pub count : ℕ

abbrev pub loss_texts : LaneLoss → List (List ℕ)
loss_texts l = count_texts l.dlci (codes ": not all that its file gave was sent") l.count

abbrev pub losses_texts : List LaneLoss → List (List ℕ)
losses_texts losses = flat_map loss_texts losses

-- where multiplexers began it was said so of connections, and nothing else
pub record SaysUnsent (before after : Option (List ℕ)) : Type 0 where
  pub losses : List LaneLoss
  pub said : AreSaid before after (losses_texts losses)

-- The files, of these connections in order, are beside the line of the last multiplexer, or of none yet: all that a file gave went to its
-- connection's lanes there, in order, but for what waits, and what was read of these went to the file. All that the line took was handed
-- out. What came of each file was said.
pub record EndsFiles {Y : Type 0} (look : Y → LineView) (last : FiledState HeldState Y) (before after : Option (List ℕ)) : Type 0 where
  pub moved : HasMoved held_view look last
  pub written : All IsWritten last.files
  pub handed : last.line.line.taken ≡ (held_view last.line.line).sent
  pub ends_said : SaysEnds last.line.relay.pipes last.files before after

-- what came of files was said, and nothing else
pub record SaysEndings (before after : Option (List ℕ)) : Type 0 where
  pub ends : List FileEnd
  pub said : AreSaid before after (ends_texts ends)

-- A client was served. In the end a line with files of these connections was so, and that was said behind what was said before.
pub record ServedTo {X : Type 0} (named : X → List ℕ) (Ends : X → (before after : Option (List ℕ)) → Type 0) (ds : List ℕ)
    (before after : Option (List ℕ)) : Type 0 where
  pub noted : Option (List ℕ)
  pub unsent_said : SaysUnsent before noted
  pub last : X
  pub named_are : named last ≡ ds
  pub ended : Ends last noted after

-- what was said of connections while a client was served, and of files behind that, and nothing else
pub record SaysFiles (before after : Option (List ℕ)) : Type 0 where
  pub noted : Option (List ℕ)
  pub unsent_said : SaysUnsent before noted
  pub ends_said : SaysEndings noted after

-- The same with a file for each of these paths; and each thread of a file is through.
pub record HasServedOpened (data_paths : List DataPath) (before after : Option (List ℕ)) : Type 0 where
  pub ended : Option (List ℕ)
  pub served : ServedTo (λ (last : FiledState HeldState StreamState). dlcis last.files)
      (EndsFiles stream_view) (map (λ p. p.dlci.number) data_paths) before ended
  pub full : SaysFull true ended after

-- what was said of connections, files and threads, before a fault
pub record SaysOpened (before after : Option (List ℕ)) : Type 0 where
  pub ended : Option (List ℕ)
  pub files : SaysFiles before ended
  pub is_through : Bool
  pub full : SaysFull is_through ended after

-- one fault ended it: the file of one of these paths can't be had; or the fault is said behind what was said of connections and files
pub data EndsByDataFault (data_paths : List DataPath) : (before after : Option (List ℕ)) → Type 0 where
  unopened : (path : List ℕ) (why : FileFault) (before after : Option (List ℕ)) → IsFileOf data_paths path → SaysUnopened path why before after
      → EndsByDataFault data_paths before after
  ended : (why : DataFault) (before between after : Option (List ℕ)) → SaysOpened before between → IsBegun between after (data_fault_line why)
      → EndsByDataFault data_paths before after
