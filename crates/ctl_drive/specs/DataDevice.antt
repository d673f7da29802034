-- A drive on a device, with files beside connections that carry data.
use Rattle.std.specs.Prelude.{◌≡◌, ◌⊎◌, ℕ, Bool, true, false, List, All, Option, None, Result, Ok, Err, IfOk, length}
use Rattle.serial_line.specs.StreamLine.{StreamState, new_stream, stream_view}
use Rattle.serial_line.specs.declared.stream_line.ZeroRead.TheVariants.{Ended}
use Rattle.at_text.specs.Rules.{Rules}
use Rattle.modem_desk.specs.declared.settling.Settled.{Settled}
use Rattle.modem_history.specs.Sessions.{LineView}
use Rattle.mux_capture.specs.Passing.{CaptureState}
use Rattle.data_files.specs.Files.{FileState, FiledState, HasMoved}
use Rattle.data_files.specs.Moves.{HadTurns}
use Rattle.ctl_drive.specs.Asking.{NamesRead}
use Rattle.ctl_drive.specs.CapturedLine.{CapturedState, CapturesAll, captured_line}
use Rattle.ctl_drive.specs.DataDrive.{DroveData}
use Rattle.file_threads.specs.FileEnds.{FileEnd, IsWritten, SaysEnds, ends_texts, full_texts}
use Rattle.file_threads.specs.Said.{AreSaid}
use Rattle.ctl_drive.specs.Saying.{SaysFault, left_texts, path_for}
use Rattle.file_threads.specs.DataPaths.{IsFileOf}
use Rattle.file_threads.specs.declared.data_path.DataPath.{DataPath}
use Rattle.ctl_drive.specs.declared.fault.DriveFault.{DriveFault}
use Rattle.ctl_drive.specs.declared.running.Driven.{Driven}

-- A line with files was driven without a fault. Then each file had a turn, and all that was read of the connections went to the
-- files; what came of each was said. In the end the line is as it is last.
pub record DroveFiles {X Y : Type 0} (look : X → LineView) (file_look : Y → LineView)
    (rules : Rules) (text : List ℕ) (n1 period : ℕ) (line last : X) (files : List (FileState Y))
    (input before after silent said : Option (List ℕ)) (was_bad : Bool) (left : Settled) : Type 0 where
  pub driven : FiledState X Y
  pub named : Option (List ℕ)
  pub drove : DroveData look file_look rules text n1 period line files driven input before after silent named None was_bad left
  pub in_the_end : FiledState X Y
  pub turns : HadTurns look file_look driven in_the_end.files
  pub moved : HasMoved look file_look in_the_end
  pub written : All IsWritten in_the_end.files
  pub last_is : in_the_end.line.line ≡ last
  pub ends_said : SaysEnds in_the_end.line.relay.pipes in_the_end.files named said

-- on some line in the end
pub record DroveFilesWell {X Y : Type 0} (look : X → LineView) (file_look : Y → LineView)
    (rules : Rules) (text : List ℕ) (n1 period : ℕ) (line : X) (files : List (FileState Y))
    (input before after silent said : Option (List ℕ)) (was_bad : Bool) (left : Settled) : Type 0 where
  pub last : X
  pub drove : DroveFiles look file_look rules text n1 period line last files input before after silent
      said was_bad left

-- the same with a capture, which has a packet for each frame that all octets received, and all sent, are read as
pub record DroveFilesCaptured {X Y : Type 0} (look : X → LineView) (file_look : Y → LineView)
    (rules : Rules) (text : List ℕ) (n1 period : ℕ) (line : X) (files : List (FileState Y))
    (input before after silent said : Option (List ℕ)) (was_bad : Bool) (left : Settled) : Type 0 where
  pub first : CaptureState
  pub last : CapturedState X
  pub drove : DroveFiles (λ l. look l.line) file_look rules text n1 period
      (captured_line line first) last files input before after silent said was_bad left
  pub captures : CapturesAll (look last.line).received (look last.line).sent last.capture

-- with a capture where one is wanted
abbrev pub DroveFilesLine : (captures : Bool) {X Y : Type 0} (look : X → LineView) (file_look : Y → LineView)
    (rules : Rules) (text : List ℕ) (n1 period : ℕ) (line : X) (files : List (FileState Y))
    (input before after silent said : Option (List ℕ)) (was_bad : Bool) (left : Settled) → Type 0
DroveFilesLine false look file_look rules text n1 period line files input before after silent said was_bad left =
    DroveFilesWell look file_look rules text n1 period line files input before after silent said was_bad left
DroveFilesLine true look file_look rules text n1 period line files input before after silent said was_bad left =
    DroveFilesCaptured look file_look rules text n1 period line files input before after silent said was_bad left

-- ## On a device

-- A line between two rings, on which nothing had happened, was driven so, and files between rings with it.
abbrev pub DroveFilesDevice : (captures : Bool) (rules : Rules) (text : List ℕ) (n1 period : ℕ) (files : List (FileState StreamState))
    (before after silent said : Option (List ℕ)) (was_bad : Bool) (left : Settled) → Type 0
DroveFilesDevice captures rules text n1 period files before after silent said was_bad left =
    DroveFilesLine captures stream_view stream_view rules text n1 period
    (new_stream None None Ended) files None before after silent said was_bad left

-- ## How it ends

-- a drive that came to this came to that: where threads had more to write there is a fault
abbrev pub EndsWith : (is_written : Bool) → Result Driven DriveFault → Result Driven DriveFault → Type 0
EndsWith is_written (Ok driven) ended = IfOk ended (λ d. (d.was_bad ≡ driven.was_bad) × (d.left ≡ driven.left)
    × (d.fault ≡ None → (driven.fault ≡ None) × (is_written ≡ true)))
EndsWith is_written (Err why) ended = ended ≡ Err why

-- A device was driven so with files, without a fault. What came of each file was said behind the bad lines, and then how many requests
-- were left, if any were.
pub record RanFiles (captures : Bool) (rules : Rules) (text : List ℕ) (n1 period : ℕ) (files : List (FileState StreamState))
    (before after silent said : Option (List ℕ)) (was_bad : Bool) : Type 0 where
  pub left : Settled
  pub ended : Option (List ℕ)
  pub drove : DroveFilesDevice captures rules text n1 period files before after silent ended was_bad left
  pub left_said : AreSaid ended said (left_texts (length left.left.items))

-- The bad ones of the lines that were read were named, and what came of files was said, and which have more to write; then it was said
-- how many requests were left, if any were, and then why the drive ended.
pub record EndsFilesByFault (device capture : List ℕ) (data_paths : List DataPath) (silent said : Option (List ℕ)) : Type 0 where
  pub named : Option (List ℕ)
  pub names : NamesRead None silent named
  pub ends : List FileEnd
  pub ended : Option (List ℕ)
  pub ends_said : AreSaid named ended (ends_texts ends)
  pub full : List ℕ
  pub filled : Option (List ℕ)
  pub full_said : AreSaid ended filled (full_texts full)
  pub left : ℕ
  pub between : Option (List ℕ)
  pub left_said : AreSaid filled between (left_texts left)
  pub at : List ℕ
  pub at_is : (at ≡ device) ⊎ IsFileOf data_paths at
  pub why : DriveFault
  pub fault : SaysFault (path_for at capture why) why between said
