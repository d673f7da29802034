-- What the program says at status 2 of its subcommands, and at status 1 of a drive.
use Rattle.std.specs.Prelude.{◌≡◌, ◌⊎◌, ℕ, Bool, true, List, [], Option, None, Some, codes}
use Rattle.clap.specs.Words.{Row, Text}
use Rattle.ctl_drive.specs.DataDevice.{EndsFilesByFault}
use Rattle.ctl_drive.specs.OnDevice.{EndsByFault}
use Rattle.ctl_run.specs.Dump.{IsNoDump}
use Rattle.ctl_run.specs.LineFaults.{DumpFault, EventFault}
use Rattle.ctl_run.specs.Script.{IsNoOrder}
use Rattle.ctl_run.specs.Statuses.{status_of, stop_lines}
use Rattle.ctl_run.specs.Stopping.{IsBenchStop, IsRunStop}
use Rattle.ctl_run.specs.declared.stop.Stop.{Stop}
use Rattle.ctl_text.specs.Writing.{IsBegun}
use Rattle.ctl_text.specs.declared.expected.Expected.{Expected}
use Rattle.file_threads.specs.declared.data_path.DataPath.{DataPath}
use Rattle.modemctl.specs.Drives.{AreFiles}
use Rattle.modemctl.specs.Files.{IsNoText}
use Rattle.modemctl.specs.Shows.{SaysUnshown}
use Rattle.modemctl.specs.Sims.{SaysNoNumber}
use Rattle.modemctl.specs.Words.{IsGiven, is_set, raw_in}

-- ## Runs over an input

-- it stopped for this cause, of status 2, which is said, with the reason where that is to be explained
pub record StopsBadly (explained : Bool) (IsCause : Stop → Type 0) (before after : Option (List ℕ)) : Type 0 where
  pub stop : Stop
  pub bad : status_of stop ≡ 2
  pub cause : IsCause stop
  pub said : IsBegun before after (stop_lines explained stop)

-- for a cause of a run over its input, with the N1 of the words
pub record StopsRun (explained : Bool) (met : Option (Text × List Row)) (IsBad : List ℕ → Type 0) (Has : List ℕ → Expected → Type 0)
    (input before after : Option (List ℕ)) : Type 0 where
  pub n1 : ℕ
  pub given : IsGiven met (codes "n1") 31 n1
  pub stops : StopsBadly explained (IsRunStop n1 IsBad Has input) before after

-- the same of a bench, with the callers and the cut of the words
pub record StopsBench (explained : Bool) (met : Option (Text × List Row)) (input before after : Option (List ℕ)) : Type 0 where
  pub callers : ℕ
  pub callers_given : IsGiven met (codes "callers") 2 callers
  pub cut : ℕ
  pub cut_given : IsGiven met (codes "cut") 64 cut
  pub stops : StopsBadly explained (IsBenchStop callers cut input) before after

-- a number isn't one, or the dump has a bad line
abbrev pub RefusesFrames : (explained : Bool) (met : Option (Text × List Row)) (input before after : Option (List ℕ)) → Type 0
RefusesFrames explained met input before after = SaysNoNumber before after ⊎ StopsRun explained met IsNoDump DumpFault input before after

-- a number isn't one, the dialect isn't had, or the script has a bad line
abbrev pub RefusesReplay : (explained : Bool) (met : Option (Text × List Row)) (input before after : Option (List ℕ)) → Type 0
RefusesReplay explained met input before after =
    SaysNoNumber before after
    ⊎ (IsNoText explained (codes "dialect") (raw_in met (codes "dialect")) before after 2
    ⊎ StopsRun explained met IsNoOrder EventFault input before after)

-- the dialect isn't had, or the script has a bad line, as the matches of the subcommand have them
abbrev pub RefusesScript : (explained : Bool) (dialect : Option Text) (n1 : ℕ) (input before after : Option (List ℕ)) → Type 0
RefusesScript explained dialect n1 input before after =
    IsNoText explained (codes "dialect") dialect before after 2
    ⊎ StopsBadly explained (IsRunStop n1 IsNoOrder EventFault input) before after

-- a number isn't one, or a line isn't one of a bench
abbrev pub RefusesBench : (explained : Bool) (met : Option (Text × List Row)) (input before after : Option (List ℕ)) → Type 0
RefusesBench explained met input before after = SaysNoNumber before after ⊎ StopsBench explained met input before after

-- ## A capture

-- a number isn't one, the dialect isn't had, or what is read isn't shown to its end; without a file nothing is said
abbrev pub RefusesShow : (dialect raw file : Option Text) (before after : Option (List ℕ)) → Type 0
RefusesShow dialect raw file before after =
    ((file ≡ None) × (after ≡ before)) ⊎ (SaysNoNumber before after ⊎ SaysUnshown dialect raw file before after 2)

-- ## A drive

-- the path of a capture, if there is one
abbrev pub path_or_none : Option Text → Text
path_or_none None = []
path_or_none (Some path) = path

-- a drive of this device, with the capture and the files of these texts, ended by a fault, which is said last
pub data EndsDriven (device : Text) (capture arm : Option Text) (paths texts : Option (List Text)) (before after : Option (List ℕ)) : Type 0 where
  without_files : EndsByFault device (path_or_none capture) before after → EndsDriven device capture arm paths texts before after
  with_files :
      (data_paths : List DataPath) → AreFiles paths texts (is_set arm) data_paths
      → EndsFilesByFault device (path_or_none capture) data_paths before after → EndsDriven device capture arm paths texts before after

-- of the device that the words name
pub record EndsNamed (device capture arm : Option Text) (paths texts : Option (List Text)) (before after : Option (List ℕ)) : Type 0 where
  pub path : Text
  pub path_is : device ≡ Some path
  pub ends : EndsDriven path capture arm paths texts before after

-- the dialect isn't had, or there is another cause to stop before the device is opened; or the drive ended by a fault
abbrev pub SaysUndriven : (dialect device capture arm : Option Text) (paths texts : Option (List Text)) (before after : Option (List ℕ))
    → Type 0
SaysUndriven dialect device capture arm paths texts before after =
    IsNoText true (codes "dialect") dialect before after 1 ⊎ EndsNamed device capture arm paths texts before after
