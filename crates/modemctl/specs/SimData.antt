-- What the program does at `sim` where the words name files beside connections: `--data D=PATH`.
use Rattle.std.specs.Prelude.{◌≡◌, ◌⊎◌, ℕ, Bool, true, false, List, [], ◌∷◌, Option, None, Some, codes}
use Rattle.clap.specs.Words.{Row, Text}
use Rattle.modem_data.specs.declared.begin.Begin.TheVariants.{ByOwnConnect}
use Rattle.ctl_sim.specs.DataEnds.{EndsByDataFault, HasServedOpened}
use Rattle.ctl_text.specs.Writing.{IsBegun}
use Rattle.file_threads.specs.declared.data_path.DataPath.{DataPath}
use Rattle.modemctl.specs.Drives.{AreDataPaths, paths_line}
use Rattle.modemctl.specs.Shows.{all_in}
use Rattle.modemctl.specs.Sims.{SaysNotBegun, SimFiles}
use Rattle.modemctl.specs.Words.{AreFor, met_in}

-- there is a text
abbrev pub gives_some : Option (List Text) → Bool
gives_some None = false
gives_some (Some []) = false
gives_some (Some (t ∷ texts)) = true

-- the words name files beside connections
abbrev pub names_files : Option (Text × List Row) → Bool
names_files met = gives_some (all_in met (codes "data"))

-- nothing is wrong with the words, and they are for a modem for a client, with files beside connections or without
abbrev pub AreForSim : (with_files : Bool) → List Text → Type 0
AreForSim with_files words = AreFor (codes "sim") words × (names_files (met_in words) ≡ with_files)

-- A client was served, and calls carried the octets of the files that these texts name. What came of the connections and files is said.
pub record ServesData (given : Option (List Text)) (told_before told_after : Option (List ℕ)) : Type 0 where
  pub data_paths : List DataPath
  pub given_are : AreDataPaths given ByOwnConnect data_paths
  pub served : HasServedOpened data_paths told_before told_after

-- One fault ended it, which is said: the file that one of these texts names can't be had, or another fault, behind what is said of the
-- connections and files.
pub record FailsData (given : Option (List Text)) (told_before told_after : Option (List ℕ)) : Type 0 where
  pub data_paths : List DataPath
  pub given_are : AreDataPaths given ByOwnConnect data_paths
  pub ended : EndsByDataFault data_paths told_before told_after

-- one fault ended it; or it wasn't begun, for a cause that is said, and nothing was written
abbrev pub LeavesData : {O : Type 0} → SimFiles → (given : Option (List Text)) → (old new : O) → (told_before told_after : Option (List ℕ)) → Type 0
LeavesData files given old new told_before told_after =
    ((new ≡ old) × SaysNotBegun files told_before told_after) ⊎ FailsData given told_before told_after

-- it is said what `--data` takes
abbrev pub SaysNoPaths : (told_before told_after : Option (List ℕ)) → Type 0
SaysNoPaths told_before told_after = IsBegun told_before told_after (paths_line (codes "--data takes"))
