-- The files beside connections that carry data, by their paths.
use Rattle.std.specs.Prelude.{◌≡◌, ◌<◌, ℕ, Bool, List, None, length, map, slice_index_or}
use Rattle.serial_line.specs.StreamLine.{StreamState, new_stream, stream_view}
use Rattle.serial_line.specs.declared.stream_line.ZeroRead.TheVariants.{Ended}
use Rattle.modem_data.specs.declared.begin.Until.TheVariants.{Close}
use Rattle.data_files.specs.Files.{FileState, new_file}
use Rattle.file_threads.specs.declared.data_path.DataPath.{DataPath}

-- a file beside a connection, between two rings, at which nothing has passed; its connection carries one lane after the other where it renews
abbrev pub opened_file : (renews : Bool) → DataPath → FileState StreamState
opened_file renews p =
    record (new_file stream_view p.dlci.number p.begin Close (new_stream None None Ended)) { renews = renews }

abbrev pub opened_files : (renews : Bool) → List DataPath → List (FileState StreamState)
opened_files renews data_paths = map (λ p. opened_file renews p) data_paths

-- the path is that of the file of one of these
pub record IsFileOf (data_paths : List DataPath) (path : List ℕ) : Type 0 where
  pub place : ℕ
  pub there : place < length data_paths
  pub here : (p : DataPath) → (slice_index_or data_paths place p).path.now ≡ path
