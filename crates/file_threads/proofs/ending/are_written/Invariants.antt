-- Those so far are written.
use Rattle.std.specs.Prelude.{◌≤◌, ◌<◌, ◌-◌, ℕ, length, slice_index_or}
use Rattle.data_files.specs.Files.{FileState}
use Rattle.file_threads.specs.FileEnds.{IsWritten}
use Rattle.file_threads.proofs.ending.are_written.Given as goal

abbrev pub invariant-loop-place : goal.invariant-loop-place
invariant-loop-place g l = record {
  few : l.place ≤ length l.files;
  written : (i : ℕ) (f : FileState g.row.P.Denot) → i < l.place → i < length l.files → IsWritten (slice_index_or l.files i f);
}

abbrev pub decreases-loop-place : goal.decreases-loop-place
decreases-loop-place g l = length l.files - l.place
