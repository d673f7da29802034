-- Those so far are opened.
use Rattle.std.specs.Prelude.{◌≡◌, ◌≤◌, ◌-◌, length, take}
use Rattle.file_threads.specs.DataPaths.{opened_files}
use Rattle.file_threads.proofs.starting.start_files.Given as goal

abbrev pub invariant-loop-place : goal.invariant-loop-place
invariant-loop-place g l = record {
  few : l.place ≤ length l.data_paths;
  files_are : l.files.items ≡ opened_files l.renews (take l.place l.data_paths);
  threads_are : length l.threads.items ≡ l.place;
}

abbrev pub decreases-loop-place : goal.decreases-loop-place
decreases-loop-place g l = length l.data_paths - l.place
