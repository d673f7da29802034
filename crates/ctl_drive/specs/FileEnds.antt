-- What a drive says of its lines and then of files beside connections that carry data.
use Rattle.std.specs.Prelude.{ℕ, List, Option}
use Rattle.file_threads.specs.FileEnds.{FileEnd, ends_texts}
use Rattle.file_threads.specs.Said.{AreSaid}
use Rattle.ctl_drive.specs.Asking.{NamesRead}

-- The bad ones of the lines that were read were named, and then it was said what came of some files.
pub record NamesEnds (input silent said : Option (List ℕ)) : Type 0 where
  pub named : Option (List ℕ)
  pub names : NamesRead input silent named
  pub ends : List FileEnd
  pub ends_said : AreSaid named said (ends_texts ends)
