-- A capture at the path that the words name, and what is said where there is none.
use Rattle.std.specs.Prelude.{◌≡◌, List, [], ◌∷◌, ◌++◌, ℕ, Option, codes}
use Rattle.mux_capture.specs.Passing.{CaptureState, HasCaptured}
use Rattle.ctl_text.specs.Writing.{IsBegun}
use Rattle.modemctl.specs.Files.{SaysWhy}
use Rattle.modemctl.specs.declared.words.file_faults.FileFault.{FileFault}
use Rattle.modemctl.specs.declared.words.files.NoCapture.{NoCapture}

-- it has begun, and nothing is captured yet; it reads frames by this N1
pub record HasBegunWith (n1 : ℕ) (c : CaptureState) : Type 0 where
  pub at_first : Option (List ℕ)
  pub begun : HasCaptured at_first [] c
  pub n1_is : c.n1 ≡ n1

-- that its file can't be made, or that its head can't be written
abbrev pub SaysNoCapture : NoCapture → (path : List ℕ) (before after : Option (List ℕ)) → Type 0
SaysNoCapture (NoCapture.Closed kind) path before after = SaysWhy (codes "fault: ") (codes "capture") path (FileFault.Unmade kind) before after
SaysNoCapture NoCapture.Unwritten path before after = IsBegun before after (codes "fault: capture" ++ 10 ∷ [])
