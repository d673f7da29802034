-- How a run ends without its whole output: for which cause, what stands on the output then, and what is said beside it.
use Rattle.std.specs.Prelude.{◌≡◌, ◌≢◌, ◌⊎◌, ◌<◌, ℕ, Bool, List, Option, IfSome}
use Rattle.mux_frame.specs.Spelling.{IsBadN1}
use Rattle.ctl_run.specs.Bench.{IsNoSubmission}
use Rattle.ctl_text.specs.Input.{input_lines}
use Rattle.ctl_text.specs.Writing.{IsBegun}
use Rattle.ctl_text.specs.declared.expected.Expected.{Expected}
use Rattle.ctl_run.specs.Input.{IsFirstBad}
use Rattle.ctl_run.specs.LineFaults.{SubmissionFault}
use Rattle.ctl_run.specs.Statuses.{status_of, stop_lines}
use Rattle.ctl_run.specs.declared.stop.Stop.{Stop}

-- The run gave up for this cause, with the cause's status. Nothing was written to the output, unless that failed. What is said
-- of the cause, with the reason where it is to be explained, or a beginning of that, stands beside the output.
pub record GivesUp {O : Type 0} (explained : Bool) (old new : O) (before after : Option (List ℕ)) (status : ℕ) (stop : Stop) : Type 0 where
  pub has_status : status ≡ status_of stop
  pub nothing : stop ≢ Stop.Output → new ≡ old
  pub said : IsBegun before after (stop_lines explained stop)

-- the run gave up for one of the causes that there are
pub record HasGivenUp {O : Type 0} (explained : Bool) (old new : O) (before after : Option (List ℕ)) (status : ℕ) : Type 0 where
  pub stop : Stop
  pub gives_up : GivesUp explained old new before after status stop

-- this was made of the input, where that is known, and a beginning of it stands on the output
pub record IsBegunOf (Makes : List ℕ → List ℕ → Type 0) (input before after : Option (List ℕ)) : Type 0 where
  pub shown : List ℕ
  pub made : IfSome input (λ text. Makes text shown)
  pub begun : IsBegun before after shown

-- for a cause that is one of the input, the settings or the writers; where the output failed, a beginning of what was to be written
-- stands on it, and nothing else
pub record HasStopped {O : Type 0} (explained : Bool) (Makes : List ℕ → List ℕ → Type 0) (IsCause : Stop → Type 0) (input : Option (List ℕ)) (contents : O → Option (List ℕ)) (old new : O) (before after : Option (List ℕ)) (status : ℕ) :
    Type 0 where
  pub stop : Stop
  pub gives_up : GivesUp explained old new before after status stop
  pub cause : IsCause stop
  pub begun : stop ≡ Stop.Output → IsBegunOf Makes input (contents old) (contents new)

-- the causes for which a run over its input alone stops: this line is the first bad one, for this fault; N1 isn't 31 to 32767
abbrev pub IsRunStop : (n1 : ℕ) (IsBad : List ℕ → Type 0) (Has : List ℕ → Expected → Type 0) (input : Option (List ℕ)) → Stop → Type 0
IsRunStop n1 IsBad Has input Stop.NoMemory = Unit {0}
IsRunStop n1 IsBad Has input Stop.Input = Unit {0}
IsRunStop n1 IsBad Has input Stop.Output = Unit {0}
IsRunStop n1 IsBad Has input Stop.Line = ⊥
IsRunStop n1 IsBad Has input (Stop.GaveUp cause) = ⊥
IsRunStop n1 IsBad Has input Stop.BadN1 = IsBadN1 n1
IsRunStop n1 IsBad Has input Stop.BadCallers = ⊥
IsRunStop n1 IsBad Has input Stop.BadCut = ⊥
IsRunStop n1 IsBad Has input (Stop.Dialect fault) = ⊥
IsRunStop n1 IsBad Has input (Stop.BadLine place why) = IfSome input (λ text. IsFirstBad IsBad Has (input_lines text) place why)

-- the causes for which a bench stops: its line failed, or it didn't come to its end; callers aren't 1 to 8, the cut
-- isn't 1 to 4096
abbrev pub IsBenchStop : (callers cut : ℕ) (input : Option (List ℕ)) → Stop → Type 0
IsBenchStop callers cut input Stop.NoMemory = Unit {0}
IsBenchStop callers cut input Stop.Input = Unit {0}
IsBenchStop callers cut input Stop.Output = Unit {0}
IsBenchStop callers cut input Stop.Line = Unit {0}
IsBenchStop callers cut input (Stop.GaveUp cause) = Unit {0}
IsBenchStop callers cut input Stop.BadN1 = ⊥
IsBenchStop callers cut input Stop.BadCallers = (callers < 1) ⊎ (8 < callers)
IsBenchStop callers cut input Stop.BadCut = (cut < 1) ⊎ (4096 < cut)
IsBenchStop callers cut input (Stop.Dialect fault) = ⊥
IsBenchStop callers cut input (Stop.BadLine place why) =
    IfSome input (λ text. IsFirstBad (IsNoSubmission callers) (SubmissionFault callers) (input_lines text) place why)
