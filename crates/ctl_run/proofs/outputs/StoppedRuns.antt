-- How a run that wasn't written whole ended.
use Rattle.std.specs.Prelude.{◌≡◌, ◌≢◌, ◌≤◌, ℕ, Bool, List, Option, Result, Ok, Err, IfErr, IfOk, IfSome, IsErrOf, MatchResult, OnErr, refl}
use Rattle.std.proofs.Common.{arith, ap}
use Rattle.modem_bench.specs.declared.cause.Cause.{Cause}
use Rattle.ctl_run.specs.Bench.{IsNoSubmission}
use Rattle.ctl_text.specs.Input.{input_lines}
use Rattle.ctl_run.specs.Input.{IsFirstBad}
use Rattle.ctl_run.specs.Statuses.{status_of, stop_lines}
use Rattle.ctl_run.specs.Stopping.{HasGivenUp, HasStopped, IsBenchStop, IsRunStop}
use Rattle.ctl_text.specs.Writing.{IsBegun}
use Rattle.ctl_run.specs.LineFaults.{SubmissionFault}
use Rattle.ctl_text.specs.declared.expected.Expected.{Expected}
use Rattle.ctl_run.specs.declared.stop.DialectFault.{DialectFault}
use Rattle.ctl_run.specs.declared.stop.Stop.{Stop}

-- the causes for which nothing was built
pub run_cause : {T : Type 0} (built : Result T Stop) (n1 : ℕ) (IsBad : List ℕ → Type 0) (Has : List ℕ → Expected → Type 0) (known : Option (List ℕ))
    → ((place : ℕ) (why : Expected) → IsErrOf built (Stop.BadLine place why) → IfSome known (λ text. IsFirstBad IsBad Has (input_lines text) place why))
    → (built ≢ Err Stop.BadN1) × (built ≢ Err Stop.BadCallers) × (built ≢ Err Stop.BadCut) × ((fault : DialectFault) → built ≢ Err (Stop.Dialect fault))
    → (built ≢ Err Stop.Line) × ((cause : Cause) → built ≢ Err (Stop.GaveUp cause))
    → IfErr built (IsRunStop n1 IsBad Has known)
run_cause (Ok x) n1 IsBad Has known line others no_line = tt
run_cause (Err Stop.NoMemory) n1 IsBad Has known line others no_line = tt
run_cause (Err Stop.Input) n1 IsBad Has known line others no_line = tt
run_cause (Err Stop.Output) n1 IsBad Has known line others no_line = tt
run_cause (Err Stop.Line) n1 IsBad Has known line others no_line = no_line.0 refl
run_cause (Err (Stop.GaveUp cause)) n1 IsBad Has known line others no_line = no_line.1 cause refl
run_cause (Err Stop.BadN1) n1 IsBad Has known line others no_line = absurd (others.0 refl)
run_cause (Err Stop.BadCallers) n1 IsBad Has known line others no_line = others.1 refl
run_cause (Err Stop.BadCut) n1 IsBad Has known line others no_line = others.2 refl
run_cause (Err (Stop.Dialect fault)) n1 IsBad Has known line others no_line = others.3 fault refl
run_cause (Err (Stop.BadLine place why)) n1 IsBad Has known line others no_line = line place why refl

-- and those for which a bench gave nothing
pub bench_cause : {T : Type 0} (built : Result T Stop) (callers cut : ℕ) (known : Option (List ℕ))
    → ((place : ℕ) (why : Expected) → IsErrOf built (Stop.BadLine place why) → IfSome known (λ text. IsFirstBad (IsNoSubmission callers) (SubmissionFault callers) (input_lines text) place why))
    → (built ≢ Err Stop.BadN1) × (built ≢ Err Stop.BadCallers) × (built ≢ Err Stop.BadCut) × ((fault : DialectFault) → built ≢ Err (Stop.Dialect fault))
    → IfErr built (IsBenchStop callers cut known)
bench_cause (Ok x) callers cut known line others = tt
bench_cause (Err Stop.NoMemory) callers cut known line others = tt
bench_cause (Err Stop.Input) callers cut known line others = tt
bench_cause (Err Stop.Output) callers cut known line others = tt
bench_cause (Err Stop.Line) callers cut known line others = tt
bench_cause (Err (Stop.GaveUp cause)) callers cut known line others = tt
bench_cause (Err Stop.BadN1) callers cut known line others = others.0 refl
bench_cause (Err Stop.BadCallers) callers cut known line others = absurd (others.1 refl)
bench_cause (Err Stop.BadCut) callers cut known line others = absurd (others.2 refl)
bench_cause (Err (Stop.Dialect fault)) callers cut known line others = others.3 fault refl
bench_cause (Err (Stop.BadLine place why)) callers cut known line others = line place why refl

-- a run that gave nothing, or whose output wasn't taken whole
pub stopped_for : {T O : Type 0} (explained : Bool) (bytes : T → List ℕ) (built : Result T Stop) (Makes : List ℕ → List ℕ → Type 0) (IsCause : Stop → Type 0) (known : Option (List ℕ))
    (contents : O → Option (List ℕ)) (old new : O) (before after : Option (List ℕ)) (status : ℕ)
    → MatchResult built (λ _. status ≤ 1) (λ stop. status ≡ status_of stop)
    → OnErr built (new ≡ old)
    → IfOk built (λ text. status ≡ 1 → IsBegun (contents old) (contents new) (bytes text))
    → MatchResult built (λ _. status ≡ 1 → IsBegun before after (stop_lines explained Stop.Output)) (λ stop. IsBegun before after (stop_lines explained stop))
    → IfOk built (λ text. IfSome known (λ all. Makes all (bytes text)))
    → IfErr built IsCause
    → built ≢ Err Stop.Output
    → IsCause Stop.Output
    → status ≢ 0
    → HasStopped explained Makes IsCause known contents old new before after status
stopped_for explained bytes (Ok text) Makes IsCause known contents old new before after status ended same part said made cause no_output can_fail some =
    let one : status ≡ 1 = omega (arith, ended, some) in
    record {
      stop = Stop.Output;
      gives_up = record { has_status = one; nothing = λ other. absurd (other refl); said = said one };
      cause = can_fail;
      begun = λ _. record { shown = bytes text; made = made; begun = part one };
    }
stopped_for explained bytes (Err stop) Makes IsCause known contents old new before after status ended same part said made cause no_output can_fail some = record {
  stop = stop;
  gives_up = record { has_status = ended; nothing = λ _. same; said = said };
  cause = cause;
  begun = λ e. absurd (no_output (ap (λ (s : Stop). Err s) e));
}

-- a run that was refused before anything was read
pub stopped_at_once : {O : Type 0} (explained : Bool) (stop : Stop) (Makes : List ℕ → List ℕ → Type 0) (IsCause : Stop → Type 0) (known : Option (List ℕ))
    (contents : O → Option (List ℕ)) (old : O) (before after : Option (List ℕ)) (status : ℕ)
    → status ≡ status_of stop
    → IsBegun before after (stop_lines explained stop)
    → IsCause stop
    → (stop ≢ Stop.Output)
    → HasStopped explained Makes IsCause known contents old old before after status
stopped_at_once explained stop Makes IsCause known contents old before after status same said cause other = record {
  stop = stop;
  gives_up = record { has_status = same; nothing = λ _. refl; said = said };
  cause = cause;
  begun = λ e. absurd (other e);
}

-- a run that stopped gave up for one of the causes that there are
pub given_up : {O : Type 0} (explained : Bool) (Makes : List ℕ → List ℕ → Type 0) (IsCause : Stop → Type 0) (known : Option (List ℕ))
    (contents : O → Option (List ℕ)) (old new : O) (before after : Option (List ℕ)) (status : ℕ)
    → HasStopped explained Makes IsCause known contents old new before after status
    → HasGivenUp explained old new before after status
given_up explained Makes IsCause known contents old new before after status h = record { stop = h.stop; gives_up = h.gives_up }

-- who gave up said so, and wrote nothing to the output, or it is the output that failed
pub gave_up : {O : Type 0} (explained : Bool) (stop : Stop) (old new : O) (before after : Option (List ℕ)) (status : ℕ)
    → status ≡ status_of stop
    → IsBegun before after (stop_lines explained stop)
    → (stop ≢ Stop.Output → new ≡ old)
    → HasGivenUp explained old new before after status
gave_up explained stop old new before after status same said nothing = record { stop = stop; gives_up = record { has_status = same; nothing = nothing; said = said } }
