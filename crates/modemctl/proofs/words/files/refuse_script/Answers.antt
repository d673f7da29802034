use Rattle.std.proofs.Common.{◌≡◌, ℕ, List, Option, None, Some, arith, ap, refl}
use Rattle.ctl_run.specs.Steps.{HasBadStep}
use Rattle.ctl_run.specs.declared.stop.Stop.{Stop}
use Rattle.ctl_text.specs.declared.expected.Expected.{Expected}
use Rattle.modemctl.specs.Files.{text_status}
use Rattle.modemctl.specs.Sims.{IsOfScript, bad_step_of}
use Rattle.modemctl.specs.declared.words.text_files.TextFault.{TextFault}
use Rattle.modemctl.proofs.words.files.refuse_script.Goals as goal

-- else the status isn't 2
no_bad_step : (text : Option (List ℕ)) (fault : TextFault) (status : ℕ) → None ≡ bad_step_of fault → IsOfScript text fault → status ≡ text_status fault → status ≡ 2 → ⊥
no_bad_step text (TextFault.Closed kind) status none of is two = omega (arith, is, two)
no_bad_step text (TextFault.Stopped Stop.NoMemory) status none of is two = omega (arith, is, two)
no_bad_step text (TextFault.Stopped Stop.Input) status none of is two = omega (arith, is, two)
no_bad_step text (TextFault.Stopped Stop.Output) status none of is two = of
no_bad_step text (TextFault.Stopped Stop.Line) status none of is two = of
no_bad_step text (TextFault.Stopped (Stop.GaveUp cause)) status none of is two = of
no_bad_step text (TextFault.Stopped Stop.BadN1) status none of is two = of
no_bad_step text (TextFault.Stopped Stop.BadCallers) status none of is two = of
no_bad_step text (TextFault.Stopped Stop.BadCut) status none of is two = of
no_bad_step text (TextFault.Stopped (Stop.BadLine place why)) status none of is two = cc
no_bad_step text (TextFault.Stopped (Stop.Dialect fault)) status none of is two = of

-- it is the first bad one
is_bad_step : (text : Option (List ℕ)) (fault : TextFault) (place : ℕ) (why : Expected) → Some (place, why) ≡ bad_step_of fault → IsOfScript text fault → HasBadStep text place why
is_bad_step text (TextFault.Closed kind) place why some of = cc
is_bad_step text (TextFault.Stopped Stop.NoMemory) place why some of = cc
is_bad_step text (TextFault.Stopped Stop.Input) place why some of = cc
is_bad_step text (TextFault.Stopped Stop.Output) place why some of = cc
is_bad_step text (TextFault.Stopped Stop.Line) place why some of = cc
is_bad_step text (TextFault.Stopped (Stop.GaveUp cause)) place why some of = cc
is_bad_step text (TextFault.Stopped Stop.BadN1) place why some of = cc
is_bad_step text (TextFault.Stopped Stop.BadCallers) place why some of = cc
is_bad_step text (TextFault.Stopped Stop.BadCut) place why some of = cc
is_bad_step text (TextFault.Stopped (Stop.BadLine at for)) place why some of =
    let pair : (place, why) ≡ (at, for) = cc in
    let place_is : place ≡ at = ap (λ (p : ℕ × Expected). p.0) pair in
    let why_is : why ≡ for = ap (λ (p : ℕ × Expected). p.1) pair in
    rw (place_is, why_is) of
is_bad_step text (TextFault.Stopped (Stop.Dialect fault)) place why some of = cc

pub returns-in_default-clause-told : goal.returns-in_default-clause-told
returns-in_default-clause-told g c two texts of = absurd (no_bad_step (texts c.args.path.now) c.args.fault _ c.in_default.ensures of c.refuse_text.ensures.status two)

pub returns-clause-told : goal.returns-clause-told
returns-clause-told g c two texts of = record {
  named = c.args.path.now;
  path_is = refl;
  place = _;
  why = _;
  bad = is_bad_step (texts c.args.path.now) c.args.fault _ _ c.in-Some.ensures of;
  said = c.say_bad_step.ensures;
}
