-- Which fault ended that a client is served, and how it is said.
use Rattle.std.specs.Prelude.{Result, Ok, Err, IfErr, IsOk, OnErr, OnOk, ◌≡◌, ◌≢◌, ℕ, Bool, true, false, List, Option, Some, None, if◌then◌else◌, refl}
use Rattle.std.specs.Result.{result_err}
use Rattle.std.proofs.Common.{arith, sym, subst}
use Rattle.ctl_text.specs.Writing.{IsBegun}
use Rattle.ctl_sim.specs.declared.fault.ServeFault.{ServeFault}
use Rattle.ctl_sim.specs.declared.serving.SimOptions.{SimOptions}
use Rattle.ctl_sim.specs.Leaving.{EndsFor, IsLeftAt, IsServedInPart}
use Rattle.ctl_sim.specs.Saying.{fault_line}
use Rattle.ctl_sim.specs.Serving.{IsAnswered, IsServed, Setting, setting_of}

-- ## By the fault that came

none_said : {P : Type 0} (status : ℕ) → status ≡ 0 → status ≡ 1 → P
none_said status zero one = absurd (omega (arith, zero, one))

ends_with : (OfCapture : Type 0) (options : SimOptions) (s : Setting) (fault : ServeFault) (input rest x y a b : Option (List ℕ)) → s ≡ setting_of options → fault ≢ ServeFault.Capture
    → IsLeftAt s (Some fault) input rest x y → IsBegun a b (fault_line fault) → EndsFor OfCapture options input rest x y a b
ends_with OfCapture options s fault input rest x y a b same other left said = record {
  fault = fault;
  said = said;
  left = subst (λ (t : Setting). IsLeftAt t (Some fault) input rest x y) same left;
  capture = λ is. absurd (other is);
}

-- without a capture a status of 1 is that of a fault that was said, and at which the client was left
pub ends_by : {A : Type 0} (options : SimOptions) (s : Setting) (served : Result A ServeFault) (status : ℕ) (Silent : Type 0) (input rest x y a b : Option (List ℕ)) → s ≡ setting_of options
    → IfErr served (λ f. f ≢ ServeFault.Capture) → IsLeftAt s (result_err served) input rest x y → OnOk served ((status ≡ 0) × Silent)
    → IfErr served (λ f. (status ≡ 1) × IsBegun a b (fault_line f)) → status ≡ 1 → EndsFor ⊥ options input rest x y a b
ends_by options s (Ok z) status Silent input rest x y a b same other left well said one = none_said status well.0 one
ends_by options s (Err f) status Silent input rest x y a b same other left well said one = ends_with ⊥ options s f input rest x y a b same other left said.1

-- ## Or by a capture that failed

-- all that was read is answered then
left_whole : (s : Setting) (input rest x y : Option (List ℕ)) → IsLeftAt s None input rest x y → IsLeftAt s (Some ServeFault.Capture) input rest x y
left_whole s None rest x y h = tt
left_whole s (Some all) rest x y h = record {
  came = h.came;
  went = h.went;
  piece = h.piece;
  part = h.part;
  read = h.read;
  few = h.few;
  answers = h.answers;
  begun = h.begun;
  written = h.written;
}

served_by : (options : SimOptions) (s : Setting) (input x y : Option (List ℕ)) → s ≡ setting_of options → IsAnswered s input x y → IsServed options input x y
served_by options s input x y same answered = subst (λ (t : Setting). IsAnswered t input x y) same answered

-- with one it is that of such a fault, or that of the capture, where all was served
pub ends_captured : {A : Type 0} (options : SimOptions) (s : Setting) (served ended : Result A ServeFault) (failed now : Bool) (status : ℕ) (Silent : Type 0) (input rest x y a b : Option (List ℕ)) → s ≡ setting_of options
    → failed ≡ now → IfErr served (λ f. f ≢ ServeFault.Capture) → IsLeftAt s (result_err served) input rest x y → OnOk served (IsAnswered s input x y)
    → OnOk served (ended ≡ (if failed then Err ServeFault.Capture else served)) → OnErr served (ended ≡ served) → OnOk ended ((status ≡ 0) × Silent)
    → IfErr ended (λ f. (status ≡ 1) × IsBegun a b (fault_line f)) → status ≡ 1 → EndsFor (IsServed options input x y × (now ≡ true)) options input rest x y a b
ends_captured options s (Ok z) ended true now status Silent input rest x y a b same is other left answered well fault silent said one = record {
  fault = ServeFault.Capture;
  said = (subst (λ r. IfErr r (λ f. (status ≡ 1) × IsBegun a b (fault_line f))) well said).1;
  left = subst (λ (t : Setting). IsLeftAt t (Some ServeFault.Capture) input rest x y) same (left_whole s input rest x y left);
  capture = λ _. (served_by options s input x y same answered, sym is);
}
ends_captured options s (Ok z) ended false now status Silent input rest x y a b same is other left answered well fault silent said one =
    none_said status (subst (λ r. OnOk r ((status ≡ 0) × Silent)) well silent).0 one
ends_captured options s (Err f) ended failed now status Silent input rest x y a b same is other left answered well fault silent said one =
    ends_with (IsServed options input x y × (now ≡ true)) options s f input rest x y a b same other left
    (subst (λ r. IfErr r (λ g. (status ≡ 1) × IsBegun a b (fault_line g))) fault said).1

-- both went well
pub both_well : {A : Type 0} (served ended : Result A ServeFault) (failed : Bool) (status : ℕ) (Said : ServeFault → Type 0)
    → OnOk served (ended ≡ (if failed then Err ServeFault.Capture else served)) → OnErr served (ended ≡ served)
    → IfErr ended (λ f. (status ≡ 1) × Said f) → status ≡ 0 → IsOk served × (failed ≡ false)
both_well (Ok z) ended true status Said well fault said zero = none_said status zero (subst (λ r. IfErr r (λ f. (status ≡ 1) × Said f)) well said).0
both_well (Ok z) ended false status Said well fault said zero = (refl, refl)
both_well (Err f) ended failed status Said well fault said zero = none_said status zero (subst (λ r. IfErr r (λ g. (status ≡ 1) × Said g)) fault said).0

-- ## So far it was served

-- a client that a fault left was served in part
pub served_in_part : {OfCapture : Type 0} (options : SimOptions) (input rest x y a b : Option (List ℕ)) → EndsFor OfCapture options input rest x y a b → IsServedInPart options input rest x y
served_in_part options input rest x y a b ends = record { fault = ends.fault; left = ends.left }
