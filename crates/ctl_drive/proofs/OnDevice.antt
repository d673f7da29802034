-- A drive on a device, from its beginning to its status.
use Rattle.std.specs.Prelude.{◌≡◌, ◌≢◌, ◌==◌, ℕ, Bool, true, false, List, [], length, Option, None, Some, Result, Ok, Err, IfOk, [], refl}
use Rattle.std.specs.Option.{unwrap_or}
use denote.Ref.{Bor}
use Rattle.std.proofs.Common.{ap, arith, sym, subst, ◌∙◌}
use Rattle.serial_line.specs.StreamLine.{StreamState, new_stream, stream_view}
use Rattle.serial_line.specs.declared.stream_line.ZeroRead.TheVariants.{Ended}
use Rattle.at_text.specs.Rules.{Rules}
use Rattle.modem_desk.specs.declared.settling.Settled.{Settled}
use Rattle.modem_history.specs.Sessions.{LineView}
use Rattle.mux_capture.specs.Passing.{CaptureState, HasCaptured}
use Rattle.ctl_drive.specs.CapturedLine.{CapturedState, CapturesUnlessFailed, HasBegun, captured_line}
use Rattle.ctl_drive.specs.OnDevice.{DroveCaptured, DroveDevice, DroveLine, DroveWell, EndsByFault, RanDevice, SaysDriven, SaysEnd, SaysFaultIf, capture_path, driven_status, end_status}
use Rattle.ctl_drive.specs.Asking.{NamesRead}
use Rattle.ctl_drive.specs.Running.{Drove}
use Rattle.file_threads.specs.Said.{AreSaid}
use Rattle.ctl_drive.specs.Saying.{SaysFault, left_texts, path_for}
use Rattle.ctl_drive.specs.declared.fault.DriveFault.{DriveFault}
use Rattle.ctl_drive.specs.declared.running.Driven.{Driven}

-- a capture of nothing has begun
pub has_begun : (before : Option (List ℕ)) (c : CaptureState) → HasCaptured before [] c → HasBegun c
has_begun before c h = record { before = before; captured = h }

-- without a fault
pub well : {X : Type 0} (look : X → LineView) (rules : Rules) (text : List ℕ) (n1 period : ℕ) (line last : X) (input before after silent said : Option (List ℕ)) (end : Option DriveFault) (was_bad : Bool) (left : Settled)
    → Drove look rules text n1 period line last input before after silent said end was_bad left → end ≡ None → DroveWell look rules text n1 period line input before after silent said was_bad left
well look rules text n1 period line last input before after silent said end was_bad left h none = record {
  last = last;
  drove = subst (λ (e : Option DriveFault). Drove look rules text n1 period line last input before after silent said e was_bad left) none h;
}

-- what a drive with a capture came to
pub record Caught {X : Type 0} (look : X → LineView) (line : X) (first : CaptureState) (wrapped last : CapturedState X) (end : Option DriveFault) (failed : Bool) : Type 0 where
  pub wrapped_is : wrapped ≡ captured_line line first
  pub both : (end ≡ None) × (failed ≡ false)
  pub failed_is : failed ≡ last.capture.failed
  pub captures : CapturesUnlessFailed (look last.line).received (look last.line).sent last.capture

-- a drive without a fault, through a capture that didn't fail, captured all that passed
pub well_captured : {X : Type 0} (look : X → LineView) (rules : Rules) (text : List ℕ) (n1 period : ℕ) (line : X) (first : CaptureState) (wrapped last : CapturedState X) (input before after silent said : Option (List ℕ)) (end : Option DriveFault) (was_bad : Bool) (left : Settled) (failed : Bool)
    → Drove (λ (l : CapturedState X). look l.line) rules text n1 period wrapped last input before after silent said end was_bad left → Caught look line first wrapped last end failed
    → DroveCaptured look rules text n1 period line input before after silent said was_bad left
well_captured {X} look rules text n1 period line first wrapped last input before after silent said end was_bad left failed h c = record {
  first = first;
  last = last;
  drove =
      subst (λ (x : CapturedState X × Option DriveFault). Drove (λ (l : CapturedState X). look l.line) rules text n1 period x.0 last input before after silent said x.1 was_bad left)
      (λ i. (c.wrapped_is i, c.both.0 i)) h;
  captures = c.captures (sym c.failed_is ∙ c.both.1);
}

-- a line between two rings was driven
pub drove_device : (b : Bool) (rules : Rules) (text : List ℕ) (n1 period : ℕ) (line : StreamState) (before after silent said : Option (List ℕ)) (r : Result Driven DriveFault) → line ≡ new_stream None None Ended
    → IfOk r (λ d. d.fault ≡ None → DroveLine b stream_view rules text n1 period line None before after silent said d.was_bad d.left)
    → IfOk r (λ d. d.fault ≡ None → DroveDevice b rules text n1 period before after silent said d.was_bad d.left)
drove_device b rules text n1 period line before after silent said r same h =
    subst (λ (x : StreamState). IfOk r (λ d. d.fault ≡ None → DroveLine b stream_view rules text n1 period x None before after silent said d.was_bad d.left)) same h

-- ## The status

-- a status other than 1 is that of no fault, and says whether a line was bad
pub by_status : (end : Option DriveFault) (was_bad : Bool) (n : ℕ) → n ≡ driven_status end was_bad → n ≢ 1 → (end ≡ None) × ((n == 2) ≡ was_bad)
by_status (Some why) was_bad n is other = absurd (other is)
by_status None true n is other = (refl, ap (λ (k : ℕ). k == 2) is)
by_status None false n is other = (refl, ap (λ (k : ℕ). k == 2) is)

-- it ended without a fault, and said what was left
pub ran_well : (device capture : List ℕ) (b : Bool) (rules : Rules) (text : List ℕ) (n1 period : ℕ) (before after silent named said : Option (List ℕ)) (r : Result Driven DriveFault) (n : ℕ)
    → IfOk r (λ d. d.fault ≡ None → DroveDevice b rules text n1 period before after silent named d.was_bad d.left) → SaysEnd device capture r named said → n ≡ end_status r → n ≢ 1
    → RanDevice b rules text n1 period before after silent said (n == 2)
ran_well device capture b rules text n1 period before after silent named said (Err why) n h s is other = absurd (other is)
ran_well device capture b rules text n1 period before after silent named said (Ok d) n h s is other =
    let by = by_status d.fault d.was_bad n is other in
    let no_more : SaysFaultIf device capture None s.between said = subst (λ (e : Option DriveFault). SaysFaultIf device capture e s.between said) by.0 s.why in
    record {
      left = d.left;
      named = named;
      drove = subst (λ (w : Bool). DroveDevice b rules text n1 period before after silent named w d.left) (sym by.1) (h by.0);
      left_said = subst (λ (w : Option (List ℕ)). AreSaid named w (left_texts (length d.left.left.items))) (sym no_more) s.left;
    }

-- it ended by a fault, which was said
ended_badly : (device capture : List ℕ) (silent named said : Option (List ℕ)) (d : Driven) (end : Option DriveFault) (was_bad : Bool) (n : ℕ) (s : SaysDriven device capture d named said)
    → NamesRead None silent named → SaysFaultIf device capture end s.between said → n ≡ driven_status end was_bad → n ≡ 1 → EndsByFault device capture silent said
ended_badly device capture silent named said d (Some why) was_bad n s names fault is one = record {
  named = named;
  names = names;
  left = length d.left.left.items;
  between = s.between;
  left_said = s.left;
  why = why;
  fault = fault;
}
ended_badly device capture silent named said d None true n s names fault is one = absurd (omega (arith, is, one))
ended_badly device capture silent named said d None false n s names fault is one = absurd (omega (arith, is, one))

-- a drive that was refused
pub refused : (device capture : List ℕ) (silent named said : Option (List ℕ)) (why : DriveFault) → NamesRead None silent named → SaysFault (path_for device capture why) why named said → EndsByFault device capture silent said
refused device capture silent named said why names fault = record {
  named = named;
  names = names;
  left = 0;
  between = named;
  left_said = AreSaid.said_none named;
  why = why;
  fault = fault;
}

-- a status of 1 is that of a fault, which was said last
pub ran_badly : (device capture : List ℕ) (silent named said : Option (List ℕ)) (r : Result Driven DriveFault) (n : ℕ) → NamesRead None silent named → SaysEnd device capture r named said → n ≡ end_status r → n ≡ 1
    → EndsByFault device capture silent said
ran_badly device capture silent named said (Err why) n names s is one = refused device capture silent named said why names s
ran_badly device capture silent named said (Ok d) n names s is one = ended_badly device capture silent named said d d.fault d.was_bad n s names s.why is one

-- with the path of the capture, where the settings name one
pub capture_is : (given : Option (Bor (List ℕ))) (other : Bor (List ℕ)) → other.now ≡ [] → (unwrap_or given other).now ≡ capture_path given
capture_is None other none = none
capture_is (Some path) other none = refl

-- a drive that ended by a fault, said with that path, ended so with the path of the settings' capture
pub by_capture : (device : List ℕ) (given : Option (Bor (List ℕ))) (other path : Bor (List ℕ)) (silent said : Option (List ℕ)) → path ≡ unwrap_or given other → other.now ≡ [] → EndsByFault device path.now silent said
    → EndsByFault device (capture_path given) silent said
by_capture device given other path silent said is none h =
    subst (λ (p : List ℕ). EndsByFault device p silent said) (ap (λ (b : Bor (List ℕ)). b.now) is ∙ capture_is given other none) h
