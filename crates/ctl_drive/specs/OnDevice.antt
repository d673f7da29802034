-- A drive on a device.
use Rattle.std.specs.Prelude.{◌≡◌, ℕ, Bool, true, false, List, [], length, Option, None, Some, Result, Ok, Err}
use denote.Ref.{Bor}
use Rattle.serial_line.specs.StreamLine.{StreamState, new_stream, stream_view}
use Rattle.serial_line.specs.declared.stream_line.ZeroRead.TheVariants.{Ended}
use Rattle.at_text.specs.Rules.{Rules}
use Rattle.modem_desk.specs.declared.settling.Settled.{Settled}
use Rattle.modem_history.specs.Sessions.{LineView}
use Rattle.mux_capture.specs.Passing.{CaptureState}
use Rattle.ctl_drive.specs.CapturedLine.{CapturedState, CapturesAll, captured_line}
use Rattle.ctl_drive.specs.Asking.{NamesRead}
use Rattle.ctl_drive.specs.Running.{Drove}
use Rattle.file_threads.specs.Said.{AreSaid}
use Rattle.ctl_drive.specs.Saying.{SaysFault, left_texts, path_for}
use Rattle.ctl_drive.specs.declared.fault.DriveFault.{DriveFault}
use Rattle.ctl_drive.specs.declared.running.Driven.{Driven}

-- a line was driven without a fault
pub record DroveWell {X : Type 0} (look : X → LineView) (rules : Rules) (text : List ℕ) (n1 period : ℕ) (line : X)
    (input before after silent said : Option (List ℕ)) (was_bad : Bool) (left : Settled) : Type 0 where
  pub last : X
  pub drove : Drove look rules text n1 period line last input before after silent said None was_bad left

-- the same with a capture, which has a packet for each frame that all octets received, and all sent, are read as
pub record DroveCaptured {X : Type 0} (look : X → LineView) (rules : Rules) (text : List ℕ) (n1 period : ℕ) (line : X)
    (input before after silent said : Option (List ℕ)) (was_bad : Bool) (left : Settled) : Type 0 where
  pub first : CaptureState
  pub last : CapturedState X
  pub drove : Drove (λ l. look l.line) rules text n1 period (captured_line line first) last input before after silent said None was_bad left
  pub captures : CapturesAll (look last.line).received (look last.line).sent last.capture

-- a line was driven without a fault, with a capture where one is wanted
abbrev pub DroveLine : (captures : Bool) {X : Type 0} (look : X → LineView) (rules : Rules) (text : List ℕ) (n1 period : ℕ) (line : X)
    (input before after silent said : Option (List ℕ)) (was_bad : Bool) (left : Settled) → Type 0
DroveLine false look rules text n1 period line input before after silent said was_bad left =
    DroveWell look rules text n1 period line input before after silent said was_bad left
DroveLine true look rules text n1 period line input before after silent said was_bad left =
    DroveCaptured look rules text n1 period line input before after silent said was_bad left

-- A line between two rings, on which nothing had happened, was driven so without a fault, with the lines of an input that came
-- through a ring, and with a capture where one is wanted. What the device behind the rings did, and what the input had, is nobody's
-- to say.
abbrev pub DroveDevice : (captures : Bool) (rules : Rules) (text : List ℕ) (n1 period : ℕ) (before after silent said : Option (List ℕ))
    (was_bad : Bool) (left : Settled) → Type 0
DroveDevice captures rules text n1 period before after silent said was_bad left =
    DroveLine captures stream_view rules text n1 period (new_stream None None Ended) None before after silent said was_bad left

-- ## How it ends

-- 1 at a fault, else 2 where a line was bad
abbrev pub driven_status : Option DriveFault → (was_bad : Bool) → ℕ
driven_status (Some why) was_bad = 1
driven_status None true = 2
driven_status None false = 0

-- 1 where the drive was refused
abbrev pub end_status : Result Driven DriveFault → ℕ
end_status (Ok driven) = driven_status driven.fault driven.was_bad
end_status (Err why) = 1

-- nothing, or the line of this fault
abbrev pub SaysFaultIf : (device capture : List ℕ) → Option DriveFault → (before after : Option (List ℕ)) → Type 0
SaysFaultIf device capture None before after = after ≡ before
SaysFaultIf device capture (Some why) before after = SaysFault (path_for device capture why) why before after

-- how many requests were left, if any were, and the fault, if there is one
pub record SaysDriven (device capture : List ℕ) (driven : Driven) (before after : Option (List ℕ)) : Type 0 where
  pub between : Option (List ℕ)
  pub left : AreSaid before between (left_texts (length driven.left.left.items))
  pub why : SaysFaultIf device capture driven.fault between after

-- that, or why the drive was refused
abbrev pub SaysEnd : (device capture : List ℕ) → Result Driven DriveFault → (before after : Option (List ℕ)) → Type 0
SaysEnd device capture (Ok driven) before after = SaysDriven device capture driven before after
SaysEnd device capture (Err why) before after = SaysFault (path_for device capture why) why before after

-- A device was driven so without a fault, and how many requests were left was said behind the bad lines, if any were.
pub record RanDevice (captures : Bool) (rules : Rules) (text : List ℕ) (n1 period : ℕ) (before after silent said : Option (List ℕ))
    (was_bad : Bool) : Type 0 where
  pub left : Settled
  pub named : Option (List ℕ)
  pub drove : DroveDevice captures rules text n1 period before after silent named was_bad left
  pub left_said : AreSaid named said (left_texts (length left.left.items))

-- The bad ones of the lines that were read were named, then it was said how many requests were left, if any were, and then why the
-- drive ended.
pub record EndsByFault (device capture : List ℕ) (silent said : Option (List ℕ)) : Type 0 where
  pub named : Option (List ℕ)
  pub names : NamesRead None silent named
  pub left : ℕ
  pub between : Option (List ℕ)
  pub left_said : AreSaid named between (left_texts left)
  pub why : DriveFault
  pub fault : SaysFault (path_for device capture why) why between said

-- the path of the capture, where one is given
abbrev pub capture_path : Option (Bor (List ℕ)) → List ℕ
capture_path None = []
capture_path (Some path) = path.now
