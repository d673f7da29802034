-- What passes between a client and its modem, in its order.
use Rattle.std.specs.Prelude.{◌≡◌, ℕ, Bool, true, false, List, [], ◌∷◌, ◌++◌, Option, None, Some, IfSome}
use Rattle.std.specs.Io.KnownBytes.{Appends, Consumes, IsAtEnd}
use Rattle.mux_capture.specs.declared.packet.Direction.{Direction}
use Rattle.mux_capture.specs.declared.packet.Direction.TheVariants.{ToModem, FromModem}
use Rattle.mux_capture.specs.declared.packet.Stamp.{Stamp}
use Rattle.mux_capture.specs.Passing.{CaptureState, Captures, HasCaptured, HasStretches, Renews, Stretch, passed_at}
use Rattle.ctl_sim.specs.declared.serving.SimOptions.{SimOptions}
use Rattle.ctl_sim.specs.Serving.{Answers, AnswersEntering, Entry, Setting, setting_of, with_more}
use Rattle.ctl_sim.specs.Standing.{MayBeFrame, with_entry}

-- A client's octets were read, and passed on to a watcher part by part, each with what was said to it: these, and not yet those of
-- `kept`. A part ends where a line enters the multiplexer, and with that its N1 begins. Else all that was read by then was answered by
-- all that had gone, and passed on but for what may become a frame.
pub data Exchanges {V : Type 0} (Answered : (came went : List ℕ) → Type 0) (Sees : V → V → Direction → List ℕ → Type 0) (Begins : V → V → ℕ → Type 0) (first : V) : (came kept went : List ℕ) → List Entry → V → Type 0 where
  nothing : Exchanges Answered Sees Begins first [] [] [] [] first
  comes :
      (came kept went piece : List ℕ) (es : List Entry) (v : V) → Exchanges Answered Sees Begins first came kept went es v
      → Exchanges Answered Sees Begins first came (kept ++ piece) went (with_more piece [] es) v
  turn :
      (came part kept went more : List ℕ) (es : List Entry) (u v w : V)
      → Exchanges Answered Sees Begins first came (part ++ kept) went es u → Answered (came ++ (part ++ kept)) (went ++ more)
      → MayBeFrame kept → Sees u v ToModem part → Sees v w FromModem more
      → Exchanges Answered Sees Begins first (came ++ part) kept (went ++ more) (with_more [] more es) w
  enters :
      (came part kept went more : List ℕ) (es : List Entry) (n1 : ℕ) (u v w x : V)
      → Exchanges Answered Sees Begins first came (part ++ kept) went es u → Sees u v ToModem part → Sees v w FromModem more
      → Begins w x n1
      → Exchanges Answered Sees Begins first (came ++ part) kept (went ++ more) (with_entry (with_more [] more es) (Some n1) kept) x

-- ## In a capture

-- what passed: in stretches that are over, and in one that goes on
pub record History : Type 0 where
  pub over : List Stretch
  pub now : Stretch

-- octets passed this way
abbrev pub Notes : (old new : History) → Direction → List ℕ → Type 0
Notes old new direction octets =
    (stamp : Stamp)
    × (new ≡ record { over = old.over; now = record { n1 = old.now.n1; passed = old.now.passed ++ passed_at stamp direction octets ∷ [] } })

-- another stretch begins, with this N1
abbrev pub Turns : (old new : History) → ℕ → Type 0
Turns old new n1 = new ≡ record { over = old.over ++ old.now ∷ []; now = record { n1 = n1; passed = [] } }

abbrev pub one_stretch : ℕ → History
one_stretch n1 = record { over = []; now = record { n1 = n1; passed = [] } }

-- All that a client sends was answered, and all that passed was captured, in its order. The first stretch has the N1 that the capture
-- begins with. Each line that enters the multiplexer, and nothing else, begins another behind what is said to it, with the N1 that it
-- enters with. All stretches are over, so that nothing but flags is missing.
pub record CapturesAnswers (s : Setting) (before after : Option (List ℕ)) (old new : CaptureState) (all : List ℕ) : Type 0 where
  pub went : List ℕ
  pub entries : List Entry
  pub history : History
  pub answers : AnswersEntering s all went entries
  pub exchanged : Exchanges (Answers s) Notes Turns (one_stretch old.n1) all [] went entries history
  pub written : Appends before after went
  pub captured : (at_first : Option (List ℕ)) → HasCaptured at_first [] old → HasStretches at_first (history.over ++ history.now ∷ []) [] new

-- of all that the reader has, where that is known
abbrev pub IsCaptured : SimOptions → (input before after : Option (List ℕ)) → (old new : CaptureState) → Type 0
IsCaptured options input before after old new = IfSome input (CapturesAnswers (setting_of options) before after old new)

-- A capture that had begun, in plain lines with the N1 of the options, captured all that passed.
pub record HasCapture (options : SimOptions) (input before after : Option (List ℕ)) : Type 0 where
  pub at_first : Option (List ℕ)
  pub first : CaptureState
  pub last : CaptureState
  pub begun : HasCaptured at_first [] first
  pub n1 : first.n1 ≡ options.n1
  pub captured : IsCaptured options input before after first last

-- where a capture is wanted
abbrev pub CapturesClient : (wanted : Bool) → SimOptions → (input before after : Option (List ℕ)) → Type 0
CapturesClient false options input before after = Unit {0}
CapturesClient true options input before after = HasCapture options input before after

-- ## Watchers

-- what a capture sees, unless it has failed
abbrev pub SeesPassed : (old new : CaptureState) → Direction → List ℕ → Type 0
SeesPassed old new direction octets =
    new.failed ≡ false
    → (old.failed ≡ false) × (new.n1 ≡ old.n1) × ((stamp : Stamp) × Captures old new (record { stamp = stamp; direction = direction; octets = octets }))

-- and what it does where a multiplexer begins
abbrev pub BeginsAnew : (old new : CaptureState) → ℕ → Type 0
BeginsAnew old new n1 = new.failed ≡ false → (old.failed ≡ false) × (new.n1 ≡ n1) × Renews old new

-- and at the end
abbrev pub EndsCapture : (old new : CaptureState) → Type 0
EndsCapture old new = new.failed ≡ false → (old.failed ≡ false) × Renews old new

-- where a multiplexer begins, if one does
abbrev pub BeginsIf : {V : Type 0} → (Begins : V → V → ℕ → Type 0) → (old new : V) → (entered : Option ℕ) → Type 0
BeginsIf Begins old new None = new ≡ old
BeginsIf Begins old new (Some n1) = Begins old new n1

-- a part passed, and what was said to it
pub record SeesPart {V : Type 0} (Sees : V → V → Direction → List ℕ → Type 0) (Begins : V → V → ℕ → Type 0) (old new : V) (part said : List ℕ) (entered : Option ℕ) : Type 0 where
  pub seen : V
  pub both : V
  pub part_seen : Sees old seen ToModem part
  pub said_seen : Sees seen both FromModem said
  pub begins : BeginsIf Begins both new entered

-- whatever answers, and whatever it decides later, all that came is answered by what went
pub record HoldsNow {X : Type 0} (Holds : Setting → (came went : List ℕ) → List Entry → X → (left : List ℕ) → Type 0) (s : Setting) (came went : List ℕ) : Type 0 where
  pub entries : List Entry
  pub now : X
  pub holds : Holds s came went entries now []

-- So far it was answered and seen, but for the octets left; what isn't decided of the others isn't seen yet either.
pub record Passing {X V : Type 0} (Holds : Setting → (came went : List ℕ) → List Entry → X → (left : List ℕ) → Type 0) (Undecided : X → List ℕ) (Sees : V → V → Direction → List ℕ → Type 0) (Begins : V → V → ℕ → Type 0) (s : Setting) (first : V) (came went : List ℕ) (now : X) (left : List ℕ) (watcher : V) : Type 0 where
  pub seen : List ℕ
  pub entries : List Entry
  pub came_is : came ≡ seen ++ (Undecided now ++ left)
  pub holds : Holds s came went entries now left
  pub exchanges : Exchanges (HoldsNow Holds s) Sees Begins first seen (Undecided now ++ left) went entries watcher

-- more is answered and seen
pub record PassesOn {X V : Type 0} (Holds : Setting → (came went : List ℕ) → List Entry → X → (left : List ℕ) → Type 0) (Undecided : X → List ℕ) (Sees : V → V → Direction → List ℕ → Type 0) (Begins : V → V → ℕ → Type 0) (s : Setting) (old new : X) (u w : V) (octets left out_before out : List ℕ) : Type 0 where
  pub more : List ℕ
  pub written : out ≡ out_before ++ more
  pub passes :
      (first : V) (came went : List ℕ) → Passing Holds Undecided Sees Begins s first came went old octets u
      → Passing Holds Undecided Sees Begins s first came (went ++ more) new left w

-- so far, over a reader and a writer
pub record WatchedSoFar {X V : Type 0} (Holds : Setting → (came went : List ℕ) → List Entry → X → (left : List ℕ) → Type 0) (Undecided : X → List ℕ) (Sees : V → V → Direction → List ℕ → Type 0) (Begins : V → V → ℕ → Type 0) (s : Setting) (input rest before after : Option (List ℕ)) (now : X) (first watcher : V) : Type 0 where
  pub came : List ℕ
  pub went : List ℕ
  pub read : Consumes input rest came
  pub written : Appends before after went
  pub passing : Passing Holds Undecided Sees Begins s first came went now [] watcher

-- to the end of the input
pub record WatchedWhole {X V : Type 0} (Holds : Setting → (came went : List ℕ) → List Entry → X → (left : List ℕ) → Type 0) (Sees : V → V → Direction → List ℕ → Type 0) (Begins : V → V → ℕ → Type 0) (s : Setting) (input before after : Option (List ℕ)) (first watcher : V) : Type 0 where
  pub came : List ℕ
  pub went : List ℕ
  pub entries : List Entry
  pub last : X
  pub rest : Option (List ℕ)
  pub end : IsAtEnd rest
  pub read : Consumes input rest came
  pub written : Appends before after went
  pub holds : Holds s came went entries last []
  pub exchanges : Exchanges (HoldsNow Holds s) Sees Begins first came [] went entries watcher

pub record WatchedAnswers {V : Type 0} (Sees : V → V → Direction → List ℕ → Type 0) (Begins : V → V → ℕ → Type 0) (s : Setting) (before after : Option (List ℕ)) (first watcher : V) (all : List ℕ) : Type 0 where
  pub went : List ℕ
  pub entries : List Entry
  pub answers : AnswersEntering s all went entries
  pub seen_all : Exchanges (Answers s) Sees Begins first all [] went entries watcher
  pub written : Appends before after went

-- of all that the reader has, where that is known
abbrev pub IsWatched : {V : Type 0} → (Sees : V → V → Direction → List ℕ → Type 0) → (Begins : V → V → ℕ → Type 0) → Setting → (input before after : Option (List ℕ)) → (first watcher : V) → Type 0
IsWatched Sees Begins s input before after first watcher = IfSome input (WatchedAnswers Sees Begins s before after first watcher)
