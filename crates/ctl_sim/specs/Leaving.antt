-- Why and how a client is left: what stands on the output where a fault ends that it is served, and what is said of the fault.
use Rattle.std.specs.Prelude.{◌≡◌, ◌≢◌, ◌≤◌, ℕ, List, [], ◌++◌, length, ⊤, Option, Some, None, IfSome}
use Rattle.std.specs.Io.KnownBytes.{Appends, Consumes}
use Rattle.ctl_text.specs.Writing.{IsBegun}
use Rattle.ctl_sim.specs.declared.fault.BadOption.{BadOption}
use Rattle.ctl_sim.specs.declared.fault.ServeFault.{ServeFault}
use Rattle.ctl_sim.specs.declared.serving.SimOptions.{SimOptions}
use Rattle.ctl_sim.specs.EndlessClients.{IsEndlessAfter, StandsEndless}
use Rattle.ctl_sim.specs.Saying.{fault_line, option_line}
use Rattle.ctl_sim.specs.Serving.{Answers, Entry, IsBadBy, Setting, setting_of}

-- ## Faults

-- of the reader: it failed, or gave no end
abbrev pub IsOfReader : ServeFault → Type 0
IsOfReader ServeFault.Input = ⊤
IsOfReader ServeFault.EndlessInput = ⊤
IsOfReader ServeFault.NoMemory = ⊥
IsOfReader ServeFault.Output = ⊥
IsOfReader ServeFault.Capture = ⊥
IsOfReader ServeFault.EndlessModem = ⊥

-- of what answers: memory was refused; or the simulated modem goes on without an end, of which this is so
abbrev pub IsOfModemBy : (Endless : Type 0) → ServeFault → Type 0
IsOfModemBy Endless ServeFault.NoMemory = ⊤
IsOfModemBy Endless ServeFault.EndlessModem = Endless
IsOfModemBy Endless ServeFault.Input = ⊥
IsOfModemBy Endless ServeFault.EndlessInput = ⊥
IsOfModemBy Endless ServeFault.Output = ⊥
IsOfModemBy Endless ServeFault.Capture = ⊥

-- the same, and no more is said
abbrev pub IsOfModem : ServeFault → Type 0
IsOfModem fault = IsOfModemBy ⊤ fault

-- How the last piece is left that was read. Where no fault came, or one of the reader or of the capture, there is none: all is
-- answered. Where what answers failed, octets were read, and nothing was written to them, and it goes on without an end where that is
-- the fault; where the writer failed, octets were read, and what answers them is begun.
abbrev pub IsLeftBy : Option ServeFault → (piece part : List ℕ) → (Begun Endless : Type 0) → Type 0
IsLeftBy None piece part Begun Endless = (piece ≡ []) × (part ≡ [])
IsLeftBy (Some ServeFault.Input) piece part Begun Endless = (piece ≡ []) × (part ≡ [])
IsLeftBy (Some ServeFault.EndlessInput) piece part Begun Endless = (piece ≡ []) × (part ≡ [])
IsLeftBy (Some ServeFault.Capture) piece part Begun Endless = (piece ≡ []) × (part ≡ [])
IsLeftBy (Some ServeFault.NoMemory) piece part Begun Endless = (piece ≢ []) × (part ≡ [])
IsLeftBy (Some ServeFault.EndlessModem) piece part Begun Endless = (piece ≢ []) × (part ≡ []) × Endless
IsLeftBy (Some ServeFault.Output) piece part Begun Endless = (piece ≢ []) × Begun

-- ## What stands on the output

-- with this and some more all that came would be answered
pub record BeginsAnswer (s : Setting) (came went piece part : List ℕ) : Type 0 where
  pub left : List ℕ
  pub answers : Answers s (came ++ piece) (went ++ (part ++ left))

-- Some of what the reader had was read. All of that was answered whole, but for the last piece of at most 4096 octets. Of that piece's
-- answer as much was written as the fault says. Nothing else was written.
pub record LeavesAnswers (s : Setting) (fault : Option ServeFault) (rest before after : Option (List ℕ)) (all : List ℕ) : Type 0 where
  pub came : List ℕ
  pub went : List ℕ
  pub piece : List ℕ
  pub part : List ℕ
  pub read : Consumes (Some all) rest (came ++ piece)
  pub few : length piece ≤ 4096
  pub answers : Answers s came went
  pub begun : IsLeftBy fault piece part (BeginsAnswer s came went piece part) (IsEndlessAfter s (came ++ piece))
  pub written : Appends before after (went ++ part)

-- of all that the reader had, where that is known
abbrev pub IsLeftAt : Setting → Option ServeFault → (input rest before after : Option (List ℕ)) → Type 0
IsLeftAt s fault input rest before after = IfSome input (LeavesAnswers s fault rest before after)

-- by some fault
pub record IsServedInPart (options : SimOptions) (input rest before after : Option (List ℕ)) : Type 0 where
  pub fault : ServeFault
  pub left : IsLeftAt (setting_of options) (Some fault) input rest before after

-- ## What is said

-- One fault ended it. It is said on a line, as far as that is taken, and nothing else is said; and the client is left as it says. It is
-- that of the capture only where this holds.
pub record EndsFor (OfCapture : Type 0) (options : SimOptions) (input rest before after told_before told_after : Option (List ℕ)) : Type 0 where
  pub fault : ServeFault
  pub said : IsBegun told_before told_after (fault_line fault)
  pub left : IsLeftAt (setting_of options) (Some fault) input rest before after
  pub capture : fault ≡ ServeFault.Capture → OfCapture

-- an option is bad: that is said on a line, as far as that is taken, and nothing else
pub record SaysBad (options : SimOptions) (told_before told_after : Option (List ℕ)) : Type 0 where
  pub why : BadOption
  pub bad : IsBadBy options why
  pub said : IsBegun told_before told_after (option_line why)

-- ## By whatever answers

-- what answers the last piece is begun
pub record NextBegins {X : Type 0} (Holds : Setting → (came went : List ℕ) → List Entry → X → (left : List ℕ) → Type 0) (s : Setting) (came went piece part : List ℕ) : Type 0 where
  pub left : List ℕ
  pub entries : List Entry
  pub next : X
  pub stands : Holds s (came ++ piece) (went ++ (part ++ left)) entries next []

-- some was read, and answered as far as that
pub record LeftSoFar {X : Type 0} (Holds : Setting → (came went : List ℕ) → List Entry → X → (left : List ℕ) → Type 0) (Endless : X → (left : List ℕ) → Type 0) (s : Setting) (fault : Option ServeFault) (input rest before after : Option (List ℕ)) : Type 0 where
  pub came : List ℕ
  pub went : List ℕ
  pub piece : List ℕ
  pub part : List ℕ
  pub entries : List Entry
  pub now : X
  pub read : Consumes input rest (came ++ piece)
  pub few : length piece ≤ 4096
  pub stands : Holds s came went entries now []
  pub begun : IsLeftBy fault piece part (NextBegins Holds s came went piece part) (StandsEndless Holds Endless s (came ++ piece))
  pub written : Appends before after (went ++ part)
