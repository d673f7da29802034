-- When a modem for a client goes on without an end.
use Rattle.std.specs.Prelude.{ℕ, List, ◌++◌}
use Rattle.mux_capture.specs.declared.packet.Direction.{Direction}
use Rattle.mux_capture.specs.FrontFrames.{IsFrameText, PassesOver}
use Rattle.ctl_sim.specs.declared.server.Mode.{Mode}
use Rattle.ctl_sim.specs.declared.server.Mode.TheVariants.{Lines, Mux}
use Rattle.ctl_sim.specs.Endless.{IsEndlessAt}
use Rattle.ctl_sim.specs.MuxStates.{MuxState}
use Rattle.ctl_sim.specs.Serving.{Entry, Setting}
use Rattle.ctl_sim.specs.Standing.{AtMux}
use Rattle.ctl_sim.specs.Watching.{Passing}

-- in the multiplexer, once the first frame of what is kept and left is handed in
pub record IsEndlessMux (mux : MuxState) (left : List ℕ) : Type 0 where
  pub text : List ℕ
  pub behind : List ℕ
  pub passes : PassesOver mux.n1 (mux.kept ++ left) (text ++ behind)
  pub is_text : IsFrameText mux.n1 text
  pub endless : IsEndlessAt mux.sim text

-- never at plain lines
abbrev pub IsEndlessMode : Mode → (left : List ℕ) → Type 0
IsEndlessMode (Lines p) left = ⊥
IsEndlessMode (Mux mux) left = IsEndlessMux mux left

-- Whatever answers: of all that came some octets are left, behind which it goes on without an end.
pub record StandsEndless {X : Type 0} (Holds : Setting → (came went : List ℕ) → List Entry → X → (left : List ℕ) → Type 0) (Endless : X → (left : List ℕ) → Type 0) (s : Setting) (came : List ℕ) : Type 0 where
  pub went : List ℕ
  pub entries : List Entry
  pub now : X
  pub left : List ℕ
  pub stands : Holds s came went entries now left
  pub endless : Endless now left

-- octets are left, of which some may be taken before
abbrev pub ComesToEndless : {X : Type 0} → (Holds : Setting → (came went : List ℕ) → List Entry → X → (left : List ℕ) → Type 0) → (Endless : X → (left : List ℕ) → Type 0) → Setting → X → (left : List ℕ) → Type 0
ComesToEndless Holds Endless s x left =
    (came went : List ℕ) (es : List Entry) → Holds s came went es x left → StandsEndless Holds Endless s came

-- the same of what passes
abbrev pub PassesToEndless : {X V : Type 0} → (Holds : Setting → (came went : List ℕ) → List Entry → X → (left : List ℕ) → Type 0) → (Undecided : X → List ℕ) → (Sees : V → V → Direction → List ℕ → Type 0) → (Begins : V → V → ℕ → Type 0) → (Endless : X → (left : List ℕ) → Type 0) → Setting → X → V → (left : List ℕ) → Type 0
PassesToEndless {X} {V} Holds Undecided Sees Begins Endless s x watcher left =
    (first : V) (came went : List ℕ) → Passing Holds Undecided Sees Begins s first came went x left watcher
    → StandsEndless Holds Endless s came

-- A client's octets came. Those before the octets left are answered, as a modem for it does. The first frame of those left, with what is
-- kept of the others, is handed to its simulated modem in the multiplexer, which goes on without an end.
pub record IsEndlessAfter (s : Setting) (came : List ℕ) : Type 0 where
  pub went : List ℕ
  pub entries : List Entry
  pub mux : MuxState
  pub left : List ℕ
  pub stands : AtMux s came went entries mux left
  pub endless : IsEndlessMux mux left
