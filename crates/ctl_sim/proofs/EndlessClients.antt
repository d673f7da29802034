-- Modems for a client that go on without an end.
use Rattle.std.specs.Prelude.{◌≡◌, ℕ, List, [], ◌++◌, None}
use Rattle.std.proofs.Common.{sym, subst}
use Rattle.mux_capture.specs.declared.packet.Direction.{Direction}
use Rattle.mux_capture.specs.FrontFrames.{IsFrameText, PassesOver}
use Rattle.modem_sim.specs.Sims.{SimState}
use Rattle.ctl_sim.specs.declared.server.Mode.{Mode}
use Rattle.ctl_sim.specs.declared.server.Mode.TheVariants.{Mux}
use Rattle.ctl_sim.specs.Endless.{IsEndlessAt}
use Rattle.ctl_sim.specs.EndlessClients.{ComesToEndless, IsEndlessMode, IsEndlessMux, PassesToEndless}
use Rattle.ctl_sim.specs.HeldLine.{HeldState}
use Rattle.ctl_sim.specs.MuxStates.{MuxState}
use Rattle.ctl_sim.specs.Serving.{Entry, Setting, with_more}
use Rattle.ctl_sim.specs.Standing.{Stands, StepsOn, undecided}
use Rattle.ctl_sim.specs.Watching.{Passing, PassesOn}

-- the frame at which it does is the first of what is kept and left
pub endless_mux : (mux : MuxState) (sim : SimState HeldState) (n1 : ℕ) (kept octets all text behind : List ℕ) → mux ≡ record { sim = sim; n1 = n1; kept = kept } → all ≡ kept ++ octets
    → PassesOver n1 all (text ++ behind) × IsFrameText n1 text → IsEndlessAt sim text → IsEndlessMux mux octets
endless_mux mux sim n1 kept octets all text behind is all_is found endless =
    subst (λ (x : MuxState). IsEndlessMux x octets) (sym is)
    record { text = text; behind = behind; passes = subst (λ (l : List ℕ). PassesOver n1 l (text ++ behind)) all_is found.0; is_text = found.1; endless = endless }

-- in the multiplexer
pub endless_in : (mode : Mode) (mux : MuxState) (octets : List ℕ) → mode ≡ Mux mux → IsEndlessMux mux octets → IsEndlessMode mode octets
endless_in mode mux octets is endless = subst (λ (m : Mode). IsEndlessMode m octets) (sym is) endless

-- once some octets are taken, and no line has entered the multiplexer
pub comes_to_endless : (s : Setting) (old now : Mode) (octets left given before out : List ℕ) → StepsOn Stands undecided s old now None octets left before out → given ≡ left → IsEndlessMode now given → ComesToEndless Stands IsEndlessMode s old octets
comes_to_endless s old now octets left given before out steps is endless came went es stands = record {
  went = went ++ steps.more;
  entries = with_more [] steps.more es;
  now = now;
  left = left;
  stands = steps.stands came went es stands;
  endless = subst (λ (l : List ℕ). IsEndlessMode now l) is endless;
}

-- at what passes next
pub passes_to_endless : {X V : Type 0} (Holds : Setting → List ℕ → List ℕ → List Entry → X → List ℕ → Type 0) (Undecided : X → List ℕ) (Sees : V → V → Direction → List ℕ → Type 0) (Begins : V → V → ℕ → Type 0) (Endless : X → List ℕ → Type 0) (s : Setting) (now : X) (u : V) (octets : List ℕ)
    → ComesToEndless Holds Endless s now octets → PassesToEndless Holds Undecided Sees Begins Endless s now u octets
passes_to_endless Holds Undecided Sees Begins Endless s now u octets comes first came went passing = comes came went passing.entries passing.holds

-- or behind what has passed
pub passes_then_endless : {X V : Type 0} (Holds : Setting → List ℕ → List ℕ → List Entry → X → List ℕ → Type 0) (Undecided : X → List ℕ) (Sees : V → V → Direction → List ℕ → Type 0) (Begins : V → V → ℕ → Type 0) (Endless : X → List ℕ → Type 0) (s : Setting) (old now : X) (u v : V) (octets left given before out : List ℕ)
    → PassesOn Holds Undecided Sees Begins s old now u v octets left before out → given ≡ left → PassesToEndless Holds Undecided Sees Begins Endless s now v given → PassesToEndless Holds Undecided Sees Begins Endless s old u octets
passes_then_endless Holds Undecided Sees Begins Endless s old now u v octets left given before out on is endless first came went passing =
    endless first came (went ++ on.more) (subst (λ (l : List ℕ). Passing Holds Undecided Sees Begins s first came (went ++ on.more) now l v) (sym is) (on.passes first came went passing))
