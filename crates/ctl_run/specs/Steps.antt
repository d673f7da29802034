-- The lines of a modem's script: what it does of its own accord.
use Rattle.std.specs.Prelude.{◌≡◌, ◌≢◌, ℕ, ◌<◌, ◌^◌, true, false, List, [], ◌∷◌, ◌++◌, Option, IfSome, codes}
use Rattle.std.specs.Fmt.{decimal}
use Rattle.modem_sim.specs.declared.script.Step.{Step}
use Rattle.modem_sim.specs.declared.script.StepAct.{StepAct}
use Rattle.modem_sim.specs.declared.script.StepAct.TheVariants.{Announce, Flow, Hold, Disconnect, CloseDown}
use Rattle.ctl_text.specs.Input.{input_lines}
use Rattle.ctl_text.specs.Words.{number_text}
use Rattle.ctl_text.specs.declared.expected.Expected.{Expected}
use Rattle.ctl_run.specs.Input.{IsFirstBad}
use Rattle.ctl_run.specs.LineFaults.{StepFault}
use Rattle.ctl_run.specs.declared.stop.Stop.{Stop}

-- the words say that it does this
abbrev pub SaysAct : List ℕ → StepAct → Type 0
SaysAct words (Announce d text) = words ≡ codes "announce " ++ number_text d.number ++ 32 ∷ text
SaysAct words (Flow d false) = words ≡ codes "stop " ++ number_text d.number
SaysAct words (Flow d true) = words ≡ codes "go " ++ number_text d.number
SaysAct words (Hold d e) = words ≡ codes "hold " ++ number_text d.number ++ 32 ∷ number_text e.number
SaysAct words (Disconnect d) = words ≡ codes "disconnect " ++ number_text d.number
SaysAct words CloseDown = words ≡ codes "closedown"

-- the words say nothing that it does
abbrev pub SaysNoAct : List ℕ → Type 0
SaysNoAct words = (a : StepAct) → SaysAct words a → ⊥

-- the words begin with none of those behind which something stands, and a blank
pub record ActsNone (words : List ℕ) : Type 0 where
  pub no_announce : (rest : List ℕ) → words ≢ codes "announce " ++ rest
  pub no_stop : (rest : List ℕ) → words ≢ codes "stop " ++ rest
  pub no_go : (rest : List ℕ) → words ≢ codes "go " ++ rest
  pub no_hold : (rest : List ℕ) → words ≢ codes "hold " ++ rest
  pub no_disconnect : (rest : List ℕ) → words ≢ codes "disconnect " ++ rest

-- the line says this step: after how many commands, one blank, and what it does then
pub record SaysStep (line : List ℕ) (s : Step) : Type 0 where
  pub words : List ℕ
  pub few : s.after < 2 ^ 64
  pub line_is : line ≡ decimal s.after ++ 32 ∷ words
  pub says : SaysAct words s.act

-- the line says no step
abbrev pub SaysNoStep : List ℕ → Type 0
SaysNoStep line = (s : Step) → SaysStep line s → ⊥

-- the line isn't empty, and says no step
abbrev pub IsNoStep : List ℕ → Type 0
IsNoStep line = (line ≢ []) × SaysNoStep line

-- the lines that aren't empty say these steps, in order
abbrev pub AreSteps : List (List ℕ) → List Step → Type 0
AreSteps [] [] = Unit {0}
AreSteps [] (s ∷ steps) = ⊥
AreSteps ([] ∷ lines) steps = AreSteps lines steps
AreSteps ((c ∷ line) ∷ lines) [] = ⊥
AreSteps ((c ∷ line) ∷ lines) (s ∷ steps) = SaysStep (c ∷ line) s × AreSteps lines steps

-- the lines of what was read say these steps; that is all that the reader had, where this is known
pub record GivesSteps (input : Option (List ℕ)) (steps : List Step) : Type 0 where
  pub text : List ℕ
  pub whole : IfSome input (λ all. text ≡ all)
  pub say : AreSteps (input_lines text) steps

-- this line of what was read is the first bad one, and this of it the first that isn't as it must be
pub record HasBadStep (input : Option (List ℕ)) (place : ℕ) (why : Expected) : Type 0 where
  pub text : List ℕ
  pub whole : IfSome input (λ all. text ≡ all)
  pub bad : IsFirstBad IsNoStep StepFault (input_lines text) place why

-- why a script isn't read: its first bad line is named with its fault, memory was refused, or the reader failed
abbrev pub StepsStop : Option (List ℕ) → Stop → Type 0
StepsStop input Stop.NoMemory = Unit {0}
StepsStop input Stop.Input = Unit {0}
StepsStop input (Stop.BadLine place why) = HasBadStep input place why
StepsStop input Stop.Output = ⊥
StepsStop input Stop.Line = ⊥
StepsStop input (Stop.GaveUp cause) = ⊥
StepsStop input Stop.BadN1 = ⊥
StepsStop input Stop.BadCallers = ⊥
StepsStop input Stop.BadCut = ⊥
StepsStop input (Stop.Dialect fault) = ⊥
