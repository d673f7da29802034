-- Laws of the modem's step.
use Rattle.std.specs.Prelude.{◌≡◌, ℕ, ◌<◌, ◌==◌, true, false, List, [], ◌∷◌, ◌++◌, map, Option, Some, find, if◌then◌else◌}
use Rattle.std.specs.List.{list_all, list_any}
use Rattle.std.specs.List.Sorted.{IsStrictlyIncreasing}
use Rattle.at_text.specs.declared.answer.AnswerLine.{AnswerLine}
use Rattle.at_text.specs.Dialects.{standard, is_solicited}
use Rattle.at_text.specs.Finals.{is_final}
use Rattle.at_cmds.specs.declared.command.Command.{Command}
use Rattle.at_cmds.specs.Commands.{IsTextOf}
use Rattle.at_cmds.specs.Replies.{reply_of}
use Rattle.modem_sim.specs.declared.contexts.PdpContext.{PdpContext}
use Rattle.modem_sim.specs.declared.modem.ModemStart.{ModemStart}
use Rattle.modem_sim.specs.declared.state.ModemState.{ModemState}
use Rattle.modem_sim.specs.Contexts.{with_context}
use Rattle.modem_sim.specs.Steps.{started}
use Rattle.modem_sim.specs.LineSteps.{step}
use Rattle.modem_sim.specs.Meanings.{meant}

-- the state of a modem after lines
abbrev pub after_lines : ModemState → List (List ℕ) → ModemState
after_lines s [] = s
after_lines s (line ∷ lines) = after_lines (step s line).state lines

-- a modem that started so, after these lines
abbrev pub reached : ModemStart → List (List ℕ) → ModemState
reached start lines = after_lines (started start) lines

-- the numbers of a start are octets
pub record IsStart (start : ModemStart) : Type 0 where
  pub rssi : start.rssi < 256
  pub ber : start.ber < 256

-- an answer ends with a final code, and no line before it is one
pub record EndsOnce (answer : List AnswerLine) : Type 0 where
  pub front : List AnswerLine
  pub code : AnswerLine
  pub parts : answer ≡ front ++ code ∷ []
  pub before : list_any (λ line. is_final line.text) front ≡ false
  pub last : is_final code.text ≡ true

-- what a modem in this state answers to a line: it ends once, nothing in it is unsolicited, and to a command
-- it is read back as the reply that the state says
pub record AnswersWell (s : ModemState) (line : List ℕ) : Type 0 where
  pub ends : EndsOnce (step s line).answer
  pub solicited : list_all (λ answer. is_solicited standard answer.text) (step s line).answer ≡ true
  pub read_back : (c : Command) → IsTextOf line c → reply_of c (step s line).answer ≡ meant s c

-- whatever lines a modem was given since it started so, it answers the next one well
abbrev pub AnswersWellAlways : ModemStart → Type 0
AnswersWellAlways start = (lines : List (List ℕ)) (line : List ℕ) → AnswersWell (reached start lines) line

-- the context of a number
abbrev pub context_of : ℕ → List PdpContext → Option PdpContext
context_of n contexts = find (λ c. c.cid == n) contexts

-- a context that is set is that of its number, and the others are as before
abbrev pub SetsOne : PdpContext → List PdpContext → ℕ → Type 0
SetsOne new contexts n =
    context_of n (with_context new contexts) ≡ (if new.cid == n then Some new else context_of n contexts)

-- contexts have numbers of their own, in rising order
abbrev pub AreInOrder : List PdpContext → Type 0
AreInOrder contexts = IsStrictlyIncreasing (map (λ c. c.cid) contexts)
