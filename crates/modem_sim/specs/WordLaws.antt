-- Laws of a modem with words.
use Rattle.std.specs.Prelude.{◌≡◌, ◌≢◌, ℕ, Bool, true, false, List, [], ◌∷◌, ◌++◌, codes, fold, map, Some, None, is_some}
use Rattle.modem_sim.specs.declared.modem.ModemStart.{ModemStart}
use Rattle.modem_sim.specs.declared.own_answers.OwnAnswer.{OwnAnswer}
use Rattle.modem_sim.specs.declared.state.Lock.TheVariants.{Ready}
use Rattle.modem_sim.specs.declared.state.ModemState.{ModemState}
use Rattle.modem_sim.specs.declared.state.Words.{Words}
use Rattle.modem_sim.specs.Contexts.{is_active, is_defined}
use Rattle.modem_sim.specs.Laws.{after_lines}
use Rattle.at_cmds.specs.Values.{command_of}
use Rattle.modem_sim.specs.declared.words.Word.TheVariants.{Dial}
use Rattle.modem_sim.specs.OwnAnswers.{due_line, waits_on}
use Rattle.modem_sim.specs.Steps.{dialled, line_of, started_with_words}
use Rattle.modem_sim.specs.LineSteps.{announced, is_too_long, line_commands, nothing_ran, own_answer, ran_next, Ran, step}
use Rattle.modem_sim.specs.Words.{word_of}
use Rattle.at_cmds.specs.declared.command.Command.TheVariants.{ContextQuery}

-- the same modem without words, and so without active contexts
abbrev pub bare : ModemState → ModemState
bare s = record s { active = []; words = None }

-- On a line that is a command of the first table, a modem with words answers as one without them, announces a change of registration
-- behind that, and is left as that one is.
pub record IsAsStandard (s : ModemState) (line : List ℕ) : Type 0 where
  pub answer : (step s line).answer ≡ (step (bare s) line).answer ++ map line_of (announced s (step s line).state)
  pub state : bare (step s line).state ≡ (step (bare s) line).state

-- To a command of the first table, but AT+CGDCONT?, a modem with words answers as one without, while it names the operator by its
-- number and all its functions are on. The line is one of which all octets are kept, it has no answer of its own for it, and no line of
-- an earlier one waits.
abbrev pub AnswersAsStandard : Type 0
AnswersAsStandard =
    (s : ModemState) (w : Words) (line : List ℕ) → s.words ≡ Some w → w.oper_format ≡ 2 → w.functionality ≡ 1
    → is_too_long line ≡ false → own_answer s line ≡ None → s.late ≡ [] → command_of line ≢ Some ContextQuery → is_some (command_of line) ≡ true
    → IsAsStandard s line

-- the command calls over the context of this number
pub record IsCall (text : List ℕ) (cid : ℕ) : Type 0 where
  pub other : command_of text ≡ None
  pub call : word_of text ≡ Some (Dial cid)

-- A line of one call, to a modem with words whose SIM is ready, is answered by one result code: CONNECT where the context is active, and
-- else NO CARRIER. It leaves the modem as it was (27.007, 10.1.12, 10.2.1.1). All octets of the line are kept, it has no answer of its own,
-- and no line of an earlier one waits.
abbrev pub AnswersCalls : Type 0
AnswersCalls =
    (s : ModemState) (w : Words) (line text : List ℕ) (cid : ℕ) → s.words ≡ Some w → s.lock ≡ Ready → is_too_long line ≡ false
    → own_answer s line ≡ None → s.late ≡ [] → line_commands line ≡ Some (text ∷ []) → IsCall text cid
    → step s line ≡ record { state = s; answer = line_of (dialled cid s) ∷ [] }

-- What is said and what waits behind a line whose commands came to this and a CONNECT.
pub record IsHeldBehind (s : ModemState) (line : List ℕ) (r : Ran) : Type 0 where
  pub answer : (step s line).answer ≡ r.told ++ line_of (codes "CONNECT") ∷ []
  pub waiting : (step s line).state.late ≡ map waits_on (map due_line (map line_of (announced s r.state)) ++ r.state.late)

-- Where a call is put through, nothing is said behind its CONNECT, since that would be data (27.007, 10.1.12). The reports that the line
-- makes, and lines that waited for it, come behind the next answer.
abbrev pub HoldsBehindCalls : Type 0
HoldsBehindCalls =
    (s : ModemState) (w : Words) (line : List ℕ) (commands : List (List ℕ)) → s.words ≡ Some w → is_too_long line ≡ false
    → own_answer s line ≡ None → line_commands line ≡ Some commands → (fold ran_next (nothing_ran s) commands).ended ≡ Some (codes "CONNECT")
    → IsHeldBehind s line (fold ran_next (nothing_ran s) commands)

-- Nothing is done of what stands behind a call in its line (27.007, 10.1.12).
abbrev pub EndsAtCalls : Type 0
EndsAtCalls =
    (r : Ran) (before behind : List (List ℕ)) (text : List ℕ) (cid : ℕ) → IsCall text cid
    → fold ran_next r (before ++ text ∷ behind) ≡ fold ran_next r (before ++ text ∷ [])

-- each context that is active is defined, and the modem is attached
pub record ActiveAreThere (s : ModemState) : Type 0 where
  pub defined : (cid : ℕ) → is_active s.active cid ≡ true → is_defined (Some cid) s.contexts ≡ true
  pub attached : (cid : ℕ) → is_active s.active cid ≡ true → s.attached ≡ true

-- So it is with a modem with words, whatever answers of its own it has, after all lines (27.007, 10.1.1, 10.1.9, 10.1.10). So a call that is
-- answered CONNECT is over a context that is defined, of a modem that is attached.
abbrev pub KeepsActive : Type 0
KeepsActive =
    (start : ModemStart) (echo : Bool) (own : List OwnAnswer) (lines : List (List ℕ))
    → ActiveAreThere (after_lines (record (started_with_words start echo) { own = own }) lines)
