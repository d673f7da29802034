-- What a modem was told is what it tells later, over runs of lines
-- (27.007, 7.2, 7.3, 8.3, 9.1, 10.1.1, 10.1.9).
use Rattle.std.specs.Prelude.{◌≡◌, ℕ, zero, suc, ◌==◌, Bool, true, false, List, [], ◌∷◌, ◌++◌, map, find, Option, Some, None, Result, Ok, codes}
use Rattle.at_text.specs.declared.answer.AnswerLine.{AnswerLine}
use Rattle.at_cmds.specs.declared.command.Command.{Command}
use Rattle.at_cmds.specs.declared.command.Command.TheVariants.{RegReport, RegQuery, OperQuery, OperChoose, ContextSet, ContextQuery, AttachSet, AttachQuery, ErrorMode, Multiplex}
use Rattle.at_cmds.specs.declared.command.OperChoice.{OperChoice}
use Rattle.at_cmds.specs.declared.command.OperChoice.TheVariants.{Automatic, Deregister, Manual}
use Rattle.at_cmds.specs.declared.command.Pdp.{Pdp}
use Rattle.at_cmds.specs.declared.error.ReplyFault.{ReplyFault}
use Rattle.at_cmds.specs.declared.reply.Context.{Context}
use Rattle.at_cmds.specs.declared.reply.NamedOper.{NamedOper}
use Rattle.at_cmds.specs.declared.reply.Reply.{Reply}
use Rattle.at_cmds.specs.declared.reply.Reply.TheVariants.{Accepted, Attached, Contexts, Oper, Reg}
use Rattle.at_cmds.specs.Commands.{IsTextOf, pdp_text}
use Rattle.at_cmds.specs.Replies.{reply_of}
use Rattle.modem_sim.specs.declared.modem.ModemStart.{ModemStart}
use Rattle.modem_sim.specs.declared.state.ModemState.{ModemState}
use Rattle.modem_sim.specs.Laws.{reached}
use Rattle.modem_sim.specs.LineSteps.{step}

abbrev pub Answer : Type 0
Answer = Result Reply ReplyFault

-- what a line with this command is answered, as its reader reads it
abbrev pub answered : ModemState → Command → List ℕ → Answer
answered s c line = reply_of c (step s line).answer

-- whatever line asks this of a modem in this state, this holds of the answer
abbrev pub Tells : ModemState → Command → (Answer → Type 0) → Type 0
Tells s c Holds = (line : List ℕ) → IsTextOf line c → Holds (answered s c line)

-- none of these lines is a command that sets it
abbrev pub NoneSets : (Command → Bool) → List (List ℕ) → Type 0
NoneSets sets [] = Unit {0}
NoneSets sets (line ∷ lines) = ((c : Command) → IsTextOf line c → sets c ≡ false) × NoneSets sets lines

-- a modem that was given lines, then this command, which it accepted, and then lines that don't set the same
pub record IsSet (start : ModemStart) (c : Command) (sets : Command → Bool) (s : ModemState) : Type 0 where
  pub before : List (List ℕ)
  pub line : List ℕ
  pub is_text : IsTextOf line c
  pub accepted : answered (reached start before) c line ≡ Ok Accepted
  pub later : List (List ℕ)
  pub none_sets : NoneSets sets later
  pub state_is : s ≡ reached start (before ++ line ∷ later)

-- ## Registration reports (7.2)

abbrev pub sets_reports : Command → Bool
sets_reports (RegReport n) = true
sets_reports _ = false

abbrev pub TellsReports : ℕ → Answer → Type 0
TellsReports n (Ok (Reg m registration)) = m ≡ n
TellsReports n _ = ⊥

-- how registration is reported, once set, is told until it is set again
abbrev pub KeepsReports : ModemStart → Type 0
KeepsReports start =
    (n : ℕ) (s : ModemState) → IsSet start (RegReport n) sets_reports s → Tells s RegQuery (TellsReports n)

-- ## How errors are told (9.1): an AT+CMUX=0 is never allowed

abbrev pub sets_errors : Command → Bool
sets_errors (ErrorMode n) = true
sets_errors _ = false

abbrev pub refused_as : ℕ → List ℕ
refused_as zero = codes "ERROR"
refused_as (suc zero) = codes "+CME ERROR: 3"
refused_as (suc (suc n)) = codes "+CME ERROR: operation not allowed"

-- how errors are told, once set, stays until it is set again
abbrev pub KeepsErrors : ModemStart → Type 0
KeepsErrors start =
    (n : ℕ) (s : ModemState) → IsSet start (ErrorMode n) sets_errors s
    → (line : List ℕ) → IsTextOf line Multiplex
    → map (λ (l : AnswerLine). l.text) (step s line).answer ≡ refused_as n ∷ []

-- ## Attachment (10.1.9), which leaving the network ends (7.3)

abbrev pub sets_attached : Command → Bool
sets_attached (AttachSet on) = true
sets_attached (OperChoose Deregister) = true
sets_attached _ = false

-- attachment, once set, is told until it is set again
abbrev pub KeepsAttached : ModemStart → Type 0
KeepsAttached start =
    (on : Bool) (s : ModemState) → IsSet start (AttachSet on) sets_attached s
    → Tells s AttachQuery (λ r. r ≡ Ok (Attached on))

-- ## Contexts (10.1.1)

abbrev pub sets_context : ℕ → Command → Bool
sets_context cid (ContextSet other pdp apn) = other == cid
sets_context cid _ = false

abbrev pub TellsContext : Context → Answer → Type 0
TellsContext c (Ok (Contexts cs)) = find (λ (x : Context). x.cid == c.cid) cs ≡ Some c
TellsContext c _ = ⊥

-- a context, once set, is told until its number is set again
abbrev pub KeepsContext : ModemStart → Type 0
KeepsContext start =
    (cid : ℕ) (pdp : Pdp) (apn : List ℕ) (s : ModemState)
    → IsSet start (ContextSet cid pdp apn) (sets_context cid) s
    → Tells s ContextQuery (TellsContext (record { cid = cid; pdp = pdp_text pdp; apn = apn }))

-- ## The operator (7.3)

abbrev pub sets_oper : Command → Bool
sets_oper (OperChoose choice) = true
sets_oper _ = false

-- an operator is named by its number (format 2)
abbrev pub IsNamed : List ℕ → Option NamedOper → Type 0
IsNamed oper None = ⊥
IsNamed oper (Some named) = (named.format ≡ 2) × (named.oper ≡ oper)

-- 0 the modem chose, 1 by hand, 2 deregistered
abbrev pub TellsOper : OperChoice → Answer → Type 0
TellsOper Automatic (Ok (Oper mode named)) = mode ≡ 0
TellsOper (Manual oper) (Ok (Oper mode named)) = (mode ≡ 1) × IsNamed oper named
TellsOper Deregister (Ok (Oper mode named)) = (mode ≡ 2) × (named ≡ None)
TellsOper choice _ = ⊥

-- the choice of an operator, once made, is told until it is made again
abbrev pub KeepsOper : ModemStart → Type 0
KeepsOper start =
    (choice : OperChoice) (s : ModemState) → IsSet start (OperChoose choice) sets_oper s
    → Tells s OperQuery (TellsOper choice)
