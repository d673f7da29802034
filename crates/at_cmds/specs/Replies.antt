-- Replies (27.007, 7.2, 7.3, 8.3, 8.5, 9.2, 10.1.1, 10.1.9; V.250, 5.7).
use Rattle.std.specs.Prelude.{◌≡◌, ℕ, ◌+◌, ◌-◌, ◌&&◌, nat_eq, Bool, true, false, List, [], ◌∷◌, length, drop, Option, Some, None, is_none, Result, Ok, Err, MatchResult, slice_get, if◌then◌else◌, codes}
use Rattle.std.specs.List.{starts_with, filter_map, position_from}
use Rattle.std.specs.Str.{bytes_eq}
use Rattle.at_text.specs.declared.answer.AnswerLine.{AnswerLine}
use Rattle.at_text.specs.declared.finals.Final.{Final}
use Rattle.at_text.specs.declared.finals.Final.TheVariants.{Good, Error, Named, Cme as CmeCode}
use Rattle.at_text.specs.Finals.{final_of}
use Rattle.at_text.specs.Octets.{skip_blanks}
use Rattle.at_cmds.specs.declared.command.Command.{Command}
use Rattle.at_cmds.specs.declared.command.Command.TheVariants.{PinQuery, RegQuery, Signal as SignalQuery, OperQuery, ContextQuery, AttachQuery}
use Rattle.at_cmds.specs.declared.error.ReplyFault.{ReplyFault}
use Rattle.at_cmds.specs.declared.error.ReplyFault.TheVariants.{Cme, PlainError, Missing, Malformed, NoMemory}
use Rattle.at_cmds.specs.declared.reply.Reply.{Reply}
use Rattle.at_cmds.specs.declared.reply.Reply.TheVariants.{Accepted, Pin, Reg, Signal, Oper, Contexts, Attached}
use Rattle.at_cmds.specs.declared.reply.PinState.{PinState}
use Rattle.at_cmds.specs.declared.reply.PinState.TheVariants.{Ready, SimPin, SimPuk, Other}
use Rattle.at_cmds.specs.declared.reply.NamedOper.{NamedOper}
use Rattle.at_cmds.specs.declared.reply.Context.{Context}
use Rattle.at_cmds.specs.Cme.{cme_number}
use Rattle.at_cmds.specs.Params.{◌>>=◌, parameters, number_of, quoted_of}
use Rattle.at_cmds.specs.Registrations.{registration_of}

-- +CPIN: the whole text behind any blanks
abbrev pub pin_of : List ℕ → PinState
pin_of text =
    let state = skip_blanks text in
    if bytes_eq state (codes "READY") then Ready
    else if bytes_eq state (codes "SIM PIN") then SimPin
    else if bytes_eq state (codes "SIM PUK") then SimPuk
    else Other state

-- +CREG: n, stat and optionally a cell
unfoldable pub reg_of : List (List ℕ) → Option Reply
reg_of [] = None
reg_of (mode ∷ registration) = do
  n ← number_of mode
  r ← registration_of registration
  Some (Reg n r)

-- +CSQ: rssi, ber
unfoldable pub signal_of : List (List ℕ) → Option Reply
signal_of [] = None
signal_of (rssi ∷ []) = None
signal_of (rssi ∷ ber ∷ more) = do
  r ← number_of rssi
  b ← number_of ber
  Some (Signal r b)

-- an operator of these parts
abbrev pub named_parts : ℕ → List ℕ → Option ℕ → NamedOper
named_parts format oper act = record { format = format; oper = oper; act = act }

-- AcT of +COPS: left out with its comma, or a number
abbrev pub oper_act_of : List (List ℕ) → Option (Option ℕ)
oper_act_of [] = Some None
oper_act_of (act ∷ more) = do
  a ← number_of act
  Some (Some a)

-- the operator of +COPS: left out, or format, oper and optionally AcT
abbrev pub named_of : List (List ℕ) → Option (Option NamedOper)
named_of [] = Some None
named_of (format ∷ []) = None
named_of (format ∷ oper ∷ more) = do
  f ← number_of format
  o ← quoted_of oper
  a ← oper_act_of more
  Some (Some (named_parts f o a))

-- +COPS: mode and optionally an operator
unfoldable pub oper_of : List (List ℕ) → Option (ℕ × Option NamedOper)
oper_of [] = None
oper_of (mode ∷ operator) = do
  m ← number_of mode
  o ← named_of operator
  Some (m, o)

-- a context of these parts
abbrev pub context_parts : ℕ → List ℕ → List ℕ → Context
context_parts cid pdp apn = record { cid = cid; pdp = pdp; apn = apn }

-- +CGDCONT: cid, kind, access point
unfoldable pub context_of : List (List ℕ) → Option Context
context_of [] = None
context_of (cid ∷ []) = None
context_of (cid ∷ pdp ∷ []) = None
context_of (cid ∷ pdp ∷ apn ∷ more) = do
  c ← number_of cid
  p ← quoted_of pdp
  a ← quoted_of apn
  Some (context_parts c p a)

-- +CGATT: 0 or 1 behind any blanks, and nothing else
abbrev pub attached_of : List ℕ → Option Reply
attached_of text =
    let state = skip_blanks text in
    if bytes_eq state (codes "0") then Some (Attached false)
    else if bytes_eq state (codes "1") then Some (Attached true)
    else None

-- the first line from an index on that begins with a name: its index, and what follows the name
abbrev pub named_from : List ℕ → ℕ → List AnswerLine → Option (ℕ × List ℕ)
named_from name i [] = None
named_from name i (line ∷ lines) =
    if starts_with nat_eq line.text name then Some (i, drop (length name) line.text)
    else named_from name (i + 1) lines

-- the first line that begins with this name: its index, and what follows the name
unfoldable pub first_named : List ℕ → List AnswerLine → Option (ℕ × List ℕ)
first_named name lines = named_from name 0 lines

-- a line of a form, or the fault of the line with this index
abbrev pub formed : ℕ → Option Reply → Result Reply ReplyFault
formed index None = Err (Malformed index)
formed index (Some reply) = Ok reply

-- the line of a name, read by its form
abbrev pub read_line : (List ℕ → Option Reply) → Option (ℕ × List ℕ) → Result Reply ReplyFault
read_line form None = Err Missing
read_line form (Some line) = formed line.0 (form line.1)

-- the context of a line, where it has one
abbrev pub context_in : AnswerLine → Option Context
context_in line =
    if starts_with nat_eq line.text (codes "+CGDCONT:") then context_of (parameters (drop 9 line.text))
    else None

-- a line that begins with the name of contexts, and isn't of their form
abbrev pub is_malformed_context : AnswerLine → Bool
is_malformed_context line =
    starts_with nat_eq line.text (codes "+CGDCONT:") && is_none (context_of (parameters (drop 9 line.text)))

-- the contexts of all lines, unless a line with their name isn't of their form
abbrev pub contexts_unless : Option ℕ → List AnswerLine → Result Reply ReplyFault
contexts_unless None lines = Ok (Contexts (filter_map context_in lines))
contexts_unless (Some index) lines = Err (Malformed index)

-- the contexts that the lines tell, or the first line that isn't of their form
unfoldable pub contexts_of : List AnswerLine → Result Reply ReplyFault
contexts_of lines = contexts_unless (position_from is_malformed_context 0 lines) lines

-- the operator that a line tells
abbrev pub oper_reply_of : List ℕ → Option Reply
oper_reply_of text = do
  x ← oper_of (parameters text)
  Some (Oper x.0 x.1)

-- the reply to a command whose answer ends with OK
abbrev pub good_reply_of : Command → List AnswerLine → Result Reply ReplyFault
good_reply_of PinQuery lines =
    read_line (λ text. Some (Pin (pin_of text))) (first_named (codes "+CPIN:") lines)
good_reply_of RegQuery lines =
    read_line (λ text. reg_of (parameters text)) (first_named (codes "+CREG:") lines)
good_reply_of SignalQuery lines =
    read_line (λ text. signal_of (parameters text)) (first_named (codes "+CSQ:") lines)
good_reply_of OperQuery lines = read_line oper_reply_of (first_named (codes "+COPS:") lines)
good_reply_of ContextQuery lines = contexts_of lines
good_reply_of AttachQuery lines = read_line attached_of (first_named (codes "+CGATT:") lines)
good_reply_of _ lines = Ok Accepted

-- the fault of a CME code whose text has this number, or none
abbrev pub cme_fault : Option ℕ → ReplyFault
cme_fault None = PlainError
cme_fault (Some n) = Cme n

-- what a final code says against a reply
abbrev pub fault_by : Option Final → List ℕ → Option ReplyFault
fault_by None text = Some Missing
fault_by (Some Good) text = None
fault_by (Some Error) text = Some PlainError
fault_by (Some (CmeCode (Some n))) text = Some (Cme n)
fault_by (Some (CmeCode None)) text = Some (cme_fault (cme_number (skip_blanks (drop 11 text))))
fault_by (Some (Named place)) text = Some Missing

abbrev pub fault_at : Option AnswerLine → Option ReplyFault
fault_at None = Some Missing
fault_at (Some line) = fault_by (final_of line.text) line.text

-- what the last line says against a reply
unfoldable pub fault_of : List AnswerLine → Option ReplyFault
fault_of lines = fault_at (slice_get lines (length lines - 1))

abbrev pub reply_unless : Option ReplyFault → Command → List AnswerLine → Result Reply ReplyFault
reply_unless None command lines = good_reply_of command lines
reply_unless (Some why) command lines = Err why

-- the reply to a command, or the fault, in the lines of an answer
abbrev pub reply_of : Command → List AnswerLine → Result Reply ReplyFault
reply_of command lines = reply_unless (fault_of lines) command lines

-- a reply that takes memory for a text or a list of its own
abbrev pub takes_memory : Reply → Bool
takes_memory (Pin (Other text)) = true
takes_memory (Oper mode (Some named)) = true
takes_memory (Contexts (context ∷ more)) = true
takes_memory _ = false

-- what is answered is the reply or the fault, but where memory for the reply is refused
abbrev pub Answers : Result Reply ReplyFault → Result Reply ReplyFault → Type 0
Answers result (Ok reply) =
    MatchResult result (λ r. r ≡ reply) (λ why. (why ≡ NoMemory) × (takes_memory reply ≡ true))
Answers result (Err why) = result ≡ Err why
