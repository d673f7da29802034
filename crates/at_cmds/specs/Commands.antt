-- The texts of the commands (27.007, 5.7, 7.2, 7.3, 8.3, 8.5, 9.1, 10.1.1, 10.1.9).
use Rattle.std.specs.Prelude.{◌≡◌, ℕ, ◌+◌, ◌==◌, ◌||◌, Bool, true, false, List, [], ◌∷◌, ◌++◌, take, drop, Option, Some, None, Result, Ok, Err, MatchOption, MatchResult, if◌then◌else◌, codes}
use Rattle.at_cmds.specs.declared.command.Command.{Command}
use Rattle.at_cmds.specs.declared.command.Command.TheVariants.{PinQuery, PinEnter, RegReport, RegQuery, Signal, OperQuery, OperChoose, ContextSet, ContextQuery, AttachSet, AttachQuery, ErrorMode, Multiplex}
use Rattle.at_cmds.specs.declared.command.OperChoice.TheVariants.{Automatic, Deregister, Manual}
use Rattle.at_cmds.specs.declared.command.Pdp.{Pdp}
use Rattle.at_cmds.specs.declared.command.Pdp.TheVariants.{Ip, Ipv6, Ipv4v6}
use Rattle.at_cmds.specs.declared.error.CmdError.{CmdError}
use Rattle.at_cmds.specs.declared.error.CmdError.TheVariants.{BadPin, BadApn, BadNumber, NoMemory}
use Rattle.at_cmds.specs.Forms.{lowered, numeral, in_quotes, is_pin, is_oper, is_apn, is_cid, is_mode}

-- the name of a kind of addresses
abbrev pub pdp_text : Pdp → List ℕ
pdp_text Ip = codes "IP"
pdp_text Ipv6 = codes "IPV6"
pdp_text Ipv4v6 = codes "IPV4V6"

-- the text that defines a context
abbrev pub context_text : ℕ → Pdp → List ℕ → List ℕ
context_text cid pdp apn =
    codes "AT+CGDCONT=" ++ numeral cid ++ codes "," ++ in_quotes (pdp_text pdp) ++ codes "," ++ in_quotes apn

-- the text of a command whose text is fixed; none of another
abbrev pub fixed_text : Command → List ℕ
fixed_text PinQuery = codes "AT+CPIN?"
fixed_text RegQuery = codes "AT+CREG?"
fixed_text Signal = codes "AT+CSQ"
fixed_text OperQuery = codes "AT+COPS?"
fixed_text (OperChoose Automatic) = codes "AT+COPS=0"
fixed_text (OperChoose Deregister) = codes "AT+COPS=2"
fixed_text ContextQuery = codes "AT+CGDCONT?"
fixed_text (AttachSet true) = codes "AT+CGATT=1"
fixed_text (AttachSet false) = codes "AT+CGATT=0"
fixed_text AttachQuery = codes "AT+CGATT?"
fixed_text Multiplex = codes "AT+CMUX=0"
fixed_text _ = []

-- the commands whose text is fixed
abbrev pub fixed_commands : List Command
fixed_commands =
    PinQuery ∷ RegQuery ∷ Signal ∷ OperQuery ∷ OperChoose Automatic ∷ OperChoose Deregister
    ∷ ContextQuery ∷ AttachSet true ∷ AttachSet false ∷ AttachQuery ∷ Multiplex ∷ []

-- the text of a command
abbrev pub text_of : Command → List ℕ
text_of (PinEnter pin) = codes "AT+CPIN=" ++ in_quotes pin
text_of (RegReport n) = codes "AT+CREG=" ++ numeral n
text_of (OperChoose (Manual oper)) = codes "AT+COPS=1,2," ++ in_quotes oper
text_of (ContextSet cid pdp apn) = context_text cid pdp apn
text_of (ErrorMode n) = codes "AT+CMEE=" ++ numeral n
text_of c = fixed_text c

-- why a command has no text that may be written: the reason with the lowest number
abbrev pub refused_for : Command → Option CmdError
refused_for (PinEnter pin) = if is_pin pin then None else Some BadPin
refused_for (RegReport n) = if is_mode n then None else Some BadNumber
refused_for (OperChoose (Manual oper)) = if is_oper oper then None else Some BadNumber
refused_for (ContextSet cid pdp apn) =
    if is_apn apn then
    (if is_cid cid then None else Some BadNumber)
    else Some BadApn
refused_for (ErrorMode n) = if is_mode n then None else Some BadNumber
refused_for _ = None

-- what writing a command answers: its text, why it has none, or that memory was refused
abbrev pub Writes : Command → Result (List ℕ) CmdError → Type 0
Writes c line =
    MatchOption (refused_for c)
    (MatchResult line (λ text. text ≡ text_of c) (λ why. why ≡ NoMemory))
    (λ why. line ≡ Err why)

-- two texts are equal but for the case of the letters in a beginning of this length
pub record IsEqualBehind (start : ℕ) (a b : List ℕ) : Type 0 where
  pub letters : lowered (take start a) ≡ lowered (take start b)
  pub rest : drop start a ≡ drop start b

-- where AT and the name end in a text: before an equals sign or a question mark (V.250, 5.4.2)
abbrev pub name_end : List ℕ → ℕ
name_end [] = 0
name_end (c ∷ text) = if c == 61 || c == 63 then 0 else name_end text + 1

-- a text is that of a command that may be written, but for the case of the letters of AT and of the name
pub record IsTextOf (text : List ℕ) (c : Command) : Type 0 where
  pub written : refused_for c ≡ None
  pub equal : IsEqualBehind (name_end (text_of c)) text (text_of c)

-- the only command of which something holds
pub record IsOnly (Holds : Command → Type 0) (c : Command) : Type 0 where
  pub is : Holds c
  pub only : (d : Command) → Holds d → d ≡ c

-- a command that takes memory for a text of its own
abbrev pub has_own_text : Command → Bool
has_own_text (PinEnter pin) = true
has_own_text (OperChoose (Manual oper)) = true
has_own_text (ContextSet cid pdp apn) = true
has_own_text _ = false

-- a command that wasn't read, since memory for its text was refused
pub record IsUnread (Holds : Command → Type 0) (c : Command) : Type 0 where
  pub only : IsOnly Holds c
  pub has_text : has_own_text c ≡ true

-- what reading a text answers: the only command whose text it is, that there is none, or that memory was
-- refused
abbrev pub Reads : (Command → Type 0) → Result (Option Command) CmdError → Type 0
Reads Holds (Ok None) = (c : Command) → ¬ Holds c
Reads Holds (Ok (Some c)) = IsOnly Holds c
Reads Holds (Err why) = (why ≡ NoMemory) × (c : Command) × IsUnread Holds c
