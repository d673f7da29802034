-- How a text is read as a command (V.250, 5.4; 27.007, 4.2).
use Rattle.std.specs.Prelude.{◌≡◌, ℕ, ◌==◌, Bool, true, false, List, [], ◌∷◌, length, take, drop, find, Option, Some, None, Result, Ok, Err, nat_eq, if◌then◌else◌, codes}
use Rattle.std.specs.List.{starts_with}
use Rattle.std.specs.Option.{option_map_or, option_or}
use Rattle.std.specs.Str.{bytes_eq}
use Rattle.at_cmds.specs.declared.command.Command.{Command}
use Rattle.at_cmds.specs.declared.command.Command.TheVariants.{PinEnter, RegReport, OperChoose, ContextSet, ErrorMode}
use Rattle.at_cmds.specs.declared.command.OperChoice.TheVariants.{Manual}
use Rattle.at_cmds.specs.declared.command.Pdp.{Pdp}
use Rattle.at_cmds.specs.declared.command.Pdp.TheVariants.{Ip, Ipv6, Ipv4v6}
use Rattle.at_cmds.specs.declared.error.CmdError.{CmdError}
use Rattle.at_cmds.specs.declared.error.CmdError.TheVariants.{NoMemory}
use Rattle.at_cmds.specs.Params.{◌>>=◌, parameters, unquoted}
use Rattle.at_cmds.specs.Forms.{lowered, is_same, numeral_in, cid_in, is_pin, is_oper, is_apn, is_mode}
use Rattle.at_cmds.specs.Commands.{has_own_text, fixed_text, fixed_commands}

-- a command that sets something: a text behind an equals sign
abbrev pub after_equals : List ℕ → Option (List ℕ)
after_equals [] = None
after_equals (c ∷ text) = if c == 61 then Some text else None

-- the PIN that a value sets
abbrev pub pin_in : List ℕ → Option (List ℕ)
pin_in value = do
  text ← after_equals value
  pin ← unquoted text
  if is_pin pin then Some pin else None

-- the mode, 0 to 2, that a value sets
abbrev pub mode_in : List ℕ → Option ℕ
mode_in value = do
  text ← after_equals value
  n ← numeral_in text
  if is_mode n then Some n else None

-- the operator's number that a value chooses by hand
abbrev pub oper_in : List ℕ → Option (List ℕ)
oper_in value =
    if starts_with nat_eq value (codes "=1,2,") then (do
      oper ← unquoted (drop 5 value)
      if is_oper oper then Some oper else None)
    else None

-- the kind of addresses of this name
abbrev pub pdp_in : List ℕ → Option Pdp
pdp_in text =
    if bytes_eq text (codes "IP") then Some Ip
    else if bytes_eq text (codes "IPV6") then Some Ipv6
    else if bytes_eq text (codes "IPV4V6") then Some Ipv4v6
    else None

-- the context that these parameters are
abbrev pub context_value : List (List ℕ) → Option (ℕ × Pdp × List ℕ)
context_value (cid ∷ pdp ∷ apn ∷ []) = do
  n ← cid_in cid
  kind ← unquoted pdp
  k ← pdp_in kind
  a ← unquoted apn
  if is_apn a then Some (n, k, a) else None
context_value _ = None

-- the context that a value defines
abbrev pub context_set_in : List ℕ → Option (ℕ × Pdp × List ℕ)
context_set_in value = do
  text ← after_equals value
  context_value (parameters text)

-- the names of the commands that set values (27.007, table A.1)
pub data Name : Type 0 where
  Cpin : Name
  Creg : Name
  Cops : Name
  Cgdcont : Name
  Cmee : Name

-- AT and the name, as a text begins
abbrev pub head : Name → List ℕ
head Cpin = codes "AT+CPIN"
head Creg = codes "AT+CREG"
head Cops = codes "AT+COPS"
head Cgdcont = codes "AT+CGDCONT"
head Cmee = codes "AT+CMEE"

-- the names of the commands that set values
abbrev pub names : List Name
names = Cpin ∷ Creg ∷ Cops ∷ Cgdcont ∷ Cmee ∷ []

-- a text begins with these letters, in either case
abbrev pub HasHead : List ℕ → List ℕ → Type 0
HasHead start text = lowered (take (length start) text) ≡ lowered start

-- a text begins with AT and this name, in either case
abbrev pub has_name : List ℕ → Name → Bool
has_name text n = bytes_eq (take (length (head n)) (lowered text)) (lowered (head n))

-- a command of a name with this value
unfoldable pub command_in : Name → List ℕ → Option Command
command_in Cpin value = do
  pin ← pin_in value
  Some (PinEnter pin)
command_in Creg value = do
  n ← mode_in value
  Some (RegReport n)
command_in Cops value = do
  oper ← oper_in value
  Some (OperChoose (Manual oper))
command_in Cgdcont value = do
  context ← context_set_in value
  Some (ContextSet context.0 context.1 context.2)
command_in Cmee value = do
  n ← mode_in value
  Some (ErrorMode n)

-- the command that a text sets values by: of the name that it begins with, with the value behind it
abbrev pub set_in : List ℕ → Option Command
set_in text = do
  name ← find (has_name text) names
  command_in name (drop (length (head name)) text)

-- the command that a text is among those whose text is fixed, its letters in either case: behind a name they have none
abbrev pub fixed_in : List ℕ → Option Command
fixed_in text = find (λ c. is_same text (fixed_text c)) fixed_commands

-- the command that a text is, where it is one
unfoldable pub command_of : List ℕ → Option Command
command_of text = option_or (fixed_in text) (set_in text)

-- what reading a text answers: the command that it is, where it is one, but where memory for a text is refused
abbrev pub Gives : Result (Option Command) CmdError → Option Command → Type 0
Gives (Ok found) read = found ≡ read
Gives (Err why) read = (why ≡ NoMemory) × (option_map_or has_own_text read false ≡ true)
