-- What a modem tells of its state (27.007, 7.2, 7.3, 8.3, 8.5, 10.1.1, 10.1.9).
use Rattle.std.specs.Prelude.{ℕ, ◌==◌, Bool, true, false, List, [], ◌++◌, if◌then◌else◌, codes}
use Rattle.std.specs.Fmt.{decimal}
use Rattle.at_cmds.specs.declared.command.OperChoice.{OperChoice}
use Rattle.at_cmds.specs.declared.command.OperChoice.TheVariants.{Automatic, Deregister, Manual}
use Rattle.at_cmds.specs.Commands.{pdp_text}
use Rattle.at_cmds.specs.Forms.{in_quotes}
use Rattle.modem_sim.specs.declared.contexts.PdpContext.{PdpContext}
use Rattle.modem_sim.specs.declared.state.Lock.{Lock}
use Rattle.modem_sim.specs.declared.state.Lock.TheVariants.{Ready, NeedPin, NeedPuk}

-- which PIN is wanted (27.007, 8.3)
abbrev pub pin_text : Lock → List ℕ
pin_text Ready = codes "+CPIN: READY"
pin_text (NeedPin pin tries) = codes "+CPIN: SIM PIN"
pin_text NeedPuk = codes "+CPIN: SIM PUK"

-- the cell, where reports have it: area, cell, and 7 for E-UTRAN (27.007, 7.2)
abbrev pub cell_text : ℕ → List ℕ
cell_text n = if n == 2 then codes ",\"00A1\",\"01B2C3D4\",7" else []

-- the registration: 1 at home, and the cell, or 0 not registered (27.007, 7.2)
abbrev pub reg_text : ℕ → Bool → List ℕ
reg_text n false = codes "+CREG: " ++ decimal n ++ codes ",0"
reg_text n true = codes "+CREG: " ++ decimal n ++ codes ",1" ++ cell_text n

-- strength and errors of the signal (27.007, 8.5)
abbrev pub signal_text : ℕ → ℕ → List ℕ
signal_text rssi ber = codes "+CSQ: " ++ decimal rssi ++ codes "," ++ decimal ber

-- the operator: how it was chosen, its number, and 7 for E-UTRAN (27.007, 7.3)
abbrev pub oper_text : OperChoice → List ℕ
oper_text Automatic = codes "+COPS: 0,2,\"00101\",7"
oper_text (Manual oper) = codes "+COPS: 1,2," ++ in_quotes oper ++ codes ",7"
oper_text Deregister = codes "+COPS: 2"

-- a context (27.007, 10.1.1)
abbrev pub context_text : PdpContext → List ℕ
context_text c =
    codes "+CGDCONT: " ++ decimal c.cid ++ codes "," ++ in_quotes (pdp_text c.pdp) ++ codes ","
    ++ in_quotes c.apn

-- a context of a modem with words: with an address that the network gives, and without compression
abbrev pub whole_context_text : PdpContext → List ℕ
whole_context_text c = context_text c ++ codes ",\"\",0,0"

-- whether the modem is attached (27.007, 10.1.9)
abbrev pub attached_text : Bool → List ℕ
attached_text true = codes "+CGATT: 1"
attached_text false = codes "+CGATT: 0"
