-- What a modem with words tells of operators, packet contexts, characters and locks (27.007, 5.5, 7.3, 7.4, 10.1.1, 10.1.10, 10.1.12, 10.1.14).
use Rattle.std.specs.Prelude.{ℕ, ◌==◌, Bool, true, false, List, [], ◌∷◌, ◌++◌, if◌then◌else◌, codes}
use Rattle.std.specs.Fmt.{decimal}
use Rattle.std.specs.List.{flat_map}
use Rattle.at_cmds.specs.declared.command.OperChoice.{OperChoice}
use Rattle.at_cmds.specs.declared.command.OperChoice.TheVariants.{Automatic, Deregister, Manual}
use Rattle.at_cmds.specs.declared.command.Pdp.{Pdp}
use Rattle.at_cmds.specs.declared.command.Pdp.TheVariants.{Ip, Ipv6, Ipv4v6}
use Rattle.at_cmds.specs.Forms.{in_quotes}
use Rattle.modem_sim.specs.declared.contexts.PdpContext.{PdpContext}
use Rattle.modem_sim.specs.declared.words.Charset.{Charset}
use Rattle.modem_sim.specs.declared.words.Charset.TheVariants.{Gsm, Ira}
use Rattle.modem_sim.specs.declared.words.Form.{Form}
use Rattle.modem_sim.specs.declared.words.Form.TheVariants.{Unnamed, Operators, Strength, Errors, Attachment, Multiplexer, DataState}
use Rattle.modem_sim.specs.Contexts.{is_active}

-- the operator by its name (0), its short name (1) or its number (2) (27.007, 7.3)
abbrev pub oper_name : ℕ → List ℕ → List ℕ
oper_name format number =
    if format == 0 then codes "Network " ++ number
    else if format == 1 then codes "N" ++ number
    else number

-- the operator in the form that was asked for: how it was chosen, and its name
abbrev pub named_oper_text : ℕ → OperChoice → List ℕ
named_oper_text format Automatic =
    codes "+COPS: 0," ++ decimal format ++ codes "," ++ in_quotes (oper_name format (codes "00101")) ++ codes ",7"
named_oper_text format (Manual oper) =
    codes "+COPS: 1," ++ decimal format ++ codes "," ++ in_quotes (oper_name format oper) ++ codes ",7"
named_oper_text format Deregister = codes "+COPS: 2"

-- whether a context is active (27.007, 10.1.10)
abbrev pub activity_text : List ℕ → PdpContext → List ℕ
activity_text active c =
    codes "+CGACT: " ++ decimal c.cid ++ (if is_active active c.cid then codes ",1" else codes ",0")

-- the addresses of an active context, of the ranges that are kept for examples: 192.0.2.n (RFC 5737), and 2001:db8::n (RFC 3849) as
-- sixteen numbers (27.007, 10.1.14)
abbrev pub ipv4_text : ℕ → List ℕ
ipv4_text n = in_quotes (codes "192.0.2." ++ decimal n)

abbrev pub ipv6_text : ℕ → List ℕ
ipv6_text n = in_quotes (codes "32.1.13.184.0.0.0.0.0.0.0.0.0.0.0." ++ decimal n)

abbrev pub addresses : Pdp → ℕ → List ℕ
addresses Ip n = codes "," ++ ipv4_text n
addresses Ipv6 n = codes "," ++ ipv6_text n
addresses Ipv4v6 n = codes "," ++ ipv4_text n ++ codes "," ++ ipv6_text n

-- a context with its addresses, which it has while it is active
abbrev pub address_text : List ℕ → PdpContext → List ℕ
address_text active c =
    codes "+CGPADDR: " ++ decimal c.cid ++ (if is_active active c.cid then addresses c.pdp c.cid else [])

-- the numbers of the contexts that are defined (27.007, 10.1.14)
abbrev pub next_number : PdpContext → List ℕ
next_number c = codes "," ++ decimal c.cid

abbrev pub numbers_text : List PdpContext → List ℕ
numbers_text [] = codes "+CGPADDR: ()"
numbers_text (c ∷ more) = codes "+CGPADDR: (" ++ decimal c.cid ++ flat_map next_number more ++ codes ")"

-- the characters of texts (27.007, 5.5)
abbrev pub charset_text : Charset → List ℕ
charset_text Gsm = codes "+CSCS: \"GSM\""
charset_text Ira = codes "+CSCS: \"IRA\""

-- whether the SIM has a PIN (27.007, 7.4)
abbrev pub lock_text : Bool → List ℕ
lock_text true = codes "+CLCK: 1"
lock_text false = codes "+CLCK: 0"

-- what contexts may be defined: the numbers and kinds that there are, without compression (27.007, 10.1.1)
abbrev pub context_forms : List (List ℕ)
context_forms =
    codes "+CGDCONT: (1-15),\"IP\",,,(0),(0)"
    ∷ codes "+CGDCONT: (1-15),\"IPV6\",,,(0),(0)"
    ∷ codes "+CGDCONT: (1-15),\"IPV4V6\",,,(0),(0)" ∷ []

-- the network that there is, the one where the modem is registered or one that it can be; its names, and the ways to choose and to name
-- one (27.007, 7.3)
abbrev pub network_text : Bool → List ℕ
network_text true = codes "+COPS: (2,\"Network 00101\",\"N00101\",\"00101\",7),,(0-3),(0-2)"
network_text false = codes "+COPS: (1,\"Network 00101\",\"N00101\",\"00101\",7),,(0-3),(0-2)"

-- what the multiplexer takes: the basic option with UIH frames, the speeds, N1, T1, N2, T2 and T3 (27.007, 5.7)
abbrev pub mux_ranges : List ℕ
mux_ranges = codes "+CMUX: (0),(0),(1-8),(31-32767),(1-255),(0-100),(2-255),(1-255)"

-- the values that a command takes, where they are named (27.007, 4.1); the one protocol between a client and the modem is PPP (10.1.12)
abbrev pub form_texts : Bool → Form → List (List ℕ)
form_texts registered Unnamed = []
form_texts registered Operators = network_text registered ∷ []
form_texts registered Strength = codes "+CSQ: (0-31,99),(0-7,99)" ∷ []
form_texts registered Errors = codes "+CMEE: (0-2)" ∷ []
form_texts registered Attachment = codes "+CGATT: (0,1)" ∷ []
form_texts registered Multiplexer = mux_ranges ∷ []
form_texts registered DataState = codes "+CGDATA: (\"PPP\")" ∷ []
