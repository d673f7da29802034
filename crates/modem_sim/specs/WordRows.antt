-- Worked examples of a modem with words, by hand from V.250 and 27.007.
use Rattle.std.specs.Prelude.{◌≡◌, ℕ, true, false, List, [], ◌∷◌, ◌++◌, map, Some, None, codes}
use Rattle.at_cmds.specs.CommandLines.{commands_in}
use Rattle.modem_sim.specs.Pieces.{framed, pieces_octets, replies}
use Rattle.modem_sim.specs.declared.own_answers.OwnAnswer.{OwnAnswer}
use Rattle.modem_sim.specs.declared.own_answers.OwnLine.{OwnLine}
use Rattle.modem_sim.specs.Rows.{answers_to, locked, ok, unlocked}
use Rattle.modem_sim.specs.Steps.{line_of, started_with_words}

-- a line of three commands, with a blank between them and octets before AT; digits belong to the command of one sign before them
abbrev pub DividedLine : Type 0
DividedLine =
    commands_in (26 ∷ codes "xaTE0 &F0+CMEE = 1;+CSQ;")
    ≡ Some (codes "ATE0" ∷ codes "AT&F0" ∷ codes "AT+CMEE=1" ∷ codes "AT+CSQ" ∷ [])

-- a blank and a semicolon between quotes belong to the text
abbrev pub QuotedLine : Type 0
QuotedLine =
    commands_in (codes "AT+CGDCONT=1,\"IP\",\"a ;b\"; +CREG?")
    ≡ Some (codes "AT+CGDCONT=1,\"IP\",\"a ;b\"" ∷ codes "AT+CREG?" ∷ [])

-- What stands behind D is its own, without its blanks, a semicolon too: no call of this modem ends by one (V.250, 6.3.1). The D of AT&D is
-- none.
abbrev pub DialledLine : Type 0
DialledLine =
    (commands_in (codes "ATE0 D*99# ;+CSQ") ≡ Some (codes "ATE0" ∷ codes "ATD*99#;+CSQ" ∷ []))
    × (commands_in (codes "AT+CSQ;d*99***2#") ≡ Some (codes "AT+CSQ" ∷ codes "ATd*99***2#" ∷ []))
    × (commands_in (codes "AT&D2E0") ≡ Some (codes "AT&D2" ∷ codes "ATE0" ∷ []))

-- AT alone has no command, and a line without it isn't for the modem
abbrev pub BareLines : Type 0
BareLines = (commands_in (codes "AAT") ≡ Some []) × (commands_in (codes "A T+CSQ") ≡ None)

-- what clients send as they begin
abbrev pub ClientBegins : Type 0
ClientBegins =
    answers_to (started_with_words unlocked true)
    (codes "ATZ" ∷ codes "ATE0 +CMEE=1" ∷ codes "AT+CFUN?" ∷ codes "AT+CGMI;+CGMM;+CGMR" ∷ codes "AT+GCAP" ∷ codes "AT+CREG=?"
    ∷ codes "HELLO" ∷ codes "AT+FOO" ∷ codes "AT+CSQ;+CGATT=2;+CMEE=0" ∷ codes "AT+CMEE?" ∷ [])
    ≡ ok
    ∷ ok
    ∷ (codes "+CFUN: 1" ∷ ok)
    ∷ (codes "Cimbaloty" ∷ codes "Simulated modem" ∷ codes "1" ∷ ok)
    ∷ (codes "+GCAP: +CGSM" ∷ ok)
    ∷ (codes "+CREG: (0-2)" ∷ ok)
    ∷ []
    ∷ (codes "ERROR" ∷ [])
    ∷ (codes "+CSQ: 18,99" ∷ codes "ERROR" ∷ [])
    ∷ (codes "+CMEE: 1" ∷ ok)
    ∷ []

-- a change of registration is announced behind the answer, where reports are on
abbrev pub ChangeAnnounced : Type 0
ChangeAnnounced =
    answers_to (started_with_words unlocked false)
    (codes "AT+CREG=2;+CGREG=1" ∷ codes "AT+CFUN=4" ∷ codes "AT+CREG?;+CGREG?;+CEREG?" ∷ codes "AT+CFUN=1" ∷ codes "AT+COPS=0" ∷ [])
    ≡ ok
    ∷ (codes "OK" ∷ codes "+CREG: 0" ∷ codes "+CGREG: 0" ∷ [])
    ∷ (codes "+CREG: 2,0" ∷ codes "+CGREG: 1,0" ∷ codes "+CEREG: 0,0" ∷ ok)
    ∷ (codes "OK" ∷ codes "+CREG: 1,\"00A1\",\"01B2C3D4\",7" ∷ codes "+CGREG: 1" ∷ [])
    ∷ ok
    ∷ []

-- a value of +CFUN that is set already is obeyed too; with the radio off no operator is chosen
abbrev pub RadioOff : Type 0
RadioOff =
    answers_to (started_with_words unlocked false)
    (codes "AT+CMEE=1;+COPS=2" ∷ codes "AT+CFUN=1;+CREG?" ∷ codes "AT+CFUN=4" ∷ codes "AT+COPS=0" ∷ codes "AT+COPS=1,2,\"26201\"" ∷ codes "AT+COPS=2;+CREG?"
    ∷ codes "AT+CFUN=4;+CREG?" ∷ codes "AT+CFUN=1;+CREG?" ∷ [])
    ≡ ok
    ∷ (codes "+CREG: 0,1" ∷ ok)
    ∷ ok
    ∷ (codes "+CME ERROR: 30" ∷ [])
    ∷ (codes "+CME ERROR: 30" ∷ [])
    ∷ (codes "+CREG: 0,0" ∷ ok)
    ∷ (codes "+CREG: 0,0" ∷ ok)
    ∷ (codes "+CREG: 0,1" ∷ ok)
    ∷ []

-- what values commands take, and contexts with what stands behind the access point
abbrev pub ValuesAsked : Type 0
ValuesAsked =
    answers_to (started_with_words unlocked false)
    (codes "AT+CSQ=?;+CMEE=?;+CGATT=?" ∷ codes "AT+COPS=?" ∷ codes "AT+COPS=2;+COPS=?" ∷ codes "AT+CPIN=?;+CGMI=?;+GCAP=?" ∷ codes "AT+CMUX=?;+CMUX?;+CMEE?"
    ∷ codes "AT+CGPADDR=?" ∷ codes "AT+CGDCONT=1,\"IP\",\"a\";+CGDCONT?" ∷ codes "AT+CGDCONT=3,\"IPV6\",\"b\";+CGPADDR=?" ∷ [])
    ≡ (codes "+CSQ: (0-31,99),(0-7,99)" ∷ codes "+CMEE: (0-2)" ∷ codes "+CGATT: (0,1)" ∷ ok)
    ∷ (codes "+COPS: (2,\"Network 00101\",\"N00101\",\"00101\",7),,(0-3),(0-2)" ∷ ok)
    ∷ (codes "+COPS: (1,\"Network 00101\",\"N00101\",\"00101\",7),,(0-3),(0-2)" ∷ ok)
    ∷ ok
    ∷ (codes "+CMUX: (0),(0),(1-8),(31-32767),(1-255),(0-100),(2-255),(1-255)" ∷ codes "+CMUX: 0,0" ∷ codes "+CMEE: 0" ∷ ok)
    ∷ (codes "+CGPADDR: ()" ∷ ok)
    ∷ (codes "+CGDCONT: 1,\"IP\",\"a\",\"\",0,0" ∷ ok)
    ∷ (codes "+CGPADDR: (1,3)" ∷ ok)
    ∷ []

-- so is one that a PIN makes, and the number of the subscriber is in the SIM
abbrev pub PinAnnounced : Type 0
PinAnnounced =
    answers_to (started_with_words locked false)
    (codes "AT+CMEE=1;+CREG=1;+CIMI" ∷ codes "AT+CPIN=\"1234\"" ∷ codes "AT+CIMI" ∷ [])
    ≡ (codes "+CME ERROR: 11" ∷ [])
    ∷ (codes "OK" ∷ codes "+CREG: 1" ∷ [])
    ∷ (codes "001010123456789" ∷ ok)
    ∷ []

-- the operator in the form that was asked for
abbrev pub OperatorNamed : Type 0
OperatorNamed =
    answers_to (started_with_words unlocked false)
    (codes "AT+COPS=3,0" ∷ codes "AT+COPS?" ∷ codes "AT+COPS=3,2;+COPS?" ∷ codes "ATZ" ∷ [])
    ≡ ok
    ∷ (codes "+COPS: 0,0,\"Network 00101\",7" ∷ ok)
    ∷ (codes "+COPS: 0,2,\"00101\",7" ∷ ok)
    ∷ ok
    ∷ []

-- Contexts become active one by one or all: those that are defined alone, and the modem attaches for it. An address is told of each
-- that is active. Where the modem is detached none is active.
abbrev pub ContextsActivated : Type 0
ContextsActivated =
    answers_to (started_with_words unlocked false)
    (codes "AT+CMEE=1" ∷ codes "AT+CGACT=1,1" ∷ codes "AT+CGDCONT=1,\"IP\",\"a\";+CGDCONT=2,\"IPV4V6\",\"b\"" ∷ codes "AT+CGACT?"
    ∷ codes "AT+CGACT=1,2" ∷ codes "AT+CGACT?;+CGATT?" ∷ codes "AT+CGPADDR" ∷ codes "AT+CGACT=1" ∷ codes "AT+CGPADDR=1"
    ∷ codes "AT+CGACT=0,2;+CGACT?" ∷ codes "AT+CGATT=0;+CGATT=1;+CGACT?" ∷ codes "AT+CGPADDR=3" ∷ codes "AT+CGACT=0,16" ∷ [])
    ≡ ok
    ∷ (codes "+CME ERROR: 3" ∷ [])
    ∷ ok
    ∷ (codes "+CGACT: 1,0" ∷ codes "+CGACT: 2,0" ∷ ok)
    ∷ ok
    ∷ (codes "+CGACT: 1,0" ∷ codes "+CGACT: 2,1" ∷ codes "+CGATT: 1" ∷ ok)
    ∷ (codes "+CGPADDR: 1" ∷ codes "+CGPADDR: 2,\"192.0.2.2\",\"32.1.13.184.0.0.0.0.0.0.0.0.0.0.0.2\"" ∷ ok)
    ∷ ok
    ∷ (codes "+CGPADDR: 1,\"192.0.2.1\"" ∷ ok)
    ∷ (codes "+CGACT: 1,1" ∷ codes "+CGACT: 2,0" ∷ ok)
    ∷ (codes "+CGACT: 1,0" ∷ codes "+CGACT: 2,0" ∷ ok)
    ∷ (codes "+CME ERROR: 3" ∷ [])
    ∷ (codes "ERROR" ∷ [])
    ∷ []

-- A call is answered CONNECT where its context is active, which it doesn't make it: 1 where none is named. No OK stands behind that.
abbrev pub CallsAnswered : Type 0
CallsAnswered =
    answers_to (started_with_words unlocked false)
    (codes "ATD*99#" ∷ codes "AT+CGDCONT=1,\"IP\",\"a\";+CGDCONT=3,\"IPV6\",\"b\"" ∷ codes "ATD*99***1#" ∷ codes "AT+CGACT=1,1" ∷ codes "ATD*99#"
    ∷ codes "atd*99***1#" ∷ codes "ATD*99***3#" ∷ codes "ATD*99***15#" ∷ codes "AT+CGDATA" ∷ codes "at+cgdata=\"ppp\"" ∷ codes "AT+CGDATA=\"PPP\",1"
    ∷ codes "AT+CGDATA=\"PPP\",3" ∷ codes "AT+CGACT?" ∷ codes "AT+CGACT=0,1;+CGACT=1,3" ∷ codes "AT+CGDATA" ∷ codes "ATD*99***3#"
    ∷ codes "AT+CGATT=0" ∷ codes "ATD*99***3#" ∷ codes "AT+CGDATA=?" ∷ [])
    ≡ (codes "NO CARRIER" ∷ [])
    ∷ ok
    ∷ (codes "NO CARRIER" ∷ [])
    ∷ ok
    ∷ (codes "CONNECT" ∷ [])
    ∷ (codes "CONNECT" ∷ [])
    ∷ (codes "NO CARRIER" ∷ [])
    ∷ (codes "NO CARRIER" ∷ [])
    ∷ (codes "CONNECT" ∷ [])
    ∷ (codes "CONNECT" ∷ [])
    ∷ (codes "CONNECT" ∷ [])
    ∷ (codes "NO CARRIER" ∷ [])
    ∷ (codes "+CGACT: 1,1" ∷ codes "+CGACT: 3,0" ∷ ok)
    ∷ ok
    ∷ (codes "NO CARRIER" ∷ [])
    ∷ (codes "CONNECT" ∷ [])
    ∷ ok
    ∷ (codes "NO CARRIER" ∷ [])
    ∷ (codes "+CGDATA: (\"PPP\")" ∷ ok)
    ∷ []

-- forms that it doesn't take
abbrev pub CallsMisspelt : Type 0
CallsMisspelt =
    answers_to (started_with_words unlocked false)
    (codes "AT+CGDCONT=1,\"IP\",\"a\";+CGACT=1" ∷ codes "ATD*99" ∷ codes "ATD*99***1" ∷ codes "ATD*99***#" ∷ codes "ATD*99***01#" ∷ codes "ATD*99***16#"
    ∷ codes "ATD*99**1#" ∷ codes "ATD*98#" ∷ codes "ATD" ∷ codes "AT+CGDATA=" ∷ codes "AT+CGDATA=PPP" ∷ codes "AT+CGDATA=\"M-HEX\",1" ∷ codes "AT+CGDATA=\"PPP\","
    ∷ codes "AT+CGDATA=\"PPP\",0" ∷ codes "AT+CGDATA=\"PPP\",1,1" ∷ codes "AT+CGDATA?" ∷ [])
    ≡ ok
    ∷ (codes "ERROR" ∷ [])
    ∷ (codes "ERROR" ∷ [])
    ∷ (codes "ERROR" ∷ [])
    ∷ (codes "ERROR" ∷ [])
    ∷ (codes "ERROR" ∷ [])
    ∷ (codes "ERROR" ∷ [])
    ∷ (codes "ERROR" ∷ [])
    ∷ (codes "ERROR" ∷ [])
    ∷ (codes "ERROR" ∷ [])
    ∷ (codes "ERROR" ∷ [])
    ∷ (codes "ERROR" ∷ [])
    ∷ (codes "ERROR" ∷ [])
    ∷ (codes "ERROR" ∷ [])
    ∷ (codes "ERROR" ∷ [])
    ∷ (codes "ERROR" ∷ [])
    ∷ []

-- A call is done in its place. What stands behind it in its line isn't done: all behind D is what D calls, which is then none of the forms.
abbrev pub CallsEndLines : Type 0
CallsEndLines =
    answers_to (started_with_words unlocked false)
    (codes "AT+CGDCONT=1,\"IP\",\"a\";+CGACT=1,1;D*99#" ∷ codes "AT+CSQ;+CGDATA;+CGACT=0,1" ∷ codes "AT+CGDATA=\"PPP\",2;+CGACT=0,1" ∷ codes "ATD*99#;+CGACT=0,1"
    ∷ codes "AT+CGACT?" ∷ codes "ATE0D * 99 #" ∷ codes "AT+FOO;+CGDATA" ∷ codes "ATD*99#;" ∷ [])
    ≡ (codes "CONNECT" ∷ [])
    ∷ (codes "+CSQ: 18,99" ∷ codes "CONNECT" ∷ [])
    ∷ (codes "NO CARRIER" ∷ [])
    ∷ (codes "ERROR" ∷ [])
    ∷ (codes "+CGACT: 1,1" ∷ ok)
    ∷ (codes "CONNECT" ∷ [])
    ∷ (codes "ERROR" ∷ [])
    ∷ (codes "ERROR" ∷ [])
    ∷ []

-- before the SIM is ready a call is refused, and the values of +CGDATA are told
abbrev pub CallsRefused : Type 0
CallsRefused =
    answers_to (started_with_words locked false)
    (codes "ATD*99#" ∷ codes "AT+CMEE=1" ∷ codes "ATD*99#" ∷ codes "AT+CGDATA" ∷ codes "AT+CGDATA=?" ∷ codes "AT+CMEE=2" ∷ codes "AT+CGDATA=\"PPP\",2"
    ∷ codes "AT+CPIN=\"1234\";+CGDATA" ∷ [])
    ≡ (codes "ERROR" ∷ [])
    ∷ ok
    ∷ (codes "+CME ERROR: 11" ∷ [])
    ∷ (codes "+CME ERROR: 11" ∷ [])
    ∷ (codes "+CGDATA: (\"PPP\")" ∷ ok)
    ∷ ok
    ∷ (codes "+CME ERROR: SIM PIN required" ∷ [])
    ∷ (codes "NO CARRIER" ∷ [])
    ∷ []

-- before the SIM is ready, and without a network, none becomes active
abbrev pub ContextsRefused : Type 0
ContextsRefused =
    answers_to (started_with_words locked false)
    (codes "AT+CMEE=1" ∷ codes "AT+CGACT=1" ∷ codes "AT+CGACT?" ∷ codes "AT+CGPADDR" ∷ codes "AT+CPIN=\"1234\"" ∷ codes "AT+CFUN=4"
    ∷ codes "AT+CGACT=1" ∷ codes "AT+CGACT=0" ∷ codes "AT+CGACT=?" ∷ [])
    ≡ ok
    ∷ (codes "+CME ERROR: 11" ∷ [])
    ∷ (codes "+CME ERROR: 11" ∷ [])
    ∷ (codes "+CME ERROR: 11" ∷ [])
    ∷ ok
    ∷ ok
    ∷ (codes "+CME ERROR: 30" ∷ [])
    ∷ ok
    ∷ (codes "+CGACT: (0,1)" ∷ ok)
    ∷ []

-- three wrong PINs want the PUK, with which a new PIN is given; a PUK has eight digits
abbrev pub PukEntered : Type 0
PukEntered =
    answers_to (started_with_words locked false)
    (codes "AT+CMEE=1;+CREG=1" ∷ codes "AT+CPIN=\"12345678\",\"4321\"" ∷ codes "AT+CPIN=\"0000\"" ∷ codes "AT+CPIN=\"0000\""
    ∷ codes "AT+CPIN=\"0000\"" ∷ codes "AT+CPIN?" ∷ codes "AT+CPIN=\"1234\"" ∷ codes "AT+CPIN=\"1234567\",\"4321\""
    ∷ codes "AT+CPIN=\"12345678\",\"432\"" ∷ codes "AT+CPIN=\"87654321\",\"4321\"" ∷ codes "AT+CPIN=\"12345678\",\"4321\""
    ∷ codes "AT+CPIN?" ∷ codes "AT+CPIN=\"12345678\",\"4321\"" ∷ [])
    ≡ ok
    ∷ (codes "+CME ERROR: 11" ∷ [])
    ∷ (codes "+CME ERROR: 16" ∷ [])
    ∷ (codes "+CME ERROR: 16" ∷ [])
    ∷ (codes "+CME ERROR: 16" ∷ [])
    ∷ (codes "+CPIN: SIM PUK" ∷ ok)
    ∷ (codes "+CME ERROR: 12" ∷ [])
    ∷ (codes "ERROR" ∷ [])
    ∷ (codes "ERROR" ∷ [])
    ∷ (codes "+CME ERROR: 16" ∷ [])
    ∷ (codes "OK" ∷ codes "+CREG: 1" ∷ [])
    ∷ (codes "+CPIN: READY" ∷ ok)
    ∷ (codes "+CME ERROR: 3" ∷ [])
    ∷ []

-- five wrong PUKs, and what they are told
abbrev pub five_wrong_puks : List (List ℕ)
five_wrong_puks =
    codes "AT+CPIN=\"00000000\",\"4321\"" ∷ codes "AT+CPIN=\"00000000\",\"4321\"" ∷ codes "AT+CPIN=\"00000000\",\"4321\""
    ∷ codes "AT+CPIN=\"00000000\",\"4321\"" ∷ codes "AT+CPIN=\"00000000\",\"4321\"" ∷ []

abbrev pub five_incorrect : List (List (List ℕ))
five_incorrect =
    (codes "+CME ERROR: 16" ∷ []) ∷ (codes "+CME ERROR: 16" ∷ []) ∷ (codes "+CME ERROR: 16" ∷ []) ∷ (codes "+CME ERROR: 16" ∷ [])
    ∷ (codes "+CME ERROR: 16" ∷ []) ∷ []

-- after ten wrong PUKs the SIM takes none
abbrev pub TenWrongPuks : Type 0
TenWrongPuks =
    answers_to (started_with_words locked false)
    (codes "AT+CMEE=1" ∷ codes "AT+CPIN=\"0000\"" ∷ codes "AT+CPIN=\"0000\"" ∷ codes "AT+CPIN=\"0000\""
    ∷ five_wrong_puks ++ five_wrong_puks ++ codes "AT+CPIN=\"12345678\",\"4321\"" ∷ codes "AT+CPIN?" ∷ [])
    ≡ ok
    ∷ (codes "+CME ERROR: 16" ∷ [])
    ∷ (codes "+CME ERROR: 16" ∷ [])
    ∷ (codes "+CME ERROR: 16" ∷ [])
    ∷ five_incorrect ++ five_incorrect ++ (codes "+CME ERROR: 13" ∷ []) ∷ (codes "+CPIN: SIM PUK" ∷ ok) ∷ []

-- what clients ask of contexts, characters and locks
abbrev pub ClientAsks : Type 0
ClientAsks =
    answers_to (started_with_words unlocked false)
    (codes "AT+CGDCONT=?" ∷ codes "AT+CSCS=?;+CSCS?" ∷ codes "AT+CSCS=\"GSM\"" ∷ codes "AT+CSCS?" ∷ codes "ATZ+CSCS?"
    ∷ codes "AT+CSCS=\"UCS2\"" ∷ codes "AT+CLCK=?" ∷ codes "AT+CLCK=\"SC\",2" ∷ [])
    ≡ (codes "+CGDCONT: (1-15),\"IP\",,,(0),(0)" ∷ codes "+CGDCONT: (1-15),\"IPV6\",,,(0),(0)"
    ∷ codes "+CGDCONT: (1-15),\"IPV4V6\",,,(0),(0)" ∷ ok)
    ∷ (codes "+CSCS: (\"GSM\",\"IRA\")" ∷ codes "+CSCS: \"IRA\"" ∷ ok)
    ∷ ok
    ∷ (codes "+CSCS: \"GSM\"" ∷ ok)
    ∷ (codes "+CSCS: \"IRA\"" ∷ ok)
    ∷ (codes "ERROR" ∷ [])
    ∷ (codes "+CLCK: (\"SC\")" ∷ ok)
    ∷ (codes "+CLCK: 0" ∷ ok)
    ∷ []

-- a SIM with a PIN says so
abbrev pub PinLocks : Type 0
PinLocks =
    answers_to (started_with_words locked false) (codes "AT+CLCK=\"SC\",2" ∷ codes "AT+CPIN=\"1234\";+CLCK=\"SC\",2" ∷ [])
    ≡ (codes "+CLCK: 1" ∷ ok) ∷ (codes "+CLCK: 1" ∷ ok) ∷ []

-- a command that turns repeating off is itself repeated
abbrev pub EchoOff : Type 0
EchoOff =
    pieces_octets (replies false (started_with_words unlocked true) (codes "ATE0" ∷ codes "AT" ∷ []))
    ≡ codes "ATE0" ++ 0xd ∷ framed (codes "OK") ++ framed (codes "OK")

-- answers of one's own: a line said so many command lines later; to a line and to lines that begin so
abbrev pub later_line : ℕ → List ℕ → OwnLine
later_line n text = record { after = n; line = line_of text }

abbrev pub to_line : (command : List ℕ) (lines : List (List ℕ)) → OwnAnswer
to_line command lines = record { command = command; is_prefix = false; lines = map (later_line 0) lines }

abbrev pub to_beginning : (command : List ℕ) (lines : List (List ℕ)) → OwnAnswer
to_beginning command lines = record (to_line command lines) { is_prefix = true }

-- The first that takes a line counts, in either case of letters; one without lines is silence, and one can have lines behind its code.
-- They come before the tables, which are looked into for other lines; nothing is done of what they take.
abbrev pub OwnAnswered : Type 0
OwnAnswered =
    answers_to
    (record (started_with_words unlocked false) {
      own =
          to_line (codes "AT+QGPS?") (codes "+QGPS: 0" ∷ codes "OK" ∷ []) ∷ to_line (codes "AT+MUTE") []
          ∷ to_line (codes "AT+CMEE=2") (codes "OK" ∷ codes "+QIND: 1" ∷ []) ∷ to_beginning (codes "AT+Q") (codes "NO CARRIER" ∷ []) ∷ [];
    })
    (codes "AT+QGPS?" ∷ codes "at+qgps?" ∷ codes "AT+QGPS?;+CSQ" ∷ codes "AT+MUTE" ∷ codes "AT+MUTED" ∷ codes "AT+CMEE=2"
    ∷ codes "AT+CMEE?" ∷ codes "AT+Q" ∷ codes "AT+CSQ" ∷ [])
    ≡ (codes "+QGPS: 0" ∷ ok)
    ∷ (codes "+QGPS: 0" ∷ ok)
    ∷ (codes "NO CARRIER" ∷ [])
    ∷ []
    ∷ (codes "ERROR" ∷ [])
    ∷ (codes "OK" ∷ codes "+QIND: 1" ∷ [])
    ∷ (codes "+CMEE: 0" ∷ ok)
    ∷ (codes "NO CARRIER" ∷ [])
    ∷ (codes "+CSQ: 18,99" ∷ ok)
    ∷ []

-- Lines come later, behind the answer to the last command line that they wait for, wherever that is looked up; those of an earlier
-- answer come first.
abbrev pub OwnLater : Type 0
OwnLater =
    answers_to
    (record (started_with_words unlocked false) {
      own =
          record (to_line (codes "AT+QGPS=1") []) {
            lines = later_line 0 (codes "OK") ∷ later_line 2 (codes "+QGPSURC: 1") ∷ later_line 1 (codes "+QIND: 1") ∷ [];
          }
          ∷ [];
    })
    (codes "AT+QGPS=1" ∷ codes "AT+QGPS=1" ∷ codes "AT+CSQ" ∷ codes "AT" ∷ codes "AT" ∷ [])
    ≡ ok
    ∷ (codes "OK" ∷ codes "+QIND: 1" ∷ [])
    ∷ (codes "+CSQ: 18,99" ∷ codes "OK" ∷ codes "+QGPSURC: 1" ∷ codes "+QIND: 1" ∷ [])
    ∷ (codes "OK" ∷ codes "+QGPSURC: 1" ∷ [])
    ∷ ok
    ∷ []

-- A change of registration that a call's line makes is reported behind the next answer, and so are lines that waited for a command line:
-- behind the CONNECT they would be data.
abbrev pub ReportsAreHeld : Type 0
ReportsAreHeld =
    answers_to
    (record (started_with_words unlocked false) {
      own =
          record (to_line (codes "AT+QGPS=1") []) {
            lines = later_line 0 (codes "OK") ∷ later_line 1 (codes "+QIND: 1") ∷ later_line 3 (codes "+QIND: 3") ∷ [];
          }
          ∷ to_line (codes "ATD*98#") (codes "CONNECT 150000000" ∷ []) ∷ [];
    })
    (codes "AT+CREG=1;+CGDCONT=1,\"IP\",\"a\";+COPS=2" ∷ codes "AT+QGPS=1" ∷ codes "AT+COPS=0;+CGACT=1,1;D*99#" ∷ codes "ATD*98#" ∷ codes "AT"
    ∷ codes "AT" ∷ [])
    ≡ (codes "OK" ∷ codes "+CREG: 0" ∷ [])
    ∷ ok
    ∷ (codes "CONNECT" ∷ [])
    ∷ (codes "CONNECT 150000000" ∷ [])
    ∷ (codes "OK" ∷ codes "+CREG: 1" ∷ codes "+QIND: 1" ∷ codes "+QIND: 3" ∷ [])
    ∷ ok
    ∷ []

-- only lines that begin with AT are repeated, so no CONNECT that comes
abbrev pub RepeatsCommands : Type 0
RepeatsCommands =
    pieces_octets (replies false (started_with_words unlocked true) (codes "CONNECT" ∷ codes "CONNECT AT" ∷ codes "at" ∷ []))
    ≡ framed (codes "OK") ++ codes "at" ++ 0xd ∷ framed (codes "OK")
