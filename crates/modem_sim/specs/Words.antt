-- The commands of the second table by their texts (V.250, 6.1.1 to 6.1.9, 6.2.4 to 6.2.6, 6.3.1; 27.007, 5.1 to 5.6, 7.2 to 7.4, 8.2, 8.3, 10.1.1, 10.1.10, 10.1.12, 10.1.14, 10.1.20, 10.1.22, 10.2.1.1).
use Rattle.std.specs.Prelude.{ℕ, ◌-◌, ◌||◌, ◌&&◌, Bool, true, false, List, length, take, drop, Option, Some, None, option_map, if◌then◌else◌, codes}
use Rattle.std.specs.Option.{option_or}
use Rattle.std.specs.Str.{bytes_eq}
use Rattle.at_text.specs.Octets.{is_digit}
use Rattle.at_cmds.specs.Params.{◌>>=◌}
use Rattle.at_cmds.specs.Forms.{lowered, cid_in, is_pin, is_run}
use Rattle.modem_sim.specs.declared.words.Word.{Word}
use Rattle.modem_sim.specs.declared.words.Word.TheVariants.{Reset, Echo, Usual, Identity, Manufacturer, Product, Revision, Serial, Subscriber, Capabilities, Functionality, FunctionalityQuery, FunctionalityForms, RegForms, Report, ReportQuery, ReportForms, OperFormat, ContextForms, Activate, ActivityQuery, ActivityForms, Addresses, AddressForms, Dial, SetCharset, CharsetQuery, CharsetForms, LockForms, LockQuery, Unlock, Forms, ErrorsQuery, MultiplexerQuery}
use Rattle.modem_sim.specs.declared.words.Charset.TheVariants.{Gsm, Ira}
use Rattle.modem_sim.specs.declared.words.Form.TheVariants.{Unnamed, Operators, Strength, Errors, Attachment, Multiplexer, DataState}
use Rattle.modem_sim.specs.declared.words.Domain.TheVariants.{Packet, Evolved}

-- commands of one sign, and of an ampersand and one (V.250): Z 6.1.1, &F 6.1.2, I 6.1.3, E 6.2.4, Q 6.2.5, V 6.2.6
abbrev pub basic_word : List ℕ → Option Word
basic_word t =
    if bytes_eq t (codes "atz") || bytes_eq t (codes "atz0") then Some Reset
    else if bytes_eq t (codes "at&f") || bytes_eq t (codes "at&f0") then Some Reset
    else if bytes_eq t (codes "ate") || bytes_eq t (codes "ate0") then Some (Echo false)
    else if bytes_eq t (codes "ate1") then Some (Echo true)
    else if bytes_eq t (codes "atv1") then Some Usual
    else if bytes_eq t (codes "atq") || bytes_eq t (codes "atq0") then Some Usual
    else if bytes_eq t (codes "ati") || bytes_eq t (codes "ati0") then Some Identity
    else None

-- commands that ask what the modem is (27.007, 5.1 to 5.4 and 5.6; V.250, 6.1.9)
abbrev pub identity_word : List ℕ → Option Word
identity_word t =
    if bytes_eq t (codes "at+cgmi") then Some Manufacturer
    else if bytes_eq t (codes "at+cgmm") then Some Product
    else if bytes_eq t (codes "at+cgmr") then Some Revision
    else if bytes_eq t (codes "at+cgsn") then Some Serial
    else if bytes_eq t (codes "at+cimi") then Some Subscriber
    else if bytes_eq t (codes "at+gcap") then Some Capabilities
    else None

-- commands for the modem's functions, without a reset (27.007, 8.2), and for the operator's form (27.007,
-- 7.3)
abbrev pub phone_word : List ℕ → Option Word
phone_word t =
    if bytes_eq t (codes "at+cfun?") then Some FunctionalityQuery
    else if bytes_eq t (codes "at+cfun=?") then Some FunctionalityForms
    else if bytes_eq t (codes "at+cfun=0") || bytes_eq t (codes "at+cfun=0,0") then Some (Functionality 0)
    else if bytes_eq t (codes "at+cfun=1") || bytes_eq t (codes "at+cfun=1,0") then Some (Functionality 1)
    else if bytes_eq t (codes "at+cfun=4") || bytes_eq t (codes "at+cfun=4,0") then Some (Functionality 4)
    else if bytes_eq t (codes "at+cops=3,0") then Some (OperFormat 0)
    else if bytes_eq t (codes "at+cops=3,1") then Some (OperFormat 1)
    else if bytes_eq t (codes "at+cops=3,2") then Some (OperFormat 2)
    else None

-- commands for reports of registration (27.007, 7.2, 10.1.20 and 10.1.22)
abbrev pub report_word : List ℕ → Option Word
report_word t =
    if bytes_eq t (codes "at+creg=?") then Some RegForms
    else if bytes_eq t (codes "at+cgreg=?") then Some (ReportForms Packet)
    else if bytes_eq t (codes "at+cgreg?") then Some (ReportQuery Packet)
    else if bytes_eq t (codes "at+cgreg=0") then Some (Report Packet 0)
    else if bytes_eq t (codes "at+cgreg=1") then Some (Report Packet 1)
    else if bytes_eq t (codes "at+cgreg=2") then Some (Report Packet 2)
    else if bytes_eq t (codes "at+cereg=?") then Some (ReportForms Evolved)
    else if bytes_eq t (codes "at+cereg?") then Some (ReportQuery Evolved)
    else if bytes_eq t (codes "at+cereg=0") then Some (Report Evolved 0)
    else if bytes_eq t (codes "at+cereg=1") then Some (Report Evolved 1)
    else if bytes_eq t (codes "at+cereg=2") then Some (Report Evolved 2)
    else None

-- what stands behind a beginning, where a text has it
abbrev pub behind : List ℕ → List ℕ → Option (List ℕ)
behind start text = if bytes_eq (take (length start) text) start then Some (drop (length start) text) else None

-- what stands before an end, where a text has it
abbrev pub before : List ℕ → List ℕ → Option (List ℕ)
before end text =
    if bytes_eq (drop (length text - length end) text) end then Some (take (length text - length end) text) else None

-- the number of a context behind this beginning
abbrev pub cid_behind : List ℕ → List ℕ → Option ℕ
cid_behind start text = do
  value ← behind start text
  cid_in value

-- commands for one packet context, by its number (27.007, 10.1.10, 10.1.14)
abbrev pub numbered_word : List ℕ → Option Word
numbered_word t =
    option_or (option_map (λ n. Activate false (Some n)) (cid_behind (codes "at+cgact=0,") t))
    (option_or (option_map (λ n. Activate true (Some n)) (cid_behind (codes "at+cgact=1,") t))
    (option_map (λ n. Addresses (Some n)) (cid_behind (codes "at+cgpaddr=") t)))

-- commands for packet contexts (27.007, 10.1.1, 10.1.10, 10.1.14)
abbrev pub context_word : List ℕ → Option Word
context_word t =
    if bytes_eq t (codes "at+cgdcont=?") then Some ContextForms
    else if bytes_eq t (codes "at+cgact=?") then Some ActivityForms
    else if bytes_eq t (codes "at+cgact?") then Some ActivityQuery
    else if bytes_eq t (codes "at+cgact=0") then Some (Activate false None)
    else if bytes_eq t (codes "at+cgact=1") then Some (Activate true None)
    else if bytes_eq t (codes "at+cgpaddr") || bytes_eq t (codes "at+cgpaddr=") then Some (Addresses None)
    else if bytes_eq t (codes "at+cgpaddr=?") then Some AddressForms
    else numbered_word t

-- the number of the context that D calls, behind the service code 99 and up to the number sign (27.007, 10.2.1.1)
abbrev pub cid_called : List ℕ → Option ℕ
cid_called text = do
  value ← behind (codes "atd*99***") text
  number ← before (codes "#") value
  cid_in number

-- commands that begin a packet call over one context, 1 where none is named: D with the service code 99 (27.007, 10.2.1.1), and +CGDATA, with
-- PPP or without a protocol (10.1.12)
abbrev pub dial_word : List ℕ → Option Word
dial_word t =
    if bytes_eq t (codes "atd*99#") then Some (Dial 1)
    else if bytes_eq t (codes "at+cgdata") || bytes_eq t (codes "at+cgdata=\"ppp\"") then Some (Dial 1)
    else option_or (option_map Dial (cid_called t)) (option_map Dial (cid_behind (codes "at+cgdata=\"ppp\",") t))

-- commands for the characters of texts (27.007, 5.5), and for what the SIM's PIN locks (7.4)
abbrev pub setting_word : List ℕ → Option Word
setting_word t =
    if bytes_eq t (codes "at+cscs=?") then Some CharsetForms
    else if bytes_eq t (codes "at+cscs?") then Some CharsetQuery
    else if bytes_eq t (codes "at+cscs=\"gsm\"") then Some (SetCharset Gsm)
    else if bytes_eq t (codes "at+cscs=\"ira\"") then Some (SetCharset Ira)
    else if bytes_eq t (codes "at+clck=?") then Some LockForms
    else if bytes_eq t (codes "at+clck=\"sc\",2") then Some LockQuery
    else None

-- commands that ask what values another takes (27.007, 4.1): none is named, or those of operators (7.3), of the signal (8.5), of
-- errors (9.1), of the attachment (10.1.9), of the data state (10.1.12) and of the multiplexer (5.7); and how errors are told, and the multiplexer's mode
abbrev pub form_word : List ℕ → Option Word
form_word t =
    if bytes_eq t (codes "at+cgmi=?") || bytes_eq t (codes "at+cgmm=?") then Some (Forms Unnamed)
    else if bytes_eq t (codes "at+cgmr=?") || bytes_eq t (codes "at+cgsn=?") then Some (Forms Unnamed)
    else if bytes_eq t (codes "at+cimi=?") || bytes_eq t (codes "at+gcap=?") then Some (Forms Unnamed)
    else if bytes_eq t (codes "at+cpin=?") then Some (Forms Unnamed)
    else if bytes_eq t (codes "at+cops=?") then Some (Forms Operators)
    else if bytes_eq t (codes "at+csq=?") then Some (Forms Strength)
    else if bytes_eq t (codes "at+cmee=?") then Some (Forms Errors)
    else if bytes_eq t (codes "at+cgatt=?") then Some (Forms Attachment)
    else if bytes_eq t (codes "at+cgdata=?") then Some (Forms DataState)
    else if bytes_eq t (codes "at+cmux=?") then Some (Forms Multiplexer)
    else if bytes_eq t (codes "at+cmee?") then Some ErrorsQuery
    else if bytes_eq t (codes "at+cmux?") then Some MultiplexerQuery
    else None

-- the PUK of the SIM
abbrev pub own_puk : List ℕ
own_puk = codes "12345678"

-- a PUK: eight digits
abbrev pub is_puk : List ℕ → Bool
is_puk text = is_run is_digit 8 8 text

-- a PUK and a new PIN, each between quotes (27.007, 8.3)
abbrev pub unlock_word : List ℕ → Option Word
unlock_word t = do
  value ← behind (codes "at+cpin=\"") t
  rest ← behind (codes "\",\"") (drop 8 value)
  pin ← before (codes "\"") rest
  if is_puk (take 8 value) && is_pin pin then Some (Unlock (bytes_eq (take 8 value) own_puk)) else None

-- the command of the second table that a text is, its letters in either case
abbrev pub word_in : List ℕ → Option Word
word_in t =
    option_or (basic_word t) (option_or (identity_word t) (option_or (phone_word t) (option_or (report_word t)
    (option_or (context_word t) (option_or (dial_word t) (option_or (setting_word t) (option_or (form_word t) (unlock_word t))))))))

-- the command of the second table that a text is, its letters in either case
unfoldable pub word_of : List ℕ → Option Word
word_of text = word_in (lowered text)
