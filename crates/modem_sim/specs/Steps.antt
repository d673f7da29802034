-- What a modem answers to a command line, and its state afterwards, by three tables: what a command is refused with,
-- the state after it, what it tells. The law that an answer is read back shares them (V.250, 5.2 and 5.7; 27.007, 7.2,
-- 7.3, 8.3, 8.5, 9.1, 9.2, 10.1.1, 10.1.9).
use Rattle.std.specs.Prelude.{ℕ, ◌-◌, ◌==◌, ◌||◌, nat_lt, Bool, true, false, List, [], ◌∷◌, ◌++◌, map, filter, Option, Some, None, is_some, unwrap_or, if◌then◌else◌, codes}
use Rattle.std.specs.Fmt.{decimal}
use Rattle.std.specs.Str.{bytes_eq}
use Rattle.at_text.specs.declared.answer.AnswerLine.{AnswerLine}
use Rattle.at_cmds.specs.declared.command.Command.{Command}
use Rattle.at_cmds.specs.declared.command.Command.TheVariants.{PinQuery, PinEnter, RegReport, RegQuery, Signal, OperQuery, OperChoose, ContextSet, ContextQuery, AttachSet, AttachQuery, ErrorMode, Multiplex}
use Rattle.at_cmds.specs.declared.command.Pdp.{Pdp}
use Rattle.at_cmds.specs.declared.command.OperChoice.{OperChoice}
use Rattle.at_cmds.specs.declared.command.OperChoice.TheVariants.{Automatic, Deregister, Manual}
use Rattle.at_cmds.specs.Cme.{cme_text}
use Rattle.modem_sim.specs.declared.contexts.PdpContext.{PdpContext}
use Rattle.modem_sim.specs.declared.modem.ModemStart.{ModemStart}
use Rattle.modem_sim.specs.declared.state.Lock.{Lock}
use Rattle.modem_sim.specs.declared.state.Lock.TheVariants.{Ready, NeedPin, NeedPuk}
use Rattle.modem_sim.specs.declared.state.ModemState.{ModemState}
use Rattle.modem_sim.specs.declared.state.Words.{Words}
use Rattle.modem_sim.specs.declared.words.Charset.TheVariants.{Ira}
use Rattle.modem_sim.specs.declared.words.Domain.{Domain}
use Rattle.modem_sim.specs.declared.words.Domain.TheVariants.{Packet, Evolved}
use Rattle.modem_sim.specs.declared.words.Form.TheVariants.{Operators}
use Rattle.modem_sim.specs.declared.words.Word.{Word}
use Rattle.modem_sim.specs.declared.words.Word.TheVariants.{Reset, Echo, Identity, Manufacturer, Product, Revision, Serial, Subscriber, Capabilities, Functionality, FunctionalityQuery, FunctionalityForms, RegForms, Report, ReportQuery, ReportForms, OperFormat, ContextForms, Activate, ActivityQuery, ActivityForms, Addresses, AddressForms, Dial, SetCharset, CharsetQuery, CharsetForms, LockForms, LockQuery, Unlock, Forms, ErrorsQuery, MultiplexerQuery}
use Rattle.modem_sim.specs.Contexts.{active_after, is_active, is_defined, names, with_context}
use Rattle.modem_sim.specs.SettingTexts.{activity_text, address_text, charset_text, context_forms, form_texts, lock_text, named_oper_text, numbers_text}
use Rattle.at_cmds.specs.Values.{command_of}
use Rattle.modem_sim.specs.Reading.{is_attention}
use Rattle.modem_sim.specs.StateTexts.{attached_text, cell_text, context_text, oper_text, pin_text, reg_text, signal_text, whole_context_text}

-- a SIM with a PIN wants it, and takes three tries
abbrev pub locked_by : Option (List ℕ) → Lock
locked_by None = Ready
locked_by (Some pin) = NeedPin pin 3

-- a modem as it starts
abbrev pub started : ModemStart → ModemState
started start = record {
  lock = locked_by start.pin;
  reports = 0;
  errors = 0;
  oper = Automatic;
  contexts = [];
  attached = false;
  rssi = start.rssi;
  ber = start.ber;
  active = [];
  words = None;
  own = [];
  late = [];
}

-- what a modem with words starts with: the functions are all on, reports off, the operator is told by its number, in IRA; a PUK
-- may be tried ten times
abbrev pub first_words : Bool → Bool → Words
first_words echo has_pin = record {
  echo = echo;
  first_echo = echo;
  functionality = 1;
  packet_reports = 0;
  evolved_reports = 0;
  oper_format = 2;
  charset = Ira;
  has_pin = has_pin;
  puk_tries = 10;
}

-- a modem with words as it starts: as one without, and its commands are repeated or not
abbrev pub started_with_words : ModemStart → Bool → ModemState
started_with_words start echo = record (started start) { words = Some (first_words echo (is_some start.pin)) }

-- what commands that need the SIM are refused with before it is ready (27.007, 9.2.1): 11 SIM PIN required,
-- 12 SIM PUK required
abbrev pub lock_error : Lock → Option ℕ
lock_error Ready = None
lock_error (NeedPin pin tries) = Some 11
lock_error NeedPuk = Some 12

-- what a PIN is refused with: 3 operation not allowed, 12 SIM PUK required, 16 incorrect password
abbrev pub pin_error : Lock → List ℕ → Option ℕ
pin_error Ready entered = Some 3
pin_error (NeedPin pin tries) entered = if bytes_eq pin entered then None else Some 16
pin_error NeedPuk entered = Some 12

-- an operator was chosen, by hand or not
abbrev pub is_on_network : OperChoice → Bool
is_on_network Automatic = true
is_on_network (Manual oper) = true
is_on_network Deregister = false

-- registered: the SIM is ready, and the modem on a network
abbrev pub is_registered : Lock → OperChoice → Bool
is_registered Ready oper = is_on_network oper
is_registered (NeedPin pin tries) oper = false
is_registered NeedPuk oper = false

-- what attaching is refused with: the SIM's error before the SIM is ready, else 30 no network service where the modem
-- isn't registered
abbrev pub attach_error : Option ℕ → Bool → Option ℕ
attach_error (Some number) registered = Some number
attach_error None true = None
attach_error None false = Some 30

-- the number of the error that a command is refused with, where it is
abbrev pub refusal_of : ModemState → Command → Option ℕ
refusal_of s (PinEnter pin) = pin_error s.lock pin
refusal_of s OperQuery = lock_error s.lock
refusal_of s (OperChoose choice) = lock_error s.lock
refusal_of s (ContextSet cid pdp apn) = lock_error s.lock
refusal_of s ContextQuery = lock_error s.lock
refusal_of s (AttachSet true) = attach_error (lock_error s.lock) (is_registered s.lock s.oper)
refusal_of s (AttachSet false) = lock_error s.lock
refusal_of s AttachQuery = lock_error s.lock
refusal_of s Multiplex = Some 3
refusal_of s _ = None

-- a wrong PIN costs a try, and the last one locks the SIM until its PUK comes
abbrev pub after_wrong_pin : Lock → Lock
after_wrong_pin Ready = Ready
after_wrong_pin (NeedPin pin tries) = if nat_lt 1 tries then NeedPin pin (tries - 1) else NeedPuk
after_wrong_pin NeedPuk = NeedPuk

-- the state after a command that was refused
abbrev pub after_refusal : ModemState → Command → ModemState
after_refusal s (PinEnter pin) = record s { lock = after_wrong_pin s.lock }
after_refusal s _ = s

abbrev pub context_made : ℕ → Pdp → List ℕ → PdpContext
context_made cid pdp apn = record { cid = cid; pdp = pdp; apn = apn }

-- the state after a command that was carried out
abbrev pub after_command : ModemState → Command → ModemState
after_command s (PinEnter pin) = record s { lock = Ready }
after_command s (RegReport n) = record s { reports = n }
after_command s (OperChoose Automatic) = record s { oper = Automatic }
after_command s (OperChoose (Manual oper)) = record s { oper = Manual oper }
after_command s (OperChoose Deregister) = record s { oper = Deregister; attached = false }
after_command s (ContextSet cid pdp apn) =
    record s { contexts = with_context (context_made cid pdp apn) s.contexts }
after_command s (AttachSet on) = record s { attached = on }
after_command s (ErrorMode n) = record s { errors = n }
after_command s _ = s

-- what a command is told before OK
abbrev pub told_texts : ModemState → Command → List (List ℕ)
told_texts s PinQuery = pin_text s.lock ∷ []
told_texts s RegQuery = reg_text s.reports (is_registered s.lock s.oper) ∷ []
told_texts s Signal = signal_text s.rssi s.ber ∷ []
told_texts s OperQuery = oper_text s.oper ∷ []
told_texts s ContextQuery = map context_text s.contexts
told_texts s AttachQuery = attached_text s.attached ∷ []
told_texts s _ = []

-- an error in the mode that was set: 0 without a number, 1 by its number, 2 by its text (27.007, 9.1, 9.2)
abbrev pub error_text : ℕ → ℕ → List ℕ
error_text mode number =
    if mode == 0 then codes "ERROR"
    else if mode == 1 then codes "+CME ERROR: " ++ decimal number
    else codes "+CME ERROR: " ++ unwrap_or (cme_text number) []

-- a line of an answer with this text
abbrev pub line_of : List ℕ → AnswerLine
line_of text = record { text = text }

-- lines, and OK behind them
abbrev pub good_answer : List (List ℕ) → List AnswerLine
good_answer texts = map line_of texts ++ line_of (codes "OK") ∷ []

-- what a line does: the state after it, and the answer to it
pub record Step : Type 0 where
  pub state : ModemState
  pub answer : List AnswerLine

abbrev pub obeyed_unless : Option ℕ → ModemState → Command → Step
obeyed_unless None s c = record { state = after_command s c; answer = good_answer (told_texts s c) }
obeyed_unless (Some number) s c =
    record { state = after_refusal s c; answer = line_of (error_text s.errors number) ∷ [] }

-- what a command does: it is refused, or carried out
abbrev pub obeyed : ModemState → Command → Step
obeyed s c = obeyed_unless (refusal_of s c) s c

-- what a line does, by the command that it is, if it is one
abbrev pub step_by : ModemState → Option Command → Step
step_by s None = record { state = s; answer = line_of (codes "ERROR") ∷ [] }
step_by s (Some c) = obeyed s c

-- what a line does to a modem that has the first table alone
abbrev pub standard_step : ModemState → List ℕ → Step
standard_step s line =
    if is_attention line then record { state = s; answer = good_answer [] }
    else step_by s (command_of line)

-- ## The second table (V.250, 6.1, 6.2, 6.3.1; 27.007, 5, 7.2, 7.3, 7.4, 8.2, 8.3, 10.1.1, 10.1.10, 10.1.12, 10.1.14, 10.1.20, 10.1.22,
-- 10.2.1.1)

-- what a command of the first table is told before OK: with words the operator in the form that was asked for, and contexts with the
-- parameters that stand behind the access point
abbrev pub told_as : Option Words → ModemState → Command → List (List ℕ)
told_as (Some w) s OperQuery = named_oper_text w.oper_format s.oper ∷ []
told_as (Some w) s ContextQuery = map whole_context_text s.contexts
told_as words s c = told_texts s c

-- the status of a registration, with the cell where reports have it (27.007, 7.2)
abbrev pub status_text : ℕ → Bool → List ℕ
status_text n false = codes "0"
status_text n true = codes "1" ++ cell_text n

-- how the lines of a domain begin
abbrev pub domain_name : Domain → List ℕ
domain_name Packet = codes "+CGREG: "
domain_name Evolved = codes "+CEREG: "

-- how changes of a registration are reported, and its status
abbrev pub registration_text : Domain → ℕ → Bool → List ℕ
registration_text d n registered = domain_name d ++ decimal n ++ codes "," ++ status_text n registered

-- how changes of the registration of this domain are reported, 0 to 2
abbrev pub reports_of : Words → Domain → ℕ
reports_of w Packet = w.packet_reports
reports_of w Evolved = w.evolved_reports

-- what a modem with words keeps, with this way of reporting a domain
abbrev pub with_reports : Words → Domain → ℕ → Words
with_reports w Packet n = record w { packet_reports = n }
with_reports w Evolved n = record w { evolved_reports = n }

-- what a command for contexts is refused with: the SIM's error before the SIM is ready, else 3 operation not allowed where the
-- context isn't defined
abbrev pub context_error : Option ℕ → Bool → Option ℕ
context_error (Some number) defined = Some number
context_error None true = None
context_error None false = Some 3

-- what a PUK that is wanted is refused with: 16 incorrect password, and 13 SIM failure where ten in a row were wrong
abbrev pub puk_error : ℕ → Bool → Option ℕ
puk_error tries right = if tries == 0 then Some 13 else if right then None else Some 16

-- what a PUK is refused with where none is wanted: 3 operation not allowed, 11 SIM PIN required
abbrev pub unlock_error : Lock → ℕ → Bool → Option ℕ
unlock_error Ready tries right = Some 3
unlock_error (NeedPin pin left) tries right = Some 11
unlock_error NeedPuk tries right = puk_error tries right

-- the number of the error that a command of the second table is refused with: the number of the subscriber is in the SIM; to
-- activate a context the modem attaches
abbrev pub word_refusal : Words → ModemState → Word → Option ℕ
word_refusal w s Subscriber = lock_error s.lock
word_refusal w s (Forms Operators) = lock_error s.lock
word_refusal w s (Activate true which) =
    attach_error (context_error (lock_error s.lock) (is_defined which s.contexts)) (is_registered s.lock s.oper)
word_refusal w s (Activate false which) = context_error (lock_error s.lock) (is_defined which s.contexts)
word_refusal w s ActivityQuery = lock_error s.lock
word_refusal w s (Addresses which) = context_error (lock_error s.lock) (is_defined which s.contexts)
word_refusal w s (Dial cid) = lock_error s.lock
word_refusal w s (Unlock right) = unlock_error s.lock w.puk_tries right
word_refusal w s _ = None

-- a wrong PUK costs a try
abbrev pub after_wrong_puk : Lock → Words → ModemState → ModemState
after_wrong_puk NeedPuk w s = record s { words = Some (record w { puk_tries = w.puk_tries - 1 }) }
after_wrong_puk lock w s = s

-- the state after a command of the second table that was refused
abbrev pub after_word_refusal : Words → ModemState → Word → ModemState
after_word_refusal w s (Unlock right) = after_wrong_puk s.lock w s
after_word_refusal w s _ = s

-- what a command for contexts, characters or locks is told before OK
abbrev pub setting_told : Words → ModemState → Word → List (List ℕ)
setting_told w s ContextForms = context_forms
setting_told w s ActivityForms = codes "+CGACT: (0,1)" ∷ []
setting_told w s ActivityQuery = map (activity_text s.active) s.contexts
setting_told w s (Addresses which) = map (address_text s.active) (filter (names which) s.contexts)
setting_told w s AddressForms = numbers_text s.contexts ∷ []
setting_told w s CharsetForms = codes "+CSCS: (\"GSM\",\"IRA\")" ∷ []
setting_told w s CharsetQuery = charset_text w.charset ∷ []
setting_told w s LockForms = codes "+CLCK: (\"SC\")" ∷ []
setting_told w s LockQuery = lock_text w.has_pin ∷ []
setting_told w s (Forms form) = form_texts (is_registered s.lock s.oper) form
setting_told w s ErrorsQuery = (codes "+CMEE: " ++ decimal s.errors) ∷ []
setting_told w s MultiplexerQuery = codes "+CMUX: 0,0" ∷ []
setting_told w s _ = []

-- what a command of the second table is told before OK
abbrev pub word_told : Words → ModemState → Word → List (List ℕ)
word_told w s Identity = codes "Cimbaloty simulated modem" ∷ []
word_told w s Manufacturer = codes "Cimbaloty" ∷ []
word_told w s Product = codes "Simulated modem" ∷ []
word_told w s Revision = codes "1" ∷ []
word_told w s Serial = codes "490154203237518" ∷ []
word_told w s Subscriber = codes "001010123456789" ∷ []
word_told w s Capabilities = codes "+GCAP: +CGSM" ∷ []
word_told w s FunctionalityQuery = (codes "+CFUN: " ++ decimal w.functionality) ∷ []
word_told w s FunctionalityForms = codes "+CFUN: (0,1,4),(0)" ∷ []
word_told w s RegForms = codes "+CREG: (0-2)" ∷ []
word_told w s (ReportForms d) = (domain_name d ++ codes "(0-2)") ∷ []
word_told w s (ReportQuery d) =
    registration_text d (reports_of w d) (is_registered s.lock s.oper) ∷ []
word_told w s x = setting_told w s x

-- contexts are active while the modem is attached (27.007, 10.1.9)
abbrev pub settled : ModemState → ModemState
settled s = if s.attached then s else record s { active = [] }

-- functions are switched: 1 all, where the modem looks for a network; 0 and 4 without radio, where it leaves its network (27.007, 8.2)
abbrev pub switched : ℕ → Words → ModemState → ModemState
switched n w s =
    if n == 1 then record s { oper = Automatic; words = Some (record w { functionality = n }) }
    else record s { oper = Deregister; attached = false; active = []; words = Some (record w { functionality = n }) }

-- contexts become active, for which the modem attaches, or inactive (27.007, 10.1.10)
abbrev pub activated : Bool → Option ℕ → ModemState → ModemState
activated on which s = record s { attached = s.attached || on; active = active_after on which s.active s.contexts }

-- the state after a command of the second table
abbrev pub word_after : Words → ModemState → Word → ModemState
word_after w s Reset = record s {
  reports = 0;
  errors = 0;
  words = Some (record w { echo = w.first_echo; packet_reports = 0; evolved_reports = 0; oper_format = 2; charset = Ira });
}
word_after w s (Echo on) = record s { words = Some (record w { echo = on }) }
word_after w s (Functionality n) = switched n w s
word_after w s (Report d n) = record s { words = Some (with_reports w d n) }
word_after w s (OperFormat n) = record s { words = Some (record w { oper_format = n }) }
word_after w s (Activate on which) = activated on which s
word_after w s (SetCharset charset) = record s { words = Some (record w { charset = charset }) }
word_after w s (Unlock right) = record s { lock = Ready; words = Some (record w { puk_tries = 10 }) }
word_after w s _ = s

-- a packet call over the context of this number is answered CONNECT where that is active, else NO CARRIER (27.007, 10.1.12, 10.2.1.1)
abbrev pub dialled : ℕ → ModemState → List ℕ
dialled cid s = if is_active s.active cid then codes "CONNECT" else codes "NO CARRIER"

-- the result code with which a command of the second table that isn't refused ends its line: a call does, whatever it is answered
abbrev pub word_code : ModemState → Word → Option (List ℕ)
word_code s (Dial cid) = Some (dialled cid s)
word_code s _ = None
