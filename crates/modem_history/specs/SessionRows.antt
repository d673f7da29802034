-- Vocabulary of sessions that are worked by hand: a session with two callers and listeners of RING and +CREG,
-- with N1 31, that began where the multiplexer had been entered.
use Rattle.std.specs.Prelude.{ℕ, List, [], ◌∷◌, ◌++◌, None, codes}
use Rattle.at_text.specs.declared.unsolicited.UrcKind.{UrcKind}
use Rattle.at_text.specs.declared.unsolicited.UrcKind.TheVariants.{Ring, Creg}
use Rattle.at_text.specs.Dialects.{standard}
use Rattle.modem_desk.specs.declared.request.Ask.TheVariants.{OpenChannel, Command}
use Rattle.modem_desk.specs.declared.request.Request.{Request}
use Rattle.modem_desk.specs.declared.request.Answer.{Answer}
use Rattle.modem_desk.specs.declared.request.Answer.TheVariants.{Opened}
use Rattle.modem_desk.specs.declared.request.Outcome.{Outcome}
use Rattle.modem_desk.specs.declared.request.Urc.{Urc}
use Rattle.modem_history.specs.Acts.{Act, after}
use Rattle.modem_history.specs.Entering.{entry_text}
use Rattle.modem_history.specs.Sessions.{Beginning, SessionView, SessionFits}
use Rattle.modem_history.specs.Turns.{Exchange, TurnAnswer, IsTurn}
use Rattle.modem_history.specs.Rows.{zero, one, two, asks}

-- ## The beginning

-- what the modem answered to the entry, up to the CR behind its OK
abbrev pub entry_answer : List ℕ
entry_answer = entry_text ++ codes "\r\nOK\r"

abbrev pub beginning : Beginning
beginning = record {
  n1 = 31;
  dialect = standard;
  callers = 2;
  kinds = Ring ∷ Creg ∷ [];
  line = record { received = entry_answer; sent = entry_text; calls = 20; failures = 0; empty_reads = 0; stalled_writes = 0 };
  desk = record { taken = []; told = [] ∷ [] ∷ []; announced = [] ∷ [] ∷ []; found_none = 0; told_back = 0 ∷ 0 ∷ []; announced_back = 0 ∷ 0 ∷ [] };
}

-- ## Octets (27.010, 5.2.1)

-- the LF behind the OK of the entry
abbrev pub lf_octet : List ℕ
lf_octet = 0x0A ∷ []

abbrev pub sabm_zero : List ℕ
sabm_zero = 0xF9 ∷ 0x03 ∷ 0x3F ∷ 0x01 ∷ 0x1C ∷ 0xF9 ∷ []

abbrev pub ua_zero : List ℕ
ua_zero = 0xF9 ∷ 0x03 ∷ 0x73 ∷ 0x01 ∷ 0xD7 ∷ 0xF9 ∷ []

-- its check octet is one off
abbrev pub broken_ua_zero : List ℕ
broken_ua_zero = 0xF9 ∷ 0x03 ∷ 0x73 ∷ 0x01 ∷ 0xD6 ∷ 0xF9 ∷ []

abbrev pub sabm_one : List ℕ
sabm_one = 0xF9 ∷ 0x07 ∷ 0x3F ∷ 0x01 ∷ 0xDE ∷ 0xF9 ∷ []

abbrev pub ua_one : List ℕ
ua_one = 0xF9 ∷ 0x07 ∷ 0x73 ∷ 0x01 ∷ 0x15 ∷ 0xF9 ∷ []

abbrev pub sabm_two : List ℕ
sabm_two = 0xF9 ∷ 0x0B ∷ 0x3F ∷ 0x01 ∷ 0x59 ∷ 0xF9 ∷ []

-- MSC for 1, signals 8D
abbrev pub msc_one : List ℕ
msc_one = 0xF9 ∷ 0x03 ∷ 0xEF ∷ 0x09 ∷ 0xE3 ∷ 0x05 ∷ 0x07 ∷ 0x8D ∷ 0xFB ∷ 0xF9 ∷ []

-- AT+CSQ and CR, on 1
abbrev pub csq_one : List ℕ
csq_one = 0xF9 ∷ 0x07 ∷ 0xEF ∷ 0x0F ∷ 0x41 ∷ 0x54 ∷ 0x2B ∷ 0x43 ∷ 0x53 ∷ 0x51 ∷ 0x0D ∷ 0xDD ∷ 0xF9 ∷ []

-- RING between its line ends, on 1
abbrev pub ring_one : List ℕ
ring_one =
    0xF9 ∷ 0x05 ∷ 0xEF ∷ 0x11 ∷ 0x0D ∷ 0x0A ∷ 0x52 ∷ 0x49 ∷ 0x4E ∷ 0x47 ∷ 0x0D ∷ 0x0A ∷ 0x4A ∷ 0xF9 ∷ []

-- a Test command with the octets AB, and its response
abbrev pub test_command_info : List ℕ
test_command_info = 0xF9 ∷ 0x01 ∷ 0xEF ∷ 0x09 ∷ 0x23 ∷ 0x05 ∷ 0x41 ∷ 0x42 ∷ 0x9A ∷ 0xF9 ∷ []

abbrev pub test_response : List ℕ
test_response = 0xF9 ∷ 0x03 ∷ 0xEF ∷ 0x09 ∷ 0x21 ∷ 0x05 ∷ 0x41 ∷ 0x42 ∷ 0xFB ∷ 0xF9 ∷ []

-- +CREG: and a blank, this digit, between line ends, on 1
abbrev pub creg_one : ℕ → List ℕ
creg_one digit =
    0xF9 ∷ 0x05 ∷ 0xEF ∷ 0x19 ∷ 0x0D ∷ 0x0A ∷ 0x2B ∷ 0x43 ∷ 0x52 ∷ 0x45 ∷ 0x47 ∷ 0x3A ∷ 0x20 ∷ digit ∷ 0x0D ∷
    0x0A ∷ 0x44 ∷ 0xF9 ∷ []

-- what came and what left by the opening of 0, and by that of 0 and 1
abbrev pub zero_came : List ℕ
zero_came = lf_octet ++ ua_zero

abbrev pub one_came : List ℕ
one_came = zero_came ++ ua_one

abbrev pub one_left : List ℕ
one_left = sabm_zero ++ sabm_one ++ msc_one

-- ## Requests, outcomes and lines

abbrev pub first_request : Request
first_request = asks 1 (OpenChannel zero)

abbrev pub second_request : Request
second_request = asks 2 (OpenChannel one)

abbrev pub third_request : Request
third_request = asks 3 (Command one (codes "AT+CSQ"))

abbrev pub fourth_request : Request
fourth_request = asks 4 (OpenChannel two)

abbrev pub outcome_of : ℕ → Answer → Outcome
outcome_of n answer = record { caller = 0; number = n; answer = answer }

abbrev pub opened_zero : List Outcome
opened_zero = outcome_of 1 Opened ∷ []

abbrev pub opened_both : List Outcome
opened_both = outcome_of 1 Opened ∷ outcome_of 2 Opened ∷ []

abbrev pub line_on_one : UrcKind → List ℕ → Urc
line_on_one k line = record { kind = k; dlci = one; line = line }

abbrev pub ring : Urc
ring = line_on_one Ring (codes "RING")

-- ## Sessions

-- it has read and sent these octets, took these requests, told caller 0 these outcomes, and announced these
-- lines of each kind; nothing waits but for these octets that the deframer keeps
abbrev pub settled : (came left : List ℕ) → List Request → List Outcome → (rings cregs : List Urc)
    → (kept : List ℕ) → SessionView
settled came left requests told rings cregs kept = record {
  line = record { received = entry_answer ++ came; sent = entry_text ++ left; calls = 40; failures = 0; empty_reads = 0; stalled_writes = 0 };
  desk = record { taken = requests; told = told ∷ [] ∷ []; announced = rings ∷ cregs ∷ []; found_none = 0; told_back = 0 ∷ 0 ∷ []; announced_back = 0 ∷ 0 ∷ [] };
  unfed = [];
  deframer = record { n1 = 31; undecided = kept; next = None };
  unwritten = [];
  unplaced = [];
  unannounced = [];
}

-- a closing flag, which may open the next frame
abbrev pub last_flag : List ℕ
last_flag = 0xF9 ∷ []

-- a session and its history, oldest act first
pub record SessionRow : Type 0 where
  pub view : SessionView
  pub acts : List Act

abbrev pub IsRight : SessionRow → Type 0
IsRight row = SessionFits beginning row.view (after [] row.acts)

abbrev pub IsWrong : SessionRow → Type 0
IsWrong row = ¬ SessionFits beginning row.view (after [] row.acts)

-- the session fits no history
abbrev pub HasNone : SessionRow → Type 0
HasNone row = (past : List Act) → ¬ SessionFits beginning row.view past

-- ## Turns

-- a session before and after a turn, what happened before it and in it, and its answer
pub record TurnRow : Type 0 where
  pub old : SessionView
  pub new : SessionView
  pub before : List Act
  pub acts : List Act
  pub says : TurnAnswer

-- the turn is right, by this exchange with its line and its desk
pub record IsRightTurn (row : TurnRow) (t : Exchange) : Type 0 where
  pub fitted : SessionFits beginning row.old (after [] row.before)
  pub fits : SessionFits beginning row.new (after (after [] row.before) row.acts)
  pub turn : IsTurn beginning row.old row.new t (after [] row.before) row.acts row.says

-- the turn is wrong, whatever it exchanged with its line and its desk
abbrev pub IsWrongTurn : TurnRow → Type 0
IsWrongTurn row =
    (t : Exchange) → ¬ IsTurn beginning row.old row.new t (after [] row.before) row.acts row.says

-- ## All of them

abbrev pub Each : {A : Type 0} → (A → Type 0) → List A → Type 0
Each P [] = Unit {0}
Each P (row ∷ rows) = P row × Each P rows
