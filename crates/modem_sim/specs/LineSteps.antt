-- What a modem answers to a whole command line, and its state afterwards (V.250, 5.2, 5.4 and 5.7).
use Rattle.std.specs.Prelude.{ℕ, ◌==◌, ◌&&◌, nat_le, Bool, true, false, List, [], ◌∷◌, ◌++◌, length, map, fold, Option, Some, None, if◌then◌else◌, codes}
use Rattle.std.specs.List.{list_any}
use Rattle.at_text.specs.declared.answer.AnswerLine.{AnswerLine}
use Rattle.at_cmds.specs.declared.command.Command.{Command}
use Rattle.at_cmds.specs.declared.command.Command.TheVariants.{OperChoose}
use Rattle.at_cmds.specs.declared.command.OperChoice.TheVariants.{Automatic, Manual}
use Rattle.modem_sim.specs.declared.own_answers.OwnLine.{OwnLine}
use Rattle.modem_sim.specs.declared.state.ModemState.{ModemState}
use Rattle.modem_sim.specs.declared.state.Words.{Words}
use Rattle.modem_sim.specs.declared.words.Word.{Word}
use Rattle.modem_data.specs.Switching.{is_connect}
use Rattle.at_cmds.specs.CommandLines.{begins_with_at, commands_in}
use Rattle.modem_sim.specs.OwnAnswers.{due_line, own_lines, said_later, said_now, waits_on}
use Rattle.at_cmds.specs.Values.{command_of}
use Rattle.modem_sim.specs.Words.{word_of}
use Rattle.modem_sim.specs.Steps.{lock_error, is_registered, refusal_of, after_refusal, after_command, error_text, line_of, Step, standard_step, told_as, status_text, word_refusal, after_word_refusal, word_told, settled, word_after, word_code}

-- what commands of one line came to: the state, the lines that were told, and the result code that ended them, if one did: that of an
-- error or of a call
pub record Ran : Type 0 where
  pub state : ModemState
  pub told : List AnswerLine
  pub ended : Option (List ℕ)

-- no command of the line was done yet
abbrev pub nothing_ran : ModemState → Ran
nothing_ran s = record { state = s; told = []; ended = None }

-- what choosing an operator is refused with: the SIM's error before the SIM is ready, else 30 no network service where the radio is off
abbrev pub radio_error : ℕ → Option ℕ → Option ℕ
radio_error functionality (Some number) = Some number
radio_error functionality None = if functionality == 1 then None else Some 30

-- the number of the error that a command of the first table is refused with, where it is: with words an operator is chosen only with
-- all functions on (27.007, 8.2)
abbrev pub refusal_as : Option Words → ModemState → Command → Option ℕ
refusal_as (Some w) s (OperChoose Automatic) = radio_error w.functionality (lock_error s.lock)
refusal_as (Some w) s (OperChoose (Manual oper)) = radio_error w.functionality (lock_error s.lock)
refusal_as words s c = refusal_of s c

-- what a command of the first table comes to, refused or carried out
abbrev pub ran_command : Option ℕ → Ran → Command → Ran
ran_command None r c = record {
  state = settled (after_command r.state c);
  told = r.told ++ map line_of (told_as r.state.words r.state c);
  ended = None;
}
ran_command (Some number) r c = record {
  state = after_refusal r.state c;
  told = r.told;
  ended = Some (error_text r.state.errors number);
}

-- what a command of the second table comes to, refused or carried out
abbrev pub ran_word : Option ℕ → Words → Ran → Word → Ran
ran_word None w r x = record {
  state = word_after w r.state x;
  told = r.told ++ map line_of (word_told w r.state x);
  ended = word_code r.state x;
}
ran_word (Some number) w r x = record {
  state = after_word_refusal w r.state x;
  told = r.told;
  ended = Some (error_text r.state.errors number);
}

-- a command of neither table
abbrev pub ran_unknown : Ran → Ran
ran_unknown r = record r { ended = Some (codes "ERROR") }

-- what a command that isn't of the first table comes to
abbrev pub ran_other : Option Words → Ran → Option Word → Ran
ran_other (Some w) r (Some x) = ran_word (word_refusal w r.state x) w r x
ran_other words r word = ran_unknown r

-- a command by its text: of the first table, of the second, or of neither
abbrev pub ran_text : Option Command → Ran → List ℕ → Ran
ran_text (Some c) r text = ran_command (refusal_as r.state.words r.state c) r c
ran_text None r text = ran_other r.state.words r (word_of text)

-- after an error the rest of a line isn't done (V.250, 5.7.2), nor after a call (27.007, 10.1.12)
abbrev pub ran_unless : Option (List ℕ) → Ran → List ℕ → Ran
ran_unless (Some code) r text = r
ran_unless None r text = ran_text (command_of text) r text

-- what the next command of the line comes to, unless one before it ended the line
abbrev pub ran_next : Ran → List ℕ → Ran
ran_next r text = ran_unless r.ended r text

-- the commands of a line: one of the first table is that command
abbrev pub divided_by : Option Command → List ℕ → Option (List (List ℕ))
divided_by (Some c) line = Some (line ∷ [])
divided_by None line = commands_in line

-- the commands of a line: itself, where it is a command of the first table, or else those that it is
-- divided into
unfoldable pub line_commands : List ℕ → Option (List (List ℕ))
line_commands line = divided_by (command_of line) line

-- the result code behind what was told
abbrev pub final_text : Option (List ℕ) → List ℕ
final_text None = codes "OK"
final_text (Some code) = code

-- the report of a registration, where reports are on
abbrev pub report_texts : List ℕ → ℕ → Bool → List (List ℕ)
report_texts name n registered = if n == 0 then [] else (name ++ status_text n registered) ∷ []

abbrev pub domain_reports : Option Words → Bool → List (List ℕ)
domain_reports None registered = []
domain_reports (Some w) registered =
    report_texts (codes "+CGREG: ") w.packet_reports registered
    ++ report_texts (codes "+CEREG: ") w.evolved_reports registered

-- the reports of all registrations whose reports are on
abbrev pub all_reports : ModemState → Bool → List (List ℕ)
all_reports s registered =
    report_texts (codes "+CREG: ") s.reports registered ++ domain_reports s.words registered

abbrev pub announced_as : Bool → Bool → ModemState → List (List ℕ)
announced_as true true s = []
announced_as false false s = []
announced_as true false s = all_reports s false
announced_as false true s = all_reports s true

-- the lines by which a change of registration is announced: behind the answer to the line that made it (27.007, 7.2, 10.1.20, 10.1.22)
abbrev pub announced : ModemState → ModemState → List (List ℕ)
announced before s = announced_as (is_registered before.lock before.oper) (is_registered s.lock s.oper) s

-- the code with which a line ended puts a call through: what stands behind its CONNECT on its connection is data (27.007, 10.1.12)
abbrev pub is_through : Option (List ℕ) → Bool
is_through None = false
is_through (Some code) = is_connect code

-- the reports that stand behind an answer; behind a CONNECT they are held, and are due with the next answer
abbrev pub reports_now : (through : Bool) → List (List ℕ) → List AnswerLine
reports_now true texts = []
reports_now false texts = map line_of texts

abbrev pub reports_held : (through : Bool) → List (List ℕ) → List OwnLine
reports_held true texts = map due_line (map line_of texts)
reports_held false texts = []

-- the state after a line whose commands came to this, and the answer to it
abbrev pub answered_by : (through : Bool) → ModemState → Ran → Step
answered_by through s r = record {
  state = record r.state { late = reports_held through (announced s r.state) ++ r.state.late };
  answer = r.told ++ line_of (final_text r.ended) ∷ reports_now through (announced s r.state);
}

-- a line without AT isn't for the modem, and isn't answered
abbrev pub worded_by : ModemState → Option (List (List ℕ)) → Step
worded_by s None = record { state = s; answer = [] }
worded_by s (Some commands) =
    let r = fold ran_next (nothing_ran s) commands in
    answered_by (is_through r.ended) s r

-- the commands of a line put a call through
abbrev pub through_by : ModemState → Option (List (List ℕ)) → Bool
through_by s None = false
through_by s (Some commands) = is_through (fold ran_next (nothing_ran s) commands).ended

-- a line of so many octets is too long, of which no more are kept
abbrev pub is_too_long : List ℕ → Bool
is_too_long line = nat_le 512 (length line)

-- of a line that is too long nothing is done
abbrev pub refused_by : ModemState → Option (List (List ℕ)) → Step
refused_by s None = record { state = s; answer = [] }
refused_by s (Some commands) = record { state = s; answer = line_of (codes "ERROR") ∷ [] }

-- what a line does to a modem with words
abbrev pub worded_step : ModemState → List ℕ → Step
worded_step s line =
    if is_too_long line then refused_by s (line_commands line) else worded_by s (line_commands line)

-- the line puts a call through
abbrev pub line_through : ModemState → List ℕ → Bool
line_through s line = if is_too_long line then false else through_by s (line_commands line)

-- of lines that waited for a command line those that are due are said behind its answer, but behind no CONNECT: there they wait on
abbrev pub late_said : (through : Bool) → List OwnLine → List AnswerLine
late_said true late = []
late_said false late = said_now late

abbrev pub late_after : (through : Bool) → List OwnLine → List OwnLine
late_after true late = map waits_on late
late_after false late = said_later late

-- what a modem with words says of its own, now and later, to a line that isn't too long
abbrev pub own_answer : ModemState → List ℕ → Option (List OwnLine)
own_answer s line = if is_too_long line then None else own_lines s.own line

-- a line of them is a CONNECT
abbrev pub any_through : List AnswerLine → Bool
any_through lines = list_any (λ (l : AnswerLine). is_connect l.text) lines

-- an answer of its own is all that is said, and nothing is done; behind it come the lines of earlier ones that waited for this line
abbrev pub own_said : List OwnLine → ModemState → Step
own_said lines s =
    let through = any_through (said_now lines) in
    record {
      state = record s { late = late_after through s.late ++ said_later lines };
      answer = said_now lines ++ late_said through s.late;
    }

-- lines that waited for this one come behind its answer
abbrev pub with_late : (through : Bool) → Step → Step
with_late through t = record {
  state = record t.state { late = late_after through t.state.late };
  answer = t.answer ++ late_said through t.state.late;
}

-- where it has no answer of its own, the tables are looked into
abbrev pub own_step : Option (List OwnLine) → ModemState → List ℕ → Step
own_step (Some lines) s line = own_said lines s
own_step None s line = with_late (line_through s line) (worded_step s line)

-- ## Both

abbrev pub step_as : Option Words → ModemState → List ℕ → Step
step_as None s line = standard_step s line
step_as (Some w) s line = own_step (own_answer s line) s line

-- what a line does
abbrev pub step : ModemState → List ℕ → Step
step s line = step_as s.words s line

abbrev pub echoes_as : Option Words → Bool
echoes_as None = false
echoes_as (Some w) = w.echo

-- whether a modem repeats commands: where it is to always, and where a modem with words was told to
abbrev pub echoes : Bool → ModemState → Bool
echoes true s = true
echoes false s = echoes_as s.words

-- whether it repeats a line: a modem with words only one that begins with AT, and so no CONNECT that comes to it
abbrev pub repeats : Bool → ModemState → List ℕ → Bool
repeats true s line = true
repeats false s line = echoes_as s.words && begins_with_at line
