-- Exit statuses of the program, and what it says at each.
use Rattle.std.specs.Prelude.{ℕ, Bool, List, [], ◌∷◌, ◌++◌, Option, Some, None, codes, if◌then◌else◌}
use Rattle.std.specs.Fmt.{decimal}
use Rattle.at_text.specs.declared.dialect_error.DialectError.{DialectError}
use Rattle.at_text.specs.StandardRules.{standard_text}
use Rattle.modem_bench.specs.declared.cause.Cause.{Cause}
use Rattle.modem_bench.specs.declared.signals.Fault.{Fault}
use Rattle.ctl_run.specs.declared.stop.DialectFault.{DialectFault}
use Rattle.ctl_run.specs.declared.stop.Stop.{Stop}
use Rattle.ctl_text.specs.LineFaults.{reason_line}
use Rattle.ctl_text.specs.declared.clashes.Clash.{Clash}
use Rattle.ctl_text.specs.declared.dialects.DialectRefusal.{DialectRefusal}
use Rattle.ctl_text.specs.declared.dialects.RulePart.{RulePart}
use Rattle.ctl_text.specs.declared.refusal.Refusal.{Refusal}

-- 1 for a fault, 2 for words or a line that are bad.
abbrev pub status_of : Stop → ℕ
status_of Stop.NoMemory = 1
status_of Stop.Input = 1
status_of Stop.Output = 1
status_of Stop.Line = 1
status_of (Stop.GaveUp cause) = 1
status_of Stop.BadN1 = 2
status_of Stop.BadCallers = 2
status_of Stop.BadCut = 2
status_of (Stop.BadLine place why) = 2
status_of (Stop.Dialect fault) = 2

-- ## The first line

-- the number of a bad line of a dialect, in decimal
abbrev pub dialect_number : DialectFault → List ℕ
dialect_number (DialectFault.NoRule place wrong) = decimal place
dialect_number (DialectFault.Refused place why) = decimal place
dialect_number (DialectFault.Clashes place found) = decimal place

-- what is said of it, but for the number of a line
abbrev pub stop_words : Stop → List ℕ
stop_words Stop.NoMemory = codes "fault: no memory"
stop_words Stop.Input = codes "fault: input"
stop_words Stop.Output = codes "fault: output"
stop_words Stop.Line = codes "fault: line"
stop_words (Stop.GaveUp cause) = codes "fault: gave up"
stop_words Stop.BadN1 = codes "error: N1 is 31 to 32767"
stop_words Stop.BadCallers = codes "error: callers are 1 to 8"
stop_words Stop.BadCut = codes "error: the cut is 1 to 4096"
stop_words (Stop.BadLine place why) = codes "bad line "
stop_words (Stop.Dialect fault) = codes "bad line "

-- the number of a bad line, in decimal
abbrev pub stop_number : Stop → List ℕ
stop_number (Stop.BadLine place why) = decimal place
stop_number Stop.NoMemory = []
stop_number Stop.Input = []
stop_number Stop.Output = []
stop_number Stop.Line = []
stop_number (Stop.GaveUp cause) = []
stop_number Stop.BadN1 = []
stop_number Stop.BadCallers = []
stop_number Stop.BadCut = []
stop_number (Stop.Dialect fault) = dialect_number fault

-- what is said of it
abbrev pub stop_text : Stop → List ℕ
stop_text stop = stop_words stop ++ stop_number stop

-- the same as a line: the first, and without a wish for more the only one
abbrev pub stop_line : Stop → List ℕ
stop_line stop = stop_text stop ++ 10 ∷ []

-- ## The second line

-- why a rule is refused
abbrev pub rule_words : DialectError → List ℕ
rule_words DialectError.TooManyRules = codes "a dialect has at most 64 rules"
rule_words DialectError.NoText = codes "a rule has a text"
rule_words DialectError.TextTooLong = codes "the text of a rule has at most 64 octets"
rule_words DialectError.LineEnd = codes "the text of a rule has neither CR nor LF"
rule_words DialectError.BadName = codes "the name of a kind has 1 to 64 of the octets 21 to 7E"
rule_words DialectError.Command = codes "a line of the rule could be the echo of a command"
rule_words DialectError.Ambiguous = codes "some line would both end an answer and be unsolicited"
rule_words DialectError.NoMemory = codes "no memory"

-- what has to stand in a line that says no rule
abbrev pub part_words : RulePart → List ℕ
part_words RulePart.Word = codes "no rule: a line begins with final or unsolicited, and a blank"
part_words RulePart.Form = codes "no rule: FORM is line, prefix, quoted, report or open-report, and a blank stands behind it"
part_words RulePart.Name = codes "no rule: behind TEXT stand a blank and NAME"

-- what a rule has a line in common with
abbrev pub clash_text : Option Clash → List ℕ
clash_text None = codes "some line would both end an answer and be unsolicited"
clash_text (Some (Clash.Line number)) =
    codes "some line would both end an answer and be unsolicited, by this rule and that of line " ++ decimal number
clash_text (Some (Clash.Standard line)) =
    codes "some line would both end an answer and be unsolicited, by this rule and the standard's " ++ standard_text line

-- why a line of a dialect is bad
abbrev pub dialect_reason : DialectFault → List ℕ
dialect_reason (DialectFault.NoRule place wrong) = part_words wrong
dialect_reason (DialectFault.Refused place why) = rule_words why
dialect_reason (DialectFault.Clashes place found) = clash_text found

-- why a bench was given up, up to the number of a connection
abbrev pub cause_words : Cause → List ℕ
cause_words Cause.Quiet = codes "nothing moved in 600 polls in a row"
cause_words Cause.UsedUp = codes "all polls of the session are made"
cause_words (Cause.NotOpened d) = codes "connection "
cause_words Cause.NotStopped = codes "the multiplexer wasn't ended"
cause_words Cause.OtherOutcomes = codes "a caller was told outcomes of other requests"
cause_words Cause.NoEnd = codes "the simulated modem ended in no known way"

-- the number of the connection that wasn't opened, in decimal
abbrev pub cause_number : Cause → List ℕ
cause_number (Cause.NotOpened d) = decimal d.number
cause_number _ = []

-- what stands behind it
abbrev pub cause_rest : Cause → List ℕ
cause_rest (Cause.NotOpened d) = codes " wasn't opened"
cause_rest _ = []

-- the reason as a line: what has to stand in the bad line, of which file it is where that isn't the input, or which cause there was. Where
-- the first line says all, there is none
abbrev pub stop_reason_line : Stop → List ℕ
stop_reason_line (Stop.BadLine place why) = reason_line [] why
stop_reason_line (Stop.Dialect fault) = codes "the dialect: " ++ dialect_reason fault ++ 10 ∷ []
stop_reason_line (Stop.GaveUp cause) = cause_words cause ++ cause_number cause ++ cause_rest cause ++ 10 ∷ []
stop_reason_line Stop.NoMemory = []
stop_reason_line Stop.Input = []
stop_reason_line Stop.Output = []
stop_reason_line Stop.Line = []
stop_reason_line Stop.BadN1 = []
stop_reason_line Stop.BadCallers = []
stop_reason_line Stop.BadCut = []

-- all that is said: the first line, and the second where it is asked for
abbrev pub stop_lines : (explained : Bool) → Stop → List ℕ
stop_lines explained stop = if explained then stop_line stop ++ stop_reason_line stop else stop_line stop

-- a line that is bad is named with its fault; else memory was refused
abbrev pub stop_at : ℕ → Refusal → Stop
stop_at place (Refusal.Bad why) = Stop.BadLine place why
stop_at place Refusal.NoMemory = Stop.NoMemory

-- why a text is none of a dialect, as the cause of a stop
abbrev pub stop_at_rule : DialectRefusal → Stop
stop_at_rule (DialectRefusal.NoRule place wrong) = Stop.Dialect (DialectFault.NoRule place wrong)
stop_at_rule (DialectRefusal.Clashes place found) = Stop.Dialect (DialectFault.Clashes place found)
stop_at_rule (DialectRefusal.Refused place why) = Stop.Dialect (DialectFault.Refused place why)
stop_at_rule DialectRefusal.NoMemory = Stop.NoMemory

-- what a fault of a bench is told as
abbrev pub stop_of : Fault → Stop
stop_of Fault.NoMemory = Stop.NoMemory
stop_of Fault.Line = Stop.Line
stop_of (Fault.GaveUp cause) = Stop.GaveUp cause
