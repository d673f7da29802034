-- What is printed of outcomes and of lines that were heard.
use Rattle.std.specs.Prelude.{ℕ, ◌&&◌, nat_le, List, [], ◌∷◌, ◌++◌, codes, if◌then◌else◌, Option, None, Some}
use Rattle.std.specs.List.{flat_map}
use Rattle.std.specs.Fmt.{decimal}
use Rattle.hex.specs.Hex.{encode_lower}
use Rattle.at_text.specs.declared.answer.AnswerLine.{AnswerLine}
use Rattle.at_text.specs.declared.unsolicited.UrcKind.{UrcKind}
use Rattle.at_text.specs.Rules.{Rules, name_of}
use Rattle.modem_desk.specs.declared.request.Answer.{Answer}
use Rattle.modem_desk.specs.declared.request.Answer.TheVariants as answer
use Rattle.modem_desk.specs.declared.request.Urc.{Urc}

-- an octet of a text, as it is if it is 20 to 7E hex
abbrev pub octet_text : ℕ → List ℕ
octet_text c = if nat_le 32 c && nat_le c 126 then c ∷ [] else codes "\\x" ++ encode_lower (c ∷ [])

abbrev pub line_text : List ℕ → List ℕ
line_text line = flat_map octet_text line

abbrev pub answer_text : Answer → List ℕ
answer_text (answer.Done lines) = codes "done"
answer_text answer.Opened = codes "opened"
answer_text answer.Shut = codes "shut"
answer_text answer.ProbeBack = codes "probeback"
answer_text answer.Stopped = codes "stopped"
answer_text answer.NotOpen = codes "notopen"
answer_text answer.AlreadyOpen = codes "alreadyopen"
answer_text answer.Refused = codes "refused"
answer_text answer.NoAnswer = codes "noanswer"
answer_text answer.Closed = codes "closed"
answer_text answer.ControlChannel = codes "controlchannel"
answer_text answer.LineLost = codes "linelost"
answer_text answer.Busy = codes "busy"

-- a line of an answer
abbrev pub answer_line_text : AnswerLine → List ℕ
answer_line_text l = codes "| " ++ line_text l.text ++ codes "\n"

abbrev pub lines_text : Answer → List ℕ
lines_text (answer.Done lines) = flat_map answer_line_text lines
lines_text _ = []

-- what the line at this place, of a caller or of a connection, was told
abbrev pub told_text : ℕ → ℕ → Answer → List ℕ
told_text whose place a =
    decimal whose ++ codes " " ++ decimal place ++ codes " " ++ answer_text a ++ codes "\n" ++ lines_text a

abbrev pub urc_text : UrcKind → List ℕ
urc_text UrcKind.Ring = codes "RING"
urc_text UrcKind.Cring = codes "CRING"
urc_text UrcKind.Creg = codes "CREG"
urc_text UrcKind.Cgreg = codes "CGREG"
urc_text UrcKind.Cgev = codes "CGEV"
urc_text UrcKind.Ciev = codes "CIEV"
urc_text UrcKind.Other = codes "OTHER"
urc_text (UrcKind.Own number) = codes "OWN"

-- a line that was heard
abbrev pub heard_text : Urc → List ℕ
heard_text u =
    codes "heard " ++ urc_text u.kind ++ codes " " ++ decimal u.dlci.number ++ codes " " ++ line_text u.line
    ++ codes "\n"

-- the word for a kind that has this name
abbrev pub named_text : Option (List ℕ) → UrcKind → List ℕ
named_text None kind = urc_text kind
named_text (Some name) kind = line_text name

-- a line that was heard, at a modem with rules of its own: the kinds of its own have their names
abbrev pub heard_text_by : Rules → Urc → List ℕ
heard_text_by rules u =
    codes "heard " ++ named_text (name_of rules u.kind) u.kind ++ codes " " ++ decimal u.dlci.number ++ codes " "
    ++ line_text u.line ++ codes "\n"
