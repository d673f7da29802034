-- Answers of one's own: which lines each takes, what is said to a line, and when.
use Rattle.std.specs.Prelude.{ℕ, ◌-◌, ◌==◌, ◌&&◌, nat_le, Bool, List, [], ◌∷◌, length, take, find, Option, option_map, if◌then◌else◌}
use Rattle.std.specs.List.{flat_map}
use Rattle.at_text.specs.declared.answer.AnswerLine.{AnswerLine}
use Rattle.modem_sim.specs.declared.own_answers.OwnAnswer.{OwnAnswer}
use Rattle.modem_sim.specs.declared.own_answers.OwnLine.{OwnLine}
use Rattle.at_cmds.specs.Forms.{is_same}

-- ## Which answer

-- a line begins with a command
abbrev pub begins_as : (command line : List ℕ) → Bool
begins_as command line = nat_le (length command) (length line) && is_same command (take (length command) line)

-- an answer takes a line: the whole is its command, or begins with it
abbrev pub takes : OwnAnswer → List ℕ → Bool
takes a line = if a.is_prefix then begins_as a.command line else is_same a.command line

-- what is said to a line, now and later, by the first answer that takes it
abbrev pub own_lines : List OwnAnswer → List ℕ → Option (List OwnLine)
own_lines answers line = option_map (λ (a : OwnAnswer). a.lines) (find (λ (a : OwnAnswer). takes a line) answers)

-- ## When

-- a line is said now, if no more command lines have to come before it
abbrev pub now_of : OwnLine → List AnswerLine
now_of l = if l.after == 0 then l.line ∷ [] else []

-- else it is left, and one command line fewer has to come
abbrev pub later_of : OwnLine → List OwnLine
later_of l = if l.after == 0 then [] else record l { after = l.after - 1 } ∷ []

-- what of lines is said now
abbrev pub said_now : List OwnLine → List AnswerLine
said_now lines = flat_map now_of lines

-- what of them is left
abbrev pub said_later : List OwnLine → List OwnLine
said_later lines = flat_map later_of lines

-- where a line's answer ends by a CONNECT nothing is said behind it: each line that waits does so on, and one command line fewer has to come
abbrev pub waits_on : OwnLine → OwnLine
waits_on l = record l { after = l.after - 1 }

-- a line that is due behind the next answer
abbrev pub due_line : AnswerLine → OwnLine
due_line line = record { after = 0; line = line }
