-- The lines of a text of answers of one's own: `COMMAND => LINE | LINE`, and `COMMAND* => LINE` for all lines that begin so.
use Rattle.std.specs.Prelude.{◌≡◌, ◌≢◌, ◌⊎◌, ℕ, ◌+◌, ◌<◌, ◌^◌, ◌==◌, Bool, true, false, List, [], ◌∷◌, ◌++◌, length, None, Option, IfSome, codes}
use Rattle.std.specs.Fmt.{decimal}
use Rattle.std.specs.Str.Iter.{LacksByte}
use Rattle.at_text.specs.Commands.{refusal_of}
use Rattle.modem_sim.specs.Doing.{is_line}
use Rattle.modem_sim.specs.declared.own_answers.OwnAnswer.{OwnAnswer}
use Rattle.modem_sim.specs.declared.own_answers.OwnLine.{OwnLine}
use Rattle.ctl_text.specs.Input.{input_lines}
use Rattle.ctl_run.specs.declared.own_answers.AnswerPart.{AnswerPart}
use Rattle.ctl_run.specs.declared.own_answers.AnswerPart.TheVariants.{Arrow, Command, Lines}
use Rattle.ctl_run.specs.declared.own_answers.AnswerRefusal.{AnswerRefusal}
use Rattle.ctl_run.specs.declared.own_answers.AnswersStop.{AnswersStop}

-- ## The lines of an answer

-- how many more command lines have to come: none where nothing stands there, or a number
abbrev pub SaysCount : List ℕ → ℕ → Type 0
SaysCount word n = ((word ≡ []) × (n ≡ 0)) ⊎ (word ≡ decimal n)

-- a count, a blank and a line: 1 to 512 octets without a line end
pub record IsLast (text : List ℕ) (l : OwnLine) : Type 0 where
  pub word : List ℕ
  pub few : l.after < 2 ^ 64
  pub count : SaysCount word l.after
  pub text_is : text ≡ word ++ 32 ∷ l.line.text
  pub small : is_line l.line.text ≡ true

-- the same with a blank behind it
pub record IsFirst (text : List ℕ) (l : OwnLine) : Type 0 where
  pub left : List ℕ
  pub text_is : text ≡ left ++ codes " "
  pub is_line : IsLast left l

abbrev pub IsNoLast : List ℕ → Type 0
IsNoLast text = (l : OwnLine) → IsLast text l → ⊥

abbrev pub IsNoFirst : List ℕ → Type 0
IsNoFirst text = (l : OwnLine) → IsFirst text l → ⊥

-- lines with bars between them
pub data AreSome : List ℕ → List OwnLine → Type 0 where
  last : (text : List ℕ) (l : OwnLine) → LacksByte 124 text → IsLast text l → AreSome text (l ∷ [])
  first :
      (text line rest : List ℕ) (l : OwnLine) (lines : List OwnLine) → text ≡ line ++ 124 ∷ rest → LacksByte 124 line
      → IsFirst line l → AreSome rest lines → AreSome text (l ∷ lines)

-- what stands behind the arrow: nothing, which is silence, or lines
abbrev pub AreLines : List ℕ → List OwnLine → Type 0
AreLines text lines = ((text ≡ []) × (lines ≡ [])) ⊎ AreSome text lines

-- what stands next, up to a bar or to the end, is no line; or it is one, and behind it there is such a place
pub data HasNoNext : List ℕ → Type 0 where
  no_last : (text : List ℕ) → LacksByte 124 text → IsNoLast text → HasNoNext text
  no_first :
      (text line rest : List ℕ) → text ≡ line ++ 124 ∷ rest → LacksByte 124 line → IsNoFirst line → HasNoNext text
  later :
      (text line rest : List ℕ) (l : OwnLine) → text ≡ line ++ 124 ∷ rest → LacksByte 124 line → IsFirst line l
      → HasNoNext rest → HasNoNext text

-- what stands behind the arrow is neither nothing nor lines
pub record HasNoLine (text : List ℕ) : Type 0 where
  pub some : text ≢ []
  pub none : HasNoNext text

-- ## Lines that say an answer

abbrev pub star : Bool → List ℕ
star true = codes "*"
star false = []

-- a command line, with a star behind it if lines that go on are meant too
pub record IsStarred (front command : List ℕ) (is_prefix : Bool) : Type 0 where
  pub front_is : front ≡ command ++ star is_prefix
  pub no_star : is_prefix ≡ false → (c : List ℕ) → command ≢ c ++ codes "*"

-- a line has an arrow: this stands before the first `>` but for ` =`, and that behind it
pub record HasArrow (line front behind : List ℕ) : Type 0 where
  pub line_is : line ≡ front ++ codes " =" ++ 62 ∷ behind
  pub first : LacksByte 62 front

-- a line says this answer
pub record SaysAnswer (line : List ℕ) (a : OwnAnswer) : Type 0 where
  pub front : List ℕ
  pub behind : List ℕ
  pub arrow : HasArrow line front behind
  pub starred : IsStarred front a.command a.is_prefix
  pub is_command : refusal_of a.command ≡ None
  pub lines : AreLines behind a.lines

-- a line is empty or a comment
abbrev pub is_skipped : List ℕ → Bool
is_skipped [] = true
is_skipped (c ∷ line) = c == 35

-- the lines that aren't passed over say these answers, in order
pub data AreAnswers : List (List ℕ) → List OwnAnswer → Type 0 where
  no_line : AreAnswers [] []
  skips :
      (line : List ℕ) (lines : List (List ℕ)) (answers : List OwnAnswer) → is_skipped line ≡ true
      → AreAnswers lines answers → AreAnswers (line ∷ lines) answers
  says :
      (line : List ℕ) (lines : List (List ℕ)) (a : OwnAnswer) (answers : List OwnAnswer) → is_skipped line ≡ false
      → SaysAnswer line a → AreAnswers lines answers → AreAnswers (line ∷ lines) (a ∷ answers)

-- that is all that the reader had, where this is known
pub record GivesAnswers (input : Option (List ℕ)) (answers : List OwnAnswer) : Type 0 where
  pub text : List ℕ
  pub whole : IfSome input (λ all. text ≡ all)
  pub say : AreAnswers (input_lines text) answers

-- ## Lines that say none

-- the line has no `>`, or no blank and = before the first
pub data HasNoArrow : List ℕ → Type 0 where
  none_there : (line : List ℕ) → LacksByte 62 line → HasNoArrow line
  other_before :
      (line front behind : List ℕ) → line ≡ front ++ 62 ∷ behind → LacksByte 62 front
      → ((c : List ℕ) → front ≢ c ++ codes " =") → HasNoArrow line

-- what stands before its arrow is no command line, the star taken off
pub record HasNoCommand (line : List ℕ) : Type 0 where
  pub front : List ℕ
  pub behind : List ℕ
  pub arrow : HasArrow line front behind
  pub command : List ℕ
  pub is_prefix : Bool
  pub starred : IsStarred front command is_prefix
  pub is_none : refusal_of command ≢ None

-- what stands behind its arrow is neither nothing nor lines
pub record HasNoLines (line : List ℕ) : Type 0 where
  pub front : List ℕ
  pub behind : List ℕ
  pub arrow : HasArrow line front behind
  pub command : List ℕ
  pub is_prefix : Bool
  pub starred : IsStarred front command is_prefix
  pub is_command : refusal_of command ≡ None
  pub no_line : HasNoLine behind

-- this part of a line is the first that isn't as it must be
abbrev pub HasNo : AnswerPart → List ℕ → Type 0
HasNo Arrow line = HasNoArrow line
HasNo Command line = HasNoCommand line
HasNo Lines line = HasNoLines line

-- why a line says no answer
abbrev pub HasRefusal : List ℕ → AnswerRefusal → Type 0
HasRefusal line (AnswerRefusal.Bad part) = HasNo part line
HasRefusal line AnswerRefusal.NoMemory = Unit {0}

-- at this line
abbrev pub answers_stop : ℕ → AnswerRefusal → AnswersStop
answers_stop place (AnswerRefusal.Bad part) = AnswersStop.BadLine place part
answers_stop place AnswerRefusal.NoMemory = AnswersStop.NoMemory

-- the line at this place, counted from 1, says no answer, for its part, and each before it says one or is passed over
pub record IsFirstNone (lines : List (List ℕ)) (place : ℕ) (part : AnswerPart) : Type 0 where
  pub before : List (List ℕ)
  pub answers : List OwnAnswer
  pub line : List ℕ
  pub after : List (List ℕ)
  pub split : lines ≡ before ++ line ∷ after
  pub counted : place ≡ length before + 1
  pub good : AreAnswers before answers
  pub is_read : is_skipped line ≡ false
  pub none : HasNo part line

-- why lines aren't read: the first that says none is named, or memory was refused
abbrev pub IsNoText : List (List ℕ) → AnswersStop → Type 0
IsNoText lines AnswersStop.NoMemory = Unit {0}
IsNoText lines AnswersStop.Input = ⊥
IsNoText lines (AnswersStop.BadLine place part) = IsFirstNone lines place part

-- the same of what a reader had
pub record HasFirstNone (input : Option (List ℕ)) (place : ℕ) (part : AnswerPart) : Type 0 where
  pub text : List ℕ
  pub whole : IfSome input (λ all. text ≡ all)
  pub first : IsFirstNone (input_lines text) place part

abbrev pub AnswersStopBy : Option (List ℕ) → AnswersStop → Type 0
AnswersStopBy input AnswersStop.NoMemory = Unit {0}
AnswersStopBy input AnswersStop.Input = Unit {0}
AnswersStopBy input (AnswersStop.BadLine place part) = HasFirstNone input place part

-- ## What is said

-- what has to stand in the part
abbrev pub part_text : AnswerPart → List ℕ
part_text Arrow = codes "behind a command stand a blank and =>"
part_text Command = codes "a command line is AT or at and octets 20 to 7E, at most 256 in all"
part_text Lines =
    codes "behind => stands nothing, or lines: a number or none, a blank and 1 to 512 octets, with a blank and a bar between two"
