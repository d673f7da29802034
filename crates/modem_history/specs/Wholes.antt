-- What a whole history says: what stands in it is the beginning of all that it called for.
use Rattle.std.specs.Prelude.{◌≡◌, ℕ, ◌≤◌, ◌==◌, ◌&&◌, Bool, true, false, not, List, [], ◌∷◌, ◌++◌, length, filter, map, take, Some, is_some, if◌then◌else◌}
use Rattle.std.specs.List.{concat, list_any}
use Rattle.mux_frame.specs.Frames.{Frame}
use Rattle.mux_station.specs.Written.{is_data_frame}
use Rattle.mux_station.specs.declared.role.Role.TheVariants.{Initiator}
use Rattle.mux_station.specs.Opening.{is_open}
use Rattle.at_text.specs.declared.answer.AnswerLine.{AnswerLine}
use Rattle.at_text.specs.Lines.{lines}
use Rattle.at_text.specs.Windows.{Line, Window, IsInTurn, answer_of, answered, is_answered, last_window, open_window}
use Rattle.at_text.specs.Seeing.{answer_lines}
use Rattle.modem_desk.specs.declared.request.Request.{Request}
use Rattle.modem_desk.specs.declared.request.Answer.TheVariants.{Done}
use Rattle.modem_desk.specs.declared.request.Outcome.{Outcome}
use Rattle.modem_history.specs.Acts.{Act, Took, Got, Sent, Told, Heard, Lost, Given, is_for, after, wire, in_hand}
pub use Rattle.modem_history.specs.Connections.{begun_in}
use Rattle.modem_history.specs.Information.{carries, information_out, accepted, command_on, texts, line_of}
use Rattle.modem_history.specs.Placing.{marks, run_on, whole_after}
use Rattle.modem_history.specs.Holding.{OnHeld}
use Rattle.modem_history.specs.Calls.{Setting, calls, calls_behind, is_lost}
use Rattle.modem_history.specs.Lawful.{Lawful, Complete, owed, owed_after}

-- what stands in the past of what is called for: frames that are no data, outcomes and lines
abbrev pub stands : List Act → List Act
stands [] = []
stands (Sent f ∷ past) = if is_data_frame f then stands past else stands past ++ Sent f ∷ []
stands (Told o ∷ past) = stands past ++ Told o ∷ []
stands (Heard kind d line ∷ past) = stands past ++ Heard kind d line ∷ []
stands (_ ∷ past) = stands past

-- all that the acts of the past called for, in order, but for frames that a loss of the line left unsent
abbrev pub called : Setting → List Act → List Act
called s [] = []
called s (Sent f ∷ past) = called s past
called s (Told o ∷ past) = called s past
called s (Heard kind d line ∷ past) = called s past
called s (Given ∷ past) = called s past
called s (Lost ∷ past) = stands past ++ owed_after s past (owed s past) Lost
called s (a ∷ past) = called s past ++ calls_behind s past (owed s past) a

-- what stands in the past is the beginning of what was called for, and the rest is owed
abbrev pub IsBeginning : Setting → List Act → Type 0
IsBeginning s past = stands past ++ owed s past ≡ called s past

-- an act that a call begins with
abbrev pub is_first : Act → Bool
is_first (Sent f) = false
is_first (Told o) = false
is_first (Heard kind d line) = false
is_first Given = false
is_first a = true

-- an act that follows in a call: a frame sent, an outcome or a line
abbrev pub follows : Act → Bool
follows (Sent f) = true
follows (Told o) = true
follows (Heard kind d line) = true
follows a = false

-- an act that may be called for: a control frame sent, an outcome or a line
abbrev pub is_said : Act → Bool
is_said (Sent f) = not (is_data_frame f)
is_said (Told o) = true
is_said (Heard kind d line) = true
is_said a = false

-- after these acts the history is lawful and complete
pub record GoesOn (s : Setting) (past acts : List Act) : Type 0 where
  pub lawful : Lawful s (after past acts)
  pub complete : Complete s (after past acts)

-- a call that does just what its first act calls for keeps a lawful and complete past so
unfoldable pub CallGoesOn : Setting → List Act → Act → Type 0
CallGoesOn s past a =
    is_first a ≡ true → OnHeld s.role past a → Lawful s past → Complete s past
    → GoesOn s past (a ∷ calls s past a)

-- the one list begins the other
pub record IsPrefixOf {A : Type 0} (xs ys : List A) : Type 0 where
  pub rest : List A
  pub joins : xs ++ rest ≡ ys

-- what left since d opened is a prefix of the commands accepted since then, each as it goes out
abbrev pub LeavesOnce : Setting → List Act → Type 0
LeavesOnce s past =
    (d : ℕ) → IsPrefixOf (information_out s.role d past) (concat (texts (accepted s.role d past)))

-- the commands that began since d opened are the accepted ones that are wholly sent, each begun where no window is open
pub record AreInTurn (s : Setting) (d : ℕ) (past : List Act) : Type 0 where
  pub in_turn : IsInTurn s.dialect (marks s.role d past)
  pub first : begun_in (marks s.role d past)
      ≡ map line_of (whole_after (length (information_out s.role d past)) (accepted s.role d past))

-- on every connection commands begin in turn
unfoldable pub BeginsInTurn : Setting → List Act → Type 0
BeginsInTurn s past = (d : ℕ) → AreInTurn s d past

-- nothing is sent once the line is lost
abbrev pub NoneAfterLoss : Setting → List Act → Type 0
NoneAfterLoss s past = (f : Frame) → is_lost past ≡ true → ¬ Lawful s (Sent f ∷ past)

-- ## Outcomes

-- the requests that were taken, in order
abbrev pub taken_requests : List Act → List Request
taken_requests [] = []
taken_requests (Took r ∷ past) = taken_requests past ++ r ∷ []
taken_requests (_ ∷ past) = taken_requests past

-- the outcomes that were told, in order
abbrev pub outcomes : List Act → List Outcome
outcomes [] = []
outcomes (Told o ∷ past) = outcomes past ++ o ∷ []
outcomes (_ ∷ past) = outcomes past

-- the requests have the same caller and number
abbrev pub is_same : Request → Request → Bool
is_same r q = (r.caller == q.caller) && (r.number == q.number)

-- no caller uses a number twice
abbrev pub UsesOnce : List Request → Type 0
UsesOnce qs = (r : Request) → length (filter (is_same r) qs) ≤ 1

-- each outcome answers a request that was taken before it, and where no caller uses a number twice
-- no request has two
pub record AnswersOnce (past : List Act) : Type 0 where
  pub earlier : (newer older : List Act) (o : Outcome) → past ≡ newer ++ Told o ∷ older
      → list_any (λ r. is_for r o) (taken_requests older) ≡ true
  pub once : UsesOnce (taken_requests past) → (r : Request)
      → length (filter (λ o. is_for r o) (outcomes past)) ≤ 1

-- one of the lines that end in a frame ends the window of the last command, and this is its answer
pub record EndsWindow (s : Setting) (past : List Act) (f : Frame) (ls : List AnswerLine) : Type 0 where
  pub count : ℕ
  pub window : Window
  pub is_last : last_window (marks s.role f.dlci past ++
      map Line (take count (lines (run_on s.role f.dlci past ++ f.info)))) ≡ Some window
  pub ended : is_answered s.dialect window ≡ true
  pub answer : ls ≡ answer_lines (answer_of s.dialect window)

-- a frame that came ended a window with this answer
pub record HasAnswer (s : Setting) (past : List Act) (ls : List AnswerLine) : Type 0 where
  pub newer : List Act
  pub older : List Act
  pub frame : Frame
  pub joins : past ≡ newer ++ Got frame ∷ older
  pub ends : EndsWindow s older frame ls

-- each answer that was told is that of a window, at its place
abbrev pub TellsAnswers : Setting → List Act → Type 0
TellsAnswers s past =
    (newer older : List Act) (o : Outcome) (ls : List AnswerLine) → past ≡ newer ++ Told o ∷ older
    → o.answer ≡ Done ls → HasAnswer s older ls

-- ## Commands in step

-- nothing was owed where an act stands that isn't called for: each call was complete when something else
-- began
abbrev pub CompleteCalls : Setting → List Act → Type 0
CompleteCalls s [] = Unit {0}
CompleteCalls s (a ∷ past) = (is_said a ≡ false → owed s past ≡ []) × CompleteCalls s past

-- the commands on d
abbrev pub commands_for : ℕ → List Request → List Request
commands_for d qs = filter (λ (q : Request). command_on d q.ask) qs

-- of the commands accepted on d the first have their answers, and the others are in hand
pub record InStep (s : Setting) (d : ℕ) (past : List Act) : Type 0 where
  pub before : List Request
  pub accepted_are : accepted s.role d past ≡ before ++ commands_for d (in_hand past)
  pub answered_are : answered s.dialect (marks s.role d past) ≡ length before

-- while d isn't open no command on it is in hand
pub record OnChannel (s : Setting) (d : ℕ) (past : List Act) : Type 0 where
  pub while_open : is_open s.role d (wire past) ≡ true → InStep s d past
  pub while_shut : is_open s.role d (wire past) ≡ false → commands_for d (in_hand past) ≡ []

-- an initiator's commands are in step wherever nothing is owed
unfoldable pub StaysInStep : Setting → List Act → Type 0
StaysInStep s past =
    s.role ≡ Initiator → CompleteCalls s past → UsesOnce (taken_requests past) → is_lost past ≡ false
    → Complete s past → (d : ℕ) → (d == 0) ≡ false → OnChannel s d past

-- The answer is that of the request's own command, by its place. The commands accepted before it have their answers, it
-- is the last that began, and its window is open when the frame comes. The frame brings information to its open
-- connection, and one of the frame's lines ends the window.
pub record IsOwnAnswer (s : Setting) (past : List Act) (f : Frame) (r : Request)
    (ls : List AnswerLine) : Type 0 where
  pub before : List Request
  pub later : List Request
  pub accepted_are : accepted s.role f.dlci past ≡ before ++ r ∷ later
  pub answered_are : answered s.dialect (marks s.role f.dlci past) ≡ length before
  pub begun_are : begun_in (marks s.role f.dlci past) ≡ map line_of before ++ line_of r ∷ []
  pub was_open : is_some (open_window s.dialect (marks s.role f.dlci past)) ≡ true
  pub brings : (carries f.dlci f && is_open s.role f.dlci (wire past)) ≡ true
  pub ends : EndsWindow s past f ls
  pub own : ends.window.command ≡ line_of r

-- a frame that came ended the window of the request that was told
pub record HasOwnAnswer (s : Setting) (past : List Act) (o : Outcome) (ls : List AnswerLine) : Type 0 where
  pub newer : List Act
  pub older : List Act
  pub frame : Frame
  pub request : Request
  pub joins : past ≡ newer ++ Got frame ∷ older
  pub answers : is_for request o ≡ true
  pub owns : IsOwnAnswer s older frame request ls

-- an initiator tells each request the answer of its own command, also in a history that a loss of the line
-- ends
unfoldable pub TellsOwn : Setting → List Act → Type 0
TellsOwn s past =
    s.role ≡ Initiator → CompleteCalls s past → UsesOnce (taken_requests past)
    → (newer older : List Act) (o : Outcome) (ls : List AnswerLine) → past ≡ newer ++ Told o ∷ older
    → o.answer ≡ Done ls → HasOwnAnswer s older o ls
