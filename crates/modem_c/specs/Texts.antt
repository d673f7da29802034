-- What C is handed of an outcome, of an unsolicited line, and of what is left at the end.
use Rattle.std.specs.Prelude.{◌≡◌, ℕ, ◌-◌, ◌^◌, List, [], ◌∷◌, ◌++◌, length, min, map, take, drop, flat_map}
use Rattle.at_text.specs.declared.answer.AnswerLine.{AnswerLine}
use Rattle.modem_desk.specs.declared.request.Answer.{Answer}
use Rattle.modem_desk.specs.declared.request.Answer.TheVariants.{Done}
use Rattle.modem_desk.specs.declared.request.Outcome.{Outcome}
use Rattle.modem_desk.specs.declared.request.Request.{Request}
use Rattle.modem_desk.specs.declared.request.Urc.{Urc}
use Rattle.modem_desk.specs.Numbers.{answer_number}
use Rattle.modem_driver.specs.Endpoints.{EndpointState, GivesOutcome, GivesLine, Leaves}
use Rattle.modem_c.specs.Numbers.{kind_number}
use Rattle.modem_c.specs.declared.outcomes.OutcomeHead.{OutcomeHead}
use Rattle.modem_c.specs.declared.lines.LineHead.{LineHead}
use Rattle.modem_c.specs.declared.ending.LeftCounts.{LeftCounts}

-- there is a first, and this holds of it
abbrev pub OfFirst : {A : Type 0} → List A → (A → Type 0) → Type 0
OfFirst [] p = ⊥
OfFirst (x ∷ xs) p = p x

-- ## Outcomes

abbrev pub lines_of : Answer → List AnswerLine
lines_of (Done lines) = lines
lines_of _ = []

-- a line, and an LF behind it
abbrev pub line_text : AnswerLine → List ℕ
line_text line = line.text ++ 10 ∷ []

abbrev pub lines_text : List AnswerLine → List ℕ
lines_text lines = flat_map line_text lines

abbrev pub text_of : Answer → List ℕ
text_of answer = lines_text (lines_of answer)

-- the head of an outcome, all but its text; a length above u64::MAX is told as u64::MAX
pub record IsOutcomeHead (h : OutcomeHead) (o : Outcome) : Type 0 where
  pub number : h.number ≡ o.number
  pub answer : h.answer ≡ answer_number o.answer
  pub lines : h.lines ≡ length (lines_of o.answer)
  pub octets : h.length ≡ min (length (text_of o.answer)) (2 ^ 64 - 1)

-- the first outcome that waits has this head
abbrev pub ShowsOutcome : EndpointState → OutcomeHead → Type 0
ShowsOutcome e h = OfFirst e.machine.unplaced (IsOutcomeHead h)

-- the outcome that waited first is given, and waits no more: its head, and its text at the front of the room
pub record HandsOutcome (e f : EndpointState) (h : OutcomeHead) (before after : List ℕ) : Type 0 where
  pub outcome : Outcome
  pub gives : GivesOutcome e f outcome
  pub head : IsOutcomeHead h outcome
  pub room : after ≡ text_of outcome.answer ++ drop (length (text_of outcome.answer)) before

-- ## Unsolicited lines

-- the head of a line, all but its text
pub record IsLineHead (h : LineHead) (u : Urc) : Type 0 where
  pub kind : h.kind ≡ kind_number u.kind
  pub dlci : h.dlci ≡ u.dlci.number
  pub octets : h.length ≡ length u.line

-- the first line that waits has this head
abbrev pub ShowsLine : EndpointState → LineHead → Type 0
ShowsLine e h = OfFirst e.machine.unannounced (IsLineHead h)

-- the line that waited first is given, and waits no more: its head, and its text at the front of the room
pub record HandsLine (e f : EndpointState) (h : LineHead) (before after : List ℕ) : Type 0 where
  pub line : Urc
  pub gives : GivesLine e f line
  pub head : IsLineHead h line
  pub room : after ≡ line.line ++ drop (length line.line) before

-- ## The end

-- the numbers of these requests at the front of the room, as many as it has room for
abbrev pub numbers_in : List Request → List ℕ → List ℕ
numbers_in requests room =
    let count = min (length requests) (length room) in
    map (λ (q : Request). q.number) (take count requests) ++ drop count room

-- what is left of an endpoint that ended: how many requests, outcomes and lines, and the numbers of the requests
pub record HandsLeft (e : EndpointState) (h : LeftCounts) (before after : List ℕ) : Type 0 where
  pub in_hand : List Request
  pub outcomes : List Outcome
  pub lines : List Urc
  pub leaves : Leaves e in_hand outcomes lines
  pub requests_are : h.requests ≡ length in_hand
  pub outcomes_are : h.outcomes ≡ length outcomes
  pub lines_are : h.lines ≡ length lines
  pub numbers : after ≡ numbers_in in_hand before
