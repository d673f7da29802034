-- What the headline is made of: what a settlement gave, what leaves on a connection, what is answered and heard, and the one
-- place of a request.
use Rattle.std.specs.Prelude.{◌≡◌, ℕ, ◌+◌, true, List, ◌∷◌, ◌++◌, length, filter}
use Rattle.std.specs.List.{concat}
use Rattle.mux_frame.specs.Frames.{Frame}
use Rattle.mux_station.specs.Written.{is_data_frame}
use Rattle.mux_station.specs.Opening.{is_open}
use Rattle.mux_station.specs.declared.role.Role.TheVariants.{Initiator}
use Rattle.at_text.specs.declared.answer.AnswerLine.{AnswerLine}
use Rattle.modem_desk.specs.declared.request.Answer.TheVariants.{Done}
use Rattle.modem_desk.specs.declared.request.Request.{Request}
use Rattle.modem_desk.specs.declared.request.Outcome.{Outcome}
use Rattle.modem_desk.specs.declared.request.Urc.{Urc}
use Rattle.modem_desk.specs.Rule.{of_caller}
use Rattle.modem_desk.specs.Ends.{CallerView, Each}
use Rattle.modem_history.specs.Acts.{Act, Sent, Told, is_for, wire}
use Rattle.modem_history.specs.Information.{accepted, information_out, texts}
use Rattle.modem_history.specs.Hearing.{listened_on, was_heard}
use Rattle.modem_history.specs.Sessions.{Beginning, SessionFits, SessionView, driving}
use Rattle.modem_history.specs.Wholes.{HasOwnAnswer, IsPrefixOf, commands_for, is_same}
use Rattle.modem_core.specs.Replays.{AreFull}

-- ## A settlement

-- what a settlement gave: the requests that were still queued, and for each caller and each listener, in the
-- order in which they were handed in, the outcomes and the lines that waited
pub record Settlement : Type 0 where
  pub left : List Request
  pub untaken : List (List Outcome)
  pub unheard : List (List Urc)

-- ## What leaves

-- the commands of a caller that were accepted on d since it opened are those on d in one stretch of what it submitted,
-- in its order
pub record InSubmittedOrder (d : ℕ) (past : List Act) (caller : ℕ) (submitted : List Request) : Type 0 where
  pub before : List Request
  pub stretch : List Request
  pub later : List Request
  pub submitted_are : submitted ≡ before ++ stretch ++ later
  pub commands_are : of_caller caller (accepted Initiator d past) ≡ commands_for d stretch

-- what left on d since it opened is a prefix of the command lines accepted since then, each with its CR and
-- once, each caller's in its submitted order
pub record Leaves (d : ℕ) (past : List Act) (callers : List CallerView) : Type 0 where
  pub is_prefix : IsPrefixOf (information_out Initiator d past) (concat (texts (accepted Initiator d past)))
  pub order : Each (λ i c. InSubmittedOrder d past c.place.number c.submitted) callers

-- data leaves only while its connection is open
abbrev pub NoneAfterClose : List Act → Type 0
NoneAfterClose past =
    (newer older : List Act) (f : Frame) → past ≡ newer ++ Sent f ∷ older → is_data_frame f ≡ true
    → is_open Initiator f.dlci (wire older) ≡ true

-- in every history of a session all data frames of a command but the last have N1 octets: each was the next in turn
-- (27.010, 5.4)
unfoldable pub SendsFull : Beginning → SessionView → List Act → Type 0
SendsFull b v past = SessionFits b v past → AreFull b.n1 past

-- ## What is answered

-- each answer told has just the lines that answer the request's own command, up to the final code
abbrev pub AnswersOwn : Beginning → List Act → Type 0
AnswersOwn b past =
    (newer older : List Act) (o : Outcome) (ls : List AnswerLine) → past ≡ newer ++ Told o ∷ older
    → o.answer ≡ Done ls → HasOwnAnswer (driving b) older o ls

-- ## What is announced

-- on each connection all lines of a listened kind that no answer holds were heard, each once and in order
abbrev pub HearsEach : Beginning → List Act → Type 0
HearsEach b past = (d : ℕ) → was_heard d past ≡ listened_on (driving b) d past

-- ## The place of a request

-- the request has one outcome among these; or it is in hand; or it was left: just one of the three
abbrev pub HasOnePlace : List Outcome → (in_hand left : List Request) → Request → Type 0
HasOnePlace outcomes in_hand left r =
    length (filter (λ o. is_for r o) outcomes)
    + (length (filter (is_same r) in_hand) + length (filter (is_same r) left)) ≡ 1
