-- What follows where a session fits a history.
use Rattle.std.specs.Prelude.{◌≡◌, ℕ, not, Bool, true, false, List, [], ◌++◌, filter, None, length, ◌≤◌}
use Rattle.std.specs.List.{list_any}
use Rattle.mux_frame.specs.Frames.{Frame}
use Rattle.mux_frame.specs.Reading.{Reads}
use Rattle.mux_frame.specs.Laws.{AreOctets}
use Rattle.mux_station.specs.Sending.{queue}
use Rattle.modem_desk.specs.declared.request.Request.{Request}
use Rattle.modem_desk.specs.declared.request.Outcome.{Outcome}
use Rattle.modem_history.specs.Acts.{Act, wire, is_for, in_hand}
use Rattle.modem_history.specs.Calls.{is_lost}
use Rattle.modem_history.specs.Wholes.{taken_requests, outcomes}
use Rattle.modem_history.specs.Sessions.{Beginning, SessionView, SessionFits, HasHistory, Goes, gots, sents, given_on, octets_of_frames, caller_outcomes, at_place}

-- a session that has done nothing yet
abbrev pub fresh : Beginning → SessionView
fresh b = record {
  line = b.line;
  desk = b.desk;
  unfed = [];
  deframer = record { n1 = b.n1; undecided = []; next = None };
  unwritten = [];
  unplaced = [];
  unannounced = [];
}

-- a new session fits the empty history, where a frame takes an octet at least
unfoldable pub BeginsFitting : Beginning → Type 0
BeginsFitting b = 1 ≤ b.n1 → SessionFits b (fresh b) []

-- ## Octets

-- the frames got are the first of those that are read in the octets received since the session began
pub record GotAreRead (b : Beginning) (v : SessionView) (past : List Act) : Type 0 where
  pub octets : List ℕ
  pub since : v.line.received ≡ b.line.received ++ octets
  pub later : List Frame
  pub rest : List ℕ
  pub reads : Reads b.n1 octets (gots past ++ later) rest

-- in a lawful history the frames given on are the first of those sent, and while the line isn't lost the
-- others are those that wait in the control queue
pub record GivesInOrder (past : List Act) : Type 0 where
  pub later : List Frame
  pub sent_are : sents past ≡ given_on past ++ later
  pub waits : is_lost past ≡ false → later ≡ queue (wire past)

-- the octets sent are the first of the spellings of the frames sent, in their order
pub record SendsSpellings (b : Beginning) (v : SessionView) (past : List Act) : Type 0 where
  pub rest : List ℕ
  pub joins : v.line.sent ++ rest ≡ b.line.sent ++ octets_of_frames (sents past)

-- these are the first frames that the past gave on
pub record AreGivenOn (fs : List Frame) (past : List Act) : Type 0 where
  pub more : List Frame
  pub given_are : given_on past ≡ fs ++ more

-- the frames that are wholly among the octets sent have been given on
abbrev pub HasMarks : Beginning → SessionView → List Act → Type 0
HasMarks b v past =
    (whole later : List Frame) (rest : List ℕ)
    → sents past ≡ whole ++ later → v.line.sent ≡ b.line.sent ++ octets_of_frames whole ++ rest
    → AreGivenOn whole past

-- ## Requests

-- the requests that were taken and not told
abbrev pub untold : List Act → List Request
untold past = filter (λ r. not (list_any (λ o. is_for r o) (outcomes past))) (taken_requests past)

-- the requests in hand are those that were taken and not told, in order
abbrev pub HandIsUntold : List Act → Type 0
HandIsUntold past = in_hand past ≡ untold past

-- no request has two outcomes among those that its caller was told since the session began and those that
-- wait for it
abbrev pub TellsOnce : Beginning → SessionView → Type 0
TellsOnce b v =
    (r : Request) (since : List Outcome)
    → at_place r.caller v.desk.told ≡ at_place r.caller b.desk.told ++ since
    → length (filter (λ o. is_for r o) (since ++ caller_outcomes r.caller v.unplaced)) ≤ 1

-- what follows where a session fits a history
pub record SessionSays (b : Beginning) (v : SessionView) (past : List Act) : Type 0 where
  pub read : AreOctets v.unfed → GotAreRead b v past
  pub order : GivesInOrder past
  pub spelled : SendsSpellings b v past
  pub marked : HasMarks b v past
  pub in_hand : HandIsUntold past
  pub once : TellsOnce b v

-- all this follows where the session fits the history
unfoldable pub FitsSays : Beginning → SessionView → List Act → Type 0
FitsSays b v past = SessionFits b v past → SessionSays b v past

-- ## Calls

-- two calls in a row are as one call
abbrev pub RunsOn : (old mid new : SessionView) → (first second third : Beginning → List Act → Type 0)
    → Type 0
RunsOn old mid new first second third =
    Goes old mid first second → Goes mid new second third → Goes old new first third

-- a session that had a history has one after a call
abbrev pub KeepsHistory : Beginning → (old new : SessionView) → (core later : Beginning → List Act → Type 0)
    → Type 0
KeepsHistory b old new core later =
    HasHistory b old (core b) → Goes old new core later → HasHistory b new (later b)

-- the histories that a core fits, by a test of them: a clause can speak of all tests, but not of all types
abbrev pub by_test : (Beginning → List Act → Bool) → Beginning → List Act → Type 0
by_test test b past = test b past ≡ true

-- two calls in a row are as one call
unfoldable pub CallsRunOn : Type 0
CallsRunOn =
    (old mid new : SessionView) (first second third : Beginning → List Act → Bool)
    → RunsOn old mid new (by_test first) (by_test second) (by_test third)

-- a session that had a history has one after a call
unfoldable pub CallsKeepHistory : Beginning → Type 0
CallsKeepHistory b =
    (old new : SessionView) (core later : Beginning → List Act → Bool)
    → KeepsHistory b old new (by_test core) (by_test later)
