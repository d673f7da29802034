-- What a session fits: one history tells all that its line and its desk's end did since it began, and all that it still
-- has.
use Rattle.std.specs.Prelude.{◌≡◌, ℕ, ◌+◌, ◌-◌, ◌<◌, ◌≤◌, ◌==◌, true, List, [], ◌∷◌, ◌++◌, length, take, drop, map, filter, flat_map, slice_index_or, if◌then◌else◌, nat_lt, nat_le}
use Rattle.std.specs.List.{list_all}
use mathlib.Core.Option.{some}
use lib.ListN.{get_elem?}
use Rattle.mux_frame.specs.Frames.{Frame}
use Rattle.mux_frame.specs.Spelling.{spelled}
use Rattle.mux_frame.specs.Deframing.{Deframing, Deframes}
pub use Rattle.serial_line.specs.LineViews.{LineView}
use Rattle.mux_station.specs.declared.role.Role.TheVariants.{Initiator}
use Rattle.mux_station.specs.Written.{is_data_frame}
use Rattle.mux_station.specs.Sending.{queue}
use Rattle.at_text.specs.declared.unsolicited.UrcKind.{UrcKind}
use Rattle.at_text.specs.Dialects.{Dialect}
use Rattle.modem_desk.specs.declared.request.Request.{Request}
use Rattle.modem_desk.specs.declared.request.Outcome.{Outcome}
use Rattle.modem_desk.specs.declared.request.Urc.{Urc}
use Rattle.modem_history.specs.Limits.{most_in_hand}
use Rattle.modem_history.specs.Acts.{Act, Took, Got, Sent, Heard, Given, after, wire, in_hand}
use Rattle.modem_history.specs.Requests.{are_distinct}
use Rattle.at_text.specs.Kinds.{is_same_kind}
use Rattle.modem_history.specs.Kinds.{is_listened, of_kind, on_channel}
use Rattle.modem_history.specs.Calls.{Setting, is_loss, is_lost}
use Rattle.modem_history.specs.Wholes.{taken_requests, outcomes}
use Rattle.modem_history.specs.Rules.{Made}

-- ## What is seen of a session

-- the desk's end: the requests that it took, what it told each caller, and what it announced to each listener;
-- and how often it found no request, and handed an outcome of each caller or a line of each listener back
pub record EndView : Type 0 where
  pub taken : List Request
  pub told : List (List Outcome)
  pub announced : List (List Urc)
  pub found_none : ℕ
  pub told_back : List ℕ
  pub announced_back : List ℕ

-- how a session began: its N1, the codes of its modem, how many callers its desk has and which kinds of lines it
-- listens to, and what its line and its desk's end had by then
pub record Beginning : Type 0 where
  pub n1 : ℕ
  pub dialect : Dialect
  pub callers : ℕ
  pub kinds : List UrcKind
  pub line : LineView
  pub desk : EndView

-- a session between two calls
pub record SessionView : Type 0 where
  pub line : LineView
  pub desk : EndView
  -- the octets read and not yet given to the deframer
  pub unfed : List ℕ
  pub deframer : Deframing
  -- the octets that wait for the line, the outcomes that wait for their callers and the lines that wait for
  -- their listeners, each in its order
  pub unwritten : List ℕ
  pub unplaced : List Outcome
  pub unannounced : List Urc

-- the setting of a session's history: an initiator that listens to these kinds
abbrev pub driving : Beginning → Setting
driving b = record { role = Initiator; n1 = b.n1; dialect = b.dialect; listens = is_listened b.kinds }

-- ## Words for a history

-- the frames that were got, and those that were sent, in order
abbrev pub gots : List Act → List Frame
gots [] = []
gots (Got f ∷ past) = gots past ++ f ∷ []
gots (_ ∷ past) = gots past

abbrev pub sents : List Act → List Frame
sents [] = []
sents (Sent f ∷ past) = sents past ++ f ∷ []
sents (_ ∷ past) = sents past

-- the frames given on, in the order of the line: a control frame at its mark, data where it is sent
abbrev pub given_on : List Act → List Frame
given_on [] = []
given_on (Given ∷ past) = given_on past ++ take 1 (queue (wire past))
given_on (Sent f ∷ past) = if is_data_frame f then given_on past ++ f ∷ [] else given_on past
given_on (_ ∷ past) = given_on past

-- their octets, each frame between its two flags
abbrev pub octets_of_frames : List Frame → List ℕ
octets_of_frames fs = flat_map spelled fs

-- the octets of the last of them
abbrev pub last_octets : List Frame → List ℕ
last_octets [] = []
last_octets (f ∷ []) = spelled f
last_octets (f ∷ g ∷ fs) = last_octets (g ∷ fs)

-- the lines of this kind that were heard, in order
abbrev pub heards : UrcKind → List Act → List Act
heards k [] = []
heards k (Heard m d line ∷ past) =
    if is_same_kind k m then heards k past ++ Heard m d line ∷ [] else heards k past
heards k (_ ∷ past) = heards k past

-- the lines that were heard, in order, of each kind all but the first so many
abbrev pub heard_behind : (UrcKind → ℕ) → List Act → List Act
heard_behind n [] = []
heard_behind n (Heard k d line ∷ past) =
    if nat_le (n k) (length (heards k past)) then heard_behind n past ++ Heard k d line ∷ []
    else heard_behind n past
heard_behind n (_ ∷ past) = heard_behind n past

abbrev pub heard_as : Urc → Act
heard_as u = Heard u.kind u.dlci.number u.line

-- the outcomes of this caller
abbrev pub caller_outcomes : ℕ → List Outcome → List Outcome
caller_outcomes c os = filter (λ (o : Outcome). o.caller == c) os

-- what stands at this place
abbrev pub at_place : {A : Type 0} → ℕ → List (List A) → List A
at_place i xss = slice_index_or xss i []

-- each request was taken where fewer than 128 were in hand
abbrev pub TakesWithRoom : List Act → Type 0
TakesWithRoom [] = Unit {0}
TakesWithRoom (Took r ∷ past) = length (in_hand past) < most_in_hand × TakesWithRoom past
TakesWithRoom (_ ∷ past) = TakesWithRoom past

-- ## What it fits

-- a loss of the line: the history has one at most, and only where a call on the line has failed since the
-- session began
pub record FitsLoss (b : Beginning) (v : SessionView) (past : List Act) : Type 0 where
  pub one : length (filter is_loss past) ≤ 1
  pub by_fault : is_lost past ≡ true → b.line.failures < v.line.failures

-- the requests that its desk's end took since it began
abbrev pub taken_since : Beginning → SessionView → List Request
taken_since b v = drop (length b.desk.taken) v.desk.taken

-- no caller used a number twice among them
abbrev pub AreOnce : Beginning → SessionView → Type 0
AreOnce b v = are_distinct (taken_since b v) ≡ true

-- Requests: the desk's end took those that the history took. No caller used a number twice, and each is a caller of the
-- desk. The requests in hand and the outcomes that wait are 128 at most.
pub record FitsRequests (b : Beginning) (v : SessionView) (past : List Act) : Type 0 where
  pub taken_are : v.desk.taken ≡ b.desk.taken ++ taken_requests past
  pub once : AreOnce b v
  pub callers : list_all (λ (q : Request). nat_lt q.caller b.callers) (taken_since b v) ≡ true
  pub few : length (in_hand past) + length v.unplaced ≤ most_in_hand

-- Octets that came: the deframer took the first of those received, and the others aren't fed yet. Of those that it took
-- it has handed out what the history got.
pub record FitsReceived (b : Beginning) (v : SessionView) (past : List Act) : Type 0 where
  pub fed : List ℕ
  pub received_are : v.line.received ≡ b.line.received ++ fed ++ v.unfed
  pub bound : v.deframer.n1 ≡ b.n1
  pub deframes : Deframes fed (gots past) v.deframer

-- Octets that leave: those sent since the session began, and then those that wait, are the frames given on,
-- each spelled between its two flags. What waits is the end of the last one.
pub record FitsSent (b : Beginning) (v : SessionView) (past : List Act) : Type 0 where
  pub since : List ℕ
  pub sent_are : v.line.sent ≡ b.line.sent ++ since
  pub frames_are : since ++ v.unwritten ≡ octets_of_frames (given_on past)
  pub written : ℕ
  pub of_last : v.unwritten ≡ drop written (last_octets (given_on past))

-- what a caller was told since the session began, and then what waits for it, are its outcomes of the history
pub record ToldTo (b : Beginning) (v : SessionView) (past : List Act) (c : ℕ) : Type 0 where
  pub since : List Outcome
  pub told_are : at_place c v.desk.told ≡ at_place c b.desk.told ++ since
  pub outcomes_are : since ++ caller_outcomes c v.unplaced ≡ caller_outcomes c (outcomes past)

-- what each caller was told since the session began, and then what waits for it, are its outcomes of the
-- history; and none waits for a caller that the desk hasn't
pub record FitsTold (b : Beginning) (v : SessionView) (past : List Act) : Type 0 where
  pub each : (c : ℕ) → ToldTo b v past c
  pub callers : list_all (λ (o : Outcome). nat_lt o.caller b.callers) v.unplaced ≡ true

-- what the i-th listener, that of kind k, was announced since the session began, and then what waits of its
-- kind, are the lines of that kind that the history heard
pub record AnnouncedTo (b : Beginning) (v : SessionView) (past : List Act) (i : ℕ)
    (k : UrcKind) : Type 0 where
  pub since : List Urc
  pub announced_are : at_place i v.desk.announced ≡ at_place i b.desk.announced ++ since
  pub lines_are : map heard_as (since ++ of_kind k v.unannounced) ≡ heards k past

-- how many of this kind were announced: of those heard all but those that wait
abbrev pub announced_of : SessionView → List Act → UrcKind → ℕ
announced_of v past k = length (heards k past) - length (of_kind k v.unannounced)

-- `AnnouncedTo` holds of each listener, and no line waits that nobody listens to. The lines that wait, in the order in
-- which they were heard, are all but the first of each kind, as many as were announced. Where there is no listener
-- nothing is announced.
pub record FitsHeard (b : Beginning) (v : SessionView) (past : List Act) : Type 0 where
  pub each : (i : ℕ) (k : UrcKind) → get_elem? b.kinds i ≡ some k → AnnouncedTo b v past i k
  pub listened : list_all (λ (u : Urc). is_listened b.kinds u.kind) v.unannounced ≡ true
  pub in_order : map heard_as v.unannounced ≡ heard_behind (announced_of v past) past
  pub nowhere_else : (i : ℕ) → length b.kinds ≤ i → at_place i v.desk.announced ≡ at_place i b.desk.announced

-- the session fits the history, which the three rules make
pub record SessionFits (b : Beginning) (v : SessionView) (past : List Act) : Type 0 where
  pub history : Made (driving b) past
  pub loss : FitsLoss b v past
  pub requests : FitsRequests b v past
  pub received : FitsReceived b v past
  pub sent : FitsSent b v past
  pub told : FitsTold b v past
  pub heard : FitsHeard b v past

-- The session fits the history, and so does its core, of which nothing is seen here. (Ticks since a probe was sent
-- leave no trace in what is seen.)
pub record FitsWith (b : Beginning) (v : SessionView) (core : List Act → Type 0)
    (past : List Act) : Type 0 where
  pub session : SessionFits b v past
  pub inside : core past

-- there is a history that the session and its core fit
pub record HasHistory (b : Beginning) (v : SessionView) (core : List Act → Type 0) : Type 0 where
  pub past : List Act
  pub fits : FitsWith b v core past

-- by these acts a call goes on from old to new, whatever history there was before
abbrev pub GoesBy : Beginning → (old new : SessionView) → (core later : List Act → Type 0) → List Act → Type 0
GoesBy b old new core later acts =
    (past : List Act) → FitsWith b old core past → FitsWith b new later (after past acts)

-- a call goes on from old to new by some acts, the same whatever the session began with and whatever history it had,
-- and takes some requests more
pub record Goes (old new : SessionView) (core later : Beginning → List Act → Type 0) : Type 0 where
  pub acts : List Act
  pub more : List Request
  pub takes_more : new.desk.taken ≡ old.desk.taken ++ more
  pub goes : (b : Beginning) → GoesBy b old new (core b) (later b) acts

-- ## Backlogs

-- the backlog of d: the number of its lines that wait in the session for a place at a listener
abbrev pub backlog_in : ℕ → List Urc → ℕ
backlog_in d lines = length (on_channel d lines)

abbrev pub backlog : ℕ → SessionView → ℕ
backlog d v = backlog_in d v.unannounced

-- ## Its end

-- what `finish` gives
pub record Leftovers : Type 0 where
  pub line : LineView
  pub desk : EndView
  pub in_hand : List Request
  pub unplaced : List Outcome
  pub unannounced : List Urc

-- line and desk's end as they are; each request taken and not told, in order; all outcomes and all lines that wait
pub record Finishes (v : SessionView) (past : List Act) (f : Leftovers) : Type 0 where
  pub line_stays : f.line ≡ v.line
  pub desk_stays : f.desk ≡ v.desk
  pub hand_is : f.in_hand ≡ in_hand past
  pub unplaced_are : f.unplaced ≡ v.unplaced
  pub unannounced_are : f.unannounced ≡ v.unannounced
