-- A session and a simulated modem that began at two new lines in memory: the octets that each received are those that the other
-- sent, and so their joint list is one line's.
use Rattle.std.specs.Prelude.{◌≡◌, ℕ, ◌<◌, ◌≤◌, List, [], ◌∷◌, ◌++◌, take}
use Rattle.serial_line.specs.CutLine.{CutState, after_carry, carried, cut_view, new_line, unmoved}
use Rattle.serial_line.specs.LineViews.{unused_line}
use Rattle.serial_line.specs.declared.cuts.Cut.{Cut}
use Rattle.at_text.specs.declared.answer.AnswerLine.{AnswerLine}
use Rattle.at_text.specs.Dialects.{standard}
use Rattle.modem_desk.specs.Ends.{DriverView}
use Rattle.modem_desk.specs.declared.request.Answer.TheVariants.{Done}
use Rattle.modem_desk.specs.declared.request.Outcome.{Outcome}
use Rattle.modem_desk.specs.declared.request.Request.{Request}
use Rattle.modem_history.specs.Acts as driver
use Rattle.modem_history.specs.Acts.{Told}
use Rattle.modem_history.specs.Sessions.{Beginning, LineView, driving}
use Rattle.modem_history.specs.TwoEnds.{AsksOnce}
use Rattle.modem_driver.specs.SessionStates.{AreFormed, FitsAll, SessionState, beginning_of}
use Rattle.modem_sim.specs.Acts.{End, end_of}
use Rattle.modem_sim.specs.Heard.{heard}
use Rattle.modem_sim.specs.Laws.{IsStart}
use Rattle.modem_sim.specs.Replied.{AnnouncesUnsolicited, IsModem}
use Rattle.modem_sim.specs.Sims.{FitsSim, SimState}
use Rattle.modem_sim.specs.Steps.{started}
use Rattle.modem_sim.specs.declared.modem.ModemStart.{ModemStart}
use Rattle.modem_sim.specs.declared.script.Script.{Script}
use Rattle.one_modem.specs.OneModem.{EndAct, IsModemAnswer, IsOneLine, driver_past, driver_wire, modem_past}
use Rattle.modem_bench.specs.Rounds.{AreJoined, Pair, pair}

-- ## One line

-- the octets that one line took and gave on are those that the other was given, read or not
pub record AreCrossed (near far : CutState) : Type 0 where
  pub to_far : far.received ++ far.waiting ≡ take near.moved near.sent
  pub to_near : near.received ++ near.waiting ≡ take far.moved far.sent

-- both began where nothing had been received or sent, with one N1 and the standard codes, and the modem had a start
pub record BeganFresh (b : Beginning) (at : LineView) (e : End) : Type 0 where
  pub near_received : b.line.received ≡ []
  pub near_sent : b.line.sent ≡ []
  pub far_received : at.received ≡ []
  pub far_sent : at.sent ≡ []
  pub low : 31 ≤ b.n1
  pub high : b.n1 ≤ 32767
  pub same : e.n1 ≡ b.n1
  pub codes : b.dialect ≡ standard
  pub modem_is : IsModem e.modem

-- the commands and probes among the requests that it took since it began have their form
pub record TookFormed (b : Beginning) (s : SessionState CutState) : Type 0 where
  pub since : List Request
  pub taken_are : s.driver.taken ≡ b.desk.taken ++ since
  pub formed : AreFormed since

-- They have this joint list, which is one line's: at every point of it the frames that came at each end are the first that the
-- other sent.
pub record AreOnOneLine (b : Beginning) (at : LineView) (e : End) (line : List EndAct) (p : Pair) : Type 0 where
  pub began : BeganFresh b at e
  pub joined : AreJoined b at e line p
  pub one_line : IsOneLine line
  pub crossed : AreCrossed p.near.line p.far.line
  pub taken : TookFormed b p.near

-- the two have a joint list, one line's, that goes on from this one
pub record OnOneLineFrom (b : Beginning) (at : LineView) (e : End) (line : List EndAct) (p : Pair) : Type 0 where
  pub newer : List EndAct
  pub on : AreOnOneLine b at e (newer ++ line) p

-- whatever joint list that is one line's the two had, it goes on to one that they have
unfoldable pub StaysOneLine : (old new : Pair) → Type 0
StaysOneLine old new =
    (b : Beginning) (at : LineView) (e : End) (line : List EndAct) → AreOnOneLine b at e line old
    → OnOneLineFrom b at e line new

-- ## The beginning

-- a session and a simulated modem, just made with one N1, each at a new line without input, have the empty list
unfoldable pub BeginsOnOneLine : Type 0
BeginsOnOneLine =
    (n1 near_room far_room : ℕ) (near_reads near_writes far_reads far_writes : List Cut) (d : DriverView)
    (start : ModemStart) (script : Script) (s : SessionState CutState) (m : SimState CutState)
    → 31 ≤ n1 → n1 ≤ 32767 → IsStart start
    → s.line ≡ new_line [] near_reads near_writes near_room → s.driver ≡ d
    → FitsAll (beginning_of n1 (cut_view (new_line [] near_reads near_writes near_room)) d) cut_view s []
    → m.line ≡ new_line [] far_reads far_writes far_room
    → FitsSim cut_view unused_line (end_of n1 (started start) script) m []
    → AreOnOneLine (beginning_of n1 (cut_view (new_line [] near_reads near_writes near_room)) d) unused_line
    (end_of n1 (started start) script) [] (pair s m)

-- ## One modem

-- In each joint list of theirs that is one line's: where each connection is asked for at most once, and only unsolicited
-- lines are announced, each command told Done was read, and is told what the modem's step gives at its place.
unfoldable pub TellsModemTo : Pair → Type 0
TellsModemTo p =
    (b : Beginning) (at : LineView) (e : End) (line : List EndAct) → AreOnOneLine b at e line p
    → AsksOnce (driver_wire line) → AnnouncesUnsolicited (modem_past line)
    → (newer older : List driver.Act) (o : Outcome) (answer : List AnswerLine)
    → driver_past line ≡ newer ++ Told o ∷ older → o.answer ≡ Done answer
    → IsModemAnswer (driving b) e (heard (modem_past line)) older o answer

-- ## Worked crossings

-- octets more wait to be received
abbrev pub given_more : List ℕ → CutState → CutState
given_more octets to = record to { waiting = to.waiting ++ octets }

-- two such lines aren't crossed any more with an octet more or one fewer that waits at one of them
pub record WrongCrossings : Type 0 where
  pub stray_at_far :
      (near far : CutState) (x : ℕ) → AreCrossed near far
      → ¬ AreCrossed near (given_more (x ∷ []) far)
  pub lost_at_far :
      (near far : CutState) (x : ℕ) (xs : List ℕ) → far.waiting ≡ x ∷ xs → AreCrossed near far
      → ¬ AreCrossed near (record far { waiting = xs })
  pub stray_at_near :
      (near far : CutState) (x : ℕ) → AreCrossed near far
      → ¬ AreCrossed (given_more (x ∷ []) near) far

-- carrying leaves two lines crossed; giving octets that went over once more doesn't
pub record RightCrossings : Type 0 where
  pub once :
      (cut : ℕ) (near far : CutState) → AreCrossed near far
      → AreCrossed (after_carry cut near far) (after_carry cut far near)
  pub twice :
      (cut : ℕ) (near far : CutState) → AreCrossed near far → 0 < carried cut near far
      → ¬ AreCrossed (after_carry cut near far) (given_more (take (carried cut near far) (unmoved near)) (after_carry cut far near))
