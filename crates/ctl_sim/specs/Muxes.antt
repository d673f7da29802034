-- A simulated modem at a line in memory, between two pieces that it is handed.
use Rattle.std.specs.Prelude.{◌≡◌, ℕ, Bool, true, false, List, [], ◌++◌}
use Rattle.serial_line.specs.LineViews.{unused_line}
use Rattle.modem_sim.specs.Acts.{Act, End}
use Rattle.modem_sim.specs.Cores.{IsLater}
use Rattle.modem_sim.specs.Heard.{modem_after}
use Rattle.modem_sim.specs.Histories.{SimLawful, SimComplete, FitsOctets, IsThrough, AllIsOut}
use Rattle.modem_sim.specs.Sims.{FitsSim, IsOver, SimState, modem_of}
use Rattle.modem_sim.specs.Turns.{NoneCanBeDone}
use Rattle.ctl_sim.specs.HeldLine.{HeldState, held_view}
use Rattle.ctl_sim.specs.InMux.{is_closed_by}

-- At rest: each frame that is called for was sent, and no other; every frame that the octets are read as has come; on each open
-- connection that is neither stopped nor held, all that is said has gone out; and all frames sent are written.
pub record Rests (e : End) (came went : List ℕ) (now : List Act) : Type 0 where
  pub lawful : SimLawful e now
  pub complete : SimComplete e now
  pub through : IsThrough e.n1 came went now
  pub all_out : AllIsOut e now
  pub steps : NoneCanBeDone e now

-- Closed down by a CLD: each frame that is called for was sent, and no other, and all are written. Behind the CLD nothing is read.
pub record IsDown (e : End) (came went : List ℕ) (now : List Act) : Type 0 where
  pub lawful : SimLawful e now
  pub complete : SimComplete e now
  pub taken : List ℕ
  pub unread : List ℕ
  pub came_is : came ≡ taken ++ unread
  pub octets : FitsOctets e.n1 taken went now
  pub over : IsOver went now

-- octets that were handed to it end the multiplexer
pub data IsEndedBy (e : End) (past : List Act) (came went : List ℕ) (now : List Act) : Type 0 where
  at_rest : Rests e came went now → is_closed_by past now ≡ true → IsEndedBy e past came went now
  is_down : IsDown e came went now → IsEndedBy e past came went now

-- it fits a past since its line was new
abbrev pub FitsHeld : End → SimState HeldState → List Act → Type 0
FitsHeld e s past = FitsSim held_view unused_line e s past

-- it went on to a past that it fits, and is at rest there
pub record RestsFrom (e : End) (past : List Act) (s : SimState HeldState) : Type 0 where
  pub now : List Act
  pub later : IsLater past now
  pub fits : FitsHeld e s now
  pub through : IsThrough e.n1 fits.came fits.went now
  pub all_out : AllIsOut e now
  pub steps : NoneCanBeDone e now

-- whatever past it fitted before, and all that was handed in is read
pub record ComesToRest (old new : SimState HeldState) : Type 0 where
  pub read : new.line.waiting ≡ []
  pub rests : (e : End) (past : List Act) → FitsHeld e old past → RestsFrom e past new

-- it is so between two pieces: all that came is read, and all that went is handed out
pub record FitsMux (e : End) (came went : List ℕ) (s : SimState HeldState) (past : List Act) : Type 0 where
  pub fits : FitsHeld e s past
  pub received_is : s.line.received ≡ came
  pub read : s.line.waiting ≡ []
  pub taken_is : s.line.taken ≡ went
  pub handed : s.line.going ≡ []

-- a piece came and more went: the modem is at rest and goes on, or it is over
pub record GoesOnFed (e : End) (came went : List ℕ) (past : List Act) (s : SimState HeldState) (now : List Act) : Type 0 where
  pub rests : Rests e came went now
  pub open_still : is_closed_by past now ≡ false
  pub fits : FitsMux e came went s now

pub record IsOverFed (e : End) (came went : List ℕ) (past : List Act) (s : SimState HeldState) (now : List Act) : Type 0 where
  pub ended : IsEndedBy e past came went now
  pub modem_is : modem_of s ≡ modem_after e now

pub record FedTo (e : End) (came went : List ℕ) (past : List Act) (s : SimState HeldState) (over : Bool) : Type 0 where
  pub now : List Act
  pub later : IsLater past now
  pub goes_on : over ≡ false → GoesOnFed e came went past s now
  pub is_over : over ≡ true → IsOverFed e came went past s now

-- whatever past it fitted before
pub record IsFed (old new : SimState HeldState) (piece out_before out : List ℕ) (over : Bool) : Type 0 where
  pub more : List ℕ
  pub written : out ≡ out_before ++ more
  pub fed :
      (e : End) (came went : List ℕ) (past : List Act) → FitsMux e came went old past
      → FedTo e (came ++ piece) (went ++ more) past new over
