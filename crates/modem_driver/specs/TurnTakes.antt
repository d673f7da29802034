-- How a request is taken.
use Rattle.std.specs.Prelude.{◌≡◌, ◌+◌, ◌<◌, true, List, [], ◌∷◌, ◌++◌, length, nat_lt}
use Rattle.std.specs.List.{list_any}
use Rattle.modem_desk.specs.declared.request.Request.{Request}
use Rattle.modem_desk.specs.declared.request.Urc.{Urc}
use Rattle.modem_desk.specs.Ends.{DriverView}
use Rattle.modem_history.specs.Limits.{most_in_hand}
use Rattle.modem_history.specs.Acts.{Act, after}
use Rattle.modem_history.specs.Sessions.{Beginning, LineView, AreOnce, FitsWith}
use Rattle.modem_driver.specs.SessionStates.{Machine, MachineFits, seen_by, end_of}
use Rattle.modem_driver.specs.TurnSteps.{Adds, is_more}

-- The desk's end takes this request more, while there is room for it. It is of a caller of the desk, and no caller has
-- used a number twice by then.
pub record TakesNext (b : Beginning) (l : LineView) (old new : DriverView) (k : Machine) (q : Request) : Type 0 where
  pub taken : new.taken ≡ old.taken ++ q ∷ []
  pub caller : nat_lt q.caller (length old.desk.rings) ≡ true
  pub once : AreOnce b (seen_by l (end_of new) k)
  pub room : length k.core.hand + length k.unplaced < most_in_hand
  pub desk_stays : new.desk ≡ old.desk
  pub told_stays : new.told ≡ old.told
  pub announced_stays : new.announced ≡ old.announced

-- what holds of a machine that takes this request, whatever history it fits, and whatever desk's end gives it
abbrev pub Taking : (k : Machine) (q : Request)
    → ((b : Beginning) (l : LineView) (later : DriverView) (past : List Act) → Type 0) → Type 0
Taking k q P =
    (b : Beginning) (l : LineView) (d later : DriverView) (past : List Act)
    → FitsWith b (seen_by l (end_of d) k) (MachineFits b l d k) past → TakesNext b l d later k q → P b l later past

-- the request is taken by some acts, whatever desk's end gives it
pub record MachineTakes (old new : Machine) (q : Request) : Type 0 where
  pub acts : List Act
  pub goes : Taking old q (λ b l later past.
      FitsWith b (seen_by l (end_of later) new) (MachineFits b l later new) (after past acts))
  pub adds : (waiting : List Urc) → Taking old q (λ b l later past. Adds old new waiting 0 acts)
  pub moves : list_any is_more acts ≡ true
  pub stays : new ≡ record old { core = new.core; unplaced = new.unplaced; unannounced = new.unannounced }
