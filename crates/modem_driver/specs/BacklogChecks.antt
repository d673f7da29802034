-- How a backlog is checked.
use Rattle.std.specs.Prelude.{◌≡◌, ◌≢◌, ◌⊎◌, ℕ, Bool, true, false, List, [], None}
use Rattle.std.specs.List.{list_all, list_any}
use Rattle.modem_desk.specs.Ends.{DriverView}
use Rattle.modem_desk.specs.declared.request.Urc.{Urc}
use Rattle.modem_history.specs.Acts.{Act, after}
use Rattle.modem_history.specs.EveryTurn.{is_check}
use Rattle.modem_history.specs.Sessions.{Beginning, LineView, FitsWith, driving, gots, backlog_in}
use Rattle.modem_history.specs.Turns.{LacksMscRoom, outcomes_told, lines_heard, may_act}
use Rattle.modem_core.specs.Holding.{due_by}
use Rattle.modem_driver.specs.SessionStates.{Machine, MachineFits, MachineGoes, seen_by, end_of}
use Rattle.modem_driver.specs.TurnSteps.{is_more}

-- The connection's backlog calls for nothing afterwards, or no MSC has a place. For any other connection nothing
-- changes. Where no MSC had a place, none has.
pub record SettlesOne (b : Beginning) (past acts : List Act) (d : ℕ) (lines : List Urc) : Type 0 where
  pub here : (due_by (driving b) (after past acts) d (backlog_in d lines) ≡ None)
      ⊎ LacksMscRoom b (after past acts)
  pub others : (m n : ℕ) → m ≢ d → due_by (driving b) (after past acts) m n ≡ due_by (driving b) past m n
  pub full : LacksMscRoom b past → LacksMscRoom b (after past acts)

-- The connection is held or freed where its backlog calls for it. Where the control queue is empty afterwards, the
-- backlog called for nothing. Where the connection was neither held nor freed, the backlog called for nothing, or no
-- MSC had a place.
pub record ChecksOne (d : ℕ) (old new : Machine) (moved : Bool) : Type 0 where
  pub acts : List Act
  pub goes : MachineGoes old new acts
  pub none_told : outcomes_told acts ≡ []
  pub none_heard : lines_heard acts ≡ []
  pub none_got : gots acts ≡ []
  pub moved_is : moved ≡ list_any is_more acts
  pub may : (b : Beginning) (l : LineView) (e : DriverView) (past : List Act)
      → FitsWith b (seen_by l (end_of e) old) (MachineFits b l e old) past
      → list_all (may_act old.unannounced) acts ≡ true
  pub settles : (b : Beginning) (l : LineView) (e : DriverView) (past : List Act)
      → FitsWith b (seen_by l (end_of e) old) (MachineFits b l e old) past → new.core.station.queue ≡ []
      → (acts ≡ []) × ((new ≡ old) × (due_by (driving b) past d (backlog_in d old.unannounced) ≡ None))
  pub looks : moved ≡ false
      → (acts ≡ []) × ((b : Beginning) (l : LineView) (e : DriverView) (past : List Act)
      → FitsWith b (seen_by l (end_of e) old) (MachineFits b l e old) past
      → (due_by (driving b) past d (backlog_in d old.unannounced) ≡ None) ⊎ LacksMscRoom b past)
  pub are_checks : list_all is_check acts ≡ true
  pub flows : (b : Beginning) (l : LineView) (e : DriverView) (past : List Act)
      → FitsWith b (seen_by l (end_of e) old) (MachineFits b l e old) past
      → SettlesOne b past acts d old.unannounced
  pub stays : new ≡ record old { core = new.core }
