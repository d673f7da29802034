-- A session whose line is lost, and what isn't a poll of it.
use Rattle.std.specs.Prelude.{[], ◌∷◌, Bool, true, Ok, Err}
use Rattle.serial_line.specs.LineViews.{unused_line}
use Rattle.modem_desk.specs.Ends.{DeskId, DriverView}
use Rattle.modem_history.specs.Acts.{Lost}
use Rattle.modem_history.specs.Sessions.{LineView}
use Rattle.modem_driver.specs.declared.session.ending.Ended.TheVariants.{Stopped}
use Rattle.modem_driver.specs.declared.session.error.SessionFault.TheVariants as fault
use Rattle.modem_driver.specs.SessionStates.{SessionState, FitsAll, beginning_of, new_machine}
use Rattle.modem_driver.specs.Polls.{Gives, RunsTurns}

-- a desk with this queue, without callers and listeners
abbrev pub bare_desk : DeskId → DriverView
bare_desk at = record {
  desk = record at { rings = []; kinds = []; line_rings = [] };
  taken = [];
  told = [];
  announced = [];
  free = [];
  free_lines = [];
  found_none = 0;
  told_back = [];
  announced_back = [];
}

-- nothing came and went, and the first call of the line failed
abbrev pub lost_session : DeskId → SessionState LineView
lost_session at = record {
  line = record unused_line { calls = 1; failures = 1 };
  driver = bare_desk at;
  machine = record (new_machine 31 []) { core = record (new_machine 31 []).core { lost = true }; faulty = true };
}

-- it is a session: its history is the loss
unfoldable pub IsLostSession : Type 0
IsLostSession =
    (at : DeskId) → FitsAll (beginning_of 31 unused_line (bare_desk at)) (λ (l : LineView). l)
    (lost_session at) (Lost ∷ [])

-- Neither doing nothing nor keeping its loss back is a poll of it, and it gives neither Stopped nor Line.
unfoldable pub AreNoPolls : Type 0
AreNoPolls =
    (at : DeskId)
    → ((more : Bool) → ¬ RunsTurns (λ (l : LineView). l) (lost_session at) (lost_session at) (Ok more))
    × (((new : SessionState LineView) (more : Bool) → ¬ RunsTurns (λ (l : LineView). l) (lost_session at) new (Ok more))
    × ((¬ Gives (λ (l : LineView). l) (lost_session at) (Ok Stopped))
    × (¬ Gives (λ (l : LineView). l) (lost_session at) (Err fault.Line))))
