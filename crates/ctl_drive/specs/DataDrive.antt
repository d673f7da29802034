-- A drive on a line some of whose connections carry the data of files.
use Rattle.std.specs.Prelude.{ℕ, Bool, List, Option}
use Rattle.at_text.specs.Rules.{Rules}
use Rattle.modem_desk.specs.declared.settling.Settled.{Settled}
use Rattle.modem_history.specs.Sessions.{LineView}
use Rattle.modem_data.specs.Hops.{Relay}
use Rattle.data_files.specs.Files.{BeginsFiled, FileState, FiledState, HasMoved, filed_view}
use Rattle.ctl_drive.specs.Running.{DroveFrom, HasEntered}
use Rattle.ctl_drive.specs.declared.fault.DriveFault.{DriveFault}

-- The multiplexer was entered by this text. Then the lane of each file began, and nothing else, and the line was driven so with
-- them. In the end all that a file gave was given to its connection's lane, in order, but for what waits, and what was read of the
-- lane went to the file, in order, but for what waits.
pub record DroveData {X Y : Type 0} (look : X → LineView) (file_look : Y → LineView) (rules : Rules)
    (text : List ℕ) (n1 period : ℕ) (line : X) (files : List (FileState Y)) (last : FiledState X Y)
    (input before after silent said : Option (List ℕ)) (end : Option DriveFault) (was_bad : Bool) (left : Settled) : Type 0 where
  pub now : X
  pub entered : HasEntered n1 text (look line) (look now)
  pub relay : Relay
  pub first : FiledState X Y
  pub begins : BeginsFiled look now relay n1 files first
  pub from : DroveFrom filed_view rules n1 period first last input before after silent said end was_bad left
  pub moved : HasMoved look file_look last
