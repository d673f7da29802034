-- A simulated modem at its line.
use Rattle.std.specs.Prelude.{◌≡◌, ℕ, ◌==◌, ◌&&◌, Bool, true, List, [], ◌++◌, Option, None, Result, Err, length, replicate}
use Rattle.std.specs.List.{flat_map, list_all}
use Rattle.mux_frame.specs.Deframing.{Deframing, Deframes}
use Rattle.mux_frame.specs.Spelling as spelling
use Rattle.serial_line.specs.LineViews.{LineView}
use Rattle.modem_sim.specs.declared.error.SimError.{SimError}
use Rattle.modem_sim.specs.declared.error.SimError.TheVariants.{Line}
use Rattle.modem_sim.specs.declared.sim.SimTurn.{SimTurn}
use Rattle.modem_sim.specs.declared.state.ModemState.{ModemState}
use Rattle.mux_station.specs.declared.role.Role.TheVariants.{Responder}
use Rattle.mux_station.specs.declared.role.ChannelState.{ChannelState}
use Rattle.mux_station.specs.Stages.{as_shown}
use Rattle.mux_station.specs.States.{state_of}
use Rattle.mux_station.specs.Stations as stations
use Rattle.mux_station.specs.Fitting as fitting
use Rattle.modem_sim.specs.Acts.{Act, End, wire}
use Rattle.modem_sim.specs.Boxes.{Box, fresh_box}
use Rattle.modem_sim.specs.Doing.{is_closed_down}
use Rattle.modem_sim.specs.Histories.{SimLawful, SimComplete, FitsOctets, FitsModem, sent}
use Rattle.modem_sim.specs.Cores.{Core, Wired, Fits, IsLater}

-- The machine of a simulated modem, all but its line: its core, the octets that were read and that its deframer
-- hasn't taken, its deframer, the octets that the line hasn't taken, whether the line failed, and the end that a
-- poll gave, if one did.
pub record SimMachine : Type 0 where
  pub core : Core
  pub unfed : List ℕ
  pub deframer : Deframing
  pub out : List ℕ
  pub failed : Bool
  pub end : Option (Result SimTurn SimError)

-- A machine fits a past, since the beginning of which these octets came from the line and went into it:
-- the frames that came are those handed out of the octets taken, and the octets that went and those that wait
-- spell the frames that the end gave on.
pub record SimMachineFits (e : End) (came went : List ℕ) (k : SimMachine) (past : List Act) : Type 0 where
  pub wired : Wired
  pub core_fits : Fits e wired k.core past
  pub n1_is : k.deframer.n1 ≡ e.n1
  pub taken : List ℕ
  pub came_is : came ≡ taken ++ k.unfed
  pub deframes : Deframes taken wired.came k.deframer
  pub went_is : went ++ k.out ≡ flat_map spelling.spelled wired.gone

-- a machine fits what the past went on to by acts of a kind
pub record SimMachineFrom (may : Act → Bool) (e : End) (came went : List ℕ) (past : List Act) (k : SimMachine) :
    Type 0 where
  pub now : List Act
  pub later : IsLater past now
  pub only : list_all may later.newer ≡ true
  pub fits : SimMachineFits e came went k now

-- whatever past it fits, a machine goes on by acts of a kind to one that it fits, with the line as it was
abbrev pub SimMachineGoes : (Act → Bool) → SimMachine → SimMachine → Type 0
SimMachineGoes may old new =
    (e : End) (came went : List ℕ) (past : List Act) → SimMachineFits e came went old past
    → SimMachineFrom may e came went past new

-- the modem has closed down, and all is written
abbrev pub is_ended : SimMachine → Bool
is_ended k = k.core.closed && ((length k.out == 0) && (length k.core.station.queue == 0))

-- what a simulated modem keeps as it begins
pub record BeginsAt (n1 : ℕ) (v : stations.Station) (boxes : List Box) (own_n1 : ℕ) (unfed : List ℕ)
    (d : Deframing) (out : List ℕ) : Type 0 where
  pub station_is : v ≡ stations.new_station Responder n1
  pub station_fits : fitting.StationFits v []
  pub boxes_are : boxes ≡ replicate 62 fresh_box
  pub n1_is : own_n1 ≡ n1
  pub unfed_is : unfed ≡ []
  pub deframer_is : d ≡ record { n1 = n1; undecided = []; next = None }
  pub deframes : Deframes [] [] d
  pub out_is : out ≡ []

-- a line and the machine beside it
pub record SimState (X : Type 0) : Type 0 where
  pub line : X
  pub machine : SimMachine

-- the simulated modem has closed down, and all is written
abbrev pub has_ended : {X : Type 0} → SimState X → Bool
has_ended s = is_ended s.machine

-- a turn of it answered Line
abbrev pub has_failed : {X : Type 0} → SimState X → Bool
has_failed s = s.machine.failed

-- the end that a poll of it gave, if one did
abbrev pub end_given : {X : Type 0} → SimState X → Option (Result SimTurn SimError)
end_given s = s.machine.end

-- its modem, as it is
abbrev pub modem_of : {X : Type 0} → SimState X → ModemState
modem_of s = s.machine.core.modem

-- once a turn answers Line, it has failed; nothing else changes that
abbrev pub failed_by : {A : Type 0} → Bool → Result A SimError → Bool
failed_by before (Err Line) = true
failed_by before _ = before

-- A simulated modem fits a past that began when its line was seen so.
pub record FitsSim {X : Type 0} (look : X → LineView) (at : LineView) (e : End) (s : SimState X)
    (past : List Act) : Type 0 where
  pub came : List ℕ
  pub went : List ℕ
  pub received_is : (look s.line).received ≡ at.received ++ came
  pub sent_is : (look s.line).sent ≡ at.sent ++ went
  pub machine_fits : SimMachineFits e came went s.machine past

pub record SimFrom {X : Type 0} (look : X → LineView) (at : LineView) (e : End) (past : List Act)
    (s : SimState X) : Type 0 where
  pub now : List Act
  pub later : IsLater past now
  pub fits : FitsSim look at e s now

-- whatever past it fits, a simulated modem goes on to one that it fits
abbrev pub SimGoes : {X : Type 0} → (look : X → LineView) → SimState X → SimState X → Type 0
SimGoes look old new =
    (at : LineView) (e : End) (past : List Act) → FitsSim look at e old past
    → SimFrom look at e past new

-- ## What that comes to

-- Of the octets received, those before the ones that wait for the deframer are read as the frames that came. The
-- history keeps the laws, and nothing is owed. The modem is the one that was handed in, after all lines that came.
pub record Simulates (e : End) (came went : List ℕ) (k : SimMachine) (past : List Act) : Type 0 where
  pub lawful : SimLawful e past
  pub complete : SimComplete e past
  pub taken : List ℕ
  pub came_is : came ≡ taken ++ k.unfed
  pub octets : FitsOctets e.n1 taken went past
  pub modem_is : FitsModem e past k.core.modem

-- the state of a connection that a simulated modem shows, after its past
abbrev pub state_shown : ℕ → List Act → ChannelState
state_shown d past = as_shown (state_of Responder d (wire past))

-- the past has closed down, and all frames sent in it are written
pub record IsOver (went : List ℕ) (past : List Act) : Type 0 where
  pub closed : is_closed_down past ≡ true
  pub written : went ≡ flat_map spelling.spelled (sent past)
