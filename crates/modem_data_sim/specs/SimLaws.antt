-- A simulated modem on a line with its relay.
use Rattle.std.specs.Prelude.{◌≡◌, ℕ, ◌≤◌, true, false, List, ◌++◌}
use Rattle.mux_frame.specs.Frames.{Frame}
use Rattle.mux_station.specs.declared.role.Role.TheVariants.{Responder}
use Rattle.modem_sim.specs.Acts.{Act, End}
use Rattle.modem_sim.specs.Histories.{got, sent}
use Rattle.modem_sim.specs.Sims.{FitsSim, SimMachine, SimState}
use Rattle.modem_sim.specs.LineSteps.{repeats}
use Rattle.modem_sim.specs.declared.state.ModemState.{ModemState}
use Rattle.serial_line.specs.LineViews.{LineView, unused_line}
use Rattle.modem_data.specs.Switching.{is_connect}
use Rattle.modem_data.specs.Hops.{Relay, Hop}
use Rattle.modem_data_endpoint.specs.Beside.{TellsBehind}
use Rattle.modem_data_line.specs.DataLines.{Before, DataLineState, LineFits, data_view}

-- A simulated modem with this history stands behind a relay. Of the frames that it sent it gave on the first; the others wait in its
-- station. `TellsBehind` says of these, and of those that it got, what they are of the line's frames.
pub record StandsBehind (n1 : ℕ) (k : SimMachine) (r : Relay) (hops : List Hop) (past : List Act) : Type 0 where
  pub given : List Frame
  pub sent_are : sent past ≡ given ++ k.core.station.queue
  pub frames : TellsBehind Responder n1 k.unfed k.deframer k.out r hops (got past) given

-- A simulated modem that began with this line has one history (`Sim::turn`), of what it read and wrote here. The frames of this history
-- are those of the line itself but data.
unfoldable pub TellsSim : {X : Type 0} (look : X → LineView) → Type 0
TellsSim {X} look =
    (n1 : ℕ) (ds : List ℕ) (before : Before) (e : End) (s : SimState (DataLineState X)) (past : List Act) (hops : List Hop) → n1 ≤ 32767 → e.n1 ≡ n1
    → FitsSim data_view unused_line e s past
    → LineFits look Responder n1 ds before s.line hops → StandsBehind n1 s.machine s.line.relay hops past

-- No line is a CONNECT that a modem with words repeats, where it isn't to repeat all.
abbrev pub RepeatsNone : Type 0
RepeatsNone = (m : ModemState) (line : List ℕ) → repeats false m line ≡ true → is_connect line ≡ false
