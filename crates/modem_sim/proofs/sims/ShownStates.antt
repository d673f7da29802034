-- How a connection stands to a caller is how it stands after the past.
use Rattle.std.specs.Prelude.{◌≡◌, ℕ, List}
use Rattle.std.proofs.Common.{ap, ◌∙◌}
use Rattle.mux_station.specs.declared.role.ChannelState.{ChannelState}
use Rattle.mux_station.specs.Acts as station
use Rattle.mux_station.specs.Fitting as fitting
use Rattle.mux_station.specs.Stages.{as_shown}
use Rattle.mux_station.specs.Sending as sending
use Rattle.mux_station.specs.States.{state_of}
use Rattle.serial_line.specs.LineViews.{LineView}
use Rattle.modem_sim.specs.Acts.{Act, End, wire}
use Rattle.modem_sim.specs.Sims.{FitsSim, SimState, state_shown}

-- the state of a connection that the station shows is the one after the past
pub shown_is : {X : Type 0} (look : X → LineView) (s : SimState X) (d : ℕ) (shown : ChannelState) (at : LineView) (e : End) (past : List Act) → ((past : List station.Act) → fitting.StationFits s.machine.core.station past → shown ≡ as_shown (state_of s.machine.core.station.role d past)) → FitsSim look at e s past → shown ≡ state_shown d past
shown_is look s d shown at e past says fits =
    let core = fits.machine_fits.core_fits in
    says (wire past) core.station_is ∙ ap (λ (x : sending.StationSetting). as_shown (state_of x.role d (wire past))) core.setting_is
