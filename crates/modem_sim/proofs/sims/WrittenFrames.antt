-- A frame that goes out has information only where it may.
use Rattle.std.proofs.Common.{ap, sym, ◌∙◌}
use Rattle.std.specs.Prelude.{◌≡◌, true, List, Some}
use Rattle.std.specs.List.{list_all}
use Rattle.mux_frame.specs.Frames.{Frame}
use Rattle.mux_station.specs.Giving.{next_given}
use Rattle.mux_station.proofs.law_proofs.ControlFrames.{is_plain}
use Rattle.mux_station.proofs.law_proofs.PlainFrames.{first_plain, queued}
use Rattle.modem_sim.specs.Acts as sim
use Rattle.modem_sim.specs.Cores.{Core, Fits, Wired}

-- what goes out next has information only in a UIH
pub goes_out_plain : (e : sim.End) (w : Wired) (c : Core) (past : List sim.Act) (f : Frame) → Fits e w c past → next_given c.station c.station.queue ≡ Some f → is_plain f ≡ true
goes_out_plain e w c past f fits next =
    first_plain c.station c.station.queue f
    (ap (list_all is_plain) (sym fits.station_is.queue_is) ∙ queued (sim.setting e) (sim.wire past) fits.lawful) next
