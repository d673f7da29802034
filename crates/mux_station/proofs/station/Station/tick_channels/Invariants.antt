-- The turns so far and those to come are all turns.
use Rattle.std.specs.Prelude.{◌≡◌, ◌≤◌, ◌-◌, ◌++◌, length, map}
use Rattle.mux_station.specs.Ticking.{ticked_all, given_up_in}
use Rattle.mux_station.specs.Noticing.{up_of}
use Rattle.mux_station.proofs.station.Station.tick_channels.Given as goal

abbrev pub invariant-loop-number : goal.invariant-loop-number
invariant-loop-number l =
    (ticked_all l.self l.number (62 - l.number) ≡ ticked_all l.fn.self 0 62)
    × (map up_of l.noticed.items ++ given_up_in l.self l.number (62 - l.number) ≡ given_up_in l.fn.self 0 62)
    × (length l.noticed.items ≤ l.number)
