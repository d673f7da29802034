-- What was given up at a tick, as the program says it.
use Rattle.mux_station.specs.declared.tick.GivenUp.{GivenUp}
use Rattle.mux_station.specs.declared.tick.GivenUp.TheVariants.{Channel, Probe}
use Rattle.mux_station.specs.Ticking.{Up, UpChannel, UpProbe}

-- what the code says was given up, as the definitions name it
abbrev pub up_of : GivenUp → Up
up_of (Channel d) = UpChannel d.number
up_of Probe = UpProbe
