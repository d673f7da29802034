-- What is noted of a frame is what happens.
use Rattle.mux_station.proofs.law_proofs.NotedEvents.{noted_truly}
use Rattle.mux_station.proofs.laws.notings.Goals as goal

pub returns : goal.returns
returns c = noted_truly
