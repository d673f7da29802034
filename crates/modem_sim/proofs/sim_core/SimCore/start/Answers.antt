use Rattle.std.proofs.Common.{refl}
use Rattle.modem_sim.specs.Acts.{end_of}
use Rattle.modem_sim.proofs.ends.EndAfterFrame.{fits_nothing}
use Rattle.modem_sim.proofs.sim_core.SimCore.start.Goals as goal

pub returns : goal.returns
returns c =
    fits_nothing (end_of c.args.parts.station.n1 c.args.modem c.args.script) _ c.requires.station c.requires.past refl refl refl c.into_vec.ensures refl
