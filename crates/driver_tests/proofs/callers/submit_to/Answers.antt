use Rattle.std.proofs.Common.{◌∙◌, ap}
use Rattle.std.proofs.Math.Seq.{map-set_same}
use Rattle.modem_desk.specs.Ends.{place_of}
use Rattle.driver_tests.proofs.callers.submit_to.Goals as goal

pub returns : goal.returns
returns g c = map-set_same place_of c.args.callers.now.items c.args.place c.submit.new.self c.index_mut-caller.result.now (c.submit.ensures.place.0 ∙ ap place_of c.index_mut-caller.ensures.value)
