use Rattle.std.proofs.Common.{◌∙◌, ap}
use Rattle.std.proofs.Math.Seq.{map-set_same}
use Rattle.modem_desk.specs.Ends.{place_of}
use Rattle.test_player.proofs.desks.submit_at.Goals as goal

pub returns : goal.returns
returns g c = map-set_same place_of c.args.callers.now.items c.args.place c.submit_to_full.new.caller c.index_mut-caller.result.now (c.submit_to_full.ensures ∙ ap place_of c.index_mut-caller.ensures.value)
