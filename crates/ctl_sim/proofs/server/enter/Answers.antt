use Rattle.std.proofs.Common.{refl}
use Rattle.ctl_sim.proofs.Stepping.{entered_mux, none_kept}
use Rattle.ctl_sim.proofs.server.enter.Goals as goal

pub returns : goal.returns
returns c = entered_mux c.args.setup.now c.args.modem c.args.n1.octets c.in_ok-begun.field-0 _ c.new.result.items c.in_ok-copied.ensures c.new.ensures.items (c.in_ok-begun.ensures.fits refl)

pub invariant_of-result : goal.invariant_of-result
invariant_of-result c = none_kept c.args.n1.octets c.new.result.items c.new.ensures.items
