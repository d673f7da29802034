use Rattle.std.specs.Prelude.{◌≡◌, take, map, filter}
use Rattle.modem_sim.specs.Contexts.{becomes_active}
use Rattle.modem_sim.proofs.contexts.ActiveContexts.after.Given as goal

-- the numbers so far are those of the contexts so far that are active then
abbrev pub invariant-loop-context : goal.invariant-loop-context
invariant-loop-context l = l.cids.items ≡ map (λ c. c.cid) (filter (becomes_active l.on l.which l.self) (take l.context-index l.contexts))
