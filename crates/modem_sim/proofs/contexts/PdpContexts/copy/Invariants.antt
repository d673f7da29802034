use Rattle.std.proofs.Common.{◌≡◌, take}
use Rattle.modem_sim.proofs.contexts.PdpContexts.copy.Given as goal

-- the contexts so far are copied
abbrev pub invariant-loop-context : goal.invariant-loop-context
invariant-loop-context l = l.contexts.items ≡ take l.context-index l.context-items
