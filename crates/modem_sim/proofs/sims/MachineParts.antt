-- A machine, by its parts.
use Rattle.std.specs.Prelude.{Option, Result}
use Rattle.line_end.specs.LineEnds.{LineEnd}
use Rattle.modem_sim.specs.declared.error.SimError.{SimError}
use Rattle.modem_sim.specs.declared.sim.SimTurn.{SimTurn}
use Rattle.modem_sim.specs.Cores.{Core}
use Rattle.modem_sim.specs.Sims.{SimMachine}

-- an end at its line's end
abbrev pub machine_of : Core → LineEnd → Option (Result SimTurn SimError) → SimMachine
machine_of core line_end end = record {
  core = core;
  unfed = line_end.unfed;
  deframer = line_end.deframer;
  out = line_end.unwritten;
  failed = line_end.failed;
  end = end;
}
