-- Which fault a bench reports for each error of its parts, and for each answer that it doesn't go on from.
use Rattle.std.specs.Prelude.{Result, Ok, Err}
use Rattle.mux_frame.specs.declared.dlci.Dlci.{Dlci}
use Rattle.modem_desk.specs.declared.request.Answer.{Answer}
use Rattle.modem_desk.specs.declared.request.Answer.TheVariants as answer
use Rattle.modem_driver.specs.declared.session.error.SessionFault.{SessionFault}
use Rattle.modem_sim.specs.declared.error.SimError.{SimError}
use Rattle.modem_sim.specs.declared.sim.SimTurn.{SimTurn}
use Rattle.modem_sim.specs.declared.sim.SimTurn.TheVariants as turn
use Rattle.modem_bench.specs.declared.cause.Cause.{Cause}
use Rattle.modem_bench.specs.declared.driving.Halt.{Halt}
use Rattle.modem_bench.specs.declared.signals.Fault.{Fault}

-- the fault for a session that fails: once its line has failed it only says so again
abbrev pub session_fault : SessionFault → Fault
session_fault SessionFault.NoMemory = Fault.NoMemory
session_fault SessionFault.Line = Fault.Line
session_fault SessionFault.Failed = Fault.Line

-- the fault for which a session's thread ends its bench
abbrev pub halt_fault : Halt → Fault
halt_fault (Halt.Told reason) = reason.fault
halt_fault (Halt.Failed fault) = fault
halt_fault (Halt.Limited cause) = Fault.GaveUp cause

-- the fault for a simulated modem that fails; no turn of one refuses its N1
abbrev pub sim_fault : SimError → Fault
sim_fault SimError.NoMemory = Fault.NoMemory
sim_fault SimError.Line = Fault.Line
sim_fault SimError.Failed = Fault.Line
sim_fault SimError.BadN1 = Fault.GaveUp Cause.NoEnd

-- what a simulated modem's thread comes to by the end that its modem gave: no poll gives Moved or Idle
abbrev pub sim_end : Result SimTurn SimError → Result (Unit {0}) Fault
sim_end (Ok turn.Ended) = Ok tt
sim_end (Ok turn.Moved) = Err (Fault.GaveUp Cause.NoEnd)
sim_end (Ok turn.Idle) = Err (Fault.GaveUp Cause.NoEnd)
sim_end (Err why) = Err (sim_fault why)

-- what an opening of this connection comes to by what it was told
abbrev pub opening_end : Dlci → Answer → Result (Unit {0}) Cause
opening_end d answer.Opened = Ok tt
opening_end d _ = Err (Cause.NotOpened d)

-- what a stop comes to by what it was told
abbrev pub stop_end : Answer → Result (Unit {0}) Cause
stop_end answer.Stopped = Ok tt
stop_end answer.NoAnswer = Ok tt
stop_end _ = Err Cause.NotStopped
