-- A machine, by its parts.
use Rattle.line_end.specs.LineEnds.{LineEnd}
use Rattle.modem_driver.specs.declared.machine.Machine.TheInside.{Inside}
use Rattle.modem_driver.specs.SessionStates.{Machine}

-- a machine at this end of the line
abbrev pub at_end : Machine → LineEnd → Machine
at_end k l = record k { unfed = l.unfed; deframer = l.deframer; unwritten = l.unwritten; faulty = l.failed }

-- what contracts see of it
abbrev pub machine_of : Inside → Machine
machine_of k = record {
  core = k.core;
  unfed = k.line_end.unfed;
  deframer = k.line_end.deframer;
  unwritten = k.line_end.unwritten;
  unplaced = k.waiting.outcomes;
  unannounced = k.waiting.lines;
  faulty = k.line_end.failed;
  course = k.course;
  delays = k.delays;
}
