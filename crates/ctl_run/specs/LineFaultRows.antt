-- Worked lines, each with the first part that isn't as it must be.
use Rattle.std.specs.Prelude.{codes}
use Rattle.ctl_text.specs.declared.expected.Expected.{Expected}
use Rattle.ctl_run.specs.LineFaults.{DumpFault, EventFault, StepFault, SubmissionFault}

-- lines of a replay's script
pub record AreEventFaults : Type 0 where
  pub other_word : EventFault (codes "foo") Expected.Event
  pub upper_case : EventFault (codes "OPEN 0") Expected.Event
  pub blank_first : EventFault (codes " open 0") Expected.Event
  pub word_alone : EventFault (codes "open") Expected.Connection
  pub too_great : EventFault (codes "close 62") Expected.Connection
  pub blank_twice : EventFault (codes "cmd  1 AT") Expected.Connection
  pub no_line : EventFault (codes "cmd 1") Expected.Command
  pub no_prefix : EventFault (codes "cmd 1 XT") Expected.Command
  pub half_an_octet : EventFault (codes "in f9037") Expected.Octets
  pub blank_between : EventFault (codes "in f9 03") Expected.Octets
  pub no_octets : EventFault (codes "probe ") Expected.Octets
  pub seventeen : EventFault (codes "probe 000102030405060708090a0b0c0d0e0f10") Expected.Probe
  pub blank_behind : EventFault (codes "open 0 ") Expected.End
  pub word_behind : EventFault (codes "tick 1") Expected.End

-- lines of a modem's script
pub record AreStepFaults : Type 0 where
  pub blank_first : StepFault (codes " 1 stop 1") Expected.Count
  pub number_alone : StepFault (codes "1") Expected.Deed
  pub upper_case : StepFault (codes "1 STOP 1") Expected.Deed
  pub one_of_two : StepFault (codes "1 hold 1") Expected.Connection
  pub no_text : StepFault (codes "1 announce 1") Expected.Text
  pub word_behind : StepFault (codes "1 closedown 1") Expected.End

-- lines of the input of a bench with two callers
pub record AreSubmissionFaults : Type 0 where
  pub too_great : SubmissionFault 2 (codes "2 1 AT") Expected.Caller
  pub control : SubmissionFault 2 (codes "0 0 AT") Expected.Carrier
  pub no_line : SubmissionFault 2 (codes "0 1") Expected.Command

-- lines of octets
pub record AreDumpFaults : Type 0 where
  pub half_an_octet : DumpFault (codes "F9 0") Expected.Pairs
  pub pair_parted : DumpFault (codes "F 90") Expected.Pairs
