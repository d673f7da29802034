-- Why a drive ends with a fault, and what is said of it.
use Rattle.std.specs.Prelude.{ℕ, List, Option, None, Some, codes}
use Rattle.modem_driver.specs.declared.entering.EntryError.{EntryError}
use Rattle.modem_driver.specs.declared.entering.EntryError.TheVariants as error
use Rattle.file_threads.specs.declared.fault.FileFault.{FileFault}
use Rattle.file_threads.specs.declared.fault.FileFault.TheVariants as file
use Rattle.ctl_drive.specs.declared.fault.DriveFault.{DriveFault}
use Rattle.ctl_drive.specs.declared.fault.DriveFault.TheVariants.{NotSetUp, Refused, NoAnswer}
use Rattle.ctl_drive.specs.declared.fault.DriveFault.TheVariants as fault
use Rattle.ctl_drive.specs.declared.fault.GiveUp.{GiveUp}
use Rattle.ctl_drive.specs.declared.fault.GiveUp.TheVariants as cause

-- the multiplexer isn't entered, for this reason
abbrev pub entry_fault : EntryError → DriveFault
entry_fault error.Refused = Refused
entry_fault error.NoAnswer = NoAnswer
entry_fault error.Line = NotSetUp

-- a file, a device or its threads can't be had, for this reason
abbrev pub file_fault : FileFault → DriveFault
file_fault file.NoMemory = fault.NoMemory
file_fault file.NoThread = fault.NoThread
file_fault (file.NoDevice kind) = fault.NoDevice kind
file_fault file.NotSetUp = fault.NotSetUp

-- what is said of a drive that gave up
abbrev pub give_up_words : GiveUp → List ℕ
give_up_words cause.Lines = codes "fault: gave up: more than 2^64 - 1 lines came"
give_up_words cause.Outcome = codes "fault: gave up: an outcome came of a line that isn't under way"
give_up_words cause.Desk = codes "fault: gave up: the desk wasn't empty after 100,000 passes"
give_up_words cause.Full = codes "fault: gave up: the desk took no more requests"
give_up_words cause.Unasked = codes "fault: gave up: the session stopped, though nobody asked it to"

-- what is said of a fault, but for the path and the cause of what can't be opened or made
abbrev pub fault_words : DriveFault → List ℕ
fault_words fault.NoMemory = codes "fault: no memory"
fault_words fault.NoThread = codes "fault: no thread: the system starts no more of them, or has no memory for one"
fault_words fault.Input = codes "fault: input"
fault_words fault.Output = codes "fault: output"
fault_words (fault.NoDevice why) = codes "fault: the device can't be opened"
fault_words fault.NotSetUp =
    codes "fault: not a terminal that is set up, or one that ended before the modem answered; to set one up: stty -F DEVICE raw -echo min 0 time 1 -crtscts clocal -hupcl"
fault_words fault.Refused =
    codes "fault: refused: the modem didn't answer OK to the text that enters the multiplexer (--entry gives another)"
fault_words fault.NoAnswer =
    codes "fault: no answer to the text that enters the multiplexer, in three tries: is it the modem's port for AT commands, and its speed right?"
fault_words fault.NotOpened =
    codes "fault: connection 0 isn't open: the modem entered the multiplexer, and refused it or didn't answer"
fault_words fault.Closed = codes "fault: the modem ended the multiplexer: commands without an answer were told so"
fault_words fault.HungUp = codes "fault: hung up: the line was lost, and commands without an answer were told so"
fault_words fault.Silent =
    codes "fault: the modem stopped answering: a command had no answer for as long as --quiet-for says, and the closing of its connection had none"
fault_words (fault.NoCapture why) = codes "fault: the capture can't be made"
fault_words fault.Capture = codes "fault: capture"
fault_words fault.Data = codes "fault: at most 8 connections carry data, each named once, and not 0"
fault_words fault.Unwritten = codes "fault: what came on a connection that carries data wasn't all written to its file"
fault_words (fault.GaveUp why) = give_up_words why

-- the whole text of a fault, where the system has no part in it
abbrev pub fault_text : DriveFault → Option (List ℕ)
fault_text (fault.NoDevice why) = None
fault_text (fault.NoCapture why) = None
fault_text fault.NoMemory = Some (fault_words fault.NoMemory)
fault_text fault.NoThread = Some (fault_words fault.NoThread)
fault_text fault.Input = Some (fault_words fault.Input)
fault_text fault.Output = Some (fault_words fault.Output)
fault_text fault.NotSetUp = Some (fault_words fault.NotSetUp)
fault_text fault.Refused = Some (fault_words fault.Refused)
fault_text fault.NoAnswer = Some (fault_words fault.NoAnswer)
fault_text fault.NotOpened = Some (fault_words fault.NotOpened)
fault_text fault.Closed = Some (fault_words fault.Closed)
fault_text fault.HungUp = Some (fault_words fault.HungUp)
fault_text fault.Silent = Some (fault_words fault.Silent)
fault_text fault.Capture = Some (fault_words fault.Capture)
fault_text fault.Data = Some (fault_words fault.Data)
fault_text fault.Unwritten = Some (fault_words fault.Unwritten)
fault_text (fault.GaveUp why) = Some (give_up_words why)

-- how the line begins that names the path of a file too, up to the path, where the fault concerns one
abbrev pub fault_head : DriveFault → Option (List ℕ)
fault_head (fault.NoDevice why) = Some (codes "fault: the device ")
fault_head fault.NotSetUp = Some (codes "fault: ")
fault_head (fault.NoCapture why) = Some (codes "fault: the capture ")
fault_head fault.NoMemory = None
fault_head fault.NoThread = None
fault_head fault.Input = None
fault_head fault.Output = None
fault_head fault.Refused = None
fault_head fault.NoAnswer = None
fault_head fault.NotOpened = None
fault_head fault.Closed = None
fault_head fault.HungUp = None
fault_head fault.Silent = None
fault_head fault.Capture = None
fault_head fault.Data = None
fault_head fault.Unwritten = None
fault_head (fault.GaveUp why) = None
