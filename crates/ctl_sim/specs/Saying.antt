-- What a modem for a client says where it ends before its input does, or isn't begun.
use Rattle.std.specs.Prelude.{ℕ, List, [], ◌∷◌, ◌++◌, codes}
use Rattle.ctl_sim.specs.declared.fault.BadOption.{BadOption}
use Rattle.ctl_sim.specs.declared.fault.ServeFault.{ServeFault}

-- of a fault
abbrev pub fault_words : ServeFault → List ℕ
fault_words ServeFault.NoMemory = codes "fault: no memory"
fault_words ServeFault.Input = codes "fault: input"
fault_words ServeFault.EndlessInput = codes "fault: gave up: the input has no end"
fault_words ServeFault.Output = codes "fault: output"
fault_words ServeFault.Capture = codes "fault: capture"
fault_words ServeFault.EndlessModem = codes "fault: gave up: the simulated modem goes on without an end"

-- of an option that is bad
abbrev pub option_words : BadOption → List ℕ
option_words BadOption.N1 = codes "error: N1 is 31 to 32767"
option_words BadOption.Pin = codes "error: a PIN is 4 to 8 digits"

-- the same as lines
abbrev pub fault_line : ServeFault → List ℕ
fault_line fault = fault_words fault ++ 10 ∷ []

abbrev pub option_line : BadOption → List ℕ
option_line why = option_words why ++ 10 ∷ []
