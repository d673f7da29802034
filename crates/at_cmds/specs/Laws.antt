-- Laws of the commands' texts.
use Rattle.std.specs.Prelude.{◌≡◌, ℕ, List, Option, Some, Result, Ok, MatchResult}
use Rattle.at_cmds.specs.declared.command.Command.{Command}
use Rattle.at_cmds.specs.declared.error.CmdError.{CmdError}
use Rattle.at_cmds.specs.declared.error.CmdError.TheVariants.{NoMemory}
use Rattle.at_cmds.specs.Commands.{text_of, name_end, Writes, IsTextOf, Reads, IsEqualBehind}

-- what was written is read as what it was written from
abbrev pub WrittenIsRead : Command → List ℕ → Result (Option Command) CmdError → Type 0
WrittenIsRead c line read =
    Writes c (Ok line) → Reads (IsTextOf line) read
    → MatchResult read (λ found. found ≡ Some c) (λ why. why ≡ NoMemory)

-- what was read is written as it was, but for the case of the letters of AT and of the name
abbrev pub ReadIsWritten : Command → List ℕ → Result (List ℕ) CmdError → Type 0
ReadIsWritten c text line =
    Reads (IsTextOf text) (Ok (Some c)) → Writes c line
    → MatchResult line (λ written. IsEqualBehind (name_end (text_of c)) text written)
    (λ why. why ≡ NoMemory)

-- a text is that of one command at most
abbrev pub IsOfOne : List ℕ → Command → Command → Type 0
IsOfOne text c d = IsTextOf text c → IsTextOf text d → c ≡ d
