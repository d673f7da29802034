-- Reading and writing undo each other.
use Rattle.std.specs.Prelude.{◌≡◌, ℕ, List, Option, Some, None, Result, Ok, Err, MatchOption, MatchResult, refl}
use Rattle.std.proofs.Common.{sym, ap, subst}
use Rattle.at_cmds.specs.declared.command.Command.{Command}
use Rattle.at_cmds.specs.declared.error.CmdError.{CmdError}
use Rattle.at_cmds.specs.declared.error.CmdError.TheVariants.{NoMemory}
use Rattle.at_cmds.specs.Commands.{text_of, name_end, refused_for, Writes, IsTextOf, IsEqualBehind}
use Rattle.at_cmds.specs.Laws.{WrittenIsRead, ReadIsWritten, IsOfOne}
use Rattle.at_cmds.proofs.command_texts.ReadCommands.{read_only}

-- a command's own text is its text
own_text : (c : Command) → refused_for c ≡ None → IsTextOf (text_of c) c
own_text c may = record { written = may; equal = record { letters = refl; rest = refl } }

written-at : (why : Option CmdError) (c : Command) (line : List ℕ) → refused_for c ≡ why → MatchOption why (line ≡ text_of c) (λ e. let r : Result (List ℕ) CmdError = Ok line in r ≡ Err e) → (refused_for c ≡ None) × (line ≡ text_of c)
written-at None c line is writes = (is, writes)
written-at (Some e) c line is writes = cc

written : (c : Command) (line : List ℕ) → Writes c (Ok line) → (refused_for c ≡ None) × (line ≡ text_of c)
written c line writes = written-at (refused_for c) c line refl writes

-- what a command was written as is read as this command, unless memory is refused
pub written_is_read : (c : Command) (line : List ℕ) (read : Result (Option Command) CmdError) → WrittenIsRead c line read
written_is_read c line (Ok None) writes reads =
    let is = written c line writes in
    let Is : List ℕ → Type 0 = λ text. IsTextOf text c in
    absurd (reads c (subst Is (sym is.1) (own_text c is.0)))
written_is_read c line (Ok (Some d)) writes reads =
    let is = written c line writes in
    let Is : List ℕ → Type 0 = λ text. IsTextOf text c in
    ap Some (sym (reads.only c (subst Is (sym is.1) (own_text c is.0))))
written_is_read c line (Err why) writes reads = reads.0

writes_at : (why : Option CmdError) (c : Command) (line : Result (List ℕ) CmdError) → why ≡ None → MatchOption why (MatchResult line (λ text. text ≡ text_of c) (λ e. e ≡ NoMemory)) (λ e. line ≡ Err e) → MatchResult line (λ text. text ≡ text_of c) (λ e. e ≡ NoMemory)
writes_at None c line is writes = writes
writes_at (Some e) c line is writes = cc

read_back : (c : Command) (text : List ℕ) (line : Result (List ℕ) CmdError) → IsTextOf text c → MatchResult line (λ written. written ≡ text_of c) (λ e. e ≡ NoMemory) → MatchResult line (λ written. IsEqualBehind (name_end (text_of c)) text written) (λ e. e ≡ NoMemory)
read_back c text (Ok line) is writes = subst (IsEqualBehind (name_end (text_of c)) text) (sym writes) is.equal
read_back c text (Err e) is writes = writes

-- a command that was read is written as the text, but for the case of the letters of AT and of its name
pub read_is_written : (c : Command) (text : List ℕ) (line : Result (List ℕ) CmdError) → ReadIsWritten c text line
read_is_written c text line reads writes = read_back c text line reads.is (writes_at (refused_for c) c line reads.is.written writes)

-- a text is that of one command at most
pub of_one : (text : List ℕ) (c d : Command) → IsOfOne text c d
of_one text c d first second =
    let one = read_only text c first in
    let other = read_only text d second in
    cc
