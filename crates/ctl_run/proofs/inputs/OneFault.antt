-- Only one part of a line is the first that isn't as it must be.
use Rattle.std.specs.Prelude.{◌≡◌, ℕ, List, Option, Some, None}
use Rattle.std.proofs.Common.{sym, ◌∙◌}
use Rattle.ctl_text.specs.LineFaults.{IsConnection, behind_word, first_word}
use Rattle.ctl_text.specs.declared.expected.Expected.{Expected}
use Rattle.ctl_text.proofs.OneFault.{HasOne, one_command, one_connection, one_last, one_wanted}
use Rattle.ctl_run.specs.LineFaults.{DumpFault, EventFault, Follows, HasOctets, HasPairs, HasProbe, IsCaller, IsCount, StepFault, SubmissionFault, WordFault, deeds, events, follows}

one_behind : (f : Follows) (unknown : Expected) (line : List ℕ) → HasOne (WordFault unknown (Some f) line)
one_behind Follows.Connection unknown line = one_connection (behind_word line)
one_behind Follows.Connections unknown line = one_wanted (IsConnection (first_word (behind_word line))) Expected.Connection _ (one_connection (behind_word (behind_word line)))
one_behind Follows.Command unknown line = one_wanted (IsConnection (first_word (behind_word line))) Expected.Connection _ (one_last _ Expected.Command)
one_behind Follows.Announcement unknown line = one_wanted (IsConnection (first_word (behind_word line))) Expected.Connection _ (one_last _ Expected.Text)
one_behind Follows.Octets unknown line = one_last (HasOctets (behind_word line)) Expected.Octets
one_behind Follows.Probe unknown line = one_wanted (HasOctets (behind_word line)) Expected.Octets _ (one_last (HasProbe (behind_word line)) Expected.Probe)
one_behind Follows.Nothing unknown line = one_last (first_word line ≡ line) Expected.End

one_word : (o : Option Follows) (unknown : Expected) (line : List ℕ) → HasOne (WordFault unknown o line)
one_word None unknown line a b x y = x ∙ sym y
one_word (Some f) unknown line a b x y = one_behind f unknown line a b x y

-- an event's line has one fault
pub one_event : (line : List ℕ) (a b : Expected) → EventFault line a → EventFault line b → a ≡ b
one_event line = one_word (follows events (first_word line)) Expected.Event line

one_deed : (words : List ℕ) → HasOne (WordFault Expected.Deed (follows deeds (first_word words)) words)
one_deed words = one_word (follows deeds (first_word words)) Expected.Deed words

-- so has a step's line
pub one_step : (line : List ℕ) (a b : Expected) → StepFault line a → StepFault line b → a ≡ b
one_step line = one_wanted (IsCount (first_word line)) Expected.Count _ (one_deed (behind_word line))

-- and a submission's
pub one_submission : (callers : ℕ) (line : List ℕ) (a b : Expected) → SubmissionFault callers line a → SubmissionFault callers line b → a ≡ b
one_submission callers line = one_wanted (IsCaller callers (first_word line)) Expected.Caller _ (one_command (behind_word line))

-- and a line of octets
pub one_dump : (line : List ℕ) (a b : Expected) → DumpFault line a → DumpFault line b → a ≡ b
one_dump line = one_last (HasPairs line) Expected.Pairs
