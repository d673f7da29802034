-- What is said of the lines of a connection, as its octets are read.
use Rattle.std.specs.Prelude.{◌≡◌, ℕ, ◌↔◌, Bool, true, List, [], ◌∷◌, ◌++◌, Option, None, Some, if◌then◌else◌}
use Rattle.std.specs.List.{Contains}
use Rattle.at_text.specs.declared.answer.AnswerLine.{AnswerLine}
use Rattle.at_text.specs.declared.unsolicited.UrcKind.{UrcKind}
use Rattle.at_text.specs.declared.unsolicited.UrcKind.TheVariants.{Other}
use Rattle.at_text.specs.declared.window.Seen as line_is
use Rattle.at_text.specs.declared.window.Seen.TheVariants.{Echo, Kept, Unsolicited}
use Rattle.at_text.specs.Dialects.{Dialect}
use Rattle.at_text.specs.Lines.{lines, kept_run}
use Rattle.at_text.specs.OpenWindow.{OpenWindow, seen_by, after_line}
use Rattle.at_text.specs.Rules.{dialect_of}
use Rattle.modem_desk.specs.declared.request.Answer.TheVariants.{Done}
use Rattle.modem_queues.specs.declared.asker.Asker.{Asker}
use Rattle.modem_core.specs.declared.reports.Reading as code
use Rattle.modem_history.specs.Acts.{Act, Told, Heard}

-- how the lines of connection dlci are read: by this dialect, with these kinds listened to, and who asked for the command under way
pub record ReadingView : Type 0 where
  pub dialect : Dialect
  pub kinds : List UrcKind
  pub dlci : ℕ
  pub owner : Option Asker

abbrev pub reading_of : (owner : Option Asker) → code.Reading → ReadingView
reading_of owner r = record {
  dialect = dialect_of r.dialect.now;
  kinds = r.kinds.now;
  dlci = r.dlci.number;
  owner = owner;
}

-- these kinds are listened to
unfoldable pub Listens : (UrcKind → Bool) → List UrcKind → Type 0
Listens listens kinds = (kind : UrcKind) → (listens kind ≡ true) ↔ Contains kinds kind

-- the answer of the command under way, told to its request, if there is one
abbrev pub done_by : Option Asker → List AnswerLine → List Act
done_by None ls = []
done_by (Some o) ls = Told (record { caller = o.caller; number = o.number; answer = Done ls }) ∷ []

-- a line is heard where its kind is listened to
abbrev pub heard_by : (UrcKind → Bool) → ℕ → UrcKind → List ℕ → List Act
heard_by listens d kind line = if listens kind then Heard kind d line ∷ [] else []

-- what is said of a line, by what it was seen as
abbrev pub said_as : (UrcKind → Bool) → ℕ → Option Asker → List ℕ → line_is.Seen → List Act
said_as listens d owner line Echo = []
said_as listens d owner line Kept = []
said_as listens d owner line (line_is.TheVariants.Done ls) = done_by owner ls
said_as listens d owner line (Unsolicited kind) = heard_by listens d kind line
said_as listens d owner line line_is.TheVariants.Other = heard_by listens d Other line

-- what is said of lines, one after the other
abbrev pub said_lines : Dialect → (UrcKind → Bool) → ℕ → Option Asker → Option OpenWindow → List (List ℕ) → List Act
said_lines dialect listens d owner w [] = []
said_lines dialect listens d owner w (l ∷ ls) =
    said_as listens d owner l (seen_by dialect w l) ++ said_lines dialect listens d owner (after_line dialect w l) ls

-- what is read so far: what is kept of the unfinished line, the window, and what was said
pub record Read : Type 0 where
  pub kept : List ℕ
  pub window : Option OpenWindow
  pub acts : List Act

-- the window after lines
abbrev pub after_all : Dialect → Option OpenWindow → List (List ℕ) → Option OpenWindow
after_all dialect w [] = w
after_all dialect w (l ∷ ls) = after_all dialect (after_line dialect w l) ls

-- after some octets more, read at once
abbrev pub read_on : Dialect → (UrcKind → Bool) → ℕ → Option Asker → Read → List ℕ → Read
read_on dialect listens d owner v octets = record {
  kept = kept_run (v.kept ++ octets);
  window = after_all dialect v.window (lines (v.kept ++ octets));
  acts = v.acts ++ said_lines dialect listens d owner v.window (lines (v.kept ++ octets));
}

-- after some octets more, read one by one
abbrev pub read_each : Dialect → (UrcKind → Bool) → ℕ → Option Asker → Read → List ℕ → Read
read_each dialect listens d owner v [] = v
read_each dialect listens d owner v (c ∷ octets) =
    read_each dialect listens d owner (read_on dialect listens d owner v (c ∷ [])) octets

-- octets are read one after the other, whatever is listened to
unfoldable pub ReadsAll : ReadingView → List ℕ → Read → Read → Type 0
ReadsAll r octets old new =
    (listens : UrcKind → Bool) → Listens listens r.kinds → new ≡ read_each r.dialect listens r.dlci r.owner old octets

-- these acts are said behind the others, whatever is listened to
unfoldable pub ReportSays : ReadingView → ((UrcKind → Bool) → List Act) → List Act → List Act → Type 0
ReportSays r said old new = (listens : UrcKind → Bool) → Listens listens r.kinds → new ≡ old ++ said listens
