-- The first part of a line that isn't as it must be, at each subcommand.
use Rattle.std.specs.Prelude.{◌≡◌, ◌≢◌, ℕ, ◌<◌, ◌≤◌, ◌^◌, List, [], ◌∷◌, length, Option, Some, None, codes, if◌then◌else◌}
use Rattle.std.specs.Fmt.{decimal}
use Rattle.std.specs.Str.{bytes_eq}
use Rattle.at_text.specs.Commands.{refusal_of}
use Rattle.ctl_text.specs.LineFaults.{CommandFault, ConnectionFault, IsConnection, Wants, WantsNoMore, behind_word, first_word}
use Rattle.ctl_text.specs.Words.{number_text}
use Rattle.ctl_text.specs.declared.expected.Expected.{Expected}
use Rattle.ctl_run.specs.Dump.{line_octets}
use Rattle.ctl_run.specs.Script.{ArePairsOf}

-- ## Parts

-- pairs of hexadecimal digits, at least one
pub record HasOctets (pairs : List ℕ) : Type 0 where
  pub octets : List ℕ
  pub are : ArePairsOf octets pairs

-- the same, at most 16
pub record HasProbe (pairs : List ℕ) : Type 0 where
  pub octets : List ℕ
  pub are : ArePairsOf octets pairs
  pub few : length octets ≤ 16

-- pairs with any blanks before, between and behind them
pub record HasPairs (line : List ℕ) : Type 0 where
  pub octets : List ℕ
  pub are : line_octets line ≡ Some octets

-- a number of commands, in decimal without leading zeros
pub record IsCount (word : List ℕ) : Type 0 where
  pub number : ℕ
  pub small : number < 2 ^ 64
  pub word_is : word ≡ decimal number

-- one of so many callers
pub record IsCaller (callers : ℕ) (word : List ℕ) : Type 0 where
  pub number : ℕ
  pub below : number < callers
  pub word_is : word ≡ number_text number

-- ## What stands behind a word

-- a connection and a command line
abbrev pub TextFault : List ℕ → Expected → Type 0
TextFault words =
    Wants (IsConnection (first_word words)) Expected.Connection
    (Wants (refusal_of (behind_word words) ≡ None) Expected.Command WantsNoMore)

-- two connections
abbrev pub ConnectionsFault : List ℕ → Expected → Type 0
ConnectionsFault words =
    Wants (IsConnection (first_word words)) Expected.Connection (ConnectionFault (behind_word words))

-- a connection and a text, which may be empty
abbrev pub AnnouncementFault : List ℕ → Expected → Type 0
AnnouncementFault words =
    Wants (IsConnection (first_word words)) Expected.Connection
    (Wants (first_word words ≢ words) Expected.Text WantsNoMore)

-- octets
abbrev pub OctetsFault : List ℕ → Expected → Type 0
OctetsFault pairs = Wants (HasOctets pairs) Expected.Octets WantsNoMore

-- the octets of a probe
abbrev pub ProbeFault : List ℕ → Expected → Type 0
ProbeFault pairs = Wants (HasOctets pairs) Expected.Octets (Wants (HasProbe pairs) Expected.Probe WantsNoMore)

-- nothing
abbrev pub EndFault : List ℕ → Expected → Type 0
EndFault line = Wants (first_word line ≡ line) Expected.End WantsNoMore

pub data Follows : Type 0 where
  Connection : Follows
  Connections : Follows
  Command : Follows
  Announcement : Follows
  Octets : Follows
  Probe : Follows
  Nothing : Follows

-- the fault behind a first word after which this follows
abbrev pub BehindFault : Follows → (line : List ℕ) → Expected → Type 0
BehindFault Connection line = ConnectionFault (behind_word line)
BehindFault Connections line = ConnectionsFault (behind_word line)
BehindFault Command line = TextFault (behind_word line)
BehindFault Announcement line = AnnouncementFault (behind_word line)
BehindFault Octets line = OctetsFault (behind_word line)
BehindFault Probe line = ProbeFault (behind_word line)
BehindFault Nothing line = EndFault line

-- the words that an event begins with, and what stands behind each
abbrev pub events : List (List ℕ × Follows)
events =
    (codes "open", Connection) ∷ (codes "close", Connection) ∷ (codes "cmd", Command) ∷ (codes "probe", Probe)
    ∷ (codes "in", Octets) ∷ (codes "stop", Nothing) ∷ (codes "tick", Nothing) ∷ (codes "lost", Nothing) ∷ []

-- the words for what a modem does of its own accord, and what stands behind each
abbrev pub deeds : List (List ℕ × Follows)
deeds =
    (codes "announce", Announcement) ∷ (codes "stop", Connection) ∷ (codes "go", Connection)
    ∷ (codes "hold", Connections) ∷ (codes "disconnect", Connection) ∷ (codes "closedown", Nothing) ∷ []

-- what stands behind this word, if it is one of these
abbrev pub follows : List (List ℕ × Follows) → (word : List ℕ) → Option Follows
follows [] word = None
follows (row ∷ rows) word = if bytes_eq word row.0 then Some row.1 else follows rows word

-- the first word of a line is none that may stand there, or what stands behind it isn't as it must be
abbrev pub WordFault : (unknown : Expected) → Option Follows → (line : List ℕ) → Expected → Type 0
WordFault unknown None line why = why ≡ unknown
WordFault unknown (Some follows) line why = BehindFault follows line why

-- the fault where nothing stands behind a word that wants more, or something behind a word that wants nothing
abbrev pub lone_fault : (unknown : Expected) → Option Follows → Expected
lone_fault unknown None = unknown
lone_fault unknown (Some Connection) = Expected.Connection
lone_fault unknown (Some Connections) = Expected.Connection
lone_fault unknown (Some Command) = Expected.Connection
lone_fault unknown (Some Announcement) = Expected.Connection
lone_fault unknown (Some Octets) = Expected.Octets
lone_fault unknown (Some Probe) = Expected.Octets
lone_fault unknown (Some Nothing) = Expected.End

-- ## Lines

-- a line of a replay's script
abbrev pub EventFault : List ℕ → Expected → Type 0
EventFault line = WordFault Expected.Event (follows events (first_word line)) line

-- what a modem does
abbrev pub DeedFault : List ℕ → Expected → Type 0
DeedFault words = WordFault Expected.Deed (follows deeds (first_word words)) words

-- a line of a modem's script
abbrev pub StepFault : List ℕ → Expected → Type 0
StepFault line = Wants (IsCount (first_word line)) Expected.Count (DeedFault (behind_word line))

-- a line of the input of a bench with so many callers
abbrev pub SubmissionFault : (callers : ℕ) → List ℕ → Expected → Type 0
SubmissionFault callers line = Wants (IsCaller callers (first_word line)) Expected.Caller (CommandFault (behind_word line))

-- a line of octets
abbrev pub DumpFault : List ℕ → Expected → Type 0
DumpFault line = Wants (HasPairs line) Expected.Pairs WantsNoMore
