-- What is said on a connection: the commands of the driver, and the lines of the modem (V.250, 5).
use Rattle.std.specs.Prelude.{◌≡◌, ℕ, ◌<◌, ◌==◌, ◌&&◌, ◌||◌, not, Bool, false, List, map, [], ◌∷◌, ◌++◌, Option, None, Some, is_none, is_some, if◌then◌else◌, slice_index_or}
use Rattle.std.specs.List.{list_any}
use Rattle.mux_frame.specs.Frames.{Frame}
use Rattle.mux_frame.specs.declared.dlci.Dlci.{Dlci}
use Rattle.mux_capture.specs.Passing.{Caught}
use Rattle.mux_station.specs.Messages.{cld, brings_response}
use Rattle.mux_station.specs.Written.{is_data_frame, is_kind, is_on}
use Rattle.mux_frame.specs.declared.frame.Kind.{Kind}
use Rattle.mux_frame.specs.declared.frame.Kind.TheVariants.{Sabm, Ua, Dm, Disc}
use Rattle.at_text.specs.Rules.{Rules, dialect_of}
use Rattle.mux_capture.specs.declared.packet.Direction.{Direction}
use Rattle.mux_capture.specs.declared.packet.Direction.TheVariants.{ToModem, FromModem}
use Rattle.at_text.specs.Commands.{refusal_of}
use Rattle.at_text.specs.Dialects.{Dialect}
use Rattle.at_text.specs.declared.window.Seen.TheVariants.{Other}
use Rattle.at_text.specs.Lines.{lines, kept_run}
use Rattle.at_text.specs.OpenWindow.{OpenWindow, opened, seen_by, after_line}
use Rattle.modem_show.specs.Asking.{answered_kind}
use Rattle.modem_show.specs.declared.told.Told.{Told}
use Rattle.modem_show.specs.declared.told.Told.TheVariants.{Command, Text, Line}

-- what is kept of a connection: the unfinished line of each way, and the command under way
pub record Talk : Type 0 where
  pub driver : List ℕ
  pub modem : List ℕ
  pub window : Option OpenWindow

-- a line of the driver is a command or other text; a command overlaps another one that is under way
abbrev pub told_of_driver : Option OpenWindow → List ℕ → Told
told_of_driver w l = if is_none (refusal_of l) then Command l (is_some w) else Text l

abbrev pub window_by_driver : Option OpenWindow → List ℕ → Option OpenWindow
window_by_driver w l = if is_none (refusal_of l) then Some (opened l) else w

-- what is told of a line that goes this way, and the window after it
abbrev pub told_by : Dialect → Direction → Option OpenWindow → List ℕ → Told
told_by dialect ToModem w l = told_of_driver w l
told_by dialect FromModem w l = Line l (seen_by dialect w l)

abbrev pub window_by : Dialect → Direction → Option OpenWindow → List ℕ → Option OpenWindow
window_by dialect ToModem w l = window_by_driver w l
window_by dialect FromModem w l = after_line dialect w l

-- of lines, one after the other
abbrev pub told_of : Dialect → Direction → Option OpenWindow → List (List ℕ) → List Told
told_of dialect d w [] = []
told_of dialect d w (l ∷ ls) = told_by dialect d w l ∷ told_of dialect d (window_by dialect d w l) ls

abbrev pub window_after : Dialect → Direction → Option OpenWindow → List (List ℕ) → Option OpenWindow
window_after dialect d w [] = w
window_after dialect d w (l ∷ ls) = window_after dialect d (window_by dialect d w l) ls

-- the unfinished line of a way
abbrev pub run_of : Direction → Talk → List ℕ
run_of ToModem t = t.driver
run_of FromModem t = t.modem

-- octets go this way: what is told of the lines that end in them, and what is kept then
abbrev pub told : Dialect → Direction → Talk → List ℕ → List Told
told dialect d t octets = told_of dialect d t.window (lines (run_of d t ++ octets))

abbrev pub heard : Dialect → Direction → Talk → List ℕ → Talk
heard dialect ToModem t octets = record {
  driver = kept_run (t.driver ++ octets);
  modem = t.modem;
  window = window_after dialect ToModem t.window (lines (t.driver ++ octets));
}
heard dialect FromModem t octets = record {
  driver = t.driver;
  modem = kept_run (t.modem ++ octets);
  window = window_after dialect FromModem t.window (lines (t.modem ++ octets));
}

-- octet by octet
abbrev pub told_each : Dialect → Direction → Talk → List ℕ → List Told
told_each dialect d t [] = []
told_each dialect d t (octet ∷ octets) =
    told dialect d t (octet ∷ []) ++ told_each dialect d (heard dialect d t (octet ∷ [])) octets

abbrev pub heard_each : Dialect → Direction → Talk → List ℕ → Talk
heard_each dialect d t [] = t
heard_each dialect d t (octet ∷ octets) = heard_each dialect d (heard dialect d t (octet ∷ [])) octets

-- ## All connections

-- nothing was said
abbrev pub silence : Talk
silence = record { driver = []; modem = []; window = None }

-- what a frame answers is a DISC
abbrev pub is_close : Option Kind → Bool
is_close None = false
is_close (Some k) = is_kind k Disc

-- d begins with this frame, which answers one of this kind, or has ended: what comes before a DISC is answered still belongs to it, and a UA
-- to a SABM that was sent again begins nothing
abbrev pub is_turn_on : Option Kind → ℕ → Frame → Bool
is_turn_on answered d f = is_on Sabm d f || ((is_on Ua d f && is_close answered) || is_on Dm d f)

-- all connections do so with 0; a CLD ends them once it is answered
abbrev pub closes_all : Option Kind → Frame → Bool
closes_all answered f = is_turn_on answered 0 f || brings_response cld f

abbrev pub starts_afresh : Option Kind → ℕ → Frame → Bool
starts_afresh answered d f = closes_all answered f || is_turn_on answered d f

-- the frame has text: it is on a connection, and not on one that is named as one of data
abbrev pub has_text : List Dlci → Frame → Bool
has_text data_channels f = is_data_frame f && not (list_any (λ e. e.number == f.dlci) data_channels)

-- what is kept of d after a frame, which answers one of this kind
abbrev pub talk_after : Dialect → List Dlci → ℕ → Talk → Direction → Option Kind → Frame → Talk
talk_after dialect data_channels d t direction answered f =
    if starts_afresh answered d f then silence
    else if has_text data_channels f && (f.dlci == d) then heard_each dialect direction t f.info
    else t

-- what is kept of d once these frames passed, the newest of which is the first
abbrev pub talk_of : Dialect → List Dlci → ℕ → List Caught → Talk
talk_of dialect data_channels d [] = silence
talk_of dialect data_channels d (c ∷ line) =
    talk_after dialect data_channels d (talk_of dialect data_channels d line) c.direction (answered_kind line c) c.frame

-- what is told of the lines that end in a frame, behind those that passed before it
abbrev pub told_in : Dialect → List Dlci → List Caught → Caught → List Told
told_in dialect data_channels line c =
    if starts_afresh (answered_kind line c) c.frame.dlci c.frame then []
    else if has_text data_channels c.frame
    then told_each dialect c.direction (talk_of dialect data_channels c.frame.dlci line) c.frame.info
    else []

-- the dialect, the connections of data, and what is kept of each connection
pub record Talks : Type 0 where
  pub rules : Rules
  pub data_channels : List Dlci
  pub talks : List Talk

abbrev pub talk_at : Talks → ℕ → Talk
talk_at v d = slice_index_or v.talks d silence

pub record TalksFit (v : Talks) (line : List Caught) : Type 0 where
  pub each : (d : ℕ) → d < 62 → talk_at v d ≡ talk_of (dialect_of v.rules) v.data_channels d line

-- each connection is kept on by a frame
pub record TalksAfter (old new : Talks) (direction : Direction) (answered : Option Kind) (f : Frame) : Type 0 where
  pub rules : new.rules ≡ old.rules
  pub data_channels : new.data_channels ≡ old.data_channels
  pub each :
      (d : ℕ) → d < 62
      → talk_at new d ≡ talk_after (dialect_of old.rules) old.data_channels d (talk_at old d) direction answered f

-- what is told of the lines that end in a frame, by what is kept
abbrev pub told_at : Talks → Direction → Option Kind → Frame → List Told
told_at v direction answered f =
    if starts_afresh answered f.dlci f then []
    else if has_text v.data_channels f then told_each (dialect_of v.rules) direction (talk_at v f.dlci) f.info
    else []

-- ## What is wrong with what is told

-- a command while another one is under way
abbrev pub overlaps : Told → Bool
overlaps (Command l under_way) = under_way
overlaps _ = false

-- a final code that answers no command
abbrev pub is_unprompted : Dialect → Told → Bool
is_unprompted dialect (Line l Other) = dialect.is_final l
is_unprompted dialect _ = false

-- d's last command has no answer
abbrev pub is_unfinished : Dialect → List Dlci → ℕ → List Caught → Bool
is_unfinished dialect data_channels d line = is_some (talk_of dialect data_channels d line).window

-- the line that is told of
abbrev pub line_of : Told → List ℕ
line_of (Command l under_way) = l
line_of (Text l) = l
line_of (Line l seen) = l

-- What octets tell all at once is what they tell one by one, however they are cut. Each line is told once, and in order.
pub record TellsLines (dialect : Dialect) (d : Direction) (t : Talk) (octet : ℕ) (octets : List ℕ) : Type 0 where
  pub told_at_once : told_each dialect d t (octet ∷ octets) ≡ told dialect d t (octet ∷ octets)
  pub heard_at_once : heard_each dialect d t (octet ∷ octets) ≡ heard dialect d t (octet ∷ octets)
  pub each_once :
      map line_of (told_each dialect d t (octet ∷ octets)) ≡ lines (run_of d t ++ octet ∷ octets)
