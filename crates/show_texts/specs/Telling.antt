-- What is printed of a captured line. Items are the frames and the damage that were captured, the newest first.
use Rattle.std.specs.Prelude.{◌≡◌, zero, suc, ℕ, ◌<◌, ◌==◌, ◌&&◌, ◌||◌, not, Bool, false, List, [], ◌∷◌, ◌++◌, length, codes, Option, None, Some, if◌then◌else◌, slice_index_or, slice_set}
use Rattle.std.specs.List.{flat_map, list_any}
use Rattle.std.specs.Fmt.{decimal}
use Rattle.hex.specs.Hex.{encode_lower}
use Rattle.at_text.specs.Rules.{Rules, dialect_of}
use Rattle.mux_frame.specs.Frames.{Frame}
use Rattle.mux_frame.specs.declared.dlci.Dlci.{Dlci}
use Rattle.mux_frame.specs.declared.frame.Kind.{Kind}
use Rattle.mux_capture.specs.Passing.{Caught, Passed}
use Rattle.mux_capture.specs.declared.packet.Direction.{Direction}
use Rattle.mux_capture.specs.declared.packet.Direction.TheVariants.{ToModem, FromModem}
use Rattle.mux_capture.specs.declared.packet.Stamp.{Stamp}
use Rattle.mux_station.specs.Written.{is_data_frame}
use Rattle.modem_show.specs.Asking.{Ask, answered_kind, waiting}
use Rattle.modem_show.specs.Judging.{Watch, WatchFits, faults_of}
use Rattle.modem_show.specs.Rules.{rule_words}
use Rattle.modem_show.specs.Talking.{Talks, TalksFit, is_unfinished, told_in}
use Rattle.modem_show.specs.Ways.{sender}
use Rattle.modem_show.specs.declared.faults.Faults.{Faults}
use Rattle.modem_show.specs.declared.rule.Rule.TheVariants.{Unanswered, Unfinished}
use Rattle.modem_show.specs.declared.told.Told.{Told}
use Rattle.show_texts.specs.declared.tally.Tally.{Tally}
use Rattle.show_texts.specs.Complaints.{complaint_if, faults_text, has_fault}
use Rattle.show_texts.specs.Frames.{event_text}
use Rattle.show_texts.specs.Lines.{are_wrong}
use Rattle.show_texts.specs.Tallies.{no_tally, total_text, with_frame}
use Rattle.show_texts.specs.Words.{head_text}

-- N1, the modem's codes, and the connections whose octets are data
pub record Setting : Type 0 where
  pub n1 : ℕ
  pub rules : Rules
  pub data_channels : List Dlci

-- a frame that was captured, or octets that no frame is read in
pub data Item : Type 0 where
  Framed : Caught → Item
  Damage : Passed → Item

abbrev pub frames_of : List Item → List Caught
frames_of [] = []
frames_of (Framed c ∷ items) = c ∷ frames_of items
frames_of (Damage p ∷ items) = frames_of items

-- ## A frame, behind those that passed before it

abbrev pub is_data_on : Setting → ℕ → Bool
is_data_on s d = list_any (λ e. e.number == d) s.data_channels

-- the lines that end in it
abbrev pub told_with : Setting → List Caught → Caught → List Told
told_with s line c = told_in (dialect_of s.rules) s.data_channels line c

-- its octets of data
abbrev pub data_in : (is_data : Bool) → Frame → ℕ
data_in is_data f = if is_data && is_data_frame f then length f.info else 0

-- what is counted of d
abbrev pub tally_of : Setting → ℕ → List Caught → Tally
tally_of s d [] = no_tally
tally_of s d (c ∷ line) =
    if c.frame.dlci == d
    then with_frame c.stamp (tally_of s d line) (data_in (is_data_on s d) c.frame) (told_with s line c)
    else tally_of s d line

-- what is printed of it
abbrev pub frame_text : Setting → List Caught → Caught → List ℕ
frame_text s line c =
    event_text s.rules c.stamp c.direction (answered_kind line c) (tally_of s c.frame.dlci line).asked
    (is_data_on s c.frame.dlci) c.frame (told_with s line c)
    ++ faults_text c.stamp c.direction (faults_of s.n1 line c) c.frame

-- it breaks a rule, or a line that ends in it does
abbrev pub is_wrong_frame : Setting → List Caught → Caught → Bool
is_wrong_frame s line c = has_fault (faults_of s.n1 line c) || are_wrong s.rules (told_with s line c)

-- ## All items

abbrev pub damage_text : Passed → List ℕ
damage_text p = head_text p.stamp p.direction ++ codes "damage " ++ encode_lower p.octets ++ codes "\n"

abbrev pub items_text : Setting → List Item → List ℕ
items_text s [] = []
items_text s (Framed c ∷ items) = items_text s items ++ frame_text s (frames_of items) c
items_text s (Damage p ∷ items) = items_text s items ++ damage_text p

abbrev pub are_wrong_items : Setting → List Item → Bool
are_wrong_items s [] = false
are_wrong_items s (Framed c ∷ items) = are_wrong_items s items || is_wrong_frame s (frames_of items) c
are_wrong_items s (Damage p ∷ items) = are_wrong_items s items

-- ## The end

-- the frames of an end that asked and were never answered, the newest first
abbrev pub unanswered_line : Direction → Ask → List ℕ
unanswered_line direction a = complaint_if (not a.is_excused) a.stamp direction Unanswered a.frame

abbrev pub unanswered_text : Direction → List Caught → List ℕ
unanswered_text direction line = flat_map (unanswered_line direction) (waiting (sender direction) line)

abbrev pub some_unanswered : Direction → List Caught → Bool
some_unanswered direction line = list_any (λ a. not a.is_excused) (waiting (sender direction) line)

-- a command of d that has no answer, with its time
abbrev pub asked_text : Option Stamp → List ℕ
asked_text None = []
asked_text (Some s) = head_text s ToModem

abbrev pub unfinished_text : (d : ℕ) → Option Stamp → List ℕ
unfinished_text d asked =
    asked_text asked ++ codes "! " ++ decimal d ++ codes " " ++ rule_words Unfinished ++ codes "\n"

-- what is printed of d
abbrev pub is_unfinished_on : Setting → ℕ → List Caught → Bool
is_unfinished_on s d line = is_unfinished (dialect_of s.rules) s.data_channels d line

abbrev pub connection_by : Bool → (d : ℕ) → Tally → List ℕ
connection_by unfinished d t = (if unfinished then unfinished_text d t.asked else []) ++ total_text d t

abbrev pub connection_text : Setting → List Caught → ℕ → List ℕ
connection_text s line d =
    connection_by (is_unfinished_on s d line) d (tally_of s d line)

-- of the first so many connections
unfoldable pub connections_text : Setting → List Caught → ℕ → List ℕ
connections_text s line zero = []
connections_text s line (suc d) = connections_text s line d ++ connection_text s line d

unfoldable pub some_unfinished : Setting → List Caught → ℕ → Bool
some_unfinished s line zero = false
some_unfinished s line (suc d) = some_unfinished s line d || is_unfinished_on s d line

-- what is printed at the end
abbrev pub closing_text : Setting → List Caught → List ℕ
closing_text s line =
    unanswered_text ToModem line ++ unanswered_text FromModem line ++ connections_text s line 62

abbrev pub is_wrong_at_end : Setting → List Caught → Bool
is_wrong_at_end s line =
    some_unanswered ToModem line || (some_unanswered FromModem line || some_unfinished s line 62)

-- ## The whole

-- what is printed of a captured line
abbrev pub shown_text : Setting → List Item → List ℕ
shown_text s items = items_text s items ++ closing_text s (frames_of items)

-- there is a complaint in it
abbrev pub has_complaint : Setting → List Item → Bool
has_complaint s items = are_wrong_items s items || is_wrong_at_end s (frames_of items)

-- ## What is kept

-- what is kept of both ends, of the lines, and of each connection; what is printed and not yet written; and whether anything was wrong
pub record Teller : Type 0 where
  pub watch : Watch
  pub talks : Talks
  pub tallies : List Tally
  pub text : List ℕ
  pub is_wrong : Bool

abbrev pub setting_of : Teller → Setting
setting_of t = record { n1 = t.watch.n1; rules = t.talks.rules; data_channels = t.talks.data_channels }

abbrev pub tally_at : List Tally → ℕ → Tally
tally_at tallies d = slice_index_or tallies d no_tally

-- what is kept is what these items say, where this was written before
pub record TellerFits (written : List ℕ) (t : Teller) (items : List Item) : Type 0 where
  pub watch : WatchFits t.watch (frames_of items)
  pub talks : TalksFit t.talks (frames_of items)
  pub tallies : (d : ℕ) → d < 62 → tally_at t.tallies d ≡ tally_of (setting_of t) d (frames_of items)
  pub text : items_text (setting_of t) items ≡ written ++ t.text
  pub is_wrong : t.is_wrong ≡ are_wrong_items (setting_of t) items

-- one more item is told
pub record Tells (old new : Teller) (item : Item) : Type 0 where
  pub setting : setting_of new ≡ setting_of old
  pub fits :
      (written : List ℕ) (items : List Item) → TellerFits written old items → TellerFits written new (item ∷ items)

-- what is known of a frame is printed and counted; its kind of answer, its faults and the lines that end in it are given
abbrev pub told_by : Teller → Stamp → Direction → Frame → (answered : Option Kind) → Faults → List Told → Teller
told_by t s d f answered faults told = record t {
  tallies =
      slice_set t.tallies f.dlci
      (with_frame s (tally_at t.tallies f.dlci) (data_in (is_data_on (setting_of t) f.dlci) f) told);
  text =
      t.text
      ++ (event_text t.talks.rules s d answered (tally_at t.tallies f.dlci).asked (is_data_on (setting_of t) f.dlci) f told
      ++ faults_text s d faults f);
  is_wrong = t.is_wrong || (has_fault faults || are_wrong t.talks.rules told);
}

-- the end is told: all that is printed was written before, or stands in the text, and whether there is a complaint is known
pub record Closes (old new : Teller) : Type 0 where
  pub text :
      (written : List ℕ) (items : List Item) → TellerFits written old items
      → shown_text (setting_of old) items ≡ written ++ new.text
  pub is_wrong :
      (written : List ℕ) (items : List Item) → TellerFits written old items
      → new.is_wrong ≡ has_complaint (setting_of old) items

-- the counts are those of a line
pub record AreCounted (s : Setting) (tallies : List Tally) (line : List Caught) : Type 0 where
  pub each : (d : ℕ) → d < 62 → tally_at tallies d ≡ tally_of s d line

-- the first so many connections are printed behind other octets, and it is known whether one of their commands has no answer
pub record AreClosed (talks : Talks) (tallies : List Tally) (before after : List ℕ) (some : Bool) (count : ℕ) : Type 0 where
  pub text :
      (n1 : ℕ) (line : List Caught) → TalksFit talks line
      → AreCounted (record { n1 = n1; rules = talks.rules; data_channels = talks.data_channels }) tallies line
      → after ≡ before ++ connections_text (record { n1 = n1; rules = talks.rules; data_channels = talks.data_channels }) line count
  pub some_is :
      (n1 : ℕ) (line : List Caught) → TalksFit talks line
      → some ≡ some_unfinished (record { n1 = n1; rules = talks.rules; data_channels = talks.data_channels }) line count
