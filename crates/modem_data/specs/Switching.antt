-- Where a connection turns from lines to data: behind the end of the first line CONNECT (V.250, 5.7.1, 6.3.1; 27.007,
-- 10.1.12); at the modem's end it is the driver that writes this line. Where it turns to a text that is asked for: behind the first prompt (27.005, 3.3.1, 3.5.1).
use Rattle.std.specs.Prelude.{◌≡◌, ◌⊎◌, ℕ, ◌-◌, ◌≤◌, take, drop, slice_index, ◌==◌, ◌&&◌, ◌||◌, not, nat_eq, Bool, true, false, List, [], ◌∷◌, ◌++◌, length, Option, Some, None, ◌<◌, if◌then◌else◌, codes}
use Rattle.std.specs.List.{list_any, starts_with}
use Rattle.std.specs.Str.{bytes_eq}
use Rattle.at_text.specs.Octets.{begins}
use Rattle.at_text.specs.Lines.{is_line_end, lines, kept_run}
use Rattle.modem_data.specs.declared.switch.LineCut.{LineCut}
use Rattle.modem_data.specs.Prompts.{may_prompt, is_mark, before_prompt, behind_prompt, mark_if}

-- the line says that data follows: CONNECT, alone or with a blank and a text behind it
abbrev pub is_connect : List ℕ → Bool
is_connect line = bytes_eq line (codes "CONNECT") || starts_with nat_eq line (codes "CONNECT ")

-- how a connection stands: it carries nothing but the driver's; or lines come, and of the one that hasn't ended this is kept;
-- or a CONNECT line has just ended by this octet; or data comes. With a prompt: lines come, and the next octet begins one or
-- doesn't; or a `>` that begins a line has come, and is held back; or the prompt has come, and lines come; or the lane was
-- ended while a `>` was held back, which goes before what comes next. With a CONNECT line of the driver's own: lines come and go, and
-- of the driver's one that hasn't ended this is kept; or its CONNECT line has ended by a CR, and no octet has gone behind that.
pub data Carries : Type 0 where
  Idle : Carries
  Lines : (kept : List ℕ) → Carries
  Ended : (by : ℕ) → Carries
  Data : Carries
  Prompts : (starts : Bool) → Carries
  Marked : Carries
  Sends : Carries
  Owes : Carries
  Owns : (kept : List ℕ) → Carries
  Answered : Carries

-- what was given may leave: as data, or as the text that is asked for
abbrev pub lets_leave : Carries → Bool
lets_leave Data = true
lets_leave Sends = true
lets_leave _ = false

-- octets may be given: data, or a text before its prompt too
abbrev pub takes_given : Carries → Bool
takes_given Data = true
takes_given (Prompts starts) = true
takes_given Marked = true
takes_given Sends = true
takes_given Answered = true
takes_given _ = false

abbrev pub is_idle : Carries → Bool
is_idle Idle = true
is_idle _ = false

-- the CONNECT line has ended, data came at once, or the prompt has come: what goes is data or a text, and no command
abbrev pub is_behind_lines : Carries → Bool
is_behind_lines (Ended by) = true
is_behind_lines Data = true
is_behind_lines Sends = true
is_behind_lines Answered = true
is_behind_lines _ = false

-- the prompt has come
abbrev pub has_prompt : Carries → Bool
has_prompt Sends = true
has_prompt _ = false

-- how it stands where the lane is ended by a call
abbrev pub ended_by_call : Carries → Carries
ended_by_call Marked = Owes
ended_by_call Owes = Owes
ended_by_call _ = Idle

-- how it stands where the carrier is lost: what goes as data or as a text ends
abbrev pub without_carrier : Carries → Carries
without_carrier c = if is_behind_lines c then Idle else c

-- an octet ends a CONNECT line
abbrev pub connects : List ℕ → ℕ → Bool
connects kept c = list_any is_connect (lines (kept ++ c ∷ []))

-- ## The octets of lines

-- of a text that goes on from an unfinished line: as far as the end of the first CONNECT line
abbrev pub lines_from : List ℕ → List ℕ → List ℕ
lines_from kept [] = []
lines_from kept (c ∷ text) =
    if connects kept c then c ∷ [] else c ∷ lines_from (kept_run (kept ++ c ∷ [])) text

-- a `>` that was held back and is the driver's after all
abbrev pub released : Carries → List ℕ → List ℕ
released Marked text = mark_if (not (may_prompt text))
released Owes (c ∷ text) = 62 ∷ []
released _ text = []

-- those before a CONNECT line's end or a prompt; all, where there is neither
abbrev pub before_of : Carries → List ℕ → List ℕ
before_of Idle text = text
before_of (Lines kept) text = lines_from kept text
before_of (Ended by) text = []
before_of Data text = []
before_of (Prompts starts) text = before_prompt starts text
before_of Marked text = if may_prompt text then [] else before_prompt false text
before_of Sends text = text
before_of Owes text = text
before_of (Owns kept) text = text
before_of Answered text = []

-- those behind a prompt
abbrev pub behind_of : Carries → List ℕ → List ℕ
behind_of (Prompts starts) text = behind_prompt starts text
behind_of Marked text = if may_prompt text then drop 1 text else behind_prompt false text
behind_of _ text = []

-- all of them, in their order
abbrev pub lines_of : Carries → List ℕ → List ℕ
lines_of m text = released m text ++ (before_of m text ++ behind_of m text)

-- a cut says so of some octets: whether a `>` goes before them, how many of the first are lines, and from which on they are again
pub record IsCut (cut : LineCut) (m : Carries) (text : List ℕ) : Type 0 where
  pub mark : mark_if cut.is_marked ≡ released m text
  pub before : take cut.before text ≡ before_of m text
  pub behind : drop cut.behind text ≡ behind_of m text

-- a cut's places are within so many octets, in their order, and a `>` goes before some
pub record IsFew (cut : LineCut) (count : ℕ) : Type 0 where
  pub before : cut.before ≤ cut.behind
  pub behind : cut.behind ≤ count
  pub some : cut.is_marked ≡ true → 0 < count

abbrev pub IsWithin : Option LineCut → (count : ℕ) → Type 0
IsWithin None count = Unit {0}
IsWithin (Some cut) count = IsFew cut count

-- ## The octets of data

-- what stands behind the octet that ended the line: an LF just behind a CR belongs to the line's end
abbrev pub behind_end : ℕ → List ℕ → List ℕ
behind_end by [] = []
behind_end by (c ∷ text) = if (by == 13) && (c == 10) then text else c ∷ text

abbrev pub data_from : List ℕ → List ℕ → List ℕ
data_from kept [] = []
data_from kept (c ∷ text) =
    if connects kept c then behind_end c text else data_from (kept_run (kept ++ c ∷ [])) text

abbrev pub data_of : Carries → List ℕ → List ℕ
data_of Idle text = []
data_of (Lines kept) text = data_from kept text
data_of (Ended by) text = behind_end by text
data_of Data text = text
data_of Answered text = text
data_of _ text = []

-- ## How it stands then

abbrev pub behind : ℕ → List ℕ → Carries
behind by [] = Ended by
behind by (c ∷ text) = Data

abbrev pub carries_from : List ℕ → List ℕ → Carries
carries_from kept [] = Lines kept
carries_from kept (c ∷ text) =
    if connects kept c then behind c text else carries_from (kept_run (kept ++ c ∷ [])) text

-- behind a `>` that may be the prompt's
abbrev pub marked : List ℕ → Carries
marked [] = Marked
marked (c ∷ text) = Sends

abbrev pub carries_prompt : (starts : Bool) → List ℕ → Carries
carries_prompt starts [] = Prompts starts
carries_prompt starts (c ∷ text) = if is_mark starts c text then marked text else carries_prompt (is_line_end c) text

-- what is owed goes before the next octets
abbrev pub owed : List ℕ → Carries
owed [] = Owes
owed (c ∷ text) = Idle

abbrev pub carries_after : Carries → List ℕ → Carries
carries_after Idle text = Idle
carries_after (Lines kept) text = carries_from kept text
carries_after (Ended by) text = behind by text
carries_after Data text = Data
carries_after (Prompts starts) text = carries_prompt starts text
carries_after Marked text = if may_prompt text then marked text else carries_prompt false text
carries_after Sends text = Sends
carries_after Owes text = owed text
carries_after (Owns kept) text = Owns kept
carries_after Answered text = Answered

-- ## A CONNECT line of the driver's own

-- the line's end is a CR, with the LF that may follow, or an LF: behind a CR data waits until one more octet has gone
abbrev pub as_own : Carries → Carries
as_own (Lines kept) = Owns kept
as_own (Ended by) = if by == 13 then Answered else Data
as_own c = c

abbrev pub answered : List ℕ → Carries
answered [] = Answered
answered (c ∷ text) = Data

-- how it stands behind octets that the driver writes, which all go on as they are
abbrev pub carries_sent : Carries → List ℕ → Carries
carries_sent (Owns kept) text = as_own (carries_from kept text)
carries_sent Answered text = answered text
carries_sent c text = c

-- ## What it comes to

-- what stands between the line's end and the data: the LF of a CR that ended it, or nothing
pub data IsGap : (by : ℕ) → (gap data_octets : List ℕ) → Type 0 where
  no_gap : (by : ℕ) (data_octets : List ℕ) → ((by == 13) && begins (λ c. c == 10) data_octets) ≡ false
      → IsGap by [] data_octets
  its_lf : (by c : ℕ) (data_octets : List ℕ) → ((by == 13) && (c == 10)) ≡ true → IsGap by (c ∷ []) data_octets

-- there is no CONNECT line: all octets are lines
pub record IsUnswitched (text line_octets data_octets : List ℕ) : Type 0 where
  pub all : line_octets ≡ text
  pub none : list_any is_connect (lines text) ≡ false
  pub no_data : data_octets ≡ []

-- the lines end with the first CONNECT line, and all behind its end is data
pub record IsSwitched (text line_octets data_octets : List ℕ) : Type 0 where
  pub before : List ℕ
  pub by : ℕ
  pub gap : List ℕ
  pub joins : text ≡ line_octets ++ (gap ++ data_octets)
  pub lines_are : line_octets ≡ before ++ by ∷ []
  pub none_before : list_any is_connect (lines before) ≡ false
  pub one_there : list_any is_connect (lines line_octets) ≡ true
  pub is_gap : IsGap by gap data_octets

-- the first octets of a text are lines, and the others are data
abbrev pub IsSplit : (text line_octets data_octets : List ℕ) → Type 0
IsSplit text line_octets data_octets =
    IsUnswitched text line_octets data_octets ⊎ IsSwitched text line_octets data_octets

-- ## What reading comes to

-- so many octets were read, which are all, and no CONNECT line ended
pub record StaysLines (kept later text : List ℕ) (count : ℕ) : Type 0 where
  pub all : count ≡ length text
  pub later_is : carries_from kept text ≡ Lines later
  pub no_data : data_from kept text ≡ []

-- the last of so many octets read ended a CONNECT line
pub record TurnsToData (kept text : List ℕ) (count : ℕ) : Type 0 where
  pub some : 1 ≤ count
  pub data_is : data_from kept text ≡ behind_end (slice_index text (count - 1)) (drop count text)
  pub stands : carries_from kept text ≡ behind (slice_index text (count - 1)) (drop count text)
