-- What entering the multiplexer means (27.007, 5.7; V.250, 5.2.1, 5.7.1).
use Rattle.std.specs.Prelude.{◌≡◌, ◌≢◌, ℕ, ◌+◌, ◌-◌, ◌^◌, ◌≤◌, ◌⊎◌, false, true, List, [], ◌∷◌, ◌++◌, length, codes}
use Rattle.std.specs.List.{list_any}
use Rattle.at_text.specs.Finals.{is_final}
use Rattle.at_text.specs.Lines.{lines}
use Rattle.modem_history.specs.Wholes.{IsPrefixOf}
use Rattle.modem_history.specs.Sessions.{LineView}

-- AT+CMUX=0 and CR
abbrev pub entry_text : List ℕ
entry_text = codes "AT+CMUX=0" ++ 13 ∷ []

pub data EntryAnswer : Type 0 where
  Entered : EntryAnswer
  Refused : EntryAnswer
  NoAnswer : EntryAnswer
  LineFailed : EntryAnswer

-- the octets end with a line that is a final code, and no line before it is one
pub record EndsWithFinal (octets line : List ℕ) : Type 0 where
  pub before : List ℕ
  pub line_end : ℕ
  pub octets_are : octets ≡ before ++ line_end ∷ []
  pub ended : lines octets ≡ lines before ++ line ∷ []
  pub none_before : list_any is_final (lines before) ≡ false
  pub final : is_final line ≡ true

-- the whole text was sent, and what was read ends with the first final code, which is OK
pub record IsEntered (sent read : List ℕ) : Type 0 where
  pub whole : sent ≡ entry_text
  pub ok : EndsWithFinal read (codes "OK")

-- the whole text was sent, and what was read ends with the first final code, which is another
pub record IsRefused (sent read : List ℕ) : Type 0 where
  pub whole : sent ≡ entry_text
  pub line : List ℕ
  pub other : line ≢ codes "OK"
  pub ended : EndsWithFinal read line

-- a bound of the calls that could move octets: one for each octet moved, and those that moved none though they could
abbrev pub calls_with_room : List ℕ → List ℕ → LineView → ℕ
calls_with_room sent read l = length sent + length read + (l.empty_reads + l.stalled_writes)

-- So many calls were made, or the count of calls is at u64::MAX. Each could move octets: it moved some, or counts
-- as one that moved none though it could, unless such a count is at u64::MAX. And no final code came.
pub record HasNoAnswer (turns : ℕ) (sent read : List ℕ) (old new : LineView) : Type 0 where
  pub all_made : (new.calls ≡ old.calls + turns) ⊎ (new.calls ≡ 2 ^ 64 - 1)
  pub with_room : (calls_with_room [] [] old + turns ≤ calls_with_room sent read new)
      ⊎ ((new.empty_reads ≡ 2 ^ 64 - 1) ⊎ (new.stalled_writes ≡ 2 ^ 64 - 1))
  pub none : list_any is_final (lines read) ≡ false

-- what an answer says of what was sent and read, and of the calls
abbrev pub EntryMeans : ℕ → List ℕ → List ℕ → LineView → LineView → EntryAnswer → Type 0
EntryMeans turns sent read old new Entered = IsEntered sent read
EntryMeans turns sent read old new Refused = IsRefused sent read
EntryMeans turns sent read old new NoAnswer = HasNoAnswer turns sent read old new
EntryMeans turns sent read old new LineFailed = list_any is_final (lines read) ≡ false

-- the line failed exactly where this answer says so
abbrev pub FailsBy : LineView → LineView → EntryAnswer → Type 0
FailsBy old new LineFailed = new.failures ≡ old.failures + 1
FailsBy old new _ = new.failures ≡ old.failures

-- An entry of so many turns, from old to new: it sent a beginning of the text, read nothing unless it sent the whole,
-- made no more calls, and its answer means what it says.
pub record IsEntry (turns : ℕ) (old new : LineView) (says : EntryAnswer) : Type 0 where
  pub sent : List ℕ
  pub sent_are : new.sent ≡ old.sent ++ sent
  pub beginning : IsPrefixOf sent entry_text
  pub read : List ℕ
  pub read_are : new.received ≡ old.received ++ read
  pub in_turn : (read ≡ []) ⊎ (sent ≡ entry_text)
  pub bounded : new.calls ≤ old.calls + turns
  pub failed : FailsBy old new says
  pub means : EntryMeans turns sent read old new says
