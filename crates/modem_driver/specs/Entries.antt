-- An entry into the multiplexer, call by call on the line (27.007, 5.7; V.250, 5.2.1).
use Rattle.std.specs.Prelude.{◌≡◌, ℕ, ◌+◌, ◌-◌, ◌^◌, ◌≤◌, ◌⊎◌, false, List, [], ◌∷◌, ◌++◌, take, Option, Some, None}
use Rattle.std.specs.List.{list_any}
use Rattle.at_text.specs.Finals.{is_final, final_of}
use Rattle.at_text.specs.Lines.{lines}
use Rattle.at_text.specs.Reading.{HasRead}
use Rattle.at_text.specs.declared.finals.Final.{Final}
use Rattle.at_text.specs.declared.finals.Final.TheVariants.{Good, Error, Cme, Named}
use Rattle.modem_history.specs.Sessions.{LineView}
use Rattle.modem_history.specs.Entering.{EntryAnswer, Entered, Refused, NoAnswer, LineFailed, IsEntry, calls_with_room, entry_text}
use Rattle.modem_driver.specs.declared.entering.EntryError.{EntryError}
use Rattle.modem_driver.specs.declared.entering.EntryError.TheVariants as error

-- an entry's refusal, as the definitions name it
abbrev pub entry_answer : EntryError → EntryAnswer
entry_answer error.Refused = Refused
entry_answer error.NoAnswer = NoAnswer
entry_answer error.Line = LineFailed

-- what a final code says of an entry
abbrev pub answer_by : Final → EntryAnswer
answer_by Good = Entered
answer_by Error = Refused
answer_by (Cme number) = Refused
answer_by (Named place) = Refused

-- how many octets of the text were sent, and what is kept of the unfinished line
pub record Entry : Type 0 where
  pub written : ℕ
  pub kept : List ℕ

-- an entry that has sent and read nothing yet
abbrev pub entry_begun : Entry
entry_begun = record { written = 0; kept = [] }

-- the octet that came, if one did
abbrev pub octet_in : Option ℕ → List ℕ
octet_in None = []
octet_in (Some octet) = octet ∷ []

-- the final code that a line is, if there is a line
abbrev pub code_in : List (List ℕ) → Option Final
code_in [] = None
code_in (line ∷ behind) = final_of line

-- the line that ends with an octet, if one does, and the final code that it is
pub record SeesCode (kept : List ℕ) (octet : ℕ) (code : Option Final) : Type 0 where
  pub given : List (List ℕ)
  pub one : (given ≡ []) ⊎ ((line : List ℕ) × (given ≡ line ∷ []))
  pub past : (octets : List ℕ) → HasRead kept octets → lines (octets ++ octet ∷ []) ≡ lines octets ++ given
  pub code_is : code ≡ code_in given

-- an entry is under way: it made so many calls since the line was `first`, and no final code has come
pub record IsUnderWay (made : ℕ) (first now : LineView) (entry : Entry) : Type 0 where
  pub read : List ℕ
  pub sent_are : now.sent ≡ first.sent ++ take entry.written entry_text
  pub few : entry.written ≤ 10
  pub read_are : now.received ≡ first.received ++ read
  pub kept : HasRead entry.kept read
  pub none : list_any is_final (lines read) ≡ false
  pub in_turn : (read ≡ []) ⊎ (entry.written ≡ 10)
  pub counted : (now.calls ≡ first.calls + made) ⊎ (now.calls ≡ 2 ^ 64 - 1)
  pub with_room : (calls_with_room [] [] first + made ≤ calls_with_room (take entry.written entry_text) read now)
      ⊎ ((now.empty_reads ≡ 2 ^ 64 - 1) ⊎ (now.stalled_writes ≡ 2 ^ 64 - 1))
  pub bounded : now.calls ≤ first.calls + made
  pub sound : now.failures ≡ first.failures

-- an entry ends with this answer in the call after so many
abbrev pub EntryEnds : ℕ → LineView → LineView → EntryAnswer → Type 0
EntryEnds made first now answer = (turns : ℕ) → made + 1 ≤ turns → IsEntry turns first now answer

-- after one call more: still under way, or ended where a final code came
abbrev pub Comes : ℕ → LineView → LineView → Entry → Option Final → Type 0
Comes made first now entry None = IsUnderWay (made + 1) first now entry
Comes made first now entry (Some code) = EntryEnds made first now (answer_by code)

-- one call on the line, after any calls before it
unfoldable pub EntryGoesOn : LineView → LineView → Entry → Entry → Option Final → Type 0
EntryGoesOn old new was entry code =
    (made : ℕ) → (first : LineView) → IsUnderWay made first old was → Comes made first new entry code

-- the line failed in a call of the entry
unfoldable pub Fails : LineView → LineView → Entry → Type 0
Fails old new was =
    (made : ℕ) → (first : LineView) → IsUnderWay made first old was → EntryEnds made first new LineFailed
