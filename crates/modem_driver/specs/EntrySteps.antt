-- An entry into the multiplexer, step by step, with the caller's text (27.007, 5.7; V.250, 5.2.1).
use Rattle.std.specs.Prelude.{◌≡◌, ℕ, ◌+◌, ◌<◌, ◌≤◌, ◌⊎◌, true, false, List, [], ◌∷◌, ◌++◌, length, take, Option, Some, None}
use Rattle.std.specs.List.{list_any}
use Rattle.at_text.specs.Finals.{is_final, final_of}
use Rattle.at_text.specs.Lines.{lines}
use Rattle.at_text.specs.Reading.{HasRead}
use Rattle.at_text.specs.declared.finals.Final.{Final}
use Rattle.mux_frame.specs.Frames.{Frame}
use Rattle.mux_frame.specs.declared.frame.Kind.TheVariants.{Uih}
use Rattle.mux_station.specs.Messages.{cld}
use Rattle.serial_line.specs.Counts.{one_more}
use Rattle.modem_history.specs.Sessions.{LineView}
use Rattle.modem_history.specs.Entering.{EndsWithFinal}
use Rattle.modem_driver.specs.declared.entry.EntryStep.{EntryStep}
use Rattle.modem_driver.specs.declared.entry.EntryStep.TheVariants.{Moved, Idle, Answered}

-- the text, how many of its octets were sent, and what is kept of the unfinished line
pub record EntryView : Type 0 where
  pub text : List ℕ
  pub written : ℕ
  pub kept : List ℕ

-- Since the line was `first`, the text was sent as far as the entry says, nothing was read before all of it was sent,
-- and no line of what was read is a final code.
pub record IsAsked (first now : LineView) (entry : EntryView) : Type 0 where
  pub few : entry.written ≤ length entry.text
  pub sent_are : now.sent ≡ first.sent ++ take entry.written entry.text
  pub read : List ℕ
  pub read_are : now.received ≡ first.received ++ read
  pub in_turn : (read ≡ []) ⊎ (entry.written ≡ length entry.text)
  pub kept : HasRead entry.kept read
  pub none : list_any is_final (lines read) ≡ false

-- Since the line was `first`, the whole text was sent, and what was read ends with the first final code, this one.
pub record IsAnswered (first now : LineView) (text : List ℕ) (code : Final) : Type 0 where
  pub sent_are : now.sent ≡ first.sent ++ text
  pub read : List ℕ
  pub read_are : now.received ≡ first.received ++ read
  pub line : List ℕ
  pub ended : EndsWithFinal read line
  pub code_is : final_of line ≡ Some code

-- what a step says where an octet came, by the final code that ends with it, if one does
abbrev pub step_by : Option Final → EntryStep
step_by None = Moved
step_by (Some code) = Answered code

-- what holds of the line and the entry after a step
abbrev pub StepsTo : (first now : LineView) → EntryView → EntryStep → Type 0
StepsTo first now entry Moved = IsAsked first now entry
StepsTo first now entry Idle = IsAsked first now entry
StepsTo first now entry (Answered code) = IsAnswered first now entry.text code

-- one step, after any steps before it
unfoldable pub EntryStepsOn : (old new : LineView) → (was now : EntryView) → EntryStep → Type 0
EntryStepsOn old new was now said = (first : LineView) → IsAsked first old was → StepsTo first new now said

-- one read gave nothing, or one write took nothing, and is counted so
abbrev pub CountsIdle : (old new : LineView) → Type 0
CountsIdle old new =
    ((new.stalled_writes ≡ one_more old.stalled_writes) × (new.empty_reads ≡ old.empty_reads))
    ⊎ ((new.empty_reads ≡ one_more old.empty_reads) × (new.stalled_writes ≡ old.stalled_writes))

-- octets moved, and no read or write is counted as idle
pub record MovesSome (old new : LineView) : Type 0 where
  pub some : length old.sent + length old.received < length new.sent + length new.received
  pub reads : new.empty_reads ≡ old.empty_reads
  pub writes : new.stalled_writes ≡ old.stalled_writes

-- a step that is idle moved no octet though it could, and is counted so; any other moved an octet at least
abbrev pub MovesBy : EntryStep → (old new : LineView) → Type 0
MovesBy Idle old new = (new.sent ≡ old.sent) × (new.received ≡ old.received) × CountsIdle old new
MovesBy Moved old new = MovesSome old new
MovesBy (Answered code) old new = MovesSome old new

-- no final code came
abbrev pub IsUnanswering : EntryStep → Type 0
IsUnanswering (Answered code) = ⊥
IsUnanswering _ = Unit {0}

-- the command that closes a multiplexer down, of whoever opened it, with a value of no octets (27.010, 5.4.6.3.3)
abbrev pub close_down_frame : Frame
close_down_frame = record { dlci = 0; kind = Uih; cr = true; pf = false; info = cld ∷ 1 ∷ [] }
