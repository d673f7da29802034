-- What lines are over all that is placed on a connection.
use Rattle.std.specs.Prelude.{◌≡◌, ℕ, Bool, true, false, List, ◌+◌, ◌≤◌, length, take, map, filter, filter_map, Option, Some, None, option_map, if◌then◌else◌}
use Rattle.std.specs.List.{zip, flat_map}
use Rattle.at_text.specs.declared.answer.AnswerLine.{AnswerLine}
use Rattle.at_text.specs.declared.window.Seen.{Seen}
use Rattle.at_text.specs.declared.window.Seen.TheVariants.{Echo, Kept, Done}
use Rattle.at_text.specs.declared.unsolicited.UrcKind.{UrcKind}
use Rattle.at_text.specs.declared.unsolicited.UrcKind.TheVariants.{Other as Uncalled}
use Rattle.at_text.specs.Dialects.{Dialect}
use Rattle.at_text.specs.Windows.{Mark, lines_of, has_final, windows, answers, answered}
use Rattle.at_text.specs.Seeing.{answer_lines, seen_in, kind_of}

-- a line is part of an answer
abbrev pub is_part : Seen → Bool
is_part Kept = true
is_part (Done lines) = true
is_part _ = false

-- the lines that are part of an answer, by what each is at its place
abbrev pub parts : List (List ℕ) → List Seen → List (List ℕ)
parts ls seen = filter_map (λ p. if is_part p.1 then Some p.0 else None) (zip ls seen)

-- an answer that is given whole
abbrev pub done_lines : Seen → Option (List AnswerLine)
done_lines (Done lines) = Some lines
done_lines _ = None

-- a line is an echo
abbrev pub is_repeat : Seen → Bool
is_repeat Echo = true
is_repeat _ = false

-- the lines that are announced, each as its kind
abbrev pub announced : List (List ℕ) → List Seen → List (UrcKind × List ℕ)
announced ls seen = filter_map (λ p. option_map (λ kind. (kind, p.0)) (kind_of p.1)) (zip ls seen)

-- the lines that are unsolicited, each with its kind
abbrev pub unsolicited_in : Dialect → List (List ℕ) → List (UrcKind × List ℕ)
unsolicited_in dialect ls = filter_map (λ l. option_map (λ kind. (kind, l)) (dialect.kind_of l)) ls

-- a line is of a kind other than Other
abbrev pub is_of_kind : UrcKind × List ℕ → Bool
is_of_kind (Uncalled, l) = false
is_of_kind (kind, l) = true

-- no line is lost or counted twice, where each command begins with no window open
pub record NoneLost (dialect : Dialect) (ms : List Mark) : Type 0 where
  -- each line is seen once, as part of an answer, as an echo, or announced
  pub each : length (seen_in dialect ms) ≡ length (lines_of ms)
  pub once :
      length (lines_of ms)
      ≡ length (parts (lines_of ms) (seen_in dialect ms))
      + (length (filter is_repeat (seen_in dialect ms)) + length (announced (lines_of ms) (seen_in dialect ms)))
  -- the parts are the lines of all answers, in order
  pub joined : parts (lines_of ms) (seen_in dialect ms) ≡ flat_map (λ ls. ls) (answers dialect ms)
  -- the answers given whole are those with their final code, in order: those of the first commands
  pub whole : filter_map done_lines (seen_in dialect ms) ≡ map answer_lines (filter (has_final dialect) (answers dialect ms))
  pub in_order : filter (has_final dialect) (answers dialect ms) ≡ take (answered dialect ms) (answers dialect ms)
  -- there are at most as many echoes as commands
  pub echoes : length (filter is_repeat (seen_in dialect ms)) ≤ length (windows ms)
  -- what is announced as a kind other than Other are the unsolicited lines, in order
  pub of_kinds : filter is_of_kind (announced (lines_of ms) (seen_in dialect ms)) ≡ unsolicited_in dialect (lines_of ms)
