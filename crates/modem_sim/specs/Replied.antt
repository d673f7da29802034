-- Which lines leave a simulated modem: without the announced ones they are the replies to the command lines
-- that came.
use Rattle.std.specs.Prelude.{◌≡◌, ℕ, ◌≤◌, ◌==◌, ◌&&◌, not, Bool, true, false, List, [], ◌∷◌, ◌++◌, length, map, filter, if◌then◌else◌}
use Rattle.std.specs.List.{flat_map, list_all}
use Rattle.mux_frame.specs.declared.frame.Kind.TheVariants.{Sabm}
use Rattle.mux_station.specs.declared.role.Role.TheVariants.{Responder}
use Rattle.mux_station.specs.Written.{is_on}
use Rattle.mux_station.specs.Offering.{data_out}
use Rattle.at_text.specs.declared.answer.AnswerLine.{AnswerLine}
use Rattle.at_text.specs.Dialects.{standard, is_solicited}
use Rattle.at_text.specs.Commands.{has_at}
use Rattle.at_text.specs.Lines.{lines}
use Rattle.modem_history.specs.TwoEnds.{frames_got}
use Rattle.modem_history.specs.Wholes.{IsPrefixOf}
use Rattle.modem_sim.specs.declared.modem.ModemStart.{ModemStart}
use Rattle.modem_sim.specs.declared.script.StepAct.TheVariants.{Announce}
use Rattle.modem_sim.specs.declared.state.ModemState.{ModemState}
use Rattle.modem_sim.specs.Laws.{IsStart, reached}
use Rattle.modem_sim.specs.LineSteps.{step}
use Rattle.modem_sim.specs.Acts.{Act, Did, End, wire}
use Rattle.modem_sim.specs.Heard.{heard}
use Rattle.modem_sim.specs.Pieces.{Piece, Echo, Answer, Announced, reply}
use Rattle.modem_sim.specs.Doing.{is_line}
use Rattle.modem_sim.specs.Histories.{SimLawful}

-- ## Replies

abbrev pub text_of : Piece → List ℕ
text_of (Echo line) = line
text_of (Answer line) = line
text_of (Announced line) = line

-- the lines that a modem writes for a line: it repeated, where that is on, and the answer
abbrev pub written_for : Bool → ModemState → List ℕ → List (List ℕ)
written_for echo m line = map text_of (reply echo m line)

-- what it writes for each of the lines on d: one modem for all lines, one after the other
abbrev pub replied_on : Bool → ℕ → ModemState → List (ℕ × List ℕ) → List (List (List ℕ))
replied_on echo d m [] = []
replied_on echo d m (p ∷ ls) =
    (if p.0 == d then written_for echo m p.1 ∷ [] else []) ++ replied_on echo d (step m p.1).state ls

-- all of them, one behind the other
abbrev pub all_of : List (List (List ℕ)) → List (List ℕ)
all_of replies = flat_map (λ (ls : List (List ℕ)). ls) replies

-- ## What is asked of it

-- a modem that started with some start, after some lines
pub record IsModem (m : ModemState) : Type 0 where
  pub start : ModemStart
  pub before : List (List ℕ)
  pub is_start : IsStart start
  pub is : m ≡ reached start before

-- each line that was announced is unsolicited
abbrev pub AnnouncesUnsolicited : List Act → Type 0
AnnouncesUnsolicited [] = Unit {0}
AnnouncesUnsolicited (Did (Announce d line) ∷ past) = (is_solicited standard line ≡ false) × AnnouncesUnsolicited past
AnnouncesUnsolicited (_ ∷ past) = AnnouncesUnsolicited past

-- the other end asks for d once at most
abbrev pub IsAskedOnce : ℕ → List Act → Type 0
IsAskedOnce d past = length (filter (is_on Sabm d) (frames_got (wire past))) ≤ 1

-- ## Laws

-- each line of an answer is one line as the other end reads it, and no command line
abbrev pub is_answer_line : AnswerLine → Bool
is_answer_line line = is_line line.text && not (has_at line.text)

-- each line of an answer is one line as the other end reads it, and no command line
abbrev pub AnswersInLines : ModemStart → Type 0
AnswersInLines start =
    (before : List (List ℕ)) (line : List ℕ)
    → list_all is_answer_line (step (reached start before) line).answer ≡ true

-- of what left on a connection, the lines that aren't unsolicited are the first of the replies to the lines that came
-- on it, each from the one modem after all lines before it
unfoldable pub SendsReplies : End → List Act → Type 0
SendsReplies e past =
    SimLawful e past → IsModem e.modem → AnnouncesUnsolicited past → (d : ℕ) → IsAskedOnce d past
    → IsPrefixOf (filter (is_solicited standard) (lines (data_out Responder d (wire past))))
    (filter (is_solicited standard) (all_of (replied_on e.echo d e.modem (heard past))))
