-- What the program prints.
use Rattle.std.specs.Prelude.{◌≡◌, ◌⊎◌, ◌<◌, ℕ, List, Option, Some, IfSome}
use Rattle.std.specs.Io.KnownBytes.{Appends}
use Rattle.mux_frame.specs.Frames.{Frame}
use Rattle.mux_frame.specs.Reading.{Reads}
use Rattle.modem_history.specs.Acts.{Act}
use Rattle.at_text.specs.Rules.{Rules}
use Rattle.modem_core.specs.DialectReplays.{ReplaysBy}
use Rattle.modem_core.specs.Replays.{Replays}
use Rattle.modem_core.specs.declared.event.Event.{Event}
use Rattle.modem_desk.specs.declared.request.Outcome.{Outcome}
use Rattle.modem_sim.specs.declared.script.Script.{Script}
use Rattle.ctl_run.specs.Bench.{AreSubmitted}
use Rattle.ctl_run.specs.Dump.{dump_octets}
use Rattle.ctl_text.specs.Input.{input_lines}
use Rattle.modem_bench.specs.Running.{Ran}
use Rattle.ctl_run.specs.Script.{IsScript}
use Rattle.ctl_run.specs.Shown.{outcomes_text}
use Rattle.ctl_run.specs.Texts.{acts_text, acts_text_by, frames_text}
use Rattle.modem_bench.specs.declared.submission.Submission.{Submission}

-- a text stands for octets, and this is printed of the frames that they are read as, and of the rest
pub record IsFramed (n1 : ℕ) (text shown : List ℕ) : Type 0 where
  pub octets : List ℕ
  pub frames : List Frame
  pub rest : List ℕ
  pub dump : dump_octets (input_lines text) ≡ Some octets
  pub reads : Reads n1 octets frames rest
  pub printed : shown ≡ frames_text frames rest

-- a text is the script of events, and this is printed of the acts that they come to
pub record IsReplayed (n1 : ℕ) (text shown : List ℕ) : Type 0 where
  pub events : List Event
  pub acts : List Act
  pub script : IsScript 1 (input_lines text) events
  pub replays : Replays n1 events acts
  pub printed : shown ≡ acts_text acts

-- the same at a modem with these rules of its own beside the standard's
pub record IsReplayedBy (rules : Rules) (n1 : ℕ) (text shown : List ℕ) : Type 0 where
  pub events : List Event
  pub acts : List Act
  pub script : IsScript 1 (input_lines text) events
  pub replays : ReplaysBy rules n1 events acts
  pub printed : shown ≡ acts_text_by rules acts

-- A text has what so many callers submit, and this is printed of what they were told for it, each line of a
-- caller for the line of the text at its place, by a driver over a new line with room for so many octets each way.
-- A simulated modem that had just started, with this script, began at the line's other end, and came to its end. Of the octets that
-- driver and modem sent each other received the first.
pub record IsBenched (callers cut : ℕ) (script : Script) (text shown : List ℕ) : Type 0 where
  pub submissions : List Submission
  pub outcomes : List (List Outcome)
  pub input : AreSubmitted callers (input_lines text) submissions
  pub ran : Ran submissions callers cut script outcomes
  pub printed : shown ≡ outcomes_text outcomes

-- no bench has so many callers, or so many octets under way
abbrev pub IsNoBench : (callers cut : ℕ) → Type 0
IsNoBench callers cut = ((callers < 1) ⊎ (8 < callers)) ⊎ ((cut < 1) ⊎ (4096 < cut))

-- this was made of the input, where that is known, and appended to the output
pub record IsPrinted (Makes : List ℕ → List ℕ → Type 0) (input before after : Option (List ℕ)) : Type 0 where
  pub shown : List ℕ
  pub made : IfSome input (λ text. Makes text shown)
  pub appended : Appends before after shown
