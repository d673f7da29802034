-- When the steps of a script are done, and what they ask of the station.
use Rattle.std.specs.Prelude.{◌≡◌, ℕ, ◌==◌, ◌&&◌, ◌||◌, not, nat_le, Bool, true, false, List, [], ◌∷◌, ◌++◌, length, drop, filter, Option, Some, None}
use Rattle.std.specs.List.{list_all, list_any}
use Rattle.at_text.specs.Lines.{is_line_end, is_filled}
use Rattle.mux_station.specs.Acts as station
use Rattle.mux_station.specs.Messages.{cld, brings_command}
use Rattle.modem_sim.specs.declared.script.Step.{Step}
use Rattle.modem_sim.specs.declared.script.StepAct.{StepAct}
use Rattle.modem_sim.specs.declared.script.StepAct.TheVariants.{Announce, Flow, Hold, Disconnect, CloseDown}
use Rattle.modem_sim.specs.Acts.{Act, Wire, Did, End, is_open_at_modem}
use Rattle.modem_sim.specs.Heard.{heard}
use Rattle.modem_sim.specs.Outboxes.{in_call}

-- a text that can be a line: 1 to 512 octets, no CR and no LF among them
abbrev pub is_line : List ℕ → Bool
is_line text = is_filled text && (nat_le (length text) 512 && not (list_any is_line_end text))

-- a step that isn't passed over
abbrev pub acts : StepAct → Bool
acts (Announce d line) = not (d.number == 0) && is_line line
acts (Flow d go) = true
acts (Hold d e) = not (d.number == 0) && not (e.number == 0)
acts (Disconnect d) = not (d.number == 0)
acts CloseDown = true

-- the connections that a step names
abbrev pub named_by : StepAct → List ℕ
named_by (Announce d line) = d.number ∷ []
named_by (Flow d go) = d.number ∷ []
named_by (Hold d e) = d.number ∷ e.number ∷ []
named_by (Disconnect d) = d.number ∷ []
named_by CloseDown = 0 ∷ []

-- a step may be done while connections are in calls as they are: no line is announced among the data of one (27.007, 10.1.12)
abbrev pub is_free : End → List Act → StepAct → Bool
is_free e past (Announce d line) = not (in_call e d.number past)
is_free e past _ = true

-- what a step asks of the station
abbrev pub call_of : StepAct → Option station.Call
call_of (Announce d line) = None
call_of (Flow d go) = Some (station.Flow d.number go)
call_of (Hold d e) = None
call_of (Disconnect d) = Some (station.Close d.number)
call_of CloseDown = Some station.Stop

-- the call of a step that was just done
abbrev pub call_owed : List Act → Option station.Call
call_owed (Did step ∷ past) = call_of step
call_owed _ = None

-- the steps that were done, in order
abbrev pub done : List Act → List StepAct
done [] = []
done (Did step ∷ past) = done past ++ step ∷ []
done (Wire a ∷ past) = done past

-- the steps that are left, without those that are passed over
abbrev pub left : End → List Act → List Step
left e past = drop (length (done past)) (filter (λ (s : Step). acts s.act) e.steps)

-- the step may be done now: it is the first that is left, as many lines have come as it waits for, what it names is open, and it
-- announces nothing in a call
pub record IsDue (e : End) (past : List Act) (act : StepAct) : Type 0 where
  pub next : Step
  pub later : List Step
  pub is_first : left e past ≡ next ∷ later
  pub is_its : next.act ≡ act
  pub come : nat_le next.after (length (heard past)) ≡ true
  pub open_are : list_all (λ d. is_open_at_modem d past) (named_by act) ≡ true
  pub free : is_free e past act ≡ true

-- the act closes down: a CLD is asked for, or comes while 0 is open (27.010, 5.4.6.3.3)
abbrev pub closes_down : List Act → station.Act → Bool
closes_down past (station.Called station.Stop) = true
closes_down past (station.Got f) = is_open_at_modem 0 past && brings_command cld f
closes_down past _ = false

-- the past has closed down
abbrev pub is_closed_down : List Act → Bool
is_closed_down [] = false
is_closed_down (Did step ∷ past) = is_closed_down past
is_closed_down (Wire a ∷ past) = closes_down past a || is_closed_down past
