-- Steps of a station as rows, and the rows that the definitions give.
use Rattle.std.specs.Prelude.{◌≡◌, ℕ, Bool, List, [], ◌∷◌, ◌==◌, map, Option, Some, None}
use Rattle.std.specs.List.{list_any}
use Rattle.mux_frame.specs.Frames.{Frame}
use Rattle.mux_station.specs.declared.role.Role.{Role}
use Rattle.mux_station.specs.declared.error.StationError.{StationError}
use Rattle.mux_station.specs.declared.noted.Noted.{Noted}
use Rattle.mux_station.specs.Acts.{Call, Act, Called, Got, Tick}
use Rattle.mux_station.specs.States.{State, state_of}
use Rattle.mux_station.specs.Stopping.{is_stopped}
use Rattle.mux_station.specs.Sending.{StationSetting, Waiting, called_frames, station_view, refused, probe_of, after_act}
use Rattle.mux_station.specs.Noting.{noted_of}

-- what is done
pub data Doing : Type 0 where
  Comes : Frame → Doing
  Asks : Call → Doing
  Ticks : Doing

-- what comes of it: what is noted of a frame, or whether a call is refused
pub data Outcome : Type 0 where
  Notes : Noted → Outcome
  Refuses : StationError → Outcome
  Does : Outcome

-- how 0, 1 and 2 stand, whether each is stopped, and the probe that waits
pub record Stand : Type 0 where
  pub states : List State
  pub stopped : List Bool
  pub probe : Option Waiting

-- a step, the frames that it calls for, and how the station stands then
pub record Step : Type 0 where
  pub doing : Doing
  pub outcome : Outcome
  pub frames : List Frame
  pub stand : Option Stand

-- ## Short ways to write a row

abbrev pub comes : Frame → Noted → List Frame → Stand → Step
comes f n fs s = record { doing = Comes f; outcome = Notes n; frames = fs; stand = Some s }

abbrev pub asks : Call → List Frame → Stand → Step
asks c fs s = record { doing = Asks c; outcome = Does; frames = fs; stand = Some s }

-- a refusal sends nothing, and all stays as it was
abbrev pub refuses : Call → StationError → Step
refuses c e = record { doing = Asks c; outcome = Refuses e; frames = []; stand = None }

abbrev pub ticks : List Frame → Stand → Step
ticks fs s = record { doing = Ticks; outcome = Does; frames = fs; stand = Some s }

-- the states of 0, 1 and 2, and those of them that are stopped
abbrev pub stands : (zero one two : State) → List ℕ → Option Waiting → Stand
stands zero one two stopped probe = record {
  states = zero ∷ one ∷ two ∷ [];
  stopped = map (λ (d : ℕ). list_any (λ (e : ℕ). d == e) stopped) (0 ∷ 1 ∷ 2 ∷ []);
  probe = probe;
}

abbrev pub waiting : List ℕ → ℕ → Option Waiting
waiting octets n = Some (record { data_octets = octets; ticks = n })

-- ## The rows of the definitions

abbrev pub row_setting : Role → StationSetting
row_setting r = record { role = r; n1 = 31 }

abbrev pub stand_of : Role → List Act → Stand
stand_of r past = record {
  states = map (λ (d : ℕ). state_of r d past) (0 ∷ 1 ∷ 2 ∷ []);
  stopped = map (λ (d : ℕ). is_stopped r d past) (0 ∷ 1 ∷ 2 ∷ []);
  probe = probe_of (row_setting r) past;
}

-- the past after an act and the frames that it calls for
abbrev pub past_after : Role → List Act → Act → List Act
past_after r past a = after_act (row_setting r) past a

abbrev pub by_act : Role → List Act → Doing → Outcome → Act → Step
by_act r past doing outcome a = record {
  doing = doing;
  outcome = outcome;
  frames = called_frames (row_setting r) past a;
  stand = Some (stand_of r (past_after r past a));
}

abbrev pub by_call : Role → List Act → Call → Option StationError → Step
by_call r past c (Some e) = refuses c e
by_call r past c None = by_act r past (Asks c) Does (Called c)

abbrev pub step_of : Role → List Act → Doing → Step
step_of r past (Comes f) =
    by_act r past (Comes f) (Notes (noted_of r (station_view (row_setting r) past) f)) (Got f)
step_of r past (Asks c) = by_call r past c (refused (row_setting r) (station_view (row_setting r) past) c)
step_of r past Ticks = by_act r past Ticks Does Tick

abbrev pub unless_refused : Role → List Act → Call → Option StationError → List Act
unless_refused r past c (Some e) = past
unless_refused r past c None = past_after r past (Called c)

abbrev pub next_past : Role → List Act → Doing → List Act
next_past r past (Comes f) = past_after r past (Got f)
next_past r past (Asks c) =
    unless_refused r past c (refused (row_setting r) (station_view (row_setting r) past) c)
next_past r past Ticks = past_after r past Tick

abbrev pub steps_from : Role → List Act → List Doing → List Step
steps_from r past [] = []
steps_from r past (a ∷ later) = step_of r past a ∷ steps_from r (next_past r past a) later

-- the definitions give just these rows, from the beginning of a station on
abbrev pub AreSteps : Role → List Step → Type 0
AreSteps r rows = steps_from r [] (map (λ (s : Step). s.doing) rows) ≡ rows
