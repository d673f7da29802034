-- Worked ends of a session, right and wrong.
use Rattle.std.specs.Prelude.{ℕ, Bool, List, [], ◌∷◌, ◌++◌, None, codes}
use Rattle.mux_frame.specs.declared.frame.Kind.TheVariants.{Sabm, Ua, Uih}
use Rattle.modem_desk.specs.declared.request.Ask.TheVariants.{OpenChannel, Probe, Stop}
use Rattle.modem_desk.specs.declared.request.Answer.{Answer}
use Rattle.modem_desk.specs.declared.request.Answer.TheVariants.{Opened, Stopped, NotOpen, NoAnswer, LineLost}
use Rattle.modem_desk.specs.declared.request.Outcome.{Outcome}
use Rattle.modem_history.specs.Acts.{Act, Told, Tick, Lost, after}
use Rattle.modem_history.specs.Entering.{entry_text}
use Rattle.modem_history.specs.Sessions.{SessionView}
use Rattle.modem_history.specs.Rows.{zero, takes, tells, sends, comes, cld_command, cld_response}
use Rattle.modem_history.specs.SessionRows.{beginning, sabm_zero}
use Rattle.modem_driver.specs.Endings.{HasCome, HasEnded}
use Rattle.modem_queues.specs.Stops.{has_stopped}
use Rattle.modem_driver.specs.declared.machine.course.Course.TheVariants.{GoesOn}

-- ## Whether a Stop has ended

-- 0 is opened
abbrev pub opened : List Act
opened = takes 1 (OpenChannel zero) ∷ sends Sabm 0 [] ∷ comes Ua 0 [] ∷ tells 1 Opened ∷ []

abbrev pub asked : List Act
asked = opened ++ takes 2 Stop ∷ sends Uih 0 cld_command ∷ []

abbrev pub stop_answered : List Act
stop_answered = asked ++ comes Uih 0 cld_response ∷ tells 2 Stopped ∷ []

-- a Stop that is asked for afterwards
abbrev pub later : List Act
later = takes 3 Stop ∷ tells 3 NotOpen ∷ []

abbrev pub four_ticks : List Act
four_ticks = Tick ∷ Tick ∷ Tick ∷ Tick ∷ []

abbrev pub stopped_rows : List (List Act)
stopped_rows =
    stop_answered
    -- nobody answers it
    ∷ (asked ++ four_ticks ++ tells 2 NoAnswer ∷ [])
    -- and another is asked for behind it
    ∷ (stop_answered ++ later)
    ∷ []

abbrev pub going_rows : List (List Act)
going_rows =
    asked
    -- the line is lost before its answer
    ∷ (asked ++ Lost ∷ tells 2 LineLost ∷ [])
    -- nothing was open
    ∷ (takes 1 Stop ∷ tells 1 NotOpen ∷ [])
    -- a probe goes unanswered
    ∷ (opened ++ takes 2 (Probe (codes "AB")) ∷ sends Uih 0 (0x23 ∷ 5 ∷ 0x41 ∷ 0x42 ∷ []) ∷ four_ticks ++
    tells 2 NoAnswer ∷ [])
    -- another caller is told so
    ∷ (asked ++ comes Uih 0 cld_response ∷ Told (record { caller = 1; number = 2; answer = Stopped }) ∷ [])
    ∷ []

abbrev pub ends_in : List Act → Bool
ends_in acts = has_stopped (after [] acts)

-- ## Whether the session has

-- CLD
abbrev pub cld_octets : List ℕ
cld_octets = 0xF9 ∷ 0x03 ∷ 0xEF ∷ 0x05 ∷ 0xC3 ∷ 0x01 ∷ 0xF2 ∷ 0xF9 ∷ []

-- a session that has written so much since it began, and told caller 0 so much
abbrev pub ending : List ℕ → List Outcome → SessionView
ending written told = record {
  line = record { received = []; sent = entry_text ++ written; calls = 30; failures = 0; empty_reads = 0; stalled_writes = 0 };
  desk = record { taken = []; told = told ∷ [] ∷ []; announced = [] ∷ [] ∷ []; found_none = 0; told_back = 0 ∷ 0 ∷ []; announced_back = 0 ∷ 0 ∷ [] };
  unfed = [];
  deframer = record { n1 = 31; undecided = []; next = None };
  unwritten = [];
  unplaced = [];
  unannounced = [];
}

abbrev pub ending_outcome : ℕ → Answer → Outcome
ending_outcome n answer = record { caller = 0; number = n; answer = answer }

-- all is written and told
unfoldable pub IsRightEnding : Type 0
IsRightEnding =
    HasEnded beginning (ending (sabm_zero ++ cld_octets)
    (ending_outcome 1 Opened ∷ ending_outcome 2 Stopped ∷ [])) (after [] stop_answered)

-- it stays ended after more was asked and told
unfoldable pub StaysEnded : Type 0
StaysEnded =
    HasEnded beginning (ending (sabm_zero ++ cld_octets)
    (ending_outcome 1 Opened ∷ ending_outcome 2 Stopped ∷ [])) (after [] (stop_answered ++ later))

-- the last octet of the CLD wasn't written; or the Stop's outcome has found no place
unfoldable pub AreNoEndings : Type 0
AreNoEndings =
    (¬ HasEnded beginning (ending (sabm_zero ++ 0xF9 ∷ 0x03 ∷ 0xEF ∷ 0x05 ∷ 0xC3 ∷ 0x01 ∷ 0xF2 ∷ [])
    (ending_outcome 1 Opened ∷ ending_outcome 2 Stopped ∷ [])) (after [] stop_answered))
    × (¬ HasEnded beginning (ending (sabm_zero ++ cld_octets) (ending_outcome 1 Opened ∷ []))
    (after [] stop_answered))

-- ## How far it has come

-- once a Stop was answered by Stopped it is wrong that none was
unfoldable pub IsNoGoing : Type 0
IsNoGoing = (v : SessionView) → ¬ HasCome beginning v (after [] stop_answered) GoesOn
